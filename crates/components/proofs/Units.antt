-- Bytes of one element, a branch each: of the storage alone, or by the logical type where it stands.
use Prim.Native.Nat.{ℕ, ◌-◌}
use native.Mathlib.Omega.{arith}
use mathlib.Core.List.{List}
use mathlib.Core.Path.{◌≡◌, ap, sym, ◌∙◌}
use lib.ListN.{length}
use Rattle.meaning.specs.Check.{pass, fault}
use Rattle.meaning.specs.Refusal.{KIND}
use Rattle.meaning.specs.Model.{Word}
use Rattle.meaning.specs.Kind.{a_word}
use Rattle.meaning.specs.Types.{ratio_of, width_of, listed, logicals}
use Rattle.meaning.specs.Judge.{part, letters_of}
use Rattle.meaning.proofs.Checks.{pass_same}
use Rattle.types.specs.Known.{unit_number}
use Rattle.formats.proofs.Rows.{unit-bare, unit-typed}
use Rattle.walk.specs.Reading.{Ends}
use Rattle.walk.specs.Places.{TextIs}
use Rattle.walk.specs.declared.Letters.{Letters}
use Rattle.component.specs.Value.{left_word}
use Rattle.fields.proofs.Places as places
use Rattle.fields.proofs.Texts.{Here, no_word, word, letters}
use Rattle.table.specs.WordAt.{bare, lettered}
use Rattle.components.specs.Typed.{TypeUnit, UnitIs}
use Rattle.std.specs.Prelude.{Some, None, Option}

module _ (s : List ℕ) (l : Option Letters) (h : TextIs (Here s 0) l) (code : ℕ) where
  pub unit-kind : l ≡ None → TypeUnit s code 0
  unit-kind e d t q r w x = absurd (let z : pass w ≡ fault KIND = sym x ∙ no_word s l h e d t q r in let y : ◌≡◌ {A = ℕ} 0 1 = cc in omega arith)

  pub unit-word : (at n : ℕ) (e : l ≡ Some (record { at = at; size = n })) (u : ℕ) → u ≡ unit_number (ratio_of (listed logicals (letters s l h at n e))) (width_of code) → TypeUnit s code u
  unit-word at n e u is d t q r w x = is ∙ ap (λ (v : Word Ends). unit_number (ratio_of (listed logicals v.letters)) (width_of code)) (pass_same (sym (word s l h at n e d t q r) ∙ x))

module _ (c : List ℕ) (code left u : ℕ) where
  pub unit-none : left ≡ 0 → u ≡ width_of code → UnitIs c code left u
  unfolding part letters_of
  unit-none z is k (bare b) e f = is ∙ ap width_of (sym e) ∙ sym (unit-bare (part k) (ap letters_of b))
  unit-none z is k (lettered w b d t x a) e f = let y = x.0 in let v : length w.note.start ≡ left = sym (ap left_word b) ∙ f in absurd (omega arith)

  pub unit-some : (left ≡ 0 → ⊥) → (at : ℕ) → at ≡ length c - left → TypeUnit (Here c at) code u → UnitIs c code left u
  unfolding part letters_of
  unit-some n at is h k (bare b) e f = absurd (n (sym f ∙ ap left_word b))
  unit-some n at is h k (lettered w b d t x a) e f =
      let v : length w.note.start ≡ left = sym (ap left_word b) ∙ f in
      places.there c (length w.note.start) at (is ∙ ap (λ i. length c - i) (sym v)) (λ t. (w : Word Ends) → a_word t ≡ pass w → u ≡ unit_number (ratio_of (listed logicals w.letters)) (width_of code)) h d t x.1 w a
      ∙ ap (λ i. unit_number (ratio_of (listed logicals w.letters)) (width_of i)) (sym e) ∙ sym (unit-typed (part k) w.letters (ap letters_of b))
