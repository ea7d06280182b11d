-- The pieces of an object's judgement, a branch each. Slices are lent whole.
use mathlib.Core.Path.{◌≡◌, refl, sym, ap, ◌∙◌, subst}
use mathlib.Core.List.{List}
use mathlib.Core.Bool.{Bool, true, false}
use Prim.Native.Nat.{ℕ, suc, ◌-◌, ◌*◌, ◌<◌}
use native.Mathlib.Omega.{arith}
use lib.ListN.{length, take, drop}
use borrow.Author.Rules.{part_to_end}
use Rattle.meaning.specs.Tree.{Node}
use Rattle.meaning.specs.Check.{pass}
use Rattle.meaning.specs.Kind.{a_text}
use Rattle.meaning.specs.Format.{Part, format_rules}
use Rattle.types.specs.Known.{position, format_names}
use Rattle.walk.specs.Reading.{Ends}
use Rattle.fields.specs.Slots.{Stands}
use Rattle.fields.specs.Attributes.{AttributesAt}
use Rattle.fields.proofs.Texts.{Here}
use Rattle.formats.specs.Parts.{part_rows}
use Rattle.component.proofs.Pieces.{refused-so, Passed, passed-so}
use Rattle.object.specs.declared.judge.Measured.{Measured}
use Rattle.object.specs.Place.{format_code, FormatAt}
use Rattle.object.specs.Verdict.{described, DescribedAt, RuledIs}
use Rattle.std.specs.Prelude.{Ok, Err, Result}
use Rattle.numbers.specs.declared.refusal.Refusal.{Refusal}
use Rattle.numbers.specs.declared.fault.ObjectFault.{ObjectFault}
use Rattle.numbers.specs.declared.refusal.Refusal.TheVariants as refusals
use Rattle.numbers.specs.Numbered.{number_of}
use Rattle.numbers.specs.Answered.{in_object}

-- ---------------------------------------------------------------- format and attributes

module _ (s : List ℕ) (a b : ℕ) (r₁ : Result ℕ Refusal) (h₁ : FormatAt (Here s 0) a r₁) where
  format-is : (q : Result ℕ Refusal) → r₁ ≡ q → FormatAt s a q
  format-is q e = subst (λ u. FormatAt u a q) (part_to_end s 0) (rw e at h₁)

  pub no-format : (n : Refusal) → r₁ ≡ Err n → (q : Result ℕ Refusal) → q ≡ Err n → DescribedAt s a b q
  unfolding described
  no-format n e q is-q d x y hx hy =
      rw is-q (rw (refused-so format_code (a_text x) (number_of n) (format-is (Err n) e d x hx)) refl)

  module _ (code : ℕ) (e₁ : r₁ ≡ Ok code) (r₂ : Bool) (h₂ : AttributesAt (Here s 0) b r₂) where
    attributes-are : (q : Bool) → r₂ ≡ q → AttributesAt s b q
    attributes-are q e = subst (λ u. AttributesAt u b q) (part_to_end s 0) (rw e at h₂)

    has-format : (d : ℕ) (x : Node Ends) → Stands (suc d) s a x → Passed format_code (a_text x) code
    has-format d x hx = passed-so format_code (a_text x) code (format-is (Ok code) e₁ d x hx)

    pub no-attributes : r₂ ≡ false → DescribedAt s a b (Err refusals.Kind)
    unfolding described
    no-attributes e d x y hx hy = rw (has-format d x hx).is (rw (attributes-are false e d y hy) refl)

    pub both-there : r₂ ≡ true → DescribedAt s a b (Ok code)
    unfolding described
    both-there e d x y hx hy = let z = has-format d x hx in rw z.is (rw (attributes-are true e d y hy) (ap (λ (i : ℕ). pass i) z.shown))

-- ---------------------------------------------------------------- the format's rules

-- the first n of a list, as they are lent
abbrev First : ℕ → List ℕ → List ℕ
First n l = take (n - 0) (drop 0 l)

first-is : (n : ℕ) (l : List ℕ) → First n l ≡ take n l
first-is n l = let e : n - 0 ≡ n = omega arith in ap (λ (i : ℕ). take i l) e

module _ (code : ℕ) (dims : List ℕ) (rank : ℕ) (rows : List ℕ) (m : ℕ) where
  pub no-such-rank : length dims < rank → (r : Result Measured ObjectFault) → RuledIs code dims rank rows m r
  no-such-rank l r f cs c k n e = absurd (omega arith)

  pub no-such-count : 16 < m → (r : Result Measured ObjectFault) → RuledIs code dims rank rows m r
  no-such-count l r f cs c k n e = absurd (omega arith)

  -- the rules over the parts as they are lent
  abbrev Judges : Result (Unit {0}) ObjectFault → Type 0
  Judges x = (f : List ℕ) (cs : List Part) → code ≡ position format_names f → First (4 * m) rows ≡ part_rows cs → format_rules f (First rank dims) cs ≡ in_object x

  module _ (x : Result (Unit {0}) ObjectFault) (h : Judges x) where
    rules-say : (q : Result (Unit {0}) ObjectFault) → x ≡ q → (f : List ℕ) (cs : List Part) → code ≡ position format_names f → take (4 * m) rows ≡ part_rows cs → format_rules f (take rank dims) cs ≡ in_object q
    rules-say q is f cs e r = ap (λ l. format_rules f l cs) (sym (first-is rank dims)) ∙ h f cs e (first-is (4 * m) rows ∙ r) ∙ ap in_object is

    pub rules-broken : (n : ObjectFault) → x ≡ Err n → (q : Result Measured ObjectFault) → q ≡ Err n → RuledIs code dims rank rows m q
    rules-broken n is q is-q f cs e k l r = rw is-q (rw (rules-say (Err n) is f cs e r) refl)

    pub rules-kept : x ≡ (Ok tt) → RuledIs code dims rank rows m (Ok (record { count = m; rank = rank }))
    rules-kept is f cs e k l r = rw (rules-say (Ok tt) is f cs e r) refl
