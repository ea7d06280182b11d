-- The format of an object, a branch each: l is what `walk::text` answered for s, lent whole.
use mathlib.Core.Path.{◌≡◌, refl, sym}
use mathlib.Core.List.{List}
use mathlib.Core.Bool.{Bool, true, false}
use Prim.Native.Nat.{ℕ, ◌<◌}
use native.Mathlib.Omega.{arith}
use Rattle.meaning.specs.Text.{utf8, following, follow, within, tail}
use Rattle.meaning.specs.Kind.{a_text}
use Rattle.types.specs.Known.{position, format_names}
use Rattle.types.proofs.Codes.{named-holds}
use Rattle.walk.specs.Places.{TextIs}
use Rattle.walk.specs.declared.Letters.{Letters}
use Rattle.fields.proofs.Texts.{Here, no_word, word, letters}
use Rattle.object.specs.Place.{FormatIs}
use Rattle.std.specs.Prelude.{Some, None, Ok, Err, Option}
use Rattle.numbers.specs.declared.refusal.Refusal.TheVariants as refusals

pub known-format : (k : List ℕ) (f : ℕ) → f ≡ position format_names k → f < 4 → true ≡ utf8 k
unfolding format_names utf8 following follow within tail
known-format k f is l = sym (named-holds utf8 format_names k refl (omega arith))

module _ (s : List ℕ) (l : Option Letters) (h : TextIs (Here s 0) l) where
  pub format-kind : l ≡ None → FormatIs s (Err refusals.Kind)
  unfolding a_text
  format-kind e d t q r = rw (no_word s l h e d t q r) refl

  module _ (at n : ℕ) (e : l ≡ Some (record { at = at; size = n })) (b : Bool) (is : b ≡ utf8 (letters s l h at n e)) where
    pub format-some : b ≡ true → (code : ℕ) → code ≡ position format_names (letters s l h at n e) → FormatIs s (Ok code)
    unfolding a_text
    format-some y code c d t q r = rw (word s l h at n e d t q r) (rw (← is, y, c) refl)

    pub format-other : b ≡ false → FormatIs s (Err refusals.Text)
    unfolding a_text
    format-other y d t q r = rw (word s l h at n e d t q r) (rw (← is, y) refl)
