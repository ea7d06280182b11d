-- The version, a branch each: l is what `walk::text` answered for s, lent whole.
use mathlib.Core.Path.{◌≡◌, refl}
use mathlib.Core.List.{List}
use mathlib.Core.Bool.{Bool, true, false}
use Prim.Native.Nat.{ℕ}
use Rattle.meaning.specs.Version.{version_shape, major_one}
use Rattle.meaning.specs.Judge.{a_version}
use Rattle.walk.specs.Places.{TextIs}
use Rattle.walk.specs.declared.Letters.{Letters}
use Rattle.fields.proofs.Texts.{Here, no_word, word, letters}
use Rattle.root.specs.Verdict.{VersionIs}
use Rattle.std.specs.Prelude.{Some, None, Ok, Err, Option}
use Rattle.numbers.specs.declared.refusal.Refusal.TheVariants as refusals

module _ (s : List ℕ) (l : Option Letters) (h : TextIs (Here s 0) l) where
  pub no_text : l ≡ None → VersionIs s (Err refusals.Kind)
  unfolding a_version
  no_text e d t q r = rw (no_word s l h e d t q r) refl

  module _ (at n : ℕ) (e : l ≡ Some (record { at = at; size = n })) (b : Bool) (shaped : b ≡ version_shape (letters s l h at n e)) where
    pub no-version : b ≡ false → VersionIs s (Err refusals.Version)
    unfolding a_version
    no-version y d t q r = rw (word s l h at n e d t q r) (rw (← shaped, y) refl)

    module _ (y : b ≡ true) (a : Bool) (major : a ≡ major_one (letters s l h at n e)) where
      pub other-major : a ≡ false → VersionIs s (Err refusals.Major)
      unfolding a_version
      other-major z d t q r = rw (word s l h at n e d t q r) (rw (← shaped, y) (rw (← major, z) refl))

      pub major-one : a ≡ true → VersionIs s (Ok tt)
      unfolding a_version
      major-one z d t q r = rw (word s l h at n e d t q r) (rw (← shaped, y) (rw (← major, z) refl))
