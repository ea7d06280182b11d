-- The values of a component, a branch each: l is what `walk::text` answered for s, lent whole.
use mathlib.Core.Path.{◌≡◌, refl, ◌∙◌}
use mathlib.Core.List.{List}
use mathlib.Core.Option.{Option, some}
use mathlib.Core.Bool.{Bool, true, false}
use Prim.Native.Nat.{ℕ, ◌-◌, ◌<◌, ◌≤◌}
use native.Mathlib.Omega.{arith}
use borrow.Author.Tests.{lt-ltb, le-ltb}
use lib.ListN.{length}
use Rattle.meaning.specs.Text.{ascii, same, utf8}
use Rattle.meaning.specs.Kind.{a_number, a_text}
use Rattle.meaning.specs.Tree.{Node}
use Rattle.meaning.specs.Check.{Check, optional}
use Rattle.meaning.specs.Types.{fits_over, listed, logicals}
use Rattle.meaning.specs.Layouts.{Layout}
use Rattle.meaning.specs.Judge.{code_or, or_else, a_dtype, a_type, raw}
use Rattle.types.specs.Known.{dtype_code}
use Rattle.types.proofs.Codes.{dtype-known, dtype-none, dtype-most}
use Rattle.walk.specs.Reading.{Ends}
use Rattle.walk.specs.Places.{Whatever, TextIs as Lettered, NumberIs, NullIs}
use Rattle.walk.specs.declared.Letters.{Letters}
use Rattle.fields.proofs.Places as places
use Rattle.fields.proofs.Texts.{Here, no_word, word, letters}
use Rattle.numbers.specs.Answered.{answered}
use Rattle.component.specs.Value.{passes, place_of, given, code_of, DtypeIs, DtypeAt, RawIs, TextIs, TypeIs, Typed}
use Rattle.std.specs.Prelude.{Some, None, Ok, Err, Result, Option as Optional}
use Rattle.numbers.specs.declared.refusal.Refusal.{Refusal}
use Rattle.numbers.specs.declared.refusal.Refusal.TheVariants as refusals

module _ (s : List ℕ) (l : Optional Letters) (h : Lettered (Here s 0) l) where
  module _ (e : l ≡ None) where
    pub dtype-kind : (L : Layout) → DtypeIs L s (Err refusals.Kind)
    unfolding a_dtype
    dtype-kind L d t q r = rw (no_word s l h e d t q r) refl

    pub raw-kind : RawIs s (Err refusals.Kind)
    unfolding raw
    raw-kind d t q r = rw (no_word s l h e d t q r) refl

    pub text-kind : TextIs s (Err refusals.Kind)
    unfolding a_text
    text-kind d t q r = rw (no_word s l h e d t q r) refl

    pub type-kind : (code : ℕ) → TypeIs s code (Err refusals.Kind)
    unfolding a_type a_text
    type-kind code d t q r = rw (no_word s l h e d t q r) refl

  module _ (at n : ℕ) (e : l ≡ Some (record { at = at; size = n })) where
    abbrev spelled : List ℕ
    spelled = letters s l h at n e

    module _ (L : Layout) (code : ℕ) (is : code ≡ dtype_code L spelled) where
      pub dtype-some : code < 13 → DtypeIs L s (Ok code)
      unfolding a_dtype code_or
      dtype-some k d t q r = rw (word s l h at n e d t q r) (rw (dtype-known L spelled code is k) refl)

      pub dtype-other : 13 ≤ code → DtypeIs L s (Err refusals.Dtype)
      unfolding a_dtype code_or
      dtype-other k d t q r =
          let m = dtype-most L spelled in let z : 13 ≡ dtype_code L spelled = omega arith in
          rw (word s l h at n e d t q r) (rw (dtype-none L spelled z) refl)

    module _ (b : Bool) (is : b ≡ same (ascii "raw") spelled) where
      pub raw-some : b ≡ true → RawIs s (Ok tt)
      unfolding raw
      raw-some y d t q r = rw (word s l h at n e d t q r) (rw (← is, y) refl)

      pub raw-other : b ≡ false → RawIs s (Err refusals.Encoding)
      unfolding raw
      raw-other y d t q r = rw (word s l h at n e d t q r) (rw (← is, y) refl)

    module _ (b : Bool) (is : b ≡ utf8 spelled) where
      pub text-some : b ≡ true → TextIs s (Ok (length s))
      unfolding a_text
      text-some y d t q r = rw (word s l h at n e d t q r) (rw (← is, y) refl)

      pub text-other : b ≡ false → TextIs s (Err refusals.Text)
      unfolding a_text
      text-other y d t q r = rw (word s l h at n e d t q r) (rw (← is, y) refl)

      module _ (code : ℕ) where
        pub type-text : b ≡ false → TypeIs s code (Err refusals.Text)
        unfolding a_type a_text
        type-text y d t q r = rw (word s l h at n e d t q r) (rw (← is, y) refl)

        module _ (y : b ≡ true) (a : Bool) (fits : a ≡ fits_over code (listed logicals spelled)) where
          pub type-some : a ≡ true → TypeIs s code (Ok (length s))
          unfolding a_type a_text
          type-some z d t q r = rw (word s l h at n e d t q r) (rw (← is, y) (rw (← fits, z) refl))

          pub type-other : a ≡ false → TypeIs s code (Err refusals.Type)
          unfolding a_type a_text
          type-other z d t q r = rw (word s l h at n e d t q r) (rw (← is, y) (rw (← fits, z) refl))

-- ---------------------------------------------------------------- the uncompressed length, of any value

pub number-none : (s : List ℕ) (w : Optional ℕ) → NumberIs s w → w ≡ None → Whatever s λ d t q. passes (optional a_number (some t)) ≡ answered (Err refusals.Kind)
number-none s w h e d t q r = let z = h d t q r in rw (z, e) refl

pub number-some : (s : List ℕ) (w : Optional ℕ) → NumberIs s w → (n : ℕ) → w ≡ Some n → Whatever s λ d t q. passes (optional a_number (some t)) ≡ answered (Ok tt)
number-some s w h n e d t q r = let z = h d t q r in rw (z, e) refl

-- ---------------------------------------------------------------- the type, over the storage with this code

module _ (s : List ℕ) (left code : ℕ) where
  abbrev typing : Option (Node Ends) → Check ℕ
  typing o = place_of (optional (a_type code) o)

  pub type-absent : left ≡ 0 → Typed s left code (Ok 0)
  type-absent = places.none-there typing s left

  module _ (at : ℕ) (is : at ≡ length s - left) (here : left ≡ 0 → ⊥) (b : Bool) (asked : NullIs (Here s at) b) where
    pub type-null : b ≡ true → Typed s left code (Ok 0)
    type-null = places.null-there typing s left at is here b asked

    pub type-there : (r : Result ℕ Refusal) → b ≡ false → TypeIs (Here s at) code r → Typed s left code r
    type-there r = places.item-there typing s left at is here b asked (answered r)

-- ---------------------------------------------------------------- a component's own code, or the one that it is given

module _ (L : Layout) (s : List ℕ) (left : ℕ) where
  module _ (absent : left ≡ 0) (above : ℕ) where
    pub code-given : above < 13 → DtypeAt L (given above) s left (Ok above)
    unfolding code_of given or_else
    code-given h d o x = places.nothing-there (code_of L (given above)) s left absent d o x ∙ (rw (lt-ltb above 13 h) refl)

    pub no_code : 13 ≤ above → DtypeAt L (given above) s left (Err refusals.Missing)
    unfolding code_of given or_else
    no_code h d o x = places.nothing-there (code_of L (given above)) s left absent d o x ∙ (rw (le-ltb above 13 h) refl)

  pub own_code : (left ≡ 0 → ⊥) → (at : ℕ) → at ≡ length s - left → (r : Result ℕ Refusal) → DtypeIs L (Here s at) r → (above : Option ℕ) → DtypeAt L above s left r
  unfolding code_of or_else
  own_code here at is r h above = places.something-there (code_of L above) s left (answered r) at is here (go r h)
    where
      go : (r : Result ℕ Refusal) → DtypeIs L (Here s at) r → Whatever (Here s at) λ d t q. code_of L above (some t) ≡ answered r
      go (Err n) h d t q x = rw (h d t q x) refl
      go (Ok c) h d t q x = rw (h d t q x) refl
