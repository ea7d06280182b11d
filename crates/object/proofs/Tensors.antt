-- The dtype on an object, a branch each: a text that names a storage, or none.
use Prim.Native.Nat.{ℕ, ◌-◌, ◌≤◌, ◌<◌}
use mathlib.Core.List.{List}
use mathlib.Core.Path.{◌≡◌, refl}
use lib.ListN.{length}
use borrow.Author.Tests.{lt-ltb}
use Rattle.meaning.specs.Check.{optional}
use Rattle.meaning.specs.Layouts.{Layout}
use Rattle.meaning.specs.Judge.{a_dtype}
use Rattle.types.specs.Known.{dtype_code}
use Rattle.walk.specs.Places.{TextIs}
use Rattle.walk.specs.declared.Letters.{Letters}
use Rattle.fields.proofs.Places as places
use Rattle.fields.proofs.Texts.{Here, letters}
use Rattle.component.specs.Value.{given}
use Rattle.component.proofs.Values as values
use Rattle.object.specs.Place.{tensored, TensorIs, TensorAt}
use Rattle.std.specs.Prelude.{Some, None, Ok, Err, Result, Option}
use Rattle.numbers.specs.declared.refusal.Refusal.{Refusal}
use Rattle.numbers.specs.declared.refusal.Refusal.TheVariants as refusals

module _ (L : Layout) (s : List ℕ) (left : ℕ) where
  pub no-tensor : left ≡ 0 → TensorAt L s left (Ok 13)
  unfolding given
  no-tensor = places.nothing-there (optional (a_dtype L)) s left

  pub tensor-there : (left ≡ 0 → ⊥) → (at : ℕ) → at ≡ length s - left → (r : Result ℕ Refusal) → TensorIs L (Here s at) r → TensorAt L s left r
  tensor-there here at is r = places.something-there (optional (a_dtype L)) s left (tensored r) at is here

module _ (L : Layout) (s : List ℕ) (l : Option Letters) (h : TextIs (Here s 0) l) where
  pub tensor-kind : l ≡ None → TensorIs L s (Err refusals.Kind)
  tensor-kind e d t q r = rw (values.dtype-kind s l h e L d t q r) refl

  module _ (at n : ℕ) (e : l ≡ Some (record { at = at; size = n })) (code : ℕ) (is : code ≡ dtype_code L (letters s l h at n e)) where
    pub tensor-some : code < 13 → TensorIs L s (Ok code)
    unfolding given
    tensor-some k d t q r = rw (values.dtype-some s l h at n e L code is k d t q r, lt-ltb code 13 k) refl

    pub tensor-other : 13 ≤ code → TensorIs L s (Err refusals.Dtype)
    tensor-other k d t q r = rw (values.dtype-other s l h at n e L code is k d t q r) refl
