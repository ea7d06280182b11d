-- Exchanging the two descriptions exchanges the entries.
use Prim.Native.Nat.{ℕ}
use mathlib.Core.List.{List}
use mathlib.Core.Logic.{◌⊎◌, inl, inr}
use mathlib.Core.Path.{◌≡◌, refl, sym, subst}
use native.Mathlib.Omega.{arith}
use Rattle.meaning.specs.Described.{DescribedComponent, DescribedObject, Described}
use Rattle.changes.specs.Changes.{Entry, longer, changes}
use Rattle.changes.specs.Differs.{In, Counted, DiffersAt, Bytes, Both, Shared, OtherDtype, OtherType, OtherBytes, PartWhat, ObjectWhat, Change, only_first, only_second, object, part, part_first, part_second, Named, swapped}
use Rattle.changes.proofs.Flags.{flag-as, counted-as}
use Rattle.changes.proofs.Exactly.{nothing-else, complete}

other : {A : Type 0} {x y : A} → (x ≡ y → ⊥) → y ≡ x → ⊥
other h q = h (sym q)

flip : {A B : Type 0} → A ⊎ B → B ⊎ A
flip (inl a) = inr a
flip (inr b) = inl b

bytes_back : (x y : List ℕ) (p k : ℕ) → Bytes x y p k → Bytes y x p k
bytes_back x y p k (inl (e, a, b)) = inl (sym e, a, b)
bytes_back x y p k (inr r) = inr (record {
  at = other r.at;
  before = λ q l. sym (r.before q l);
  counted = subst (λ n. Counted (DiffersAt y x) n k) turned (counted-as (DiffersAt x y) (DiffersAt y x) (λ i. other) (λ i. other) (longer x y) k r.counted);
})
  where
    turned : longer x y ≡ longer y x
    turned = omega arith

both-back : {A : Type 0} (called : A → List ℕ) (l m : List A) (i j : ℕ) (x y : A) → Both called l m i j x y → Both called m l j i y x
both-back called l m i j x y h = record { here = h.there; there = h.here; alike = sym h.alike }

shared_back : (R : DescribedComponent → DescribedComponent → Type 0) → ((c d : DescribedComponent) → R c d → R d c) → (cs ds : List DescribedComponent) → Shared R cs ds → Shared R ds cs
shared_back R f cs ds s = record { first = s.second; second = s.first; one = s.other; other = s.one; both = both-back _ _ _ _ _ _ _ s.both; differ = f _ _ s.differ }

part-back : (c d : DescribedComponent) (w : ℕ) → PartWhat c d w → PartWhat d c w
part-back c d w s = record {
  dtype = s.dtype;
  type = s.type;
  bytes = s.bytes;
  of_dtype = flag-as other other s.of_dtype;
  of_type = flag-as other other s.of_type;
  of_bytes = flag-as other other s.of_bytes;
  sum = s.sum;
}

object-back : (o p : DescribedObject) (w : ℕ) → ObjectWhat o p w → ObjectWhat p o w
object-back o p w s = record {
  shape = s.shape;
  format = s.format;
  names = s.names;
  dtypes = s.dtypes;
  types = s.types;
  bytes = s.bytes;
  of_shape = flag-as other other s.of_shape;
  of_format = flag-as other other s.of_format;
  of_names = flag-as flip flip s.of_names;
  of_dtypes = flag-as (shared_back OtherDtype (λ c d. other) _ _) (shared_back OtherDtype (λ c d. other) _ _) s.of_dtypes;
  of_types = flag-as (shared_back OtherType (λ c d. other) _ _) (shared_back OtherType (λ c d. other) _ _) s.of_types;
  of_bytes = flag-as (shared_back OtherBytes (λ c d. other) _ _) (shared_back OtherBytes (λ c d. other) _ _) s.of_bytes;
  sum = s.sum;
}

module _ (a b : Described) where
  pub change-back : (e : Entry) → Change a b e → Change b a (swapped e)
  change-back e (only_first i o h g) = only_second i o h g
  change-back e (only_second j p h g) = only_first j p h g
  change-back e (object i j o p h w s z) = object j i p o (both-back _ _ _ _ _ _ _ h) w (object-back o p w s) z
  change-back e (part i j o p h k l c d g w x n s z y) =
      part j i p o (both-back _ _ _ _ _ _ _ h) l k d c (both-back _ _ _ _ _ _ _ g) w x n (part-back c d w s) z (bytes_back c.blob d.blob x n y)
  change-back e (part_first i j o p h k c g m) = part_second j i p o (both-back _ _ _ _ _ _ _ h) k c g m
  change-back e (part_second i j o p h l d g m) = part_first j i p o (both-back _ _ _ _ _ _ _ h) l d g m

  twice : (e : Entry) → Change a b e → swapped (swapped e) ≡ e
  twice e (only_first i o h g) = refl
  twice e (only_second j p h g) = refl
  twice e (object i j o p h w s z) = refl
  twice e (part i j o p h k l c d g w x n s z y) = refl
  twice e (part_first i j o p h k c g m) = refl
  twice e (part_second i j o p h l d g m) = refl

  module _ (named_a : Named a) (named_b : Named b) where
    pub exchanged : (e : Entry) → In e (changes a b) → In (swapped e) (changes b a)
    exchanged e m = complete b a named_a (swapped e) (change-back e (nothing-else a b named_b e m))

    -- and back again to where it was
    pub exchanged-twice : (e : Entry) → In e (changes a b) → swapped (swapped e) ≡ e
    exchanged-twice e m = twice e (nothing-else a b named_b e m)
