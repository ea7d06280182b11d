-- Kept and dropped together are all the objects, in order, each once.
use Prim.Native.Nat.{ℕ, zero, suc, ◌+◌, ◌≤◌}
use native.Mathlib.Omega.{arith}
use mathlib.Core.List.{List, [], ◌∷◌, map}
use mathlib.Core.Bool.{cond}
use mathlib.Core.Path.{◌≡◌, refl, ap}
use lib.ListN.{length}
use lib.Dec.{eqb}
use borrow.Author.Tests.{eq-eqb, ne_eqb}
use Rattle.meaning.specs.Check.{Check, pass, refuse, in_object}
use Rattle.meaning.specs.Model.{Object}
use Rattle.rescuing.specs.Sift.{Dropped, kept, dropped}

module _ {P : Type 0} where
  -- the verdict on the object whose index is due, from what is kept and what is dropped: an object that isn't dropped is the next that is kept
  abbrev pub woven : ℕ → ℕ → List (Object P) → List Dropped → List (Check (Object P))
  woven zero i os ds = []
  woven (suc n) i [] [] = []
  woven (suc n) i (o ∷ os) [] = pass o ∷ woven n (suc i) os []
  woven (suc n) i [] (d ∷ ds) = refuse d.number 0 d.component ∷ woven n (suc i) [] ds
  woven (suc n) i (o ∷ os) (d ∷ ds) =
      cond (eqb d.index i) (refuse d.number 0 d.component ∷ woven n (suc i) (o ∷ os) ds) (pass o ∷ woven n (suc i) os (d ∷ ds))

  -- as many as there are objects
  pub all-counted : (i : ℕ) (ks : List (Check (Object P))) → length (kept ks) + length (dropped i ks) ≡ length ks
  unfolding kept dropped
  all-counted i [] = refl
  all-counted i (pass o ∷ ks) = let e = all-counted (suc i) ks in omega (arith, e)
  all-counted i (refuse n o c ∷ ks) = let e = all-counted (suc i) ks in omega (arith, e)

  later : (i : ℕ) (ks : List (Check (Object P))) (d : Dropped) (ds : List Dropped) → dropped i ks ≡ d ∷ ds → i ≤ d.index
  unfolding dropped
  later i [] d ds e = let z : ◌≡◌ {A = ℕ} 0 1 = cc in absurd (omega (arith, z))
  later i (pass o ∷ ks) d ds e = let h = later (suc i) ks d ds e in omega (arith, h)
  later i (refuse n o c ∷ ks) d ds e = let h : i ≡ d.index = cc in omega (arith, h)

  -- nothing is lost, moved or told twice: the verdicts, but for an index that no object has of itself, come back
  pub woven_back : (i : ℕ) (ks : List (Check (Object P))) → woven (length ks) i (kept ks) (dropped i ks) ≡ map (in_object 0) ks
  unfolding kept dropped
  woven_back i [] = refl
  woven_back i (pass o ∷ ks) = by (dropped (suc i) ks) refl (woven_back (suc i) ks)
    where
      by : (ds : List Dropped) → dropped (suc i) ks ≡ ds → woven (length ks) (suc i) (kept ks) ds ≡ map (in_object 0) ks
          → woven (suc (length ks)) i (o ∷ kept ks) ds ≡ pass o ∷ map (in_object 0) ks
      by [] e h = ap (λ (r : List (Check (Object P))). pass o ∷ r) h
      by (d ∷ ds) e h =
          let k = later (suc i) ks d ds e in
          rw (ne_eqb d.index i (λ f. omega (arith, f, k))) (ap (λ (r : List (Check (Object P))). pass o ∷ r) h)
  woven_back i (refuse n p c ∷ ks) = by (kept ks) (woven_back (suc i) ks)
    where
      by : (os : List (Object P)) → woven (length ks) (suc i) os (dropped (suc i) ks) ≡ map (in_object 0) ks
          → woven (suc (length ks)) i os (record { index = i; number = n; component = c } ∷ dropped (suc i) ks) ≡ refuse n 0 c ∷ map (in_object 0) ks
      by [] h = ap (λ (r : List (Check (Object P))). refuse n 0 c ∷ r) h
      by (o ∷ os) h = rw (eq-eqb i i refl) (ap (λ (r : List (Check (Object P))). refuse n 0 c ∷ r) h)
