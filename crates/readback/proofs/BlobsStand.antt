-- Blobs that stand at their offsets stand where each component's entry says.
use Prim.Native.Nat.{ℕ, ◌<◌, ◌^◌}
use native.Mathlib.Omega.{arith}
use mathlib.Core.List.{List, [], ◌∷◌, ◌++◌, map}
use lib.ListN.{length, take, drop}
use Rattle.meaning.specs.Described.{DescribedComponent, DescribedObject, blobs_in}
use Rattle.meaning.specs.Every.{Every}
use Rattle.readback.specs.Fine.{Fits}
use Rattle.readback.specs.Back.{AllAt, Stand, StandAll}

module _ (file : List ℕ) (start : ℕ) where
  pub offsets-fit : (os : List ℕ) (bs : List (List ℕ)) → AllAt file start os bs → start < 256 ^ 8 → Every Fits os
  offsets-fit [] [] h l = tt
  offsets-fit (o ∷ os) (b ∷ bs) (h, hs) l = (omega (arith, h.inside), offsets-fit os bs hs l)
  offsets-fit [] (b ∷ bs) h l = elim h [ ]
  offsets-fit (o ∷ os) [] h l = elim h [ ]

  of_one : (offsets : List ℕ) (cs : List DescribedComponent) (bs : List (List ℕ)) → AllAt file start offsets (map (λ c. c.blob) cs ++ bs)
      → Stand file start (take (length cs) offsets) cs × AllAt file start (drop (length cs) offsets) bs
  of_one offsets [] bs h = (tt, h)
  of_one (o ∷ os) (c ∷ cs) bs (h, hs) = let r = of_one os cs bs hs in ((h, r.0), r.1)
  of_one [] (c ∷ cs) bs h = elim h [ ]

  pub stand-all : (offsets : List ℕ) (os : List DescribedObject) → AllAt file start offsets (blobs_in os) → StandAll file start offsets os
  unfolding blobs_in
  stand-all offsets [] h = tt
  stand-all offsets (o ∷ os) h = let r = of_one offsets o.components (blobs_in os) h in (r.0, stand-all (drop (length o.components) offsets) os r.1)
