-- How long a file gets whose blobs stand at any offsets, and the bound that document 01 gives for its own rule.
use Prim.Native.Nat.{ℕ, ◌+◌, ◌*◌, ◌≤◌, max}
use native.Mathlib.Omega.{arith}
use mathlib.Core.List.{List, [], ◌∷◌, map}
use mathlib.Core.Path.{◌≡◌, ap}
use lib.ListN.{length, length-append, length-map}
use Rattle.meaning.specs.Layouts.{magic}
use Rattle.meaning.specs.Placement.{aligned, placed_from, placement, end_from, last_end}
use Rattle.meaning.specs.Described.{Described, blobs}
use Rattle.meaning.specs.Manifest.{manifest_bytes}
use Rattle.meaning.specs.WrittenFile.{blobs_over, closing, file_of}
use Rattle.readback.specs.Follows.{sum}
use Rattle.meaning.proofs.Over.{blobs-length}
use Rattle.meaning.proofs.Lengths.{little-length, aligned-above}

aligned-near : (n : ℕ) → aligned n ≤ n + 63
unfolding aligned
aligned-near n = omega arith

placed_end : (n : ℕ) (ls : List ℕ) → end_from n (placed_from n ls) ls ≤ n + sum ls + 63 * length ls
unfolding placed_from end_from
placed_end n [] = omega arith
placed_end n (l ∷ ls) =
    let m : max n (aligned n + l) ≡ aligned n + l = omega (arith, aligned-above n) in
    omega (arith, ap (λ (k : ℕ). end_from k (placed_from (aligned n + l) ls) ls) m, placed_end (aligned n + l) ls, aligned-near n)

pub closing-length : (m : List ℕ) → length (closing m) ≡ length m + 16
unfolding closing magic
closing-length m = simp (length-append, little-length) (omega arith)

module _ (d : Described) (offsets : List ℕ) where
  abbrev body : List ℕ
  body = blobs_over magic offsets (blobs d)

  -- the manifest begins at the greatest end
  pub body-length : length body ≡ last_end offsets (map length (blobs d))
  unfolding last_end
  body-length = blobs-length magic offsets (blobs d)

  pub file-length : length (file_of d offsets) ≡ last_end offsets (map length (blobs d)) + length (manifest_bytes d offsets) + 16
  unfolding file_of
  file-length = omega (arith, length-append body (closing (manifest_bytes d offsets)), body-length, closing-length (manifest_bytes d offsets))

-- the bound of document 01, for the offsets of its rule
pub length-bound : (d : Described) → length (file_of d (placement (map length (blobs d))))
    ≤ 24 + length (manifest_bytes d (placement (map length (blobs d)))) + sum (map length (blobs d)) + 63 * length (blobs d)
unfolding placement last_end magic
length-bound d =
    let ls : List ℕ = map length (blobs d) in
    omega (arith, file-length d (placement ls), placed_end 8 ls, length-map (blobs d) (λ (b : List ℕ). length b))
