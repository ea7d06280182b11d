-- The frame of a written file: the reader finds the manifest where it was laid, and its bytes.
use Prim.Native.Nat.{ℕ, zero, suc, ◌+◌, ◌-◌, ◌/◌, ◌^◌, ◌≤◌, ◌<◌}
use native.Mathlib.Omega.{arith}
use native.Mathlib.Nat.{pow-suc}
use mathlib.Core.List.{List, ◌++◌, append_assoc}
use mathlib.Core.Path.{◌≡◌, refl, ap, sym, ◌∙◌}
use lib.ListN.{length, take, drop, length-append}
use lib.Seq.{drop_at}
use borrow.Author.Tests.{le-leb}
use Rattle.meaning.specs.Check.{Check, pass, ◌>>=◌}
use Rattle.meaning.specs.Limit.{manifest_limit}
use Rattle.meaning.specs.Read.{span_to, manifest}
use Rattle.meaning.specs.Judge.{judge}
use Rattle.meaning.specs.Layouts.{magic, current}
use Rattle.meaning.specs.Frame.{little, Frame, frame, checked, Reading, reading}
use Rattle.meaning.specs.WrittenFile.{little_bytes, closing}
use Rattle.meaning.proofs.CurrentIsBase.{frame-current}
use Rattle.meaning.proofs.Over.{between}
use Rattle.meaning.proofs.Lengths.{little-length}
use Rattle.readback.proofs.Placed.{closing-length}

-- a number's bytes, the least significant first, are that number
pub little-back : (k n : ℕ) → n < 256 ^ k → little (little_bytes k n) ≡ n
unfolding little little_bytes
little-back zero n h = omega arith
little-back (suc k) n h = omega (arith, little-back k (n / 256) (omega (arith, pow-suc 256 k)))

abbrev found : ℕ → ℕ → Frame
found start size = record { start = start; size = size }

frame-by : (F : List ℕ) (size : ℕ) → 24 + size ≤ length F → take 8 F ≡ magic → drop (length F - 8) F ≡ magic → little (take 8 (drop (length F - 16) F)) ≡ size
    → 1 ≤ size → size ≤ manifest_limit → frame current F ≡ pass (record { start = length F - 16 - size; size = size })
unfolding magic
frame-by F size long first last e some small =
    frame-current F ∙ rw (le-leb 24 (length F) (omega arith), first, last, e, le-leb size manifest_limit small, le-leb 1 size some, le-leb size (length F - 24) (omega arith))

-- what stands before the manifest, then the manifest with its size and the footer
module _ (X m : List ℕ) (some : 1 ≤ length m) (small : length m ≤ manifest_limit) where
  abbrev B : List ℕ
  B = magic ++ X

  abbrev L : List ℕ
  L = little_bytes 8 (length m)

  abbrev F : List ℕ
  F = B ++ closing m

  total : length F ≡ length B + length m + 16
  total = omega (arith, length-append B (closing m), closing-length m)

  first : take 8 F ≡ magic
  unfolding magic
  first = refl

  to-size : length (B ++ m) ≡ length F - 16
  to-size = omega (arith, length-append B m, total)

  by_size : F ≡ B ++ m ++ (L ++ magic)
  unfolding closing
  by_size = simp append_assoc

  size-at : take 8 (drop (length F - 16) F) ≡ L
  size-at =
      ap (λ (f : List ℕ). take 8 (drop (length F - 16) f)) by_size
      ∙ ap (λ (k : ℕ). take k (drop (length F - 16) (B ++ m ++ (L ++ magic)))) (sym (little-length 8 (length m)))
      ∙ between (B ++ m) L magic (length F - 16) to-size

  to-footer : length (B ++ m ++ L) ≡ length F - 8
  to-footer = omega (arith, length-append B m, length-append (B ++ m) L, little-length 8 (length m), total)

  by-footer : F ≡ B ++ m ++ L ++ magic
  unfolding closing
  by-footer = simp append_assoc

  last : drop (length F - 8) F ≡ magic
  last = ap (drop (length F - 8)) by-footer ∙ drop_at (B ++ m ++ L) magic (length F - 8) to-footer

  header : length B ≡ 8 + length X
  unfolding magic
  header = omega arith

  size_is : little (take 8 (drop (length F - 16) F)) ≡ length m
  size_is = ap little size-at ∙ little-back 8 (length m) (omega arith)

  pub frame_is : frame current F ≡ pass (record { start = length B; size = length m })
  frame_is =
      frame-by F (length m) (omega (arith, total, header)) first last size_is some small
      ∙ ap (λ (k : ℕ). pass (found k (length m))) (omega (arith, total))

  pub manifest-is : take (length m) (drop (length B) F) ≡ m
  unfolding closing
  manifest-is = ap (λ (f : List ℕ). take (length m) (drop (length B) f)) rejoined ∙ between B m (L ++ magic) (length B) refl
    where
      rejoined : B ++ (m ++ L ++ magic) ≡ B ++ (m ++ (L ++ magic))
      rejoined = simp append_assoc

-- the reading of a file with this frame and manifest
abbrev pub reading_of : ℕ → List ℕ → Check Reading
reading_of start m = checked (manifest (span_to (start + length m)) m) >>= λ t. judge current start t >>= λ o. pass (record { start = start; model = o })

pub reading-by : (F m : List ℕ) (start : ℕ) → frame current F ≡ pass (found start (length m)) → take (length m) (drop start F) ≡ m → reading current F ≡ reading_of start m
unfolding reading
reading-by F m start e k = rw (e, k)
