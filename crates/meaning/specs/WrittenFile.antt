-- Document 01, "The writer", and document 02, Request 02: the whole file of a description whose blobs stand at given offsets, in any order.
use Rattle.std.specs.Prelude.{ℕ, zero, suc, ◌+◌, ◌-◌, ◌/◌, ◌%◌, List, [], ◌∷◌, ◌++◌, length, take, drop, replicate}
use Rattle.meaning.specs.Layouts.{magic}
use Rattle.meaning.specs.Described.{Described, blobs}
use Rattle.meaning.specs.Manifest.{manifest_bytes}

-- k bytes of a number, the least significant first
unfoldable pub little_bytes : ℕ → ℕ → List ℕ
little_bytes zero n = []
little_bytes (suc k) n = n % 256 ∷ little_bytes k (n / 256)

-- a blob over what stands, at its offset; zeros up to there where nothing stands yet
unfoldable pub over : List ℕ → ℕ → List ℕ → List ℕ
over file offset blob = take offset file ++ (replicate (offset - length file) 0 ++ (blob ++ drop (offset + length blob) file))

-- each blob in turn, at its offset
unfoldable pub blobs_over : List ℕ → List ℕ → List (List ℕ) → List ℕ
blobs_over file [] bs = file
blobs_over file (o ∷ os) [] = file
blobs_over file (o ∷ os) (b ∷ bs) = blobs_over (over file o b) os bs

-- size, footer
unfoldable pub closing : List ℕ → List ℕ
closing manifest = manifest ++ little_bytes 8 (length manifest) ++ magic

unfoldable pub file_of : Described → List ℕ → List ℕ
file_of d offsets = blobs_over magic offsets (blobs d) ++ closing (manifest_bytes d offsets)
