-- A description whose blobs and entries are those of a model's objects: where its last blob ends, and how long its manifest and its file are; and the same from the objects' sums.
use Prim.Native.Nat.{ℕ, ◌+◌, ◌≤◌, ◌<◌}
use native.Mathlib.Omega.{arith}
use mathlib.Core.List.{List, [], map}
use mathlib.Core.Bool.{true, false}
use mathlib.Core.Path.{◌≡◌, sym, ap, ap₂, ◌∙◌}
use lib.ListN.{length}
use lib.Dec.{leb}
use borrow.Author.Tests.{le-leb, lt-leb}
use Rattle.meaning.specs.Limit.{manifest_limit, end_limit}
use Rattle.meaning.specs.Read.{Span}
use Rattle.meaning.specs.Model.{Object}
use Rattle.meaning.specs.Layouts.{magic}
use Rattle.meaning.specs.Described.{Described, blobs}
use Rattle.meaning.specs.Placement.{last_end}
use Rattle.meaning.specs.Manifest.{map_bytes, manifest_bytes}
use Rattle.readback.proofs.Placed.{file-length}
use Rattle.rows.specs.Turns.{begun, reached, objects_from}
use Rattle.rows.proofs.Turns.{last-is-reached, offsets-by-rule}
use Rattle.sizes.specs.Size.{capped, head_size}
use Rattle.sizes.proofs.Lengths.{entries_size, field_size, map-length, manifest-bytes}
use Rattle.layout.proofs.Meant as meant
use Rattle.roundtrip.specs.Again.{placed, plain_file}
use Rattle.window.specs.Sums.{all_blobs, entry_sizes}
use Rattle.window.specs.Summed.{Sum}

module _ (d : Described) (os : List (Object Span)) (lengths : map length (blobs d) ≡ all_blobs os) (entries : entries_size (objects_from [] 8 d.objects) ≡ entry_sizes 8 os) where
  pub last-end : last_end (placed d) (map length (blobs d)) ≡ reached [] 8 (all_blobs os)
  last-end = last-is-reached (map length (blobs d)) ∙ ap (reached [] 8) lengths

  pub manifest-long : (n : ℕ) → length d.objects ≡ n → length (manifest_bytes d (placed d)) ≡ 23 + field_size 11 d.attributes + (head_size n + entry_sizes 8 os)
  unfolding begun magic
  manifest-long n counted =
      let o : length (objects_from [] 8 d.objects) ≡ n = meant.objects-counted [] [] 8 d.objects ∙ counted in
      let m : length (map_bytes (objects_from [] 8 d.objects)) ≡ head_size n + entry_sizes 8 os = map-length (objects_from [] 8 d.objects) ∙ ap₂ (λ (x y : ℕ). x + y) (ap head_size o) entries in
      ap (λ (offsets : List ℕ). length (manifest_bytes d offsets)) (sym (offsets-by-rule (map length (blobs d)))) ∙ manifest-bytes [] d
      ∙ ap (λ (x : ℕ). 23 + field_size 11 d.attributes + x) m

  module _ {end total : ℕ} (sum : Sum 8 0 os end total) where
    pub too_far : end_limit < end → leb (last_end (placed d) (map length (blobs d))) end_limit ≡ false
    too_far h = let e = sum.ends in lt-leb (last_end (placed d) (map length (blobs d))) end_limit (omega (arith, h, e, last-end))

    module _ (near : end ≤ end_limit) where
      pub end_is : last_end (placed d) (map length (blobs d)) ≡ end
      end_is = let e = sum.ends in omega (arith, near, e, last-end)

      pub in-time : leb (last_end (placed d) (map length (blobs d))) end_limit ≡ true
      in-time = le-leb (last_end (placed d) (map length (blobs d))) end_limit (omega (arith, near, end_is))

      -- m is the manifest's length or, where that is over the limit, the limit and 1
      module _ {n t m : ℕ} (counted : length d.objects ≡ n) (t-is : t ≡ capped (field_size 11 d.attributes)) (m-is : m ≡ capped (23 + t + head_size n + total)) where
        pub manifest-is : m ≡ capped (length (manifest_bytes d (placed d)))
        manifest-is = let s = sum.adds near in omega (arith, t-is, m-is, s, manifest-long n counted)

        pub too-big : manifest_limit < m → leb (length (manifest_bytes d (placed d))) manifest_limit ≡ false
        too-big h = lt-leb (length (manifest_bytes d (placed d))) manifest_limit (omega (arith, h, manifest-is))

        module _ (fits : m ≤ manifest_limit) where
          pub small : leb (length (manifest_bytes d (placed d))) manifest_limit ≡ true
          small = le-leb (length (manifest_bytes d (placed d))) manifest_limit (omega (arith, fits, manifest-is))

          pub file-long : length (plain_file d) ≡ end + m + 16
          unfolding plain_file
          file-long = omega (arith, file-length d (placed d), end_is, manifest-is, fits)
