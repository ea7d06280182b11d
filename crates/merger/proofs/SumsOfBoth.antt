-- Two accepted files' sums, the second's from where the first's end: what the writer's definitions say of the merged description.
use Prim.Native.Nat.{ℕ, ◌+◌}
use native.Mathlib.Omega.{arith}
use mathlib.Core.List.{List, [], ◌∷◌, ◌++◌, map}
use mathlib.Core.Path.{◌≡◌, sym, ap, ap₂, ◌∙◌}
use lib.ListN.{length, length-append}
use Rattle.meaning.specs.Read.{Span}
use Rattle.meaning.specs.Model.{Object}
use Rattle.meaning.specs.Described.{Described, blobs}
use Rattle.meaning.specs.Placement.{placement, last_end}
use Rattle.meaning.specs.Manifest.{Keyed, manifest_bytes}
use Rattle.rows.specs.Turns.{reached, objects_from}
use Rattle.sizes.specs.Size.{head_size}
use Rattle.sizes.proofs.Lengths.{entries_size, field_size}
use Rattle.joint.proofs.Meant.{objects-both, lengths-both}
use Rattle.merging.specs.Merge.{or_else, merged}
use Rattle.window.specs.Sums.{all_blobs, entry_sizes}
use Rattle.window.proofs.Snoc.{blobs-on, entries-on}
use Rattle.totals.proofs.OfSum as of-sum

entries-sum : (es fs : List (Keyed (List ℕ))) → entries_size (es ++ fs) ≡ entries_size es + entries_size fs
unfolding entries_size
entries-sum [] fs = omega arith
entries-sum (e ∷ es) fs = omega (arith, entries-sum es fs)

-- of descriptions whose blobs and entries are those of models' objects
module _ (a b : Described) (os ps : List (Object Span)) (la : map length (blobs a) ≡ all_blobs os) (lb : map length (blobs b) ≡ all_blobs ps)
    (ea : (p : ℕ) → entries_size (objects_from [] p a.objects) ≡ entry_sizes p os) (eb : (p : ℕ) → entries_size (objects_from [] p b.objects) ≡ entry_sizes p ps) where
  abbrev d : Described
  d = merged a b

  lengths : map length (blobs d) ≡ all_blobs (os ++ ps)
  unfolding merged
  lengths = lengths-both a.objects b.objects ∙ ap₂ (λ (x y : List ℕ). x ++ y) la lb ∙ sym (blobs-on os ps)

  entries : entries_size (objects_from [] 8 d.objects) ≡ entry_sizes 8 (os ++ ps)
  unfolding merged
  entries =
      let t : reached [] 8 (map length (blobs a)) ≡ reached [] 8 (all_blobs os) = ap (reached [] 8) la in
      ap entries_size (objects-both 8 a.objects b.objects) ∙ entries-sum (objects_from [] 8 a.objects) (objects_from [] (reached [] 8 (map length (blobs a))) b.objects)
      ∙ ap₂ (λ (x y : ℕ). x + y) (ea 8) (eb (reached [] 8 (map length (blobs a))) ∙ ap (λ (k : ℕ). entry_sizes k ps) t) ∙ sym (entries-on 8 os ps)

  pub last-end : last_end (placement (map length (blobs d))) (map length (blobs d)) ≡ reached [] 8 (all_blobs (os ++ ps))
  last-end = of-sum.last-end d (os ++ ps) lengths entries

  pub manifest-long : (n k : ℕ) → length a.objects ≡ n → length b.objects ≡ k
      → length (manifest_bytes d (placement (map length (blobs d)))) ≡ 23 + field_size 11 (or_else a.attributes b.attributes) + (head_size (n + k) + entry_sizes 8 (os ++ ps))
  unfolding merged
  manifest-long n k an bk = of-sum.manifest-long d (os ++ ps) lengths entries (n + k) (length-append a.objects b.objects ∙ ap₂ (λ (x y : ℕ). x + y) an bk)
