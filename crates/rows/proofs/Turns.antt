-- The manifest and the last blob's end, by the turn that is reached.
use Prim.Native.Nat.{ℕ, zero, suc, ◌+◌, ◌-◌, ◌*◌, ◌≤◌, ◌<◌, max}
use native.Mathlib.Omega.{arith}
use mathlib.Core.List.{List, [], ◌∷◌, ◌++◌, map}
use mathlib.Core.Option.{some}
use mathlib.Core.Path.{◌≡◌, refl, sym, ap, ◌∙◌}
use lib.ListN.{length, take, drop, get_or, drop_of_length-le}
use lib.Seq.{get_or-drop, drop-cons}
use Rattle.meaning.specs.Columns.{component_width, length_column}
use Rattle.meaning.specs.Text.{ascii}
use Rattle.meaning.specs.Layouts.{root_names, magic}
use Rattle.meaning.specs.Asked.{AskedComponent, asked_component}
use Rattle.meaning.specs.Placement.{aligned, placed_from, placement, end_from, last_end}
use Rattle.meaning.specs.Described.{DescribedComponent, DescribedObject, Described, blobs_in, blobs}
use Rattle.meaning.specs.Manifest.{Keyed, under, given, text_bytes, map_bytes, component_bytes, component_entries, object_bytes, object_entries, manifest_bytes}
use Rattle.meaning.proofs.Lengths.{aligned-above}
use Rattle.rows.specs.Placed.{components_at}
use Rattle.rows.specs.Turns.{begun, offset_at, stepped, reached, offsets_from, blob_lengths, entries_from, object_from, objects_from, blob_sizes}
use Rattle.rows.proofs.EachRow.{no_row, next-row-at, split_rows}

-- ---- the turn that is reached

step-above : (plan : List ℕ) (n l : ℕ) → n ≤ stepped plan n l
unfolding stepped
step-above [] n l = omega (arith, aligned-above n)
step-above (o ∷ os) n l = omega arith

module _ (plan : List ℕ) where
  pub reached-above : (n : ℕ) (ls : List ℕ) → n ≤ reached plan n ls
  unfolding reached
  reached-above n [] = omega arith
  reached-above n (l ∷ ls) = omega (arith, reached-above (stepped plan n l) ls, step-above plan n l)

  pub reached-joined : (n : ℕ) (ks ls : List ℕ) → reached plan n (ks ++ ls) ≡ reached plan (reached plan n ks) ls
  unfolding reached
  reached-joined n [] ls = refl
  reached-joined n (k ∷ ks) ls = reached-joined (stepped plan n k) ks ls

-- with a plan, one turn for each blob
pub reached-counts : (o : ℕ) (os : List ℕ) (n : ℕ) (ls : List ℕ) → reached (o ∷ os) n ls ≡ n + length ls
unfolding reached stepped
reached-counts o os n [] = omega arith
reached-counts o os n (l ∷ ls) = omega (arith, reached-counts o os (n + 1) ls)

-- ---- where blobs stand: without a plan by the rule, with one as it says

end-is-reached : (n : ℕ) (ls : List ℕ) → end_from n (placed_from n ls) ls ≡ reached [] n ls
unfolding reached stepped end_from placed_from
end-is-reached n [] = refl
end-is-reached n (l ∷ ls) =
    let m : max n (aligned n + l) ≡ aligned n + l = omega (arith, aligned-above n) in
    ap (λ (k : ℕ). end_from k (placed_from (aligned n + l) ls) ls) m ∙ end-is-reached (aligned n + l) ls

pub last-is-reached : (ls : List ℕ) → last_end (placement ls) ls ≡ reached [] 8 ls
unfolding last_end placement magic
last-is-reached ls = end-is-reached 8 ls

by-the-rule : (n : ℕ) (ls : List ℕ) → offsets_from [] n ls ≡ placed_from n ls
unfolding offsets_from offset_at stepped placed_from
by-the-rule n [] = refl
by-the-rule n (l ∷ ls) = ap (λ (os : List ℕ). aligned n ∷ os) (by-the-rule (aligned n + l) ls)

pub offsets-by-rule : (ls : List ℕ) → offsets_from [] (begun []) ls ≡ placement ls
unfolding begun placement
offsets-by-rule ls = by-the-rule (length magic) ls

as-it-says : (o : ℕ) (os : List ℕ) (n : ℕ) (ls : List ℕ) → n + length ls ≡ length (o ∷ os) → offsets_from (o ∷ os) n ls ≡ drop n (o ∷ os)
unfolding offsets_from offset_at stepped
as-it-says o os n [] e = let h : length (o ∷ os) ≤ n = omega (arith, e) in sym (drop_of_length-le (o ∷ os) h)
as-it-says o os n (l ∷ ls) e =
    let q : n + 1 ≡ suc n = omega arith in
    ap (λ (r : List ℕ). get_or (o ∷ os) n 0 ∷ r) (as-it-says o os (n + 1) ls (omega (arith, e)) ∙ ap (λ (k : ℕ). drop k (o ∷ os)) q)
    ∙ sym (drop-cons (o ∷ os) n 0 (omega (arith, e)))

pub offsets-as-planned : (plan ls : List ℕ) → length plan ≡ length ls → offsets_from plan (begun plan) ls ≡ plan
unfolding begun
offsets-as-planned [] [] e = unfold offsets_from in refl
offsets-as-planned [] (l ∷ ls) e = absurd (omega (arith, e))
offsets-as-planned (o ∷ os) ls e = as-it-says o os 0 ls (omega (arith, e))

-- ---- entries with their offsets

module _ (plan : List ℕ) where
  entries-placed : (n k : ℕ) (cs : List DescribedComponent) (more : List ℕ) → length cs ≤ k
      → component_entries (take k (offsets_from plan n (blob_lengths cs ++ more))) cs ≡ entries_from plan n cs
  unfolding entries_from component_entries offsets_from
  entries-placed n k [] more h = refl
  entries-placed n zero (c ∷ cs) more h = absurd (omega (arith, h))
  entries-placed n (suc k) (c ∷ cs) more h =
      ap (λ (es : List (Keyed (List ℕ))). under c.name (component_bytes (offset_at plan n) c) ∷ es)
      (entries-placed (stepped plan n (length c.blob)) k cs more (omega (arith, h)))

  object-placed : (n : ℕ) (o : DescribedObject) (more : List ℕ)
      → object_bytes (take (length o.components) (offsets_from plan n (blob_lengths o.components ++ more))) o ≡ object_from plan n o
  unfolding object_bytes object_from
  object-placed n o more = rw (entries-placed n (length o.components) o.components more (omega arith))

  -- the offsets that are left when some components have theirs
  left-placed : (n : ℕ) (cs : List DescribedComponent) (more : List ℕ)
      → drop (length cs) (offsets_from plan n (blob_lengths cs ++ more)) ≡ offsets_from plan (reached plan n (blob_lengths cs)) more
  unfolding offsets_from reached
  left-placed n [] more = refl
  left-placed n (c ∷ cs) more = left-placed (stepped plan n (length c.blob)) cs more

  lengths-joined : (o : DescribedObject) (os : List DescribedObject) → map length (blobs_in (o ∷ os)) ≡ blob_lengths o.components ++ map length (blobs_in os)
  unfolding blobs_in
  lengths-joined o os = by o.components
    where
      by : (cs : List DescribedComponent) → map length (map (λ c. c.blob) cs ++ blobs_in os) ≡ blob_lengths cs ++ map length (blobs_in os)
      by [] = refl
      by (c ∷ cs) = ap (λ (l : List ℕ). length c.blob ∷ l) (by cs)

  pub objects-placed : (n : ℕ) (os : List DescribedObject) → object_entries (offsets_from plan n (map length (blobs_in os))) os ≡ objects_from plan n os
  unfolding object_entries objects_from
  objects-placed n [] = refl
  objects-placed n (o ∷ os) =
      rw (
        lengths-joined o os,
        object-placed n o (map length (blobs_in os)),
        left-placed n o.components (map length (blobs_in os)),
        objects-placed (reached plan n (blob_lengths o.components)) os,
      )
      refl

  pub manifest-placed : (d : Described) → manifest_bytes d (offsets_from plan (begun plan) (map length (blobs d)))
      ≡ map_bytes (given root_names (some (text_bytes (ascii "1.2.0")) ∷ d.attributes ∷ some (map_bytes (objects_from plan (begun plan) d.objects)) ∷ []))
  unfolding manifest_bytes
  manifest-placed d = rw (objects-placed (begun plan) d.objects) refl

-- ---- of rows: n components from the place `at` on

module _ (plan : List ℕ) (n at place : ℕ) (rows : List ℕ) where
  pub reached-none : n ≤ 0 → reached plan place (blob_sizes (components_at n at rows)) ≡ place
  unfolding reached
  reached-none h = ap (λ (l : List AskedComponent). reached plan place (blob_sizes l)) (no_row asked_component component_width n (drop at rows) h)

  pub reached-next : 0 < n
      → reached plan place (blob_sizes (components_at n at rows))
      ≡ reached plan (stepped plan place (get_or rows (at + length_column) 0)) (blob_sizes (components_at (n - 1) (at + component_width) rows))
  unfolding reached asked_component
  reached-next h =
      ap (λ (l : List AskedComponent). reached plan place (blob_sizes l)) (next-row-at asked_component component_width n at rows h)
      ∙ ap (λ (k : ℕ). reached plan (stepped plan place k) (blob_sizes (components_at (n - 1) (at + component_width) rows))) (get_or-drop at rows length_column 0)

  -- k of them, then the others
  pub reached-split : (k : ℕ) → k ≤ n
      → reached plan place (blob_sizes (components_at n at rows))
      ≡ reached plan (reached plan place (blob_sizes (components_at k at rows))) (blob_sizes (components_at (n - k) (at + component_width * k) rows))
  reached-split k h =
      ap (λ (l : List AskedComponent). reached plan place (blob_sizes l)) (split_rows asked_component component_width n k at rows h)
      ∙ ap (reached plan place) (sizes-joined (components_at k at rows) (components_at (n - k) (at + component_width * k) rows))
      ∙ reached-joined plan place (blob_sizes (components_at k at rows)) (blob_sizes (components_at (n - k) (at + component_width * k) rows))
    where
      sizes-joined : (cs ds : List AskedComponent) → blob_sizes (cs ++ ds) ≡ blob_sizes cs ++ blob_sizes ds
      sizes-joined [] ds = refl
      sizes-joined (c ∷ cs) ds = ap (λ (l : List ℕ). c.blob.size ∷ l) (sizes-joined cs ds)
