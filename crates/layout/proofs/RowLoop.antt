-- Rows one after the other: what the next of them contributes, and what is left. Assumes nothing.
use Prim.Native.Nat.{ℕ, zero, suc, ◌+◌, ◌-◌, ◌*◌, ◌≤◌, ◌<◌}
use native.Mathlib.Omega.{arith}
use mathlib.Core.List.{List, [], ◌++◌, append_assoc}
use mathlib.Core.Path.{◌≡◌, refl, sym, ap, ◌∙◌, subst}
use lib.ListN.{length, take, drop, get_or, length-drop}
use lib.Seq.{get_or-drop, length-take-le}
use Rattle.meaning.specs.Columns.{object_width, component_width, count_column, offset_column, length_column}
use Rattle.meaning.specs.WrittenFile.{over}
use Rattle.meaning.proofs.Over.{over-length}
use Rattle.meaning.specs.Asked.{each_row, asked_object, asked_component}
use Rattle.rows.specs.Turns.{offset_at, stepped, turn_limit, blob_sizes, counted}
use Rattle.rows.proofs.Turns.{reached-above, reached-next, reached-split}
use Rattle.rows.proofs.Describes.{counted_next}
use borrow.Author.Rules.{part_to_end}
use Rattle.layout.specs.Pieces.{range, component_at, object_front, object_rest, object_at, blobs_of, components_of, reached_past, objects_of}
use Rattle.layout.specs.Rows.{Within, ComponentRow, ObjectRow, ComponentRows, ObjectRows}

-- what is asked of rows that are lent from a place on
pub as_lent : (rows : List ℕ) (k : ℕ) (P : List ℕ → Type 0) → P (drop k rows) → P (take (length rows - k) (drop k rows))
as_lent rows k P h = subst P (sym (part_to_end rows k)) h

pub within-length : {buffer : List ℕ} {place size : ℕ} → Within buffer place size → length (range buffer place size) ≡ size
within-length {buffer} {place} {size} w = length-take-le size (drop place buffer) (omega (arith, w.inside, length-drop place buffer))

-- ---- components

module _ {buffer plan rows : List ℕ} {n row reached : ℕ} (rs : ComponentRows buffer plan rows n row reached) (some : 0 < n) where
  pub first-component : ComponentRow buffer (drop row rows)
  first-component = let e : row + component_width * 0 ≡ row = omega arith in subst (λ (k : ℕ). ComponentRow buffer (drop k rows)) e (rs.each 0 some)

  pub first-blob : Within buffer (get_or rows (row + offset_column) 0) (get_or rows (row + length_column) 0)
  first-blob = record { inside = rw (← get_or-drop row rows offset_column 0, ← get_or-drop row rows length_column 0) first-component.blob.inside }

  pub next_low : stepped plan reached (get_or rows (row + length_column) 0) ≤ turn_limit plan
  next_low = omega (arith, rs.low, reached-next plan n row reached rows some, reached-above plan (stepped plan reached (get_or rows (row + length_column) 0)) (blob_sizes (each_row asked_component component_width (n - 1) (drop (row + component_width) rows))))

  pub next-components : ComponentRows buffer plan rows (n - 1) (row + component_width) (stepped plan reached (get_or rows (row + length_column) 0))
  next-components = record {
    each = λ j h. let e : row + component_width * suc j ≡ row + component_width + component_width * j = omega arith in
        subst (λ (k : ℕ). ComponentRow buffer (drop k rows)) e (rs.each (suc j) (omega (arith, h)));
    lie = omega (arith, rs.lie);
    low = omega (arith, rs.low, reached-next plan n row reached rows some);
  }

pub reached-low : {buffer plan rows : List ℕ} {n row reached : ℕ} → ComponentRows buffer plan rows n row reached → reached ≤ turn_limit plan
reached-low {plan = plan} {rows} {n} {row} {reached} rs = omega (arith, rs.low, reached-above plan reached (blob_sizes (each_row asked_component component_width n (drop row rows))))

-- the first k of them, and the m others
module _ {buffer plan rows : List ℕ} (k m : ℕ) {n row reached : ℕ} (e : n ≡ k + m) (rs : ComponentRows buffer plan rows n row reached) where
  ends-together : reached_past plan rows n row reached ≡ reached_past plan rows m (row + component_width * k) (reached_past plan rows k row reached)
  ends-together =
      reached-split plan n row reached rows k (omega (arith, e))
      ∙ (let f : n - k ≡ m = omega (arith, e) in ap (λ (j : ℕ). reached_past plan rows j (row + component_width * k) (reached_past plan rows k row reached)) f)

  pub front-components : ComponentRows buffer plan rows k row reached
  front-components = record {
    each = λ j h. rs.each j (omega (arith, h, e));
    lie = omega (arith, rs.lie, e);
    low = omega (arith, rs.low, ends-together, reached-above plan (reached_past plan rows k row reached) (blob_sizes (each_row asked_component component_width m (drop (row + component_width * k) rows))));
  }

  pub later-components : ComponentRows buffer plan rows m (row + component_width * k) (reached_past plan rows k row reached)
  later-components = record {
    each = λ j h. let f : row + component_width * (k + j) ≡ row + component_width * k + component_width * j = omega arith in
        subst (λ (z : ℕ). ComponentRow buffer (drop z rows)) f (rs.each (k + j) (omega (arith, h, e)));
    lie = omega (arith, rs.lie, e);
    low = omega (arith, rs.low, ends-together);
  }

module _ (buffer plan rows : List ℕ) where
  -- the next blob over the file so far
  abbrev one-over : List ℕ → ℕ → ℕ → List ℕ
  one-over file row turn = over file (offset_at plan turn) (range buffer (get_or rows (row + offset_column) 0) (get_or rows (row + length_column) 0))

  pub blobs-next : (file : List ℕ) (n row turn : ℕ) → 0 < n
      → blobs_of buffer plan rows file n row turn ≡ blobs_of buffer plan rows (one-over file row turn) (n - 1) (row + component_width) (stepped plan turn (get_or rows (row + length_column) 0))
  unfolding blobs_of
  blobs-next file zero row turn h = absurd (omega (arith, h))
  blobs-next file (suc n) row turn h = let e : n ≡ suc n - 1 = omega arith in
      ap (λ (k : ℕ). blobs_of buffer plan rows (one-over file row turn) k (row + component_width) (stepped plan turn (get_or rows (row + length_column) 0))) e

  pub blobs-none : (file : List ℕ) (n row turn : ℕ) → n ≤ 0 → blobs_of buffer plan rows file n row turn ≡ file
  unfolding blobs_of
  blobs-none file zero row turn h = refl
  blobs-none file (suc n) row turn h = absurd (omega (arith, h))

  -- a file only grows
  pub blobs-grow : (file : List ℕ) (n row turn : ℕ) → length file ≤ length (blobs_of buffer plan rows file n row turn)
  unfolding blobs_of
  blobs-grow file zero row turn = omega arith
  blobs-grow file (suc n) row turn =
      omega (
        arith,
        blobs-grow (one-over file row turn) n (row + component_width) (stepped plan turn (get_or rows (row + length_column) 0)),
        over-length file (offset_at plan turn) (range buffer (get_or rows (row + offset_column) 0) (get_or rows (row + length_column) 0)),
      )

  pub components-next : (n row reached : ℕ) → 0 < n → components_of buffer plan rows n row reached
      ≡ component_at buffer (drop row rows) (offset_at plan reached) ++ components_of buffer plan rows (n - 1) (row + component_width) (stepped plan reached (get_or rows (row + length_column) 0))
  unfolding components_of
  components-next zero row reached h = absurd (omega (arith, h))
  components-next (suc n) row reached h = let e : n ≡ suc n - 1 = omega arith in
      ap (λ (k : ℕ). component_at buffer (drop row rows) (offset_at plan reached) ++ components_of buffer plan rows k (row + component_width) (stepped plan reached (get_or rows (row + length_column) 0))) e

  pub components-none : (n row reached : ℕ) → n ≤ 0 → components_of buffer plan rows n row reached ≡ []
  unfolding components_of
  components-none zero row reached h = refl
  components-none (suc n) row reached h = absurd (omega (arith, h))

-- ---- objects

module _ {buffer plan rows : List ℕ} {n row from reached : ℕ} (rs : ObjectRows buffer plan rows n row from reached) (some : 0 < n) where
  pub first-object : ObjectRow buffer (drop row rows)
  first-object = let e : row + object_width * 0 ≡ row = omega arith in subst (λ (k : ℕ). ObjectRow buffer (drop k rows)) e (rs.each 0 some)

  pub object-long : row + object_width ≤ length rows
  object-long = omega (arith, first-object.long, length-drop row rows)

  pub its-components : ComponentRows buffer plan rows (get_or rows (row + count_column) 0) from reached
  its-components = front-components (get_or rows (row + count_column) 0) (counted (each_row asked_object object_width (n - 1) (drop (row + object_width) rows))) (counted_next rows n row some) rs.components

  pub next-objects : ObjectRows buffer plan rows (n - 1) (row + object_width) (from + component_width * get_or rows (row + count_column) 0) (reached_past plan rows (get_or rows (row + count_column) 0) from reached)
  next-objects = record {
    each = λ i h. let e : row + object_width * suc i ≡ row + object_width + object_width * i = omega arith in
        subst (λ (k : ℕ). ObjectRow buffer (drop k rows)) e (rs.each (suc i) (omega (arith, h)));
    components = later-components (get_or rows (row + count_column) 0) (counted (each_row asked_object object_width (n - 1) (drop (row + object_width) rows))) (counted_next rows n row some) rs.components;
  }

module _ (buffer plan rows : List ℕ) where
  pub objects-next : (n row from reached : ℕ) → 0 < n → objects_of buffer plan rows n row from reached
      ≡ object_at buffer (drop row rows)
      ++ (components_of buffer plan rows (get_or rows (row + count_column) 0) from reached
      ++ objects_of buffer plan rows (n - 1) (row + object_width) (from + component_width * get_or rows (row + count_column) 0) (reached_past plan rows (get_or rows (row + count_column) 0) from reached))
  unfolding objects_of
  objects-next zero row from reached h = absurd (omega (arith, h))
  objects-next (suc n) row from reached h = let e : n ≡ suc n - 1 = omega arith in
      sym (append_assoc (object_front buffer (drop row rows)) (object_rest buffer (drop row rows)) _)
      ∙ ap (λ (k : ℕ). object_at buffer (drop row rows)
      ++ (components_of buffer plan rows (get_or rows (row + count_column) 0) from reached
      ++ objects_of buffer plan rows k (row + object_width) (from + component_width * get_or rows (row + count_column) 0) (reached_past plan rows (get_or rows (row + count_column) 0) from reached))) e

  pub objects-none : (n row from reached : ℕ) → n ≤ 0 → objects_of buffer plan rows n row from reached ≡ []
  unfolding objects_of
  objects-none zero row from reached h = refl
  objects-none (suc n) row from reached h = absurd (omega (arith, h))
