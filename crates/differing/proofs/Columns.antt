-- A component's and an object's parts by their columns.
use Prim.Native.Nat.{ℕ, ◌+◌, ◌-◌, ◌≤◌}
use native.Mathlib.Omega.{arith}
use mathlib.Core.List.{List, [], ◌∷◌}
use mathlib.Core.Bool.{Bool, true, false, cond, not, ◌&&◌}
use mathlib.Core.Option.{none, some}
use mathlib.Core.Path.{◌≡◌, refl, sym, ap, ap₂, ◌∙◌}
use lib.ListN.{take, drop, get_or}
use lib.Seq.{get_or-drop}
use lib.Dec.{eqb}
use lib.Pointwise.{pointwise}
use Rattle.text.proofs.SameIsEqual.{pointwise-same}
use Rattle.meaning.specs.Text.{same}
use Rattle.meaning.specs.Columns.{type_column, type_length_column, dtype_column, offset_column, length_column, rank_column, shape_column}
use Rattle.meaning.specs.Asked.{asked_component, present_at}
use Rattle.meaning.specs.Described.{DescribedComponent, described_component}
use Rattle.changes.specs.Changes.{bit, other_dtype, other_type, other_bytes, count_apart}
use Rattle.apart.specs.Positions as apart
use Rattle.apart.specs.declared.Apart.{Apart}
use Rattle.apart.proofs.Counts.{count-tells}
use Rattle.differing.specs.Rows.{part_at, shape_at}
use Rattle.differing.specs.Bits.{told, own_what}

module _ (file table : List ℕ) (row : ℕ) where
  dtype-at : (part_at file table row).dtype ≡ get_or table (row + dtype_column) 0
  unfolding part_at described_component asked_component
  dtype-at = get_or-drop row table dtype_column 0

  pub blob-at : (part_at file table row).blob ≡ take (get_or table (row + length_column) 0) (drop (get_or table (row + offset_column) 0) file)
  unfolding part_at described_component asked_component
  blob-at = rw (get_or-drop row table length_column 0, get_or-drop row table offset_column 0)

  abbrev none-there : Bool
  none-there = eqb (get_or table (row + type_column) 0) 0 && eqb (get_or table (row + type_length_column) 0) 0

  type_at : (part_at file table row).type ≡ cond none-there none (some (take (get_or table (row + type_length_column) 0) (drop (get_or table (row + type_column) 0) file)))
  unfolding part_at described_component asked_component present_at
  type_at = rw (get_or-drop row table type_column 0, get_or-drop row table type_length_column 0)

  pub type-none : {u : Bool} → u ≡ none-there → u ≡ true → (part_at file table row).type ≡ none
  type-none h e = rw (type_at, ← h, e)

  pub type-some : {u : Bool} → u ≡ none-there → u ≡ false → {t : List ℕ} → t ≡ take (get_or table (row + type_length_column) 0) (drop (get_or table (row + type_column) 0) file)
      → (part_at file table row).type ≡ some t
  type-some h e k = rw (type_at, ← h, e, k)

module _ (first a : List ℕ) (p : ℕ) (second b : List ℕ) (q : ℕ) where
  abbrev c : DescribedComponent
  c = part_at first a p

  abbrev d : DescribedComponent
  d = part_at second b q

  -- ---- all of a component

  pub differences-are : {u v w : ℕ} {g : Bool} {x y : List ℕ} {s : Apart} → u ≡ bit 8 (not (eqb (get_or a (p + dtype_column) 0) (get_or b (q + dtype_column) 0)))
      → g ≡ other_type (part_at first a p) (part_at second b q) → v ≡ bit 16 g → x ≡ (part_at first a p).blob → y ≡ (part_at second b q).blob
      → s ≡ apart.told x y → w ≡ bit 32 (not (eqb s.count 0)) → record { dtype = u; kind = v; bytes = w; position = s.position; count = s.count } ≡ told c d
  differences-are {u} {v} {w} {g} {x} {y} {s} eu eg ev ex ey es ew =
      let z : s ≡ apart.told c.blob d.blob = es ∙ ap₂ apart.told ex ey in
      let du : u ≡ bit 8 (other_dtype c d) = eu ∙ sym (ap₂ (λ i j. bit 8 (not (eqb i j))) (dtype-at first a p) (dtype-at second b q)) in
      let dw : w ≡ bit 32 (other_bytes c d) = ew ∙ ap (λ (r : Apart). bit 32 (not (eqb r.count 0))) z ∙ flipped (count_apart c.blob d.blob) ∙ count-tells c.blob d.blob 32 in
      let dv : v ≡ bit 16 (other_type c d) = ev ∙ ap (bit 16) eg in
      rw (du, dv, dw, z)
    where
      flipped : (n : ℕ) → bit 32 (not (eqb n 0)) ≡ cond (eqb n 0) 0 32
      flipped n = by (eqb n 0)
        where
          by : (t : Bool) → bit 32 (not t) ≡ cond t 0 32
          by true = refl
          by false = refl

-- ---- shapes and formats

pub shape_is : (a : List ℕ) (p : ℕ) → take (p + shape_column + get_or a (p + rank_column) 0 - (p + shape_column)) (drop (p + shape_column) a) ≡ shape_at a p
unfolding shape_at
shape_is a p = let z : p + shape_column + get_or a (p + rank_column) 0 - (p + shape_column) ≡ get_or a (p + rank_column) 0 = omega arith in rw z

-- u and v say whether the shapes and the formats are the same
pub own_is : {f g h k : List ℕ} {s t x y : List ℕ} {u v : Bool} {m n : ℕ} → s ≡ f → t ≡ g → u ≡ not (pointwise eqb s t) → x ≡ h → y ≡ k → v ≡ same x y
    → m ≡ bit 1 u → n ≡ bit 2 (not v) → m + n ≡ own_what f h g k
own_is {f} {g} hs ht hu hx hy hv hm hn = rw (hm, hn, hu, hv, hs, ht, hx, hy, pointwise-same f g) refl

pub own-small : (u v : Bool) {m n : ℕ} → m ≡ bit 1 u → n ≡ bit 2 v → m + n ≤ 3
own-small u v hm hn = rw (hm, hn) (go u v)
  where
    go : (u v : Bool) → bit 1 u + bit 2 v ≤ 3
    go true true = omega arith
    go true false = omega arith
    go false true = omega arith
    go false false = omega arith
