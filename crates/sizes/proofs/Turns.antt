-- One turn of each loop over rows: what is measured, and what is still to be.
use Prim.Native.Nat.{ℕ, ◌+◌, ◌-◌, ◌*◌, ◌^◌, ◌≤◌, ◌<◌}
use native.Mathlib.Omega.{arith}
use mathlib.Core.List.{List}
use mathlib.Core.Path.{◌≡◌, ap, sym, ◌∙◌}
use lib.ListN.{length, take, drop, get_or, length-drop}
use mir.Syntax.{w64}
use mir.Val.{Fits as FitsIn}
use borrow.Author.Rules.{part_to_end}
use Rattle.meaning.specs.Columns.{object_width, component_width, rank_column, count_column, length_column}
use Rattle.meaning.specs.Limit.{manifest_limit}
use Rattle.meaning.specs.Asked.{each_row, asked_object, asked_component}
use Rattle.rows.specs.Placed.{objects_at, components_at}
use Rattle.rows.specs.Turns.{offset_at, stepped, turn_limit, reached, blob_sizes, counted}
use Rattle.rows.proofs.Turns.{reached-above, reached-next}
use Rattle.sizes.specs.Size.{capped, head_size, component_size, components_size, object_size, objects_size}
use Rattle.sizes.specs.Measured.{Fits}
use Rattle.sizes.proofs.Heads.{head_small}
use Rattle.sizes.proofs.Sums.{one_more, one-object, components-none, components-next, objects-none, objects-next, rank-small, components-there, ends-in-time, fits_next}

-- what is lent from a place on
abbrev from_on : ℕ → List ℕ → List ℕ
from_on at s = take (length s - at) (drop at s)

-- ---- components

pub record PartsLeft (plan rows : List ℕ) (whole at left turn total : ℕ) : Type 0 where
  pub lie : at + component_width * left ≤ length rows
  pub ends : reached plan turn (blob_sizes (components_at left at rows)) ≤ turn_limit plan
  pub small : total ≤ manifest_limit + 1
  pub same : capped whole ≡ capped (total + components_size plan turn (components_at left at rows))

module _ {plan rows : List ℕ} {whole at left turn total : ℕ} (p : PartsLeft plan rows whole at left turn total) where
  pub turn-in-time : turn ≤ turn_limit plan
  turn-in-time = omega (arith, p.ends, reached-above plan turn (blob_sizes (components_at left at rows)))

  pub all-parts : left ≤ 0 → total ≡ capped whole
  all-parts h = omega (arith, p.small, p.same, components-none plan left at turn rows h)

  module _ (some : 0 < left) where
    abbrev size : ℕ
    size = get_or rows (at + length_column) 0

    abbrev others : List ℕ
    others = blob_sizes (components_at (left - 1) (at + component_width) rows)

    ends_next : reached plan (stepped plan turn size) others ≤ turn_limit plan
    ends_next = omega (arith, p.ends, reached-next plan left at turn rows some)

    pub step-in-time : stepped plan turn size ≤ turn_limit plan
    step-in-time = omega (arith, ends_next, reached-above plan (stepped plan turn size) others)

    module _ (room : length rows * 8 < 2 ^ 63) where
      pub length-fits : FitsIn w64 (at + length_column)
      length-fits = record { fits = omega (arith, p.lie, some, room) }

    pub sum_fits : (n : ℕ) {s : ℕ} → s ≡ capped n → FitsIn w64 (total + s)
    sum_fits n e = record { fits = omega (arith, p.small, e) }

    pub parts-turn : {o s t u : ℕ} → o ≡ offset_at plan turn → s ≡ capped (component_size o (asked_component (from_on at rows))) → t ≡ capped (total + s) → u ≡ stepped plan turn size
        → PartsLeft plan rows whole (at + component_width) (left - 1) u t
    parts-turn {o} {s} {t} {u} d c f g = record {
      lie = omega (arith, p.lie, some);
      ends = rw g ends_next;
      small = omega (arith, f);
      same =
          p.same
          ∙ one_more total (components_size plan turn (components_at left at rows)) (component_size (offset_at plan turn) (asked_component (drop at rows)))
          (components_size plan (stepped plan turn size) (components_at (left - 1) (at + component_width) rows)) s t (components-next plan left at turn rows some)
          (c ∙ ap (λ (k : ℕ). capped (component_size k (asked_component (from_on at rows)))) d ∙ ap (λ (r : List ℕ). capped (component_size (offset_at plan turn) (asked_component r))) (part_to_end rows at)) f
          ∙ ap (λ (k : ℕ). capped (t + components_size plan k (components_at (left - 1) (at + component_width) rows))) (sym g);
    }

-- ---- objects

pub record ObjectsLeft (plan rows parts : List ℕ) (whole row from left turn total : ℕ) : Type 0 where
  pub fits : Fits plan rows parts left row from turn
  pub small : total ≤ manifest_limit + 1
  pub same : capped whole ≡ capped (total + objects_size plan turn (objects_at left row rows) (components_at (counted (objects_at left row rows)) from parts))

module _ {plan rows parts : List ℕ} {whole row from left turn total : ℕ} (p : ObjectsLeft plan rows parts whole row from left turn total) where
  pub all-objects : left ≤ 0 → total ≡ capped whole
  all-objects h = omega (arith, p.small, p.same, objects-none plan rows parts left row from turn h)

  module _ (some : 0 < left) where
    abbrev count : ℕ
    count = get_or rows (row + count_column) 0

    abbrev own : ℕ
    own = reached plan turn (blob_sizes (components_at count from parts))

    object-long : row + object_width ≤ length rows
    object-long = omega (arith, p.fits.objects, some)

    parts-long : from + component_width * count ≤ length parts
    parts-long = components-there plan rows parts left row from turn some p.fits

    pub rank-there : get_or (from_on row rows) rank_column 0 ≤ 8
    rank-there = rw (part_to_end rows row) (rank-small plan rows parts left row from turn some p.fits)

    pub parts-there : component_width * count ≤ length (from_on from parts)
    parts-there = rw (part_to_end parts from) (omega (arith, parts-long, length-drop from parts))

    pub parts-in-time : reached plan turn (blob_sizes (each_row asked_component component_width count (from_on from parts))) ≤ turn_limit plan
    parts-in-time = rw (part_to_end parts from) (ends-in-time plan rows parts left row from turn some p.fits)

    module _ (room : length rows * 8 < 2 ^ 63) where
      pub count_fits : FitsIn w64 (row + count_column)
      count_fits = record { fits = omega (arith, object-long, room) }

    module _ (room : length parts * 8 < 2 ^ 63) where
      pub parts-fit : FitsIn w64 (component_width * count)
      parts-fit = record { fits = omega (arith, parts-long, room) }

      pub next-from-fits : FitsIn w64 (from + component_width * count)
      next-from-fits = record { fits = omega (arith, parts-long, room) }

    -- the object's own bytes, with the head of its components and then with them
    module _ (n : ℕ) {o h : ℕ} (own_is : o ≡ capped n) (head-is : h ≡ head_size count) where
      pub own-fits : FitsIn w64 (o + h)
      own-fits = record { fits = omega (arith, own_is, head-is, head_small count) }

      pub own-sum-fits : FitsIn w64 (total + (o + h))
      own-sum-fits = record { fits = omega (arith, p.small, own_is, head-is, head_small count) }

      pub parts-sum-fits : (m : ℕ) {s : ℕ} → s ≡ capped m → FitsIn w64 (total + (o + h) + s)
      parts-sum-fits m e = record { fits = omega (arith, p.small, own_is, head-is, e, head_small count) }

    pub objects-turn : {o h s t u : ℕ} → o ≡ capped (object_size (asked_object (from_on row rows))) → h ≡ head_size count
        → s ≡ capped (components_size plan turn (each_row asked_component component_width count (from_on from parts))) → t ≡ capped (total + (o + h) + s)
        → u ≡ reached plan turn (blob_sizes (each_row asked_component component_width count (from_on from parts)))
        → ObjectsLeft plan rows parts whole (row + object_width) (from + component_width * count) (left - 1) u t
    objects-turn {o} {h} {s} {t} {u} a b c d e =
        let a' = a ∙ ap (λ (r : List ℕ). capped (object_size (asked_object r))) (part_to_end rows row) in
        let c' = c ∙ ap (λ (r : List ℕ). capped (components_size plan turn (each_row asked_component component_width count r))) (part_to_end parts from) in
        let e' : u ≡ own = e ∙ ap (λ (r : List ℕ). reached plan turn (blob_sizes (each_row asked_component component_width count r))) (part_to_end parts from) in
        record {
          fits = fits_next plan rows parts left row from turn some p.fits u e';
          small = omega (arith, d);
          same =
              p.same
              ∙ one-object total _ _ _ _ _ o h s t (objects-next plan rows parts left row from turn some) a' b c' d
              ∙ ap (λ (k : ℕ). capped (t + objects_size plan k (objects_at (left - 1) (row + object_width) rows)
              (components_at (counted (objects_at (left - 1) (row + object_width) rows)) (from + component_width * count) parts))) (sym e');
        }
