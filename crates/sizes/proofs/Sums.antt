-- Capped sums: a part that is over the limit takes the whole over it, so each may be capped as it is added.
use Prim.Native.Nat.{ℕ, zero, suc, ◌+◌, ◌-◌, ◌*◌, ◌≤◌, ◌<◌}
use native.Mathlib.Omega.{arith}
use mathlib.Core.List.{List, [], ◌∷◌}
use mathlib.Core.Bool.{Bool, true, false, ◌&&◌}
use mathlib.Core.Path.{◌≡◌, refl, sym, ap, ◌∙◌}
use lib.ListN.{length, take, drop, get_or, get_or-eq_default}
use lib.Seq.{get_or-drop}
use lib.Dec.{eqb}
use mir.Syntax.{w64}
use mir.Val.{Fits as FitsIn}
use borrow.Author.Tests.{leb-true}
use Rattle.meaning.specs.Columns.{object_width, component_width, rank_column, shape_column, format_length_column, attributes_column, attributes_length_column, count_column, dtype_column, type_column, type_length_column, length_column, digest_column, digest_length_column}
use Rattle.meaning.specs.Limit.{end_limit}
use Rattle.meaning.specs.Read.{Span}
use Rattle.meaning.specs.Types.{Storage, storages, storage_of}
use Rattle.meaning.specs.Asked.{AskedObject, asked_object, asked_component}
use Rattle.meaning.specs.Placement.{aligned}
use Rattle.rows.specs.Placed.{objects_at, components_at}
use Rattle.rows.specs.Turns.{offset_at, stepped, turn_limit, reached, blob_sizes, counted}
use Rattle.rows.proofs.EachRow.{no_row, next-row-at, first_rows, later_rows, first_so, others-so}
use Rattle.rows.proofs.Turns.{reached-above, reached-split}
use Rattle.rows.proofs.Describes.{counted_next}
use Rattle.sizes.specs.Size.{capped, head_size, text_size, when_present, optional_text, optional_copy, fixed_size, component_size, components_size, dimensions_size, object_size, objects_size}
use Rattle.sizes.specs.Measured.{shaped, Fits}
use Rattle.sizes.proofs.Heads.{head_small}

-- ---- one part after the other

pub from_nothing : (whole : ℕ) → capped whole ≡ capped (0 + whole)
from_nothing whole = omega arith

-- of what is left the next part is added, each capped as it comes
pub one_more : (total left part rest p r : ℕ) → left ≡ part + rest → p ≡ capped part → r ≡ capped (total + p) → capped (total + left) ≡ capped (r + rest)
one_more total left part rest p r e f g = omega (arith, e, f, g)

pub one-object : (total left own head parts rest o h p r : ℕ) → left ≡ own + head + parts + rest → o ≡ capped own → h ≡ head → p ≡ capped parts
    → r ≡ capped (total + (o + h) + p) → capped (total + left) ≡ capped (r + rest)
one-object total left own head parts rest o h p r e f g k l = omega (arith, e, f, g, k, l)

-- ---- texts and fields

module _ (n : ℕ) where
  module _ {h t : ℕ} (head-is : h ≡ head_size n) (text-is : t ≡ capped n) where
    pub text-fits : FitsIn w64 (h + t)
    text-fits = record { fits = omega (arith, text-is, head-is, head_small n) }

    pub text-whole : {r : ℕ} → r ≡ capped (h + t) → r ≡ capped (text_size n)
    unfolding text_size
    text-whole e = omega (arith, e, head-is, text-is)

-- `absent` said a of a range
module _ (place size : ℕ) {a : Bool} (absent : a ≡ eqb place 0 && eqb size 0) where
  abbrev range : Span
  range = record { place = place; size = size }

  module _ (e : a ≡ true) where
    pub text-absent : (key : ℕ) → 0 ≡ capped (optional_text key range)
    unfolding optional_text when_present
    text-absent key = rw (← absent, e) refl

    pub copy-absent : 0 ≡ capped (optional_copy 11 range)
    unfolding optional_copy when_present
    copy-absent = rw (← absent, e) refl

  module _ (e : a ≡ false) where
    pub text-present : (key : ℕ) {t : ℕ} → t ≡ capped (text_size size) → {r : ℕ} → r ≡ capped (key + t) → r ≡ capped (optional_text key range)
    unfolding optional_text when_present
    text-present key h k = rw (← absent, e) (omega (arith, h, k))

    pub copy-present : {t r : ℕ} → t ≡ capped size → r ≡ capped (11 + t) → r ≡ capped (optional_copy 11 range)
    unfolding optional_copy when_present
    copy-present h k = rw (← absent, e) (omega (arith, h, k))

pub called-none : (c : ℕ) → 13 ≤ c → 0 ≡ length (storage_of c).called
unfolding storages storage_of
called-none c h = sym (ap (λ (s : Storage). length s.called) (get_or-eq_default storages (record { called = []; width = 0 }) h))

-- ---- a shape

-- one dimension more
pub dimension-more : (i : ℕ) (s : List ℕ) → i < length s → dimensions_size (take (i + 1) s) ≡ dimensions_size (take i s) + head_size (get_or s i 0)
unfolding dimensions_size
dimension-more i [] h = absurd (omega (arith, h))
dimension-more zero (x ∷ s) h = omega arith
dimension-more (suc i) (x ∷ s) h = let e : suc i + 1 ≡ suc (i + 1) = omega arith in rw e (omega (arith, dimension-more i s (omega (arith, h))))

-- ---- ends

pub aligned-in-time : (n : ℕ) → n ≤ end_limit → aligned n ≤ end_limit
unfolding aligned
aligned-in-time n h = omega (arith, h)

-- ---- entries

-- what takes the same bytes whatever a component's texts are
module _ (dtype offset : ℕ) {c h : ℕ} (called : c ≡ length (storage_of dtype).called) (short : c < 16) (offset-head : h ≡ head_size offset) where
  pub offset-fits : FitsIn w64 (22 + c + h)
  offset-fits = record { fits = omega (arith, short, offset-head, head_small offset) }

  module _ (size : ℕ) {k : ℕ} (size-head : k ≡ head_size size) where
    pub fixed-fits : FitsIn w64 (22 + c + h + k)
    fixed-fits = record { fits = omega (arith, short, offset-head, size-head, head_small offset, head_small size) }

    pub fixed-sum : 22 + c + h + k ≡ fixed_size dtype offset size
    unfolding fixed_size
    fixed-sum = omega (arith, called, offset-head, size-head)

    pub fixed-small : 22 + c + h + k < 64
    fixed-small = omega (arith, short, offset-head, size-head, head_small offset, head_small size)

-- its texts and the rest
module _ (row : List ℕ) {t a b f : ℕ} (name : t ≡ capped (text_size (get_or row 1 0)))
    (type : a ≡ capped (optional_text 5 (record { place = get_or row type_column 0; size = get_or row type_length_column 0 })))
    (digest : b ≡ capped (optional_text 7 (record { place = get_or row digest_column 0; size = get_or row digest_length_column 0 }))) where
  pub component-fits : f < 64 → FitsIn w64 (t + a + b + f)
  component-fits h = record { fits = omega (arith, name, type, digest, h) }

  pub component-sum : (offset : ℕ) → f ≡ fixed_size (get_or row dtype_column 0) offset (get_or row length_column 0) → {r : ℕ} → r ≡ capped (t + a + b + f) → r ≡ capped (component_size offset (asked_component row))
  unfolding component_size asked_component
  component-sum offset h e = omega (arith, name, type, digest, h, e)

module _ (plan : List ℕ) (n at place : ℕ) (rows : List ℕ) where
  pub components-none : n ≤ 0 → components_size plan place (components_at n at rows) ≡ 0
  unfolding components_size
  components-none h = ap (components_size plan place) (no_row asked_component component_width n (drop at rows) h)

  pub components-next : 0 < n
      → components_size plan place (components_at n at rows)
      ≡ component_size (offset_at plan place) (asked_component (drop at rows)) + components_size plan (stepped plan place (get_or rows (at + length_column) 0)) (components_at (n - 1) (at + component_width) rows)
  unfolding components_size asked_component
  components-next h =
      ap (components_size plan place) (next-row-at asked_component component_width n at rows h)
      ∙ ap (λ (k : ℕ). component_size (offset_at plan place) (asked_component (drop at rows)) + components_size plan (stepped plan place k) (components_at (n - 1) (at + component_width) rows))
      (get_or-drop at rows length_column 0)

pub object-sum : (row : List ℕ) {t u d a r : ℕ} → t ≡ capped (text_size (get_or row 1 0)) → u ≡ capped (text_size (get_or row format_length_column 0))
    → d ≡ dimensions_size (take (get_or row rank_column 0) (drop shape_column row)) → a ≡ capped (optional_copy 11 (record { place = get_or row attributes_column 0; size = get_or row attributes_length_column 0 }))
    → r ≡ capped (t + u + 26 + d + a) → r ≡ capped (object_size (asked_object row))
unfolding object_size asked_object
object-sum row e f g h k = omega (arith, e, f, g, h, k)

-- ---- objects with their components

module _ (plan os cs : List ℕ) (left row from end : ℕ) where
  abbrev due : ℕ → ℕ → ℕ
  due left row = counted (objects_at left row os)

  abbrev count : ℕ
  count = get_or os (row + count_column) 0

  pub objects-none : left ≤ 0 → objects_size plan end (objects_at left row os) (components_at (due left row) from cs) ≡ 0
  unfolding objects_size
  objects-none h = ap (λ (l : List AskedObject). objects_size plan end l (components_at (due left row) from cs)) (no_row asked_object object_width left (drop row os) h)

  module _ (some : 0 < left) where
    due-next : due left row ≡ count + due (left - 1) (row + object_width)
    due-next = counted_next os left row some

    counts : (asked_object (drop row os)).count ≡ count
    unfolding asked_object
    counts = get_or-drop row os count_column 0

    later : due left row - count ≡ due (left - 1) (row + object_width)
    later = omega (arith, due-next)

    pub objects-next : objects_size plan end (objects_at left row os) (components_at (due left row) from cs)
        ≡ object_size (asked_object (drop row os)) + head_size count + components_size plan end (components_at count from cs)
        + objects_size plan (reached plan end (blob_sizes (components_at count from cs))) (objects_at (left - 1) (row + object_width) os)
        (components_at (due (left - 1) (row + object_width)) (from + component_width * count) cs)
    unfolding objects_size
    objects-next =
        let in_all : count ≤ due left row = omega (arith, due-next) in
        ap (λ (l : List AskedObject). objects_size plan end l (components_at (due left row) from cs)) (next-row-at asked_object object_width left row os some)
        ∙ rw (counts, first_rows asked_component component_width (due left row) count from cs in_all, later_rows asked_component component_width (due left row) count from cs in_all, later) refl

    module _ (fits : Fits plan os cs left row from end) where
      pub rank-small : get_or (drop row os) rank_column 0 ≤ 8
      unfolding shaped asked_object
      rank-small = leb-true (get_or (drop row os) rank_column 0) 8 (first_so shaped asked_object object_width left row os some fits.ranks)

      pub components-there : from + component_width * count ≤ length cs
      components-there = omega (arith, due-next, fits.components)

      split : reached plan (reached plan end (blob_sizes (components_at count from cs))) (blob_sizes (components_at (due (left - 1) (row + object_width)) (from + component_width * count) cs)) ≤ turn_limit plan
      split =
          let in_all : count ≤ due left row = omega (arith, due-next) in
          let e = reached-split plan (due left row) from end cs count in_all in
          let f = ap (λ (k : ℕ). reached plan (reached plan end (blob_sizes (components_at count from cs))) (blob_sizes (components_at k (from + component_width * count) cs))) later in
          omega (arith, e, f, fits.ends)

      pub ends-in-time : reached plan end (blob_sizes (components_at count from cs)) ≤ turn_limit plan
      ends-in-time =
          omega (arith, split, reached-above plan (reached plan end (blob_sizes (components_at count from cs))) (blob_sizes (components_at (due (left - 1) (row + object_width)) (from + component_width * count) cs)))

      pub fits_next : (r : ℕ) → r ≡ reached plan end (blob_sizes (components_at count from cs)) → Fits plan os cs (left - 1) (row + object_width) (from + component_width * count) r
      fits_next r e = record {
        objects = omega (arith, some, fits.objects);
        components = omega (arith, due-next, fits.components);
        ranks = others-so shaped asked_object object_width left row os some fits.ranks;
        ends = rw e split;
      }
