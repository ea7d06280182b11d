-- A model's rows, whatever follows them in the table, ask for what the model says.
use Prim.Native.Nat.{ℕ, suc, ◌+◌, ◌*◌, ◌≤◌}
use native.Mathlib.Omega.{arith}
use mathlib.Core.List.{List, [], ◌∷◌, ◌++◌, map, append_assoc}
use mathlib.Core.Path.{◌≡◌, refl, ap, sym, ◌∙◌}
use lib.ListN.{length, take, drop, get_or, replicate}
use lib.Seq.{take_at, drop-drop, take-append-le, take-take, drop-append-add, get_or-append-add}
use Rattle.meaning.specs.Columns.{object_width, component_width}
use Rattle.meaning.specs.Limit.{rank_limit}
use Rattle.meaning.specs.Read.{Span}
use Rattle.meaning.specs.Model.{Component, Object, Model}
use Rattle.meaning.specs.Rows.{word_span, attributes_span, dimensions, object_row, component_row, object_rows, rows_of, component_rows, rows, component_count}
use Rattle.meaning.specs.Asked.{AskedComponent, asked_object, asked_component, each_row, asked}
use Rattle.meaning.proofs.Lengths.{dimensions-length}
use Rattle.meaning.specs.Every.{Every}
use Rattle.readback.specs.Spelled.{asked_of, asked_of_object, asked_of_all, asked_of_model}

-- ---- an object's row

shape-back : (shape rest : List ℕ) → length shape ≤ rank_limit → take (length shape) (dimensions shape ++ rest) ≡ shape
unfolding dimensions
shape-back shape rest h =
    take-append-le (length shape) (dimensions shape) rest (omega (arith, dimensions-length shape))
    ∙ take-take (length shape) 8 (shape ++ replicate 8 0) h ∙ take_at shape (replicate 8 0) (length shape) refl

-- a column behind the dimensions
behind : (shape E : List ℕ) (k : ℕ) → get_or (dimensions shape ++ E) (8 + k) 0 ≡ get_or E k 0
behind shape E k = ap (λ (n : ℕ). get_or (dimensions shape ++ E) (n + k) 0) (sym (dimensions-length shape)) ∙ get_or-append-add (dimensions shape) E k 0

abbrev ending : Object Span → List ℕ → List ℕ
ending o R = (word_span o.format).place ∷ (word_span o.format).size ∷ (attributes_span o.attributes).place ∷ (attributes_span o.attributes).size ∷ length o.components ∷ R

object-row-is : (o : Object Span) (R : List ℕ) → object_row o ++ R ≡ (word_span o.name).place ∷ (word_span o.name).size ∷ length o.shape ∷ (dimensions o.shape ++ ending o R)
unfolding object_row
object-row-is o R =
    ap (λ (r : List ℕ). (word_span o.name).place ∷ (word_span o.name).size ∷ length o.shape ∷ r)
    (append_assoc (dimensions o.shape) (ending o []) R)

object-asked : (o : Object Span) (R : List ℕ) → length o.shape ≤ rank_limit → asked_object (object_row o ++ R) ≡ asked_of_object o
unfolding asked_object asked_of_object
object-asked o R h =
    let E : List ℕ = ending o R in
    let D : List ℕ = o.shape in
    rw (object-row-is o R, behind D E 0, behind D E 1, behind D E 2, behind D E 3, behind D E 4, shape-back D E h)

-- past the row
object-past : (o : Object Span) (R : List ℕ) → drop object_width (object_row o ++ R) ≡ R
object-past o R = ap (drop object_width) (object-row-is o R) ∙ past (dimensions o.shape) (ending o R) (dimensions-length o.shape)
  where
    past : (D E : List ℕ) → length D ≡ 8 → drop 13 (D ++ E) ≡ drop 5 E
    past D E h = let k : 13 ≡ length D + 5 = omega arith in rw k (drop-append-add D E 5)

objects-asked : (os : List (Object Span)) (R : List ℕ) → Every (λ o. length o.shape ≤ rank_limit) os → each_row asked_object object_width (length os) (object_rows os ++ R) ≡ map asked_of_object os
unfolding each_row object_rows
objects-asked [] R h = refl
objects-asked (o ∷ os) R (h, hs) =
    rw (append_assoc (object_row o) (object_rows os) R, object-asked o (object_rows os ++ R) h, object-past o (object_rows os ++ R), objects-asked os R hs)

-- ---- components

component-asked : (i : ℕ) (c : Component Span) (R : List ℕ) → asked_component (component_row i c ++ R) ≡ asked_of i c
unfolding asked_component asked_of component_row
component-asked i c R = refl

component-past : (i : ℕ) (c : Component Span) (R : List ℕ) → drop component_width (component_row i c ++ R) ≡ R
unfolding component_row
component-past i c R = refl

-- of one object, and then those of n more rows
one-asked : (i n : ℕ) (cs : List (Component Span)) (R : List ℕ)
    → each_row asked_component component_width (length cs + n) (rows_of i cs ++ R) ≡ map (asked_of i) cs ++ each_row asked_component component_width n R
unfolding each_row rows_of
one-asked i n [] R = let z : 0 + n ≡ n = omega arith in ap (λ (k : ℕ). each_row asked_component component_width k R) z
one-asked i n (c ∷ cs) R =
    let z : suc (length cs) + n ≡ suc (length cs + n) = omega arith in
    ap (λ (k : ℕ). each_row asked_component component_width k (component_row i c ++ rows_of i cs ++ R)) z
    ∙ rw (append_assoc (component_row i c) (rows_of i cs) R, component-asked i c (rows_of i cs ++ R), component-past i c (rows_of i cs ++ R), one-asked i n cs R)

all_asked : (i : ℕ) (os : List (Object Span)) (R : List ℕ) → each_row asked_component component_width (component_count os) (component_rows i os ++ R) ≡ asked_of_all i os
unfolding component_count component_rows asked_of_all each_row
all_asked i [] R = refl
all_asked i (o ∷ os) R =
    ap (each_row asked_component component_width (length o.components + component_count os)) (append_assoc (rows_of i o.components) (component_rows (suc i) os) R)
    ∙ one-asked i (component_count os) o.components (component_rows (suc i) os ++ R)
    ∙ ap (λ (r : List AskedComponent). map (asked_of i) o.components ++ r) (all_asked (suc i) os R)

-- ---- all rows

objects-width : (os : List (Object Span)) (R : List ℕ) → drop (object_width * length os) (object_rows os ++ R) ≡ R
unfolding object_rows
objects-width [] R = refl
objects-width (o ∷ os) R =
    let n : ℕ = object_width * length os in
    let e : object_width * suc (length os) ≡ object_width + n = omega arith in
    ap (λ (k : ℕ). drop k (object_row o ++ object_rows os ++ R)) e ∙ sym (drop-drop n object_width (object_row o ++ object_rows os ++ R))
    ∙ ap (drop n) (ap (drop object_width) (append_assoc (object_row o) (object_rows os) R) ∙ object-past o (object_rows os ++ R)) ∙ objects-width os R

pub rows-asked : (m : Model Span) (R : List ℕ) → Every (λ o. length o.shape ≤ rank_limit) m.objects
    → asked (rows m ++ R) (length m.objects) (component_count m.objects) (attributes_span m.attributes) ≡ asked_of_model m
unfolding asked rows asked_of_model
rows-asked m R h =
    rw (
      append_assoc (object_rows m.objects) (component_rows 0 m.objects) R,
      objects-asked m.objects (component_rows 0 m.objects ++ R) h,
      objects-width m.objects (component_rows 0 m.objects ++ R),
      all_asked 0 m.objects R,
    )

-- ---- how many numbers they are
