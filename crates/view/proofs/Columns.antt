-- What stands in a table where a model's row begins: its columns and what follows; and how many numbers rows take.
use Prim.Native.Nat.{ℕ, suc, ◌+◌, ◌*◌, ◌≤◌}
use native.Mathlib.Nat.{add-zero}
use native.Mathlib.Omega.{arith}
use mathlib.Core.List.{List, [], ◌∷◌, ◌++◌, append_assoc}
use mathlib.Core.Path.{◌≡◌, sym, ap, ◌∙◌}
use lib.ListN.{length, drop, get_or, replicate, length-append}
use lib.Seq.{get_or-drop, drop-drop, length-take-le, drop_at}
use Rattle.meaning.specs.Columns.{object_width, component_width, dtype_column, type_column, type_length_column, offset_column, length_column, entry_column, entry_length_column}
use Rattle.meaning.specs.Read.{Span}
use Rattle.meaning.specs.Model.{Component, Object, Model}
use Rattle.meaning.specs.Rows.{word_span, optional_span, attributes_span, dimensions, component_row, object_rows, rows_of, component_rows, rows, component_count}
use Rattle.meaning.proofs.Lengths.{objects-length, parts-length, components-length}

-- a table that goes on as R from the place p on
module _ (T : List ℕ) (p : ℕ) (R : List ℕ) (e : drop p T ≡ R) where
  pub column : (k : ℕ) → get_or T (p + k) 0 ≡ get_or R k 0
  column k = sym (get_or-drop p T k 0) ∙ ap (λ (l : List ℕ). get_or l k 0) e

  pub first : get_or T p 0 ≡ get_or R 0 0
  first = ap (λ (j : ℕ). get_or T j 0) (sym (add-zero p)) ∙ column 0

  pub onward : (n : ℕ) → drop (p + n) T ≡ drop n R
  onward n = sym (drop-drop n p T) ∙ ap (drop n) e

-- an object's row: two columns, the rank and eight dimensions, and five more
module _ (o : Object Span) where
  unfoldable pub shape : List ℕ
  shape = length o.shape ∷ dimensions o.shape

  unfoldable pub ending : List ℕ
  ending = (word_span o.format).place ∷ (word_span o.format).size ∷ (attributes_span o.attributes).place ∷ (attributes_span o.attributes).size ∷ length o.components ∷ []

  pub nine : length shape ≡ 9
  unfolding shape dimensions
  nine =
      ap suc (length-take-le 8 (o.shape ++ replicate 8 0)
      (let z : length (o.shape ++ replicate 8 0) ≡ length o.shape + 8 = length-append o.shape (replicate 8 0) in omega (arith, z)))

-- a component's row
module _ (T : List ℕ) (q i : ℕ) (c : Component Span) (Y : List ℕ) (e : drop q T ≡ component_row i c ++ Y) where
  pub name-place : get_or T q 0 ≡ (word_span c.name).place
  unfolding component_row
  name-place = first T q (component_row i c ++ Y) e

  pub name-size : get_or T (q + 1) 0 ≡ (word_span c.name).size
  unfolding component_row
  name-size = column T q (component_row i c ++ Y) e 1

  pub code_is : get_or T (q + dtype_column) 0 ≡ c.dtype
  unfolding component_row
  code_is = column T q (component_row i c ++ Y) e dtype_column

  pub type-place : get_or T (q + type_column) 0 ≡ (optional_span c.type).place
  unfolding component_row
  type-place = column T q (component_row i c ++ Y) e type_column

  pub type-size : get_or T (q + type_length_column) 0 ≡ (optional_span c.type).size
  unfolding component_row
  type-size = column T q (component_row i c ++ Y) e type_length_column

  pub offset-is : get_or T (q + offset_column) 0 ≡ c.offset
  unfolding component_row
  offset-is = column T q (component_row i c ++ Y) e offset_column

  pub length-is : get_or T (q + length_column) 0 ≡ c.length
  unfolding component_row
  length-is = column T q (component_row i c ++ Y) e length_column

  pub entry_place : get_or T (q + entry_column) 0 ≡ c.entry.place
  unfolding component_row
  entry_place = column T q (component_row i c ++ Y) e entry_column

  pub entry-size : get_or T (q + entry_length_column) 0 ≡ c.entry.size
  unfolding component_row
  entry-size = column T q (component_row i c ++ Y) e entry_length_column

  pub component-past : drop (q + component_width) T ≡ Y
  unfolding component_row
  component-past = onward T q (component_row i c ++ Y) e component_width

-- ---- how many numbers they take

-- where an object's components end
pub components-past : (T : List ℕ) (i : ℕ) (cs : List (Component Span)) (q : ℕ) (Y : List ℕ) → drop q T ≡ rows_of i cs ++ Y → drop (q + component_width * length cs) T ≡ Y
components-past T i cs q Y e = onward T q (rows_of i cs ++ Y) e (component_width * length cs) ∙ drop_at (rows_of i cs) Y (component_width * length cs) (parts-length i cs)

-- a table that begins with a model's rows
module _ (m : Model Span) (rest : List ℕ) where
  pub objects-at : rows m ++ rest ≡ object_rows m.objects ++ (component_rows 0 m.objects ++ rest)
  unfolding rows
  objects-at = append_assoc (object_rows m.objects) (component_rows 0 m.objects) rest

  pub components-at : drop (object_width * length m.objects) (rows m ++ rest) ≡ component_rows 0 m.objects ++ rest
  components-at =
      ap (drop (object_width * length m.objects)) objects-at
      ∙ drop_at (object_rows m.objects) (component_rows 0 m.objects ++ rest) (object_width * length m.objects) (objects-length m.objects)

  pub rows_lie : object_width * length m.objects + component_width * component_count m.objects ≤ length (rows m ++ rest)
  rows_lie =
      let a : length (rows m ++ rest) ≡ length (object_rows m.objects) + length (component_rows 0 m.objects ++ rest) =
      ap length objects-at ∙ length-append (object_rows m.objects) (component_rows 0 m.objects ++ rest) in
      let b : length (component_rows 0 m.objects ++ rest) ≡ length (component_rows 0 m.objects) + length rest = length-append (component_rows 0 m.objects) rest in
      omega (arith, a, b, objects-length m.objects, components-length 0 m.objects)
