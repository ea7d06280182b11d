-- The panel's lines by a table that begins with a model's rows are the model's.
use Prim.Native.Nat.{ℕ, suc, ◌+◌, ◌*◌, ◌%◌, ◌≤◌}
use native.Mathlib.Omega.{arith}
use mathlib.Core.List.{List, [], ◌∷◌, ◌++◌, append_assoc}
use mathlib.Core.Bool.{Bool, true, false, ◌&&◌}
use mathlib.Core.Option.{Option, none, some}
use mathlib.Core.Path.{◌≡◌, refl, ap, ◌∙◌}
use lib.ListN.{length, drop}
use lib.Dec.{eqb}
use borrow.Author.Tests.{ne_eqb}
use Rattle.meaning.specs.Columns.{object_width, component_width}
use Rattle.meaning.specs.Read.{Span}
use Rattle.meaning.specs.Types.{f32}
use Rattle.meaning.specs.Layouts.{Layout}
use Rattle.meaning.specs.Model.{Word, Component, Object, Model}
use Rattle.meaning.specs.Rows.{word_span, optional_span, object_row, component_row, object_rows, rows_of, component_rows, rows, component_count}
use Rattle.meaning.specs.Every.{Every, IfAny}
use Rattle.view.proofs.Columns.{name-place, name-size, code_is, type-place, type-size, offset-is, length-is, component-past, objects-at, components-at, components-past}
use Rattle.finding.specs.Table.{due, at_row}
use Rattle.panel.specs.Lines.{count_at, text_at, blob_line, blob_lines, object_lines, text}
use Rattle.panel.specs.Summary.{more}
use Rattle.panel.proofs.Columns.{count-is, object-past, object-line}
use Rattle.shown.specs.Accepted.{WordStands, ComponentAccepted, ObjectAccepted}
use Rattle.shown.specs.Found.{is_none, due_of}
use Rattle.display.specs.Display as is

module _ (L : Layout) (file : List ℕ) (start : ℕ) (header : 8 ≤ start) (T : List ℕ) where
  abbrev ends : ℕ → List (List ℕ)
  ends = more true file T

  -- a type that is there stands in the manifest: its place isn't 0
  untyped : (f : Bool) (o : Option (Word Span)) → IfAny (WordStands L file start) o → f && eqb (optional_span o).place 0 && eqb (optional_span o).size 0 ≡ f && is_none o
  unfolding optional_span
  untyped true none h = refl
  untyped true (some w) h = let l = h.lies.begins in rw (ne_eqb (word_span w).place 0 (λ z. omega (arith, z, l, header))) refl
  untyped false o h = refl

  -- ---- one component

  module _ (q i : ℕ) (c : Component Span) (Y : List ℕ) (e : drop q T ≡ component_row i c ++ Y) (s : ComponentAccepted L file start c) where
    due-is : due T q ≡ due_of c
    unfolding due due_of
    due-is =
        rw (code_is T q i c Y e, type-place T q i c Y e, type-size T q i c Y e, length-is T q i c Y e)
        (ap (λ (b : Bool). b && eqb (c.length % 4) 0) (untyped (eqb c.dtype f32) c.type s.type))

    found-is : at_row file T q ≡ is.found_in file c
    unfolding at_row is.found_in
    found-is = rw (due-is, offset-is T q i c Y e, length-is T q i c Y e) refl

    name-is : text_at file T q ≡ c.name.letters
    unfolding text_at
    name-is = rw (name-place T q i c Y e, name-size T q i c Y e) s.name.spelled

    line-is : blob_line file T ends q ≡ is.blob_line file c
    unfolding blob_line is.blob_line
    line-is = rw (name-is, code_is T q i c Y e, offset-is T q i c Y e, length-is T q i c Y e, found-is) refl

  -- ---- those of one object

  blobs-are : (i : ℕ) (cs : List (Component Span)) (q : ℕ) (Y : List ℕ) → drop q T ≡ rows_of i cs ++ Y → Every (ComponentAccepted L file start) cs
      → blob_lines file T ends (length cs) q ≡ is.blob_lines file cs
  unfolding blob_lines is.blob_lines rows_of
  blobs-are i [] q Y e s = refl
  blobs-are i (c ∷ cs) q Y e s =
      let f = e ∙ append_assoc (component_row i c) (rows_of i cs) Y in
      rw (line-is q i c (rows_of i cs ++ Y) f s.0, blobs-are i cs (q + component_width) Y (component-past T q i c (rows_of i cs ++ Y) f) s.1) refl

  -- ---- all objects

  objects-are : (i : ℕ) (os : List (Object Span)) (p q : ℕ) (X Y : List ℕ) → drop p T ≡ object_rows os ++ X → drop q T ≡ component_rows i os ++ Y
      → Every (ObjectAccepted L file start) os → object_lines file T ends (length os) p q ≡ is.object_lines file os
  unfolding object_lines is.object_lines object_rows component_rows
  objects-are i [] p q X Y e g s = refl
  objects-are i (o ∷ os) p q X Y e g s =
      let f = e ∙ append_assoc (object_row o) (object_rows os) X in
      let h = g ∙ append_assoc (rows_of i o.components) (component_rows (suc i) os) Y in
      let n : count_at T p ≡ length o.components = count-is file T p o (object_rows os ++ X) f in
      let past = components-past T i o.components q (component_rows (suc i) os ++ Y) h in
      rw (
        n,
        object-line file T p o (object_rows os ++ X) f s.0,
        blobs-are i o.components q (component_rows (suc i) os ++ Y) h s.0.components,
        objects-are (suc i) os (p + object_width) (q + component_width * length o.components) X Y (object-past file T p o (object_rows os ++ X) f) past s.1,
      )
      refl

-- ---- the whole

module _ (L : Layout) (file : List ℕ) (start : ℕ) (header : 8 ≤ start) (m : Model Span) (rest : List ℕ) (s : Every (ObjectAccepted L file start) m.objects) where
  abbrev table : List ℕ
  table = rows m ++ rest

  pub text-is : text file table (more true file table) (length m.objects) (component_count m.objects) ≡ is.lines file m
  unfolding text is.lines
  text-is =
      rw (objects-are L file start header table 0 m.objects 0 (object_width * length m.objects) (component_rows 0 m.objects ++ rest) rest (objects-at m rest) (components-at m rest) s) refl
