-- The listing of a table that begins with a model's rows is the model's listing.
use Prim.Native.Nat.{ℕ, suc, ◌+◌, ◌*◌}
use native.Mathlib.Nat.{zero-add, suc-add}
use native.Mathlib.Omega.{arith}
use mathlib.Core.List.{List, [], ◌∷◌, ◌++◌, append_assoc}
use mathlib.Core.Bool.{Bool, true, ◌&&◌}
use mathlib.Core.Path.{◌≡◌, refl, ap, ◌∙◌}
use lib.ListN.{length, drop}
use borrow.Author.Tests.{le-leb, eq-eqb}
use Rattle.meaning.specs.Columns.{object_width, component_width}
use Rattle.meaning.specs.Text.{ascii}
use Rattle.meaning.specs.Check.{pass}
use Rattle.meaning.specs.Read.{Span}
use Rattle.meaning.specs.Model.{Component, Object, Model}
use Rattle.meaning.specs.Rows.{object_row, component_row, object_rows, rows_of, component_rows, rows, component_count}
use Rattle.meaning.specs.Listing as meaning
use Rattle.meaning.specs.Every.{Every}
use Rattle.meaning.specs.Stands.{ComponentStands, ObjectStands, InFile}
use Rattle.meaning.specs.Tree.{Node}
use Rattle.panel.specs.Lines.{plain, count_at, counted, every, component_sound, object_sound, blob_lines, object_lines, text, sound, listed}
use Rattle.panel.proofs.Answers.{all_listed}
use Rattle.view.proofs.Columns.{component-past, objects-at, components-at, rows_lie, components-past}
use Rattle.panel.proofs.Columns.{component-sound, blob-line, count-is, object-past, object-sound, object-line}

module _ (file T : List ℕ) where
  counted_of : (os : List (Object Span)) (p : ℕ) (X : List ℕ) → drop p T ≡ object_rows os ++ X → counted T (length os) p ≡ component_count os
  unfolding object_rows counted component_count
  counted_of [] p X e = refl
  counted_of (o ∷ os) p X e =
      let f = e ∙ append_assoc (object_row o) (object_rows os) X in
      ap (λ (k : ℕ). k + counted T (length os) (p + object_width)) (count-is file T p o (object_rows os ++ X) f)
      ∙ ap (λ (k : ℕ). length o.components + k) (counted_of os (p + object_width) X (object-past file T p o (object_rows os ++ X) f))

module _ (file T : List ℕ) {Lies : Span → Type 0} {Attributes : ℕ → Node Span → Type 0} {Part : Component Span → Type 0} (inside : InFile Lies Attributes Part file) where
  -- ---- the components of one object

  blobs-of : (i : ℕ) (cs : List (Component Span)) (q : ℕ) (Y : List ℕ) → drop q T ≡ rows_of i cs ++ Y → Every (ComponentStands Lies Attributes Part file) cs
      → blob_lines file T plain (length cs) q ≡ meaning.blob_lines cs
  unfolding blob_lines meaning.blob_lines rows_of
  blobs-of i [] q Y e s = refl
  blobs-of i (c ∷ cs) q Y e s =
      let f = e ∙ append_assoc (component_row i c) (rows_of i cs) Y in
      ap (λ (l : List ℕ). l ++ blob_lines file T plain (length cs) (q + component_width)) (blob-line file T q i c (rows_of i cs ++ Y) f s.0)
      ∙ ap (λ (l : List ℕ). meaning.blob_line c ++ l) (blobs-of i cs (q + component_width) Y (component-past T q i c (rows_of i cs ++ Y) f) s.1)

  blobs-sound : (n i : ℕ) (cs : List (Component Span)) (q : ℕ) (Y : List ℕ) → drop q T ≡ rows_of i cs ++ Y → Every (ComponentStands Lies Attributes Part file) cs
      → every (component_sound file T) component_width (length cs + n) q ≡ every (component_sound file T) component_width n (q + component_width * length cs)
  unfolding rows_of every
  blobs-sound n i [] q Y e s =
      ap (λ (k : ℕ). every (component_sound file T) component_width k q) (zero-add n)
      ∙ (let z : q ≡ q + component_width * 0 = omega arith in ap (λ (k : ℕ). every (component_sound file T) component_width n k) z)
  blobs-sound n i (c ∷ cs) q Y e s =
      let f = e ∙ append_assoc (component_row i c) (rows_of i cs) Y in
      ap (λ (k : ℕ). every (component_sound file T) component_width k q) (suc-add (length cs) n)
      ∙ ap (λ (b : Bool). b && every (component_sound file T) component_width (length cs + n) (q + component_width)) (component-sound file T q i c (rows_of i cs ++ Y) f s.0 inside)
      ∙ blobs-sound n i cs (q + component_width) Y (component-past T q i c (rows_of i cs ++ Y) f) s.1
      ∙ (let z : q + component_width + component_width * length cs ≡ q + component_width * suc (length cs) = omega arith in ap (λ (k : ℕ). every (component_sound file T) component_width n k) z)

  -- ---- all objects

  objects-sound : (os : List (Object Span)) (p : ℕ) (X : List ℕ) → drop p T ≡ object_rows os ++ X → Every (ObjectStands Lies Attributes Part file) os
      → every (object_sound file T) object_width (length os) p ≡ true
  unfolding object_rows every
  objects-sound [] p X e s = refl
  objects-sound (o ∷ os) p X e s =
      let f = e ∙ append_assoc (object_row o) (object_rows os) X in
      ap (λ (b : Bool). b && every (object_sound file T) object_width (length os) (p + object_width)) (object-sound file T p o (object_rows os ++ X) f s.0 inside)
      ∙ objects-sound os (p + object_width) X (object-past file T p o (object_rows os ++ X) f) s.1

  components-sound : (i : ℕ) (os : List (Object Span)) (q : ℕ) (Y : List ℕ) → drop q T ≡ component_rows i os ++ Y → Every (ObjectStands Lies Attributes Part file) os
      → every (component_sound file T) component_width (component_count os) q ≡ true
  unfolding component_rows component_count every
  components-sound i [] q Y e s = refl
  components-sound i (o ∷ os) q Y e s =
      let f = e ∙ append_assoc (rows_of i o.components) (component_rows (suc i) os) Y in
      blobs-sound (component_count os) i o.components q (component_rows (suc i) os ++ Y) f s.0.components
      ∙ components-sound (suc i) os (q + component_width * length o.components) Y
      (components-past T i o.components q (component_rows (suc i) os ++ Y) f) s.1

  lines_of : (i : ℕ) (os : List (Object Span)) (p q : ℕ) (X Y : List ℕ) → drop p T ≡ object_rows os ++ X → drop q T ≡ component_rows i os ++ Y
      → Every (ObjectStands Lies Attributes Part file) os → object_lines file T plain (length os) p q ≡ meaning.object_lines os
  unfolding object_rows component_rows object_lines meaning.object_lines
  lines_of i [] p q X Y e g s = refl
  lines_of i (o ∷ os) p q X Y e g s =
      let f = e ∙ append_assoc (object_row o) (object_rows os) X in
      let h = g ∙ append_assoc (rows_of i o.components) (component_rows (suc i) os) Y in
      ap (λ (l : List ℕ). l ++ blob_lines file T plain (count_at T p) q ++ object_lines file T plain (length os) (p + object_width) (q + component_width * count_at T p))
      (object-line file T p o (object_rows os ++ X) f s.0)
      ∙ ap (λ (n : ℕ). meaning.object_line o ++ blob_lines file T plain n q ++ object_lines file T plain (length os) (p + object_width) (q + component_width * n))
      (count-is file T p o (object_rows os ++ X) f)
      ∙ ap (λ (l : List ℕ). meaning.object_line o ++ l ++ object_lines file T plain (length os) (p + object_width) (q + component_width * length o.components))
      (blobs-of i o.components q (component_rows (suc i) os ++ Y) h s.0.components)
      ∙ ap (λ (l : List ℕ). meaning.object_line o ++ meaning.blob_lines o.components ++ l)
      (lines_of (suc i) os (p + object_width) (q + component_width * length o.components) X Y (object-past file T p o (object_rows os ++ X) f)
      (components-past T i o.components q (component_rows (suc i) os ++ Y) h) s.1)

-- ---- the whole

module _ (file rest : List ℕ) (m : Model Span) {Lies : Span → Type 0} {Attributes : ℕ → Node Span → Type 0} {Part : Component Span → Type 0} (inside : InFile Lies Attributes Part file)
    (s : Every (ObjectStands Lies Attributes Part file) m.objects) where
  os : List (Object Span)
  os = m.objects

  T : List ℕ
  T = rows m ++ rest

  all_sound : true ≡ sound file T (length os) (component_count os)
  unfolding sound T os
  all_sound =
      rw (
        le-leb (object_width * length os + component_width * component_count os) (length T) (rows_lie m rest),
        objects-sound file T inside os 0 (component_rows 0 os ++ rest) (objects-at m rest) s,
        components-sound file T inside 0 os (object_width * length os) rest (components-at m rest) s,
        eq-eqb (counted T (length os) 0) (component_count os) (counted_of file T os 0 (component_rows 0 os ++ rest) (objects-at m rest)),
      )
      refl

  pub listed-of-rows : listed file (rows m ++ rest) (length m.objects) (component_count m.objects) ≡ pass (meaning.listing m)
  unfolding text meaning.listing T os
  listed-of-rows =
      all_listed file T (length os) (component_count os) all_sound
      ∙ ap (λ (l : List ℕ). pass (meaning.line (ascii "objects") (meaning.decimal (length os) ∷ ascii "components" ∷ meaning.decimal (component_count os) ∷ []) ++ l))
      (lines_of file T inside 0 os 0 (object_width * length os) (component_rows 0 os ++ rest) rest (objects-at m rest) (components-at m rest) s)
