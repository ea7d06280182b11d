-- The rows of a model in a table are sound, and make its lines.
use Prim.Native.Nat.{ℕ, ◌+◌, ◌≤◌}
use native.Mathlib.Omega.{arith}
use mathlib.Core.List.{List, ◌∷◌, ◌++◌, append_assoc}
use mathlib.Core.Bool.{true}
use mathlib.Core.Path.{◌≡◌, refl, sym, ap, ◌∙◌}
use lib.ListN.{length, drop, get_or}
use lib.Seq.{get_or-append-add, drop-append-add}
use borrow.Author.Tests.{le-leb, lt-ltb}
use Rattle.meaning.specs.Columns.{object_width, format_column, format_length_column, count_column, offset_column, length_column}
use Rattle.meaning.specs.Read.{Span}
use Rattle.meaning.specs.Model.{Word, Component, Object}
use Rattle.meaning.specs.Rows.{word_span, object_row, component_row}
use Rattle.meaning.specs.Listing as meaning
use Rattle.meaning.specs.Stands.{WordStands, ComponentStands, ObjectStands, InFile}
use Rattle.meaning.specs.Tree.{Node}
use Rattle.meaning.specs.Layouts.{thirteen}
use Rattle.view.proofs.Columns.{column, first, onward, shape, ending, nine, name-place, name-size, code_is, offset-is, length-is}
use Rattle.panel.specs.Lines.{plain, count_at, text_at, range_inside, component_sound, object_sound, blob_line, object_line}

module _ (file T : List ℕ) where
  inside_is : (i a n : ℕ) → get_or T i 0 ≡ a → get_or T (i + 1) 0 ≡ n → a + n ≤ length file → range_inside file T i ≡ true
  unfolding range_inside
  inside_is i a n e f h = rw (e, f, le-leb (a + n) (length file) h) refl

  text-is : {Lies : Span → Type 0} (i : ℕ) (w : Word Span) → get_or T i 0 ≡ (word_span w).place → get_or T (i + 1) 0 ≡ (word_span w).size → WordStands Lies file w → text_at file T i ≡ w.letters
  unfolding text_at
  text-is i w e f s = rw (e, f) s.spelled

  -- a component's row
  module _ (q i : ℕ) (c : Component Span) (Y : List ℕ) (e : drop q T ≡ component_row i c ++ Y)
      {Lies : Span → Type 0} {Attributes : ℕ → Node Span → Type 0} {Part : Component Span → Type 0} (s : ComponentStands Lies Attributes Part file c) where
    after-offset : get_or T (q + offset_column + 1) 0 ≡ c.length
    after-offset = (let z : q + offset_column + 1 ≡ q + length_column = omega arith in ap (λ (k : ℕ). get_or T k 0) z) ∙ length-is T q i c Y e

    pub component-sound : InFile Lies Attributes Part file → component_sound file T q ≡ true
    unfolding component_sound
    component-sound inside =
        rw (
          inside_is q (word_span c.name).place (word_span c.name).size (name-place T q i c Y e) (name-size T q i c Y e) (inside.spans _ s.name.lies),
          (code_is T q i c Y e),
          lt-ltb c.dtype 13 (let d = s.dtype in omega (arith, d, thirteen)),
          inside_is (q + offset_column) c.offset c.length (offset-is T q i c Y e) after-offset (inside.blobs c s.part),
        )
        refl

    pub blob-line : blob_line file T plain q ≡ meaning.blob_line c
    unfolding blob_line meaning.blob_line
    blob-line = rw (text-is q c.name (name-place T q i c Y e) (name-size T q i c Y e) s.name, (code_is T q i c Y e), (offset-is T q i c Y e), (length-is T q i c Y e)) refl

  -- an object's row
  module _ (p : ℕ) (o : Object Span) (X : List ℕ) (e : drop p T ≡ object_row o ++ X) where
    row : List ℕ
    row = (word_span o.name).place ∷ (word_span o.name).size ∷ (shape o ++ (ending o ++ X))

    row_is : drop p T ≡ row
    unfolding object_row row shape ending
    row_is = e ∙ ap (λ (r : List ℕ). (word_span o.name).place ∷ (word_span o.name).size ∷ r) (append_assoc (shape o) (ending o) X)

    later : (k : ℕ) → get_or (shape o ++ (ending o ++ X)) (9 + k) 0 ≡ get_or (ending o ++ X) k 0
    later k = ap (λ (n : ℕ). get_or (shape o ++ (ending o ++ X)) (n + k) 0) (sym (nine o)) ∙ get_or-append-add (shape o) (ending o ++ X) k 0

    object-name-place : get_or T p 0 ≡ (word_span o.name).place
    unfolding row
    object-name-place = first T p row row_is

    object-name-size : get_or T (p + 1) 0 ≡ (word_span o.name).size
    unfolding row
    object-name-size = column T p row row_is 1

    format-place : get_or T (p + format_column) 0 ≡ (word_span o.format).place
    unfolding row ending
    format-place = column T p row row_is format_column ∙ later 0

    format-size : get_or T (p + format_column + 1) 0 ≡ (word_span o.format).size
    unfolding row ending
    format-size = (let z : p + format_column + 1 ≡ p + format_length_column = omega arith in ap (λ (k : ℕ). get_or T k 0) z) ∙ column T p row row_is format_length_column ∙ later 1

    pub count-is : count_at T p ≡ length o.components
    unfolding row ending
    count-is = column T p row row_is count_column ∙ later 4

    pub object-past : drop (p + object_width) T ≡ X
    unfolding row ending
    object-past =
        onward T p row row_is object_width
        ∙ ap (λ (n : ℕ). drop (n + 5) (shape o ++ (ending o ++ X))) (sym (nine o))
        ∙ drop-append-add (shape o) (ending o ++ X) 5

    module _ {Lies : Span → Type 0} {Attributes : ℕ → Node Span → Type 0} {Part : Component Span → Type 0} (s : ObjectStands Lies Attributes Part file o) where
      pub object-sound : InFile Lies Attributes Part file → object_sound file T p ≡ true
      unfolding object_sound
      object-sound inside =
          rw (
            inside_is p (word_span o.name).place (word_span o.name).size object-name-place object-name-size (inside.spans _ s.name.lies),
            inside_is (p + format_column) (word_span o.format).place (word_span o.format).size format-place format-size (inside.spans _ s.format.lies),
          )
          refl

      pub object-line : object_line file T p ≡ meaning.object_line o
      unfolding object_line meaning.object_line
      object-line =
          rw (text-is p o.name object-name-place object-name-size s.name, text-is (p + format_column) o.format format-place format-size s.format) refl
