-- Document 01, "The table and the view": the rows of a sound file, and the reader's whole answer.
use Rattle.std.specs.Prelude.{ℕ, suc, ◌+◌, ◌-◌, ◌*◌, List, [], ◌∷◌, ◌++◌, length, take, drop, replicate, leb}
use Rattle.std.proofs.Math.Option.{Option, none, some}
use Rattle.meaning.specs.Tree.{Node, note_of}
use Rattle.meaning.specs.Check.{Check, pass, refuse, ◌>>=◌, ◌>>◌, ◌unless◌}
use Rattle.meaning.specs.Refusal.{ROOM}
use Rattle.meaning.specs.Limit.{rank_limit}
use Rattle.meaning.specs.Read.{Span}
use Rattle.meaning.specs.Model.{Word, Component, Object, Model}
use Rattle.meaning.specs.Layouts.{Layout}
use Rattle.meaning.specs.Frame.{Reading, reading}
use Rattle.meaning.specs.Columns.{object_width, component_width}

-- where a text's bytes stand, after the head of its item
unfoldable pub word_span : Word Span → Span
word_span w = record { place = w.note.place + w.note.size - length w.letters; size = length w.letters }

-- 0 and 0 means absent
abbrev absent : Span
absent = record { place = 0; size = 0 }

unfoldable pub optional_span : Option (Word Span) → Span
optional_span none = absent
optional_span (some w) = word_span w

-- the whole item, its head included
unfoldable pub attributes_span : Option (Node Span) → Span
attributes_span none = absent
attributes_span (some t) = note_of t

abbrev two : Span → List ℕ → List ℕ
two s r = s.place ∷ s.size ∷ r

-- eight dimensions, unused ones 0
unfoldable pub dimensions : List ℕ → List ℕ
dimensions shape = take rank_limit (shape ++ replicate rank_limit 0)

unfoldable pub object_row : Object Span → List ℕ
object_row o =
    two (word_span o.name) (length o.shape ∷ dimensions o.shape
    ++ two (word_span o.format) (two (attributes_span o.attributes) (length o.components ∷ [])))

-- the entry is the whole item, its head included
unfoldable pub component_row : ℕ → Component Span → List ℕ
component_row owner c =
    two (word_span c.name) (c.dtype ∷ two (optional_span c.type) (c.offset ∷ c.length ∷ two (optional_span c.digest) (owner ∷ two c.entry [])))

unfoldable pub object_rows : List (Object Span) → List ℕ
object_rows [] = []
object_rows (o ∷ os) = object_row o ++ object_rows os

unfoldable pub rows_of : ℕ → List (Component Span) → List ℕ
rows_of owner [] = []
rows_of owner (c ∷ cs) = component_row owner c ++ rows_of owner cs

-- the components of the objects from index i on
unfoldable pub component_rows : ℕ → List (Object Span) → List ℕ
component_rows i [] = []
component_rows i (o ∷ os) = rows_of i o.components ++ component_rows (suc i) os

-- all objects first, then all components, in manifest order
unfoldable pub rows : Model Span → List ℕ
rows m = object_rows m.objects ++ component_rows 0 m.objects

unfoldable pub component_count : {P : Type 0} → List (Object P) → ℕ
component_count [] = 0
component_count (o ∷ os) = length o.components + component_count os

unfoldable pub room_for : {P : Type 0} → Model P → ℕ
room_for m = object_width * length m.objects + component_width * component_count m.objects

-- ROOM is last
unfoldable pub roomy : ℕ → Reading → Check Reading
roomy room r = do
  ROOM unless leb (room_for r.model) room
  pass r

pub record Answer : Type 0 where
  pub number : ℕ
  pub object : ℕ
  pub component : ℕ
  pub objects : ℕ
  pub components : ℕ
  pub start : ℕ
  pub attributes : Span

unfoldable pub answer : Check Reading → Answer
answer (refuse n o c) = record { number = n; object = o; component = c; objects = 0; components = 0; start = 0; attributes = absent }
answer (pass r) = record {
  number = 0;
  object = 0;
  component = 0;
  objects = length r.model.objects;
  components = component_count r.model.objects;
  start = r.start;
  attributes = attributes_span r.model.attributes;
}

-- what the lent table holds afterwards: untouched on refusal, and beyond the rows
unfoldable pub table_after : List ℕ → Check Reading → List ℕ
table_after table (refuse n o c) = table
table_after table (pass r) = rows r.model ++ drop (room_for r.model) table

-- a file read into a lent table
unfoldable pub read_into : Layout → List ℕ → ℕ → Check Reading
read_into L file room = reading L file >>= roomy room
