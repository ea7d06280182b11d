-- Answers and tables that are alike: the same numbers, but for places of texts, spans of attributes and spans of entries, where each file has the same text, the same map, or
-- an entry that is related to the other's (by E: the same once unknown fields are dropped, or put in order, or both).
use Rattle.std.specs.Prelude.{ℕ, zero, suc, ◌+◌, ◌-◌, ◌*◌, ◌≤◌, List, [], ◌∷◌, ◌++◌, Bool, true, false, ◌≡◌, length, drop, get_or, replicate}
use Rattle.std.proofs.Math.Option.{Option, none, some}
use Rattle.meaning.specs.Columns.{object_width, component_width, rank_column, format_column}
use Rattle.meaning.specs.Tree.{Node, Pairs, dict}
use Rattle.meaning.specs.Check.{refuse}
use Rattle.meaning.specs.Read.{Span, bytes_at, got, item, no_note}
use Rattle.meaning.specs.Rows.{Answer, answer, table_after, read_into}
use Rattle.meaning.specs.Layouts.{Layout}

-- ---------------------------------------------------------------- what stands in a file

-- 0 and 0
pub record Absent (s : Span) : Type 0 where
  pub no_place : s.place ≡ 0
  pub no_size : s.size ≡ 0

-- inside the file, and not absent
pub record Inside (file : List ℕ) (s : Span) : Type 0 where
  pub there : 1 ≤ s.place
  pub ends : s.place + s.size ≤ length file

-- these bytes, and no others
pub record Spelled (file : List ℕ) (s : Span) (letters : List ℕ) : Type 0 where
  pub inside : Inside file s
  pub bytes : bytes_at file s ≡ letters

-- one whole map, read where this many levels are left, and nothing more
pub record OneMap (file : List ℕ) (levels : ℕ) (s : Span) (t : Node (Unit {0})) : Type 0 where
  pub inside : Inside file s
  pub read : item no_note levels (bytes_at file s) ≡ got t []
  pub pairs : Pairs (Unit {0})
  pub is-map : t ≡ dict tt pairs

-- what a span of a row stands for: nothing, or a text
abbrev pub TextAt : List ℕ → Span → Option (List ℕ) → Type 0
TextAt file s none = Absent s
TextAt file s (some letters) = Spelled file s letters

-- nothing, or attributes
abbrev pub MapAt : List ℕ → ℕ → Span → Option (Node (Unit {0})) → Type 0
MapAt file levels s none = Absent s
MapAt file levels s (some t) = OneMap file levels s t

-- ---------------------------------------------------------------- rows of two tables, each of its own file

-- a field of a row: a number, in one column; or the place and the length of a text, of attributes or of a component's entry, in two
pub data Field : Type 0 where
  number text_span map_span entry_span : Field

-- name; rank and dimensions; format, attributes, number of components
abbrev pub object_fields : List Field
object_fields = text_span ∷ replicate (format_column - rank_column) number ++ text_span ∷ map_span ∷ number ∷ []

-- name, storage, type, offset, length, digest, owner, entry
abbrev pub component_fields : List Field
component_fields = text_span ∷ number ∷ text_span ∷ number ∷ number ∷ text_span ∷ number ∷ entry_span ∷ []

-- n rows of these fields, and then more
abbrev pub rows_then : ℕ → List Field → List Field → List Field
rows_then zero row more = more
rows_then (suc n) row more = row ++ rows_then n row more

-- all objects first, then all components
abbrev pub table_fields : ℕ → ℕ → List Field
table_fields objects components = rows_then objects object_fields (rows_then components component_fields [])

-- the columns that may differ: a text's place, not its length; place and length of attributes and of entries; and whatever follows the fields
abbrev pub may_differ : List Field → ℕ → Bool
may_differ [] j = true
may_differ (number ∷ fs) zero = false
may_differ (number ∷ fs) (suc j) = may_differ fs j
may_differ (text_span ∷ fs) zero = true
may_differ (text_span ∷ fs) (suc zero) = false
may_differ (text_span ∷ fs) (suc (suc j)) = may_differ fs j
may_differ (map_span ∷ fs) zero = true
may_differ (map_span ∷ fs) (suc zero) = true
may_differ (map_span ∷ fs) (suc (suc j)) = may_differ fs j
may_differ (entry_span ∷ fs) zero = true
may_differ (entry_span ∷ fs) (suc zero) = true
may_differ (entry_span ∷ fs) (suc (suc j)) = may_differ fs j

-- the place and the length that come next
abbrev pub next_span : List ℕ → Span
next_span l = record { place = get_or l 0 0; size = get_or l 1 0 }

module _ (file₁ file₂ : List ℕ) where
  -- of one length, and the same text at both places; or absent in both
  pub record TextsAlike (s₁ s₂ : Span) : Type 0 where
    pub size : s₁.size ≡ s₂.size
    pub found : Option (List ℕ)
    pub first : TextAt file₁ s₁ found
    pub second : TextAt file₂ s₂ found

  -- the same map in both spans; or absent in both
  pub record MapsAlike (levels : ℕ) (s₁ s₂ : Span) : Type 0 where
    pub found : Option (Node (Unit {0}))
    pub first : MapAt file₁ levels s₁ found
    pub second : MapAt file₂ levels s₂ found

  -- a map in each span, and they are so related
  pub record EntriesAlike (E : Node (Unit {0}) → Node (Unit {0}) → Type 0) (levels : ℕ) (s₁ s₂ : Span) : Type 0 where
    pub tree₁ : Node (Unit {0})
    pub tree₂ : Node (Unit {0})
    pub first : OneMap file₁ levels s₁ tree₁
    pub second : OneMap file₂ levels s₂ tree₂
    pub related : E tree₁ tree₂

  -- field by field, from the front; an object's attributes are at depth 4: 29 levels are left there; a component's entry is at depth 5: 28
  abbrev pub FieldsAlike : (Node (Unit {0}) → Node (Unit {0}) → Type 0) → List Field → List ℕ → List ℕ → Type 0
  FieldsAlike E [] l₁ l₂ = Unit {0}
  FieldsAlike E (number ∷ fs) l₁ l₂ = (get_or l₁ 0 0 ≡ get_or l₂ 0 0) × FieldsAlike E fs (drop 1 l₁) (drop 1 l₂)
  FieldsAlike E (text_span ∷ fs) l₁ l₂ = TextsAlike (next_span l₁) (next_span l₂) × FieldsAlike E fs (drop 2 l₁) (drop 2 l₂)
  FieldsAlike E (map_span ∷ fs) l₁ l₂ = MapsAlike 29 (next_span l₁) (next_span l₂) × FieldsAlike E fs (drop 2 l₁) (drop 2 l₂)
  FieldsAlike E (entry_span ∷ fs) l₁ l₂ = EntriesAlike E 28 (next_span l₁) (next_span l₂) × FieldsAlike E fs (drop 2 l₁) (drop 2 l₂)

-- ---------------------------------------------------------------- two readings into tables

-- the answer for an accepted file
abbrev pub acceptance : ℕ → ℕ → ℕ → Span → Answer
acceptance objects components start attributes = record {
  number = 0;
  object = 0;
  component = 0;
  objects = objects;
  components = components;
  start = start;
  attributes = attributes;
}

-- the answer for a file read into a table, and that table afterwards
abbrev pub answer_of : Layout → List ℕ → List ℕ → Answer
answer_of L file table = answer (read_into L file (length table))

abbrev pub afterwards : Layout → List ℕ → List ℕ → List ℕ
afterwards L file table = table_after table (read_into L file (length table))

-- numbers that the rows of so many objects and components take
abbrev pub room_of : ℕ → ℕ → ℕ
room_of objects components = object_width * objects + component_width * components

-- the same refusal, and both tables as they were
pub record BothRefused (L : Layout) (file₁ table₁ file₂ table₂ : List ℕ) : Type 0 where
  pub number : ℕ
  pub object : ℕ
  pub component : ℕ
  pub not-accepted : 1 ≤ number
  pub first : answer_of L file₁ table₁ ≡ answer (refuse number object component)
  pub second : answer_of L file₂ table₂ ≡ answer (refuse number object component)
  pub untouched₁ : afterwards L file₁ table₁ ≡ table₁
  pub untouched₂ : afterwards L file₂ table₂ ≡ table₂

-- the same counts and manifest start; the rows alike, and each table as it was beyond them; the root's attributes are at depth 2: 31 levels are left there
pub record BothAccepted (L : Layout) (E : Node (Unit {0}) → Node (Unit {0}) → Type 0) (file₁ table₁ file₂ table₂ : List ℕ) : Type 0 where
  pub objects : ℕ
  pub components : ℕ
  pub start : ℕ
  pub attributes₁ : Span
  pub attributes₂ : Span
  pub first : answer_of L file₁ table₁ ≡ acceptance objects components start attributes₁
  pub second : answer_of L file₂ table₂ ≡ acceptance objects components start attributes₂
  pub root : MapsAlike file₁ file₂ 31 attributes₁ attributes₂
  pub rows : FieldsAlike file₁ file₂ E (table_fields objects components) (afterwards L file₁ table₁) (afterwards L file₂ table₂)
  pub room : room_of objects components ≤ length table₁
  pub whole₁ : length (afterwards L file₁ table₁) ≡ length table₁
  pub whole₂ : length (afterwards L file₂ table₂) ≡ length table₂
  pub beyond₁ : drop (room_of objects components) (afterwards L file₁ table₁) ≡ drop (room_of objects components) table₁
  pub beyond₂ : drop (room_of objects components) (afterwards L file₂ table₂) ≡ drop (room_of objects components) table₂

-- what `read` may answer for the one file and for the other, and leave in their tables
pub data ReadAlike (L : Layout) (E : Node (Unit {0}) → Node (Unit {0}) → Type 0) (file₁ table₁ file₂ table₂ : List ℕ) : Type 0 where
  refused : BothRefused L file₁ table₁ file₂ table₂ → ReadAlike L E file₁ table₁ file₂ table₂
  accepted : BothAccepted L E file₁ table₁ file₂ table₂ → ReadAlike L E file₁ table₁ file₂ table₂
