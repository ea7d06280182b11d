-- Spans in the file, from the bytes left where an item begins and where it ends; the bytes end at the file's place `end`.
use Rattle.std.specs.Prelude.{ℕ, ◌-◌, ◌<◌, List, ◌≡◌, length}
use Rattle.std.proofs.Math.Option.{Option, some}
use Rattle.meaning.specs.Tree.{Node, note_of, map_p}
use Rattle.meaning.specs.Check.{pass}
use Rattle.meaning.specs.Read as read
use Rattle.meaning.specs.Read.{span_to}
use Rattle.meaning.specs.Model.{Word}
use Rattle.meaning.specs.Notes.{map_word, map_option}
use Rattle.meaning.specs.Kind.{a_word}
use Rattle.meaning.specs.Rows.{word_span, optional_span, attributes_span}
use Rattle.walk.specs.Reading.{Ends, Reads, left_at}
use Rattle.walk.specs.Places.{Whatever}
use Rattle.fields.specs.Slots.{Holds}
use Rattle.component.specs.Value.{left_word}
use Rattle.table.specs.WordAt.{WordAt}
use Rattle.table.specs.declared.span.Span.{Span}

abbrev pub span_of : ℕ → Ends → read.Span
span_of end e = span_to end e.start e.rest

-- the code's answer as meaning has it
abbrev pub spanned : Span → read.Span
spanned r = record { place = r.place; size = r.size }

-- where a text's letters stand
abbrev pub span_of_word : ℕ → Word Ends → read.Span
span_of_word end w = word_span (map_word (span_of end) w)

abbrev pub span_of_option : ℕ → Option (Word Ends) → read.Span
span_of_option end o = optional_span (map_option (map_word (span_of end)) o)

-- the text that begins s
abbrev pub TextSpanIs : List ℕ → ℕ → Span → Type 0
TextSpanIs s end r = Whatever s λ d t q. (w : Word Ends) → a_word t ≡ pass w → spanned r ≡ span_of_word end w

-- the text in c that has `left` bytes left, 0 for none
abbrev pub TextSpanAt : List ℕ → ℕ → ℕ → Span → Type 0
TextSpanAt c left end r = (o : Option (Word Ends)) → WordAt c o → left_word o ≡ left → spanned r ≡ span_of_option end o

-- how many bytes an item takes
abbrev pub SizeIs : Node Ends → ℕ → Type 0
SizeIs t n = n ≡ length (note_of t).start - length (note_of t).rest

-- the item that takes `size` bytes where `left` bytes are left, 0 for none
abbrev pub WholeIs : ℕ → ℕ → ℕ → Span → Type 0
WholeIs left size end r = (o : Option (Node Ends)) → left_at o ≡ left → ((t : Node Ends) → o ≡ some t → (0 < left) × SizeIs t size) → spanned r ≡ attributes_span (map_option (map_p (span_of end)) o)

-- the item that begins c and takes `size` bytes
pub record WholeFrom (c : List ℕ) (size end : ℕ) (r : Span) : Type 0 where
  pub is : (d : ℕ) (t : Node Ends) (q : List ℕ) → Reads d c t q → SizeIs t size → spanned r ≡ span_of end (note_of t)

-- the item that stands where `left` bytes of m are left, under so many levels, 0 for none
abbrev pub ItemIs : ℕ → List ℕ → ℕ → ℕ → Span → Type 0
ItemIs d m left end r = (o : Option (Node Ends)) → Holds d m left o → spanned r ≡ attributes_span (map_option (map_p (span_of end)) o)
