-- What a reading into a table answers, and what the table then holds, in the words of meaning's Rows.
use Rattle.std.specs.Prelude.{ℕ, ◌+◌, ◌-◌, List, ◌++◌, Bool, true, false, ◌≡◌, length, take, drop}
use Rattle.meaning.specs.Check.{Check, pass, refuse, ◌>>=◌}
use Rattle.meaning.specs.Frame.{Reading}
use Rattle.meaning.specs.Layouts.{Layout}
use Rattle.meaning.specs.Rows as meant
use Rattle.meaning.specs.Rows.{rows, room_for, roomy, answer}
use Rattle.table.specs.Spans.{ItemIs}
use Rattle.table.specs.declared.span.Span.{Span}
use Rattle.reader.specs.declared.into.Answer.{Answer}
use Rattle.reader.specs.Verdict.{manifest_reading}

abbrev pub refused : ℕ → ℕ → ℕ → Answer
refused n o c = record { number = n; object = o; component = c; objects = 0; components = 0; start = 0; place = 0; size = 0 }

-- meaning's answer as the code's
abbrev pub told : meant.Answer → Answer
told a = record {
  number = a.number;
  object = a.object;
  component = a.component;
  objects = a.objects;
  components = a.components;
  start = a.start;
  place = a.attributes.place;
  size = a.attributes.size;
}

abbrev pub answered : Check Reading → Answer
answered k = told (answer k)

-- of an accepted file, whose root has these attributes
abbrev pub read : ℕ → ℕ → ℕ → Span → Answer
read objects components start s =
    record { number = 0; object = 0; component = 0; objects = objects; components = components; start = start; place = s.place; size = s.size }

-- what stands at `left`, or nothing, is a whole item in the file
abbrev pub AttributesIs : List ℕ → ℕ → ℕ → Span → Type 0
AttributesIs m left end r = ItemIs 31 m left end r

-- the manifest m read into a table
abbrev into : Layout → ℕ → List ℕ → List ℕ → Check Reading
into L start m before = manifest_reading L (start + length m) start m >>= roomy (length before)

-- how many numbers of a table stand before rows that need so many: none, or all that is left where the rows are its last
unfoldable pub before_rows : Bool → ℕ → ℕ → ℕ
before_rows false room needed = 0
before_rows true room needed = room - needed

-- a table with rows that need so many numbers laid over its beginning, or over its end
unfoldable pub laid_over : Bool → List ℕ → ℕ → List ℕ → List ℕ
laid_over false table needed l = l ++ drop needed table
laid_over true table needed l = take (length table - needed) table ++ l

-- what the lent table holds afterwards: untouched on refusal, and beside the rows
unfoldable pub placed : Bool → List ℕ → Check Reading → List ℕ
placed last table (refuse n o c) = table
placed last table (pass r) = laid_over last table (room_for r.model) (rows r.model)

abbrev pub end_after : List ℕ → Check Reading → List ℕ
end_after table k = placed true table k

abbrev pub Filled : Layout → Bool → ℕ → List ℕ → List ℕ → Answer → List ℕ → Type 0
Filled L last start m before r after = (r ≡ answered (into L start m before)) × (after ≡ placed last before (into L start m before))
