-- What is answered of two files before ROOM: the merge's refusal, whatever rows and output are lent, or what is needed to lay the merged file.
use Rattle.std.specs.Prelude.{ℕ, ◌+◌, ◌≤◌, List, [], map, cond, ◌&&◌, ◌≡◌, length, eqb, Ok, Err, Result}
use Rattle.meaning.specs.Limit.{object_limit, end_limit}
use Rattle.meaning.specs.Check.{pass}
use Rattle.meaning.specs.Read.{Span}
use Rattle.meaning.specs.Layouts.{layout_of}
use Rattle.meaning.specs.Frame.{Reading, reading}
use Rattle.meaning.specs.Rows.{attributes_span, component_count}
use Rattle.meaning.specs.Described.{blobs, described_by}
use Rattle.meaning.specs.Placement.{placement, last_end}
use Rattle.readback.specs.Lent.{Held}
use Rattle.rows.specs.Turns.{reached}
use Rattle.sizes.specs.Size.{optional_copy}
use Rattle.roundtrip.specs.Again.{plain_file}
use Rattle.merging.specs.Merge.{merged, refused, merge, roomed}
use Rattle.merger.specs.declared.checks.Verdict.{Verdict}
use Rattle.merger.specs.declared.checks.MergeFault.{MergeFault}
use Rattle.numbers.specs.Numbered.{number_of}
use Rattle.numbers.specs.declared.refusal.Refusal.{Refusal}
use Rattle.numbers.specs.declared.fault.FileFault.{FileFault}

-- a refusal of the first or second file, or of the merged one
abbrev pub of_file : ℕ → FileFault → MergeFault
of_file file f = record { refusal = f.refusal; file = file; object = f.object; component = f.component }

abbrev pub of_merged : Refusal → MergeFault
of_merged r = record { refusal = r; file = 0; object = 0; component = 0 }

abbrev pub span : ℕ → ℕ → Span
span place size = record { place = place; size = size }

-- the kept attributes' bytes with their key
unfoldable pub attributes_size : ℕ → ℕ → ℕ → ℕ → ℕ
attributes_size place size other length = cond (eqb place 0 && eqb size 0) (optional_copy 11 (span other length)) (optional_copy 11 (span place size))

-- both files are read, and only ROOM is left
pub record Ready (l : ℕ) (first : List ℕ) (l' : ℕ) (second : List ℕ) (v : Verdict) : Type 0 where
  pub held : Held first
  pub held' : Held second
  pub read : Reading
  pub read' : Reading
  pub is : reading (layout_of l) first ≡ pass read
  pub is' : reading (layout_of l') second ≡ pass read'
  pub objects : v.objects ≡ length read.model.objects
  pub components : v.components ≡ component_count read.model.objects
  pub attributes : span v.place v.size ≡ attributes_span read.model.attributes
  pub objects' : v.others ≡ length read'.model.objects
  pub components' : v.parts ≡ component_count read'.model.objects
  pub attributes' : span v.other v.rest ≡ attributes_span read'.model.attributes
  pub few : v.objects + v.others ≤ object_limit
  pub turn_is : v.turn ≡ reached [] 8 (map length (blobs (described_by first read.model)))
  pub in-time : last_end (placement (map length (blobs (merged (described_by first read.model) (described_by second read'.model)))))
      (map length (blobs (merged (described_by first read.model) (described_by second read'.model)))) ≤ end_limit
  pub long-is : v.long ≡ length (plain_file (merged (described_by first read.model) (described_by second read'.model)))
  pub left : (lent room : ℕ) → merge (layout_of l) first (layout_of l') second lent room ≡ roomed (merged (described_by first read.model) (described_by second read'.model)) lent room

abbrev pub Cases : ℕ → List ℕ → ℕ → List ℕ → Result Verdict MergeFault → Type 0
Cases l first l' second (Err f) = (lent room : ℕ) → merge (layout_of l) first (layout_of l') second lent room ≡ refused f.file (number_of f.refusal) f.object f.component
Cases l first l' second (Ok v) = Ready l first l' second v

pub record CheckedIs (l : ℕ) (first : List ℕ) (l' : ℕ) (second : List ℕ) (x : Result Verdict MergeFault) : Type 0 where
  pub case : Cases l first l' second x
