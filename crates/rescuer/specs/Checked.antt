-- What is answered of a rescue before ROOM: its refusal, whatever rows, list and output are lent, or what is needed to lay the rescued file.
use Rattle.std.specs.Prelude.{ℕ, ◌≤◌, List, ◌≡◌, length, Ok, Err, Result}
use Rattle.meaning.specs.Limit.{object_limit}
use Rattle.meaning.specs.Tree.{Node}
use Rattle.meaning.specs.Check.{Check, pass}
use Rattle.meaning.specs.Model.{Named, Object}
use Rattle.meaning.specs.Field.{names}
use Rattle.meaning.specs.Layouts.{layout_of}
use Rattle.meaning.specs.Rows.{component_count}
use Rattle.meaning.specs.Described.{described_by}
use Rattle.meaning.specs.Write.{written_plain}
use Rattle.meaning.specs.Every.{Every}
use Rattle.readback.specs.Lent.{Held}
use Rattle.walk.specs.Reading.{Ends, Reads}
use Rattle.roundtrip.specs.Again.{plain_file}
use Rattle.window.specs.Summed.{InWindow, Sum, spans}
use Rattle.rescuing.specs.Sift.{kept, dropped, verdicts, sifted}
use Rattle.rescuing.specs.Rescue.{refused, rescue, roomed}
use Rattle.sieve.specs.declared.Sieve.{Sieve}
use Rattle.rescuer.specs.Opened.{OpensAt, between}
use Rattle.rescuer.specs.declared.checks.Verdict.{Verdict}
use Rattle.numbers.specs.declared.fault.FileFault.{FileFault}
use Rattle.numbers.specs.Numbered.{number_of}

-- what the verdicts ks keep and drop, and what the kept ones add up to
pub record MeasuredOf (end : ℕ) (z : Sieve) (ks : List (Check (Object Ends))) : Type 0 where
  pub keeps : z.kept ≡ length (kept ks)
  pub drops : z.dropped ≡ length (dropped 0 ks)
  pub holds : z.components ≡ component_count (kept ks)
  pub weighs : Every InWindow (kept ks) → Sum 8 0 (spans end (kept ks)) z.place z.total

-- of every map of objects that is read at s and whose names pass
abbrev pub Measured : ℕ → List ℕ → ℕ → ℕ → Sieve → Type 0
Measured layout s start end z =
    (t : Node Ends) (r : List ℕ) → Reads 31 s t r → (ns : List (Named Ends)) → names object_limit t ≡ pass ns → length ns ≤ object_limit → MeasuredOf end z (verdicts (layout_of layout) start ns)

-- the file passes up to its objects' names, and only ROOM is left
pub record Ready (layout : ℕ) (file : List ℕ) (v : Verdict) : Type 0 where
  pub held : Held file
  pub opens : OpensAt (sifted (layout_of layout) file) layout 0 (length file) v.start v.end v.first (between file v.first v.end) v.place v.size
  pub kept-are : v.kept ≡ length opens.sift.model.objects
  pub dropped-are : v.dropped ≡ length opens.sift.dropped
  pub components-are : v.components ≡ component_count opens.sift.model.objects
  pub few : (v.kept ≤ 1024) × (v.dropped ≤ 1024) × (v.components ≤ 16384)
  pub long-is : v.long ≡ length (plain_file (described_by file opens.sift.model))
  pub writes : (room : ℕ) → v.long ≤ room → written_plain (described_by file opens.sift.model) room ≡ pass (plain_file (described_by file opens.sift.model))
  pub left : (lent list room : ℕ) → rescue (layout_of layout) file lent list room ≡ roomed file opens.sift lent list room

abbrev pub Cases : ℕ → List ℕ → Result Verdict FileFault → Type 0
Cases layout file (Err f) = (lent list room : ℕ) → rescue (layout_of layout) file lent list room ≡ refused (number_of f.refusal) f.object f.component
Cases layout file (Ok v) = Ready layout file v

pub record CheckedIs (layout : ℕ) (file : List ℕ) (v : Result Verdict FileFault) : Type 0 where
  pub case : Cases layout file v
