-- What is answered of a file that is judged up to its objects' names: the refusal, or what a rescue keeps and drops of it, by trees that carry the bytes left at each item, and where they are read.
use Rattle.std.specs.Prelude.{ℕ, ◌-◌, ◌≤◌, List, map, ◌≡◌, take, drop, Ok, Err, Result}
use Rattle.std.proofs.Math.Option.{some}
use Rattle.meaning.specs.Limit.{object_limit}
use Rattle.meaning.specs.Tree.{Node, map_p}
use Rattle.meaning.specs.Check.{Check, pass, refuse, ◌>>=◌}
use Rattle.meaning.specs.Notes.{map_option, map_named}
use Rattle.meaning.specs.Read.{Span, span_to, manifest}
use Rattle.meaning.specs.Model.{Named}
use Rattle.meaning.specs.Layouts.{Layout, layout_of}
use Rattle.meaning.specs.Field.{names}
use Rattle.meaning.specs.Frame.{checked}
use Rattle.meaning.specs.Rows.{attributes_span}
use Rattle.walk.specs.Reading.{Ends, Reads}
use Rattle.fields.specs.Slots.{Holds}
use Rattle.table.specs.Spans.{span_of}
use Rattle.window.specs.Summed.{spans}
use Rattle.rescuing.specs.Sift.{Opened, opened, kept, dropped, verdicts, Sifted, sift}
use Rattle.rescuer.specs.declared.opening.Told.{Told}
use Rattle.rescuer.specs.declared.opening.Found.{Found}
use Rattle.numbers.specs.declared.fault.FileFault.{FileFault}
use Rattle.numbers.specs.Numbered.{number_of}

-- the part of a sifting that follows the frame: the manifest s, which begins at `start` and ends at `end`
abbrev pub manifest_sifted : Layout → ℕ → ℕ → List ℕ → Check Sifted
manifest_sifted L end start s = do
  t ← checked (manifest (span_to end) s)
  o ← opened L t
  pass (sift L start o)

-- spans in place of the bytes left
abbrev pub spanned : ℕ → Opened Ends → Opened Span
spanned end o = record { attributes = map_option (map_p (span_of end)) o.attributes; named = map (map_named (span_of end)) o.named }

-- a manifest m that passes, with its attributes and its objects where so many bytes are left
pub record Opens (L : Layout) (end start : ℕ) (m : List ℕ) (left at : ℕ) : Type 0 where
  pub opening : Opened Ends
  pub objects : Node Ends
  pub names-are : names object_limit objects ≡ pass opening.named
  pub is : manifest_sifted L end start m ≡ pass (sift L start (spanned end opening))
  pub attributes-hold : Holds 31 m left opening.attributes
  pub objects-hold : Holds 31 m at (some objects)

abbrev pub NamesAre : Layout → ℕ → ℕ → List ℕ → Result Told FileFault → Type 0
NamesAre L end start m (Err f) = manifest_sifted L end start m ≡ refuse (number_of f.refusal) f.object f.component
NamesAre L end start m (Ok v) = Opens L end start m v.attributes v.objects

-- what passes with the outcome c, in bytes that begin at `low` and end at `top`: its objects' map is read at s, between `first` and `end`
pub record OpensAt (c : Check Sifted) (layout low top start end first : ℕ) (s : List ℕ) (place size : ℕ) : Type 0 where
  pub sift : Sifted
  pub is : c ≡ pass sift
  pub named : List (Named Ends)
  pub objects : Node Ends
  pub rest : List ℕ
  pub reads : Reads 31 s objects rest
  pub names-are : names object_limit objects ≡ pass named
  pub kept-are : sift.model.objects ≡ spans end (kept (verdicts (layout_of layout) start named))
  pub dropped-are : sift.dropped ≡ dropped 0 (verdicts (layout_of layout) start named)
  pub attributes-are : record { place = place; size = size } ≡ attributes_span sift.model.attributes
  pub ordered : (low ≤ first) × (first ≤ end) × (end ≤ top)

-- the bytes between two places of a manifest that begins at `start`, and of a file
abbrev pub behind : ℕ → List ℕ → ℕ → ℕ → List ℕ
behind start m first end = drop (first - start) (take (end - start) m)

abbrev pub between : List ℕ → ℕ → ℕ → List ℕ
between file first end = take (end - first) (drop first file)

abbrev pub Cases : Check Sifted → ℕ → ℕ → ℕ → (ℕ → ℕ → List ℕ) → Result Found FileFault → Type 0
Cases c layout low top piece (Err f) = c ≡ refuse (number_of f.refusal) f.object f.component
Cases c layout low top piece (Ok v) = OpensAt c layout low top v.start v.end v.first (piece v.first v.end) v.place v.size

-- of bytes that begin at `low` and end at `top`
pub record FoundIs (c : Check Sifted) (layout low top : ℕ) (piece : ℕ → ℕ → List ℕ) (w : Result Found FileFault) : Type 0 where
  pub case : Cases c layout low top piece w
