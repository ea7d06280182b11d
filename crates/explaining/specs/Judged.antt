-- The explanation of a file, stage by stage.
use Rattle.std.specs.Prelude.{ℕ, ◌+◌, ◌*◌, List, cond, ◌≡◌, length, take, drop, leb}
use Rattle.std.proofs.Math.Option.{none, some}
use Rattle.meaning.specs.Tree.{Node}
use Rattle.meaning.specs.Check.{pass, refuse}
use Rattle.meaning.specs.Refusal.{ROOM}
use Rattle.meaning.specs.Columns.{object_width, component_width}
use Rattle.meaning.specs.Notes.{map_option}
use Rattle.meaning.specs.Layouts.{Layout, layout_of}
use Rattle.meaning.specs.Frame.{frame}
use Rattle.meaning.specs.Judge.{object, judge}
use Rattle.meaning.specs.Model.{Named}
use Rattle.component.specs.Value.{left_word}
use Rattle.spot.specs.Shown.{Spot}
use Rattle.walk.specs.Reading.{Ends, Reads}
use Rattle.reader.specs.Verdict.{manifest_reading}
use Rattle.table.specs.Spans.{span_of}
use Rattle.explained.specs.Step.{Step, first}
use Rattle.explained.specs.Notes.{map_step}
use Rattle.explained.specs.Order.{manifest_steps, object_steps}
use Rattle.explained.specs.Explain as explain
use Rattle.explained.specs.Explain.{span, alone}
use Rattle.badroot.specs.Opening.{ObjectsAt, Opened}
use Rattle.sentence.specs.Given as given
use Rattle.sentence.specs.declared.Explanation.{Explanation}

-- what ten numbers say
abbrev pub explanation : Explanation → explain.Explanation
explanation = given.explanation

-- of a tree whose annotations are the bytes left: the first check that breaks, its places in a file where the manifest ends at `end`
abbrev pub told : Layout → ℕ → ℕ → Node Ends → explain.Explanation
told L start end t = explain.explanation (map_option (map_step (span_of end)) (first (manifest_steps L start t))) 0

-- of whatever tree the manifest m is read as, which is refused with these numbers
abbrev pub JudgedIs : Layout → List ℕ → ℕ → ℕ → ℕ → ℕ → ℕ → Explanation → Type 0
JudgedIs L m start end n o c r = (t : Node Ends) (q : List ℕ) → Reads 32 m t q → judge L start t ≡ refuse n o c → explanation r ≡ told L start end t

-- the same, where no check before the objects' own breaks and the objects stand at this place
abbrev pub InsideIs : Layout → List ℕ → ℕ → ℕ → ℕ → ℕ → ℕ → ℕ → Explanation → Type 0
InsideIs L m start end n o c at r =
    (t : Node Ends) (q : List ℕ) → Reads 32 m t q → judge L start t ≡ refuse n o c → Opened L start t → ObjectsAt L m at → explanation r ≡ told L start end t

-- of the object that is read at s, which is refused with the number n for its component c: where its own first check that breaks looks, and where that component's name stands
abbrev pub OwnedIs : Layout → List ℕ → ℕ → ℕ → ℕ → Spot → ℕ → Type 0
OwnedIs L s start n c sp key =
    (it : Named Ends) (q : List ℕ) (o : ℕ) → Reads 30 s it.value q → object L start it ≡ refuse n o c
    → (y : Step Ends) → first (object_steps L start it) ≡ some y → (left_word y.component_name ≡ key) × (sp.left ≡ length y.place.start)

-- of a sound file with so many objects and components
unfoldable pub sound : ℕ → ℕ → ℕ → explain.Explanation
sound objects components room =
    cond (leb (object_width * objects + component_width * components) room) (explain.explanation none 0)
    (explain.explanation (some (alone ROOM (span 0 0))) (object_width * objects + component_width * components))

-- the manifest m is what the frame of this file says
pub record Framed (L : Layout) (file m : List ℕ) (start end : ℕ) : Type 0 where
  pub size : ℕ
  pub frames : frame L file ≡ pass (record { start = start; size = size })
  pub ends : start + size ≡ end
  pub is : m ≡ take size (drop start file)

-- of every file with this manifest
abbrev pub RefusedIs : Layout → List ℕ → ℕ → ℕ → ℕ → ℕ → ℕ → Explanation → Type 0
RefusedIs L m start end n o c r =
    manifest_reading L end start m ≡ refuse n o c → (file : List ℕ) → Framed L file m start end → (room : ℕ) → explanation r ≡ explain.explain L file room

abbrev pub ManifestIs : Layout → List ℕ → ℕ → ℕ → ℕ → Explanation → Type 0
ManifestIs L m start end room r = (file : List ℕ) → Framed L file m start end → explanation r ≡ explain.explain L file room

-- of a file to a table of so many numbers
abbrev pub ExplainedIs : ℕ → List ℕ → ℕ → Explanation → Type 0
ExplainedIs layout file room r = explanation r ≡ explain.explain (layout_of layout) file room
