-- What the walk over a root's entries notes: the slots of its fields, and what was found among its objects. `start` is where the manifest begins.
use Rattle.std.specs.Prelude.{ℕ, List, Bool, ◌≡◌, Result}
use Rattle.meaning.specs.Tree.{Node, Pair}
use Rattle.meaning.specs.Layouts.{Layout, objects_at}
use Rattle.walk.specs.Reading.{Ends}
use Rattle.fields.specs.FieldWalk as keeping
use Rattle.objects.specs.declared.Found.{Found}
use Rattle.objects.specs.Found.{objects_by, judged}
use Rattle.numbers.specs.declared.fault.FileFault.{FileFault}
use Rattle.numbers.specs.Answered.{in_file}

-- of objects that are judged, or passed over where only names are asked for
abbrev pub Says : Bool → Layout → ℕ → Node Ends → Result Found FileFault → Type 0
Says deep L start t found = in_file found ≡ judged (objects_by deep L start t)

abbrev pub Noted : Bool → Layout → ℕ → List ℕ → Result Found FileFault → List (Pair Ends) → Type 0
Noted deep L start = keeping.Noted L.root 3 objects_at (Says deep L start)

abbrev pub Walked : Bool → Layout → ℕ → ℕ → ℕ → List ℕ → List ℕ → Result Found FileFault → Type 0
Walked deep L start = keeping.Walked L.root 3 objects_at (Says deep L start) 31

abbrev pub ValueIs : Bool → Layout → ℕ → ℕ → ℕ → List ℕ → Result Found FileFault → Result Found FileFault → Type 0
ValueIs deep L start = keeping.ValueIs L.root 3 objects_at (Says deep L start) 31
