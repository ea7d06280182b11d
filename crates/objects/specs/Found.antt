-- What is answered about the `objects` map, in the words of meaning's judgement.
use Rattle.std.specs.Prelude.{ℕ, List, [], Bool, true, false, ◌≡◌, length, Result}
use Rattle.std.proofs.Math.Option.{none}
use Rattle.meaning.specs.Tree.{Node}
use Rattle.meaning.specs.Limit.{object_limit}
use Rattle.meaning.specs.Check.{Check, pass, refuse, ◌>>=◌, in_object, each}
use Rattle.meaning.specs.Model.{Named, Object}
use Rattle.meaning.specs.Field.{names}
use Rattle.meaning.specs.Judge.{object}
use Rattle.meaning.specs.Rows.{component_count}
use Rattle.meaning.specs.Layouts.{Layout}
use Rattle.walk.specs.Reading.{Ends, Reads}
use Rattle.objects.specs.declared.Found.{Found}
use Rattle.numbers.specs.declared.fault.FileFault.{FileFault}
use Rattle.numbers.specs.Answered.{in_file}

-- an object that is passed over: it has its name and nothing more
unfoldable pub passed_over : {P : Type 0} → Named P → Object P
passed_over n = record { name = n.name; shape = []; format = n.name; attributes = none; components = [] }

-- an object judged, or passed over where only names are asked for
unfoldable pub judging : {P : Type 0} → Bool → Layout → ℕ → Named P → Check (Object P)
judging true L start n = object L start n
judging false L start n = pass (passed_over n)

-- names, then each object in turn
unfoldable pub objects_by : {P : Type 0} → Bool → Layout → ℕ → Node P → Check (List (Object P))
objects_by deep L start t = do
  ns ← names object_limit t
  each (λ i o. in_object i (judging deep L start o)) 0 ns

abbrev pub judged : Check (List (Object Ends)) → Check Found
judged (pass os) = pass (record { objects = length os; components = component_count os })
judged (refuse n o c) = refuse n o c

-- for every tree that s is read as, of a file whose manifest begins at `start`
abbrev pub ObjectsIs : Bool → Layout → List ℕ → ℕ → Result Found FileFault → Type 0
ObjectsIs deep L s start r = (t : Node Ends) (q : List ℕ) → Reads 31 s t q → in_file r ≡ judged (objects_by deep L start t)
