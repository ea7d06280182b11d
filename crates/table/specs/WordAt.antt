-- A text of a component that passes, its logical type or its digest: none, or one that stands in the component's bytes c.
use Rattle.std.specs.Prelude.{ℕ, suc, List, ◌≡◌, length}
use Rattle.std.proofs.Math.Option.{Option, none, some}
use Rattle.meaning.specs.Tree.{Node}
use Rattle.meaning.specs.Check.{pass}
use Rattle.meaning.specs.Model.{Word}
use Rattle.meaning.specs.Kind.{a_word}
use Rattle.walk.specs.Reading.{Ends}
use Rattle.fields.specs.Slots.{Holds}

pub data WordAt (c : List ℕ) (o : Option (Word Ends)) : Type 0 where
  bare : o ≡ none → WordAt c o
  lettered : (w : Word Ends) → o ≡ some w → (d : ℕ) (t : Node Ends) → Holds (suc d) c (length w.note.start) (some t) → a_word t ≡ pass w → WordAt c o
