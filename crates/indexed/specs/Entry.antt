-- An entry of a map of names: its name and its value stand at these places of the map's bytes s, where d levels are left.
use Rattle.std.specs.Prelude.{ℕ, List, ◌≡◌}
use Rattle.meaning.specs.Tree.{Node}
use Rattle.meaning.specs.Check.{pass}
use Rattle.meaning.specs.Model.{Named}
use Rattle.meaning.specs.Kind.{a_word}
use Rattle.walk.specs.Reading.{Ends}
use Rattle.fields.specs.Slots.{Stands}
use Rattle.entry.specs.declared.Places.{Places}

pub record EntryAt (d : ℕ) (s : List ℕ) (n : Named Ends) (at : Places) : Type 0 where
  pub key : Node Ends
  pub spells : a_word key ≡ pass n.name
  pub key-stands : Stands d s at.key key
  pub value-stands : Stands d s at.value n.value
