-- A property of every element of a list, and of what may be absent.
use Rattle.std.specs.Prelude.{List, [], ◌∷◌}
use Rattle.std.proofs.Math.Option.{Option, none, some}

module _ {A : Type 0} (P : A → Type 0) where
  abbrev pub Every : List A → Type 0
  Every [] = Unit {0}
  Every (a ∷ as') = P a × Every as'

  abbrev pub IfAny : Option A → Type 0
  IfAny none = Unit {0}
  IfAny (some a) = P a
