-- Where an engine's rows stand in any list of numbers, as the code asks it.
use Rattle.std.specs.Prelude.{ℕ, ◌+◌, List, Bool, cond, ◌&&◌, length, eqb, leb, Some, None, Option}
use Rattle.meaning.specs.Check.{Check, pass, refuse}
use Rattle.engines.specs.Shared.{Who, first, second, who_of, flag_of, held_of, objects_of, components_of, state_sound, Shared, own, part_of, usable, opened}
use Rattle.engines.specs.Calls.{place_of}
use Rattle.states.specs.declared.Usage.{Usage}
use Rattle.states.specs.declared.Place.{Place}
use Rattle.states.specs.declared.Place.TheVariants.{Nowhere, Idle, Loaded}

-- a state's engine: so many numbers are free, or its rows stand at a place
unfoldable pub stands_by : ℕ → ℕ → List ℕ → Place
stands_by place free state = cond (eqb (flag_of state) 0) (Idle free) (Loaded place (held_of state) (objects_of state) (components_of state))

module _ (size : ℕ) where
  abbrev both_if : Bool → ℕ → ℕ → Option Usage
  both_if b front back = cond b (Some (record { front = front; back = back })) None

  -- the numbers that two states hold
  unfoldable pub fitting : List ℕ → List ℕ → Option Usage
  fitting a b = both_if (state_sound a && state_sound b && leb (held_of a + held_of b) size) (held_of a) (held_of b)

  -- the numbers that both hold
  unfoldable pub both : List ℕ → Option Usage
  both l = both_if (usable size l (part_of size first l) (part_of size second l)) (held_of (part_of size first l).state) (held_of (part_of size second l).state)

  unfoldable pub stands : Who → Check Shared → Place
  stands w (refuse n o c) = Nowhere
  stands w (pass s) = stands_by (place_of size w (own w s)) (length s.free) (own w s).state

  abbrev stands_as : Check Who → Check Shared → Place
  stands_as (pass w) k = stands w k
  stands_as (refuse n o c) k = Nowhere

  unfoldable pub standing : ℕ → List ℕ → Place
  standing engine l = stands_as (who_of engine) (opened size l)
