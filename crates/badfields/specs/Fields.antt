-- What is asked of the entries of a map with known fields, before its fields are looked at; and the spot of a value from its check.
use Rattle.std.specs.Prelude.{ℕ, ◌+◌, List, [], ◌++◌, ◌≡◌, length, replicate}
use Rattle.meaning.specs.Tree.{Pair}
use Rattle.meaning.specs.Check.{Check, pass, refuse}
use Rattle.meaning.specs.Layouts.{Slots, somes}
use Rattle.walk.specs.Reading.{Ends, Due, foldl}
use Rattle.fields.specs.Slots.{marks}
use Rattle.explained.specs.Step.{Step, first}
use Rattle.explained.specs.Order.{key_steps, repeat_steps}
use Rattle.spot.specs.Shown.{spot, shown}
use Rattle.spot.specs.Shown.{Spot}

-- keys, then repeats
abbrev pub entry_steps : {P : Type 0} → Slots → List (Pair P) → List (Step P)
entry_steps ns ps = key_steps ps ++ repeat_steps (somes ns) [] ps

-- of pairs that are due at s: the slots of their known fields, and the first check of them that breaks
abbrev pub FirstIs : Slots → ℕ → ℕ → ℕ → List ℕ → List ℕ → Spot → Type 0
FirstIs ns d mode count s p r =
    (ps : List (Pair Ends)) (q : List ℕ) → Due d mode count s ps q → (p ≡ foldl (marks ns) (replicate (length ns + 3) 0) ps) × (r ≡ shown (first (entry_steps ns ps)))

-- what a check of one thing says, that has so many bytes left
abbrev pub spot_of : {A : Type 0} → ℕ → Check A → Spot
spot_of left (pass a) = spot 0 0
spot_of left (refuse n o c) = spot n left
