-- The leftmost key of a map that isn't whole text, and the leftmost second copy of a known field: how many bytes are left there, 0 for none.
use Rattle.std.specs.Prelude.{ℕ, ◌+◌, List, [], cond, ◌≡◌, length, replicate, eqb, ltb}
use Rattle.std.proofs.Math.Option.{Option, none, some}
use Rattle.meaning.specs.Tree.{Pair}
use Rattle.meaning.specs.Layouts.{Slots, somes, layout_of}
use Rattle.walk.specs.Reading.{Ends, Due, foldl}
use Rattle.fields.specs.Slots.{marks}
use Rattle.explained.specs.Step.{Step, first}
use Rattle.explained.specs.Order.{key_steps, repeat_steps}
use Rattle.keys.specs.declared.Odd.{Odd}

-- the fields of a map at this level: 0 the root, 1 an object, else a component
unfoldable pub slots_at : ℕ → ℕ → Slots
slots_at layout level = cond (eqb level 0) (layout_of layout).root (cond (eqb level 1) (layout_of layout).object (layout_of layout).component)

abbrev pub odd : ℕ → ℕ → Odd
odd k a = record { key = k; again = a }

-- the first that there is
unfoldable pub first_or : ℕ → ℕ → ℕ
first_or seen left = cond (eqb seen 0) left seen

-- after a key with so many bytes left, whose slot j of a list of `known` fields holds `held`
unfoldable pub after_key : ℕ → ℕ → ℕ → ℕ → ℕ
after_key known j left seen = cond (eqb j (known + 1)) (first_or seen left) seen

unfoldable pub after_copy : ℕ → ℕ → ℕ → ℕ → ℕ → ℕ
after_copy known j held left seen = cond (ltb j known) (cond (eqb held 0) seen (first_or seen left)) seen

unfoldable pub left_first : Option (Step Ends) → ℕ
left_first none = 0
left_first (some s) = length s.place.start

-- of pairs that are due at s: the slots of their known fields, and the two places
abbrev pub Noted : Slots → ℕ → ℕ → ℕ → List ℕ → List ℕ → Odd → Type 0
Noted ns d mode count s p r =
    (ps : List (Pair Ends)) (q : List ℕ) → Due d mode count s ps q
    → (p ≡ foldl (marks ns) (replicate (length ns + 3) 0) ps) × (r.key ≡ left_first (first (key_steps ps))) × (r.again ≡ left_first (first (repeat_steps (somes ns) [] ps)))
