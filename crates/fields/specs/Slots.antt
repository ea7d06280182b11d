-- Slots for the fields of a map, by any layout's list: a place of the list each, also where the layout hasn't got the field; then an unknown name, a key that isn't whole text, a known
-- name again. Each holds the bytes left at a value.
use Rattle.std.specs.Prelude.{ℕ, suc, ◌+◌, ◌-◌, ◌≤◌, ◌<◌, List, cond, ◌≡◌, length, get_or, drop, set, ltb, eqb}
use Rattle.std.proofs.Math.Option.{Option, none, some}
use Rattle.meaning.specs.Tree.{Node, Pair, note_of}
use Rattle.meaning.specs.Kind.{kind}
use Rattle.meaning.specs.Field.{key_kind, key_of}
use Rattle.meaning.specs.Layouts.{Slots}
use Rattle.types.specs.Known.{field_at}
use Rattle.walk.specs.Reading.{Ends, Reads, left_at}
use Rattle.walk.specs.Places.{Whatever}

unfoldable pub slot_of : Slots → Option (List ℕ) → ℕ
slot_of slots none = suc (length slots)
slot_of slots (some k) = field_at slots k

-- the slots p after a value at slot k with `left` bytes left
unfoldable pub marked : ℕ → List ℕ → ℕ → ℕ → List ℕ
marked known p k left = cond (ltb k known) (cond (eqb (get_or p k 0) 0) (set p k left) (set p (known + 2) left)) (set p k left)

-- the slots p after a pair
unfoldable pub marks : Slots → List ℕ → Pair Ends → List ℕ
marks slots p q = marked (length slots) p (slot_of slots (key_of q)) (left_at (some q.value))

-- k is the slot of the key that begins s
abbrev pub SlotIs : Slots → List ℕ → ℕ → Type 0
SlotIs slots s k = Whatever s λ d t r. k ≡ slot_of slots (key_kind (kind t))

-- the item t is read at the part of s where `left` bytes are left
pub record Stands (d : ℕ) (s : List ℕ) (left : ℕ) (t : Node Ends) : Type 0 where
  pub rest : List ℕ
  pub within : left ≤ length s
  pub left_is : left ≡ length (note_of t).start
  pub reads : Reads d (drop (length s - left) s) t rest

-- what stands at a place that may be none
abbrev pub Holds : ℕ → List ℕ → ℕ → Option (Node Ends) → Type 0
Holds d s left none = left ≡ 0
Holds d s left (some t) = (0 < left) × Stands d s left t

-- whatever stands at a place; and at a place that may be none
abbrev pub ItemAt : List ℕ → ℕ → (Node Ends → Type 0) → Type 0
ItemAt s left P = (d : ℕ) (t : Node Ends) → Stands (suc d) s left t → P t

abbrev pub OptionAt : List ℕ → ℕ → (Option (Node Ends) → Type 0) → Type 0
OptionAt s left P = (d : ℕ) (o : Option (Node Ends)) → Holds (suc d) s left o → P o
