-- A walk over a map that notes where its known fields stand and keeps what it finds in one of them: the field at the place i is walked where it is met first, every
-- other value is passed over. For any list of fields, with so many places, and whatever is said of the kept field's value and of what is kept.
use Rattle.std.specs.Prelude.{ℕ, ◌+◌, List, ◌≡◌, replicate}
use Rattle.std.proofs.Math.Option.{some}
use Rattle.meaning.specs.Tree.{Node, Pair}
use Rattle.meaning.specs.Layouts.{Slots, slot}
use Rattle.meaning.specs.Field.{field}
use Rattle.walk.specs.Reading.{Ends, Reads, Due, foldl}
use Rattle.fields.specs.Slots.{marks}

module _ (slots : Slots) (places i : ℕ) {S : Type 0} (Says : Node Ends → S → Type 0) where
  -- what is said of the kept field among these pairs, if it is there
  abbrev pub Held : List (Pair Ends) → S → Type 0
  Held ps kept = (t : Node Ends) → field (slot i slots) ps ≡ some t → Says t kept

  -- the slots p and what was kept, after these pairs
  abbrev pub Noted : List ℕ → S → List (Pair Ends) → Type 0
  Noted p kept ps = (p ≡ foldl (marks slots) (replicate (places + 3) 0) ps) × Held ps kept

  -- after all pairs that are due at s, where d levels are left
  abbrev pub Walked : ℕ → ℕ → ℕ → List ℕ → List ℕ → S → Type 0
  Walked d mode count s p kept = (ps : List (Pair Ends)) (r : List ℕ) → Due d mode count s ps r → Noted p kept ps

  -- the value that begins c, whose key has slot k, where the kept field's slot holds `seen`
  pub record ValueIs (d k seen : ℕ) (c : List ℕ) (before after : S) : Type 0 where
    pub first : k ≡ i → seen ≡ 0 → (t : Node Ends) (r : List ℕ) → Reads d c t r → Says t after
    pub other : (k ≡ i → seen ≡ 0 → ⊥) → after ≡ before
