-- The entry of an index in a map, and where its key and its value stand.
use Rattle.std.specs.Prelude.{ℕ, zero, suc, List, [], ◌∷◌, cond, ◌≡◌, length, eqb}
use Rattle.std.proofs.Math.Option.{Option, none, some}
use Rattle.meaning.specs.Tree.{Node, Pair, note_of}
use Rattle.meaning.specs.Check.{Check, pass, refuse}
use Rattle.meaning.specs.Kind.{a_mapping}
use Rattle.walk.specs.Reading.{Ends, Reads, Due}
use Rattle.entry.specs.declared.Places.{Places}

abbrev pub places : ℕ → ℕ → Places
places k v = record { key = k; value = v }

unfoldable pub chosen : ℕ → ℕ → ℕ → ℕ → Places → Places
chosen index n key value held = cond (eqb n index) (places key value) held

unfoldable pub nth : {A : Type 0} → ℕ → List A → Option A
nth i [] = none
nth zero (a ∷ l) = some a
nth (suc i) (a ∷ l) = nth i l

unfoldable pub left_both : Option (Pair Ends) → Places
left_both none = places 0 0
left_both (some p) = places (length (note_of p.key).start) (length (note_of p.value).start)

-- of pairs that are due at s, where `left` levels are left
abbrev pub Held : ℕ → ℕ → ℕ → List ℕ → ℕ → Places → Type 0
Held left mode count s index r = (ps : List (Pair Ends)) (q : List ℕ) → Due left mode count s ps q → r ≡ left_both (nth index ps)

unfoldable pub in_table : ℕ → Check (List (Pair Ends)) → Places
in_table index (pass ps) = left_both (nth index ps)
in_table index (refuse n o c) = places 0 0

-- of the map that begins s; nothing where it is no map
abbrev pub EntryIs : ℕ → List ℕ → ℕ → Places → Type 0
EntryIs left s index r = (t : Node Ends) (q : List ℕ) → Reads (suc left) s t q → r ≡ in_table index (a_mapping t)
