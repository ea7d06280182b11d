-- The order of the list: the first's objects, a 3 before its 4s and 5s by the first's components, these before its 6s by the second's; after all, the 2s by the second's objects.
use Rattle.std.specs.Prelude.{ℕ, ◌<◌, List, [], ◌∷◌, cond, ◌||◌, ◌⊎◌, ◌≡◌, eqb}
use Rattle.changes.specs.Changes.{Entry}
use Rattle.changes.specs.Differs.{In}

abbrev pub section : ℕ → ℕ
section kind = cond (eqb kind 6) 2 (cond (eqb kind 4 || eqb kind 5) 1 0)

abbrev pub key : Entry → List ℕ
key e = cond (eqb e.kind 2) (1 ∷ e.second ∷ []) (0 ∷ e.first ∷ section e.kind ∷ cond (eqb e.kind 6) e.part_second e.part_first ∷ [])

-- as words in a dictionary
abbrev pub Less : List ℕ → List ℕ → Type 0
Less [] ys = ⊥
Less (x ∷ xs) [] = ⊥
Less (x ∷ xs) (y ∷ ys) = (x < y) ⊎ ((x ≡ y) × Less xs ys)

-- each stands before all that follow
abbrev pub Rising : List Entry → Type 0
Rising [] = Unit {0}
Rising (e ∷ l) = ((f : Entry) → In f l → Less (key e) (key f)) × Rising l
