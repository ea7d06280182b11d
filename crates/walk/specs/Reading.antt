-- A tree as it was read: every item is annotated with the bytes left where it begins and where it ends, so that a part of the bytes stands for a node of the tree.
use Rattle.std.specs.Prelude.{ℕ, ◌+◌, ◌≤◌, List, [], ◌∷◌, ◌≡◌, length, get_or}
use Rattle.std.proofs.Math.Option.{Option, none, some}
use Rattle.meaning.specs.Tree.{Node, Pair, note_of}
use Rattle.meaning.specs.Read.{Reader, got, item}

pub record Ends : Type 0 where
  pub start : List ℕ
  pub rest : List ℕ

abbrev pub ends : List ℕ → List ℕ → Ends
ends s r = record { start = s; rest = r }

-- the bytes s begin with the item t, where d levels are left, and go on with r
abbrev pub Reads : ℕ → List ℕ → Node Ends → List ℕ → Type 0
Reads d s t r = item ends d s ≡ got t r

-- how many bytes are left where an item begins; 0 for none
abbrev pub left_at : Option (Node Ends) → ℕ
left_at none = 0
left_at (some t) = length (note_of t).start

-- pairs that are read one after the other
abbrev pub Chain : ℕ → List ℕ → List (Pair Ends) → List ℕ → Type 0
Chain d s [] r = s ≡ r
Chain d s (p ∷ ps) r = (m : List ℕ) × (q : List ℕ) × Reads d s p.key m × Reads d m p.value q × Chain d q ps r

-- pairs that are still due, in the terms of `cbor`: `due` items of them (mode 0), or those up to a break
pub record Due (d mode due : ℕ) (s : List ℕ) (ps : List (Pair Ends)) (r : List ℕ) : Type 0 where
  pub chain : Chain d s ps r
  pub counted : mode ≡ 0 → due ≡ length ps + length ps
  pub closed : 1 ≤ mode → get_or r 0 0 ≡ 255

module _ {A : Type 0} where
  -- parts that one reader reads one after the other
  abbrev pub Row : Reader A → List ℕ → List A → List ℕ → Type 0
  Row m s [] r = s ≡ r
  Row m s (x ∷ xs) r = (q : List ℕ) × (m s ≡ got x q) × Row m q xs r

abbrev pub NodeChain : ℕ → List ℕ → List (Node Ends) → List ℕ → Type 0
NodeChain d = Row (item ends d)

-- nodes that are still due: `due` of them (mode 0), or those up to a break
pub record DueNodes (d mode due : ℕ) (s : List ℕ) (xs : List (Node Ends)) (r : List ℕ) : Type 0 where
  pub chain : NodeChain d s xs r
  pub counted : mode ≡ 0 → due ≡ length xs
  pub closed : 1 ≤ mode → get_or r 0 0 ≡ 255

module _ {A S : Type 0} where
  abbrev pub foldl : (S → A → S) → S → List A → S
  foldl f z [] = z
  foldl f z (x ∷ xs) = foldl f (f z x) xs
