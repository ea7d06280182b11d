-- Demand 3 and Req 06: which manifests are the same to every reader of a layout. Pairs may be moved about within the root, an object or a component map that stands in its
-- place; names in the maps of objects and components keep their order.
use Rattle.std.specs.Prelude.{ℕ, List, [], ◌∷◌, true, ◌≡◌}
use Rattle.std.proofs.Math.Option.{Option}
use Rattle.meaning.specs.Tree.{Node, Pair, Pairs, dict, pair_list, meaning}
use Rattle.meaning.specs.Layouts.{slot, Layout, objects_at, components_at}
use Rattle.meaning.specs.Drop.{holds, drop_root}

-- the second list is the first with `a` put in somewhere
pub data Inserted {A : Type 0} (a : A) : List A → List A → Type 0 where
  first : {l : List A} → Inserted a l (a ∷ l)
  later : {b : A} {l m : List A} → Inserted a l m → Inserted a (b ∷ l) (b ∷ m)

module _ {P : Type 0} where
  -- any permutation, each pair beside one that is related to it
  pub data Permuted (R : Pair P → Pair P → Type 0) : List (Pair P) → List (Pair P) → Type 0 where
    done : Permuted R [] []
    put : {p q : Pair P} {l m n : List (Pair P)} → R p q → Permuted R l m → Inserted q m n → Permuted R (p ∷ l) n

  -- the entries of a map of names: in order, with related values
  pub data Entries (R : Node P → Node P → Type 0) : List (Pair P) → List (Pair P) → Type 0 where
    end : Entries R [] []
    next : {p q : Pair P} {l m : List (Pair P)} → p.key ≡ q.key → R p.value q.value → Entries R l m → Entries R (p ∷ l) (q ∷ m)

  -- the same, or two maps with so related pairs
  pub data InMaps (R : List (Pair P) → List (Pair P) → Type 0) : Node P → Node P → Type 0 where
    alike : {t : Node P} → InMaps R t t
    maps : {p : P} {ps qs : Pairs P} → R (pair_list ps) (pair_list qs) → InMaps R (dict p ps) (dict p qs)

  -- the same pair, or values of this field so related
  pub data Under (s : Option (List ℕ)) (R : Node P → Node P → Type 0) : Pair P → Pair P → Type 0 where
    whole : {p : Pair P} → Under s R p p
    value : {p q : Pair P} → holds s p ≡ true → p.key ≡ q.key → R p.value q.value → Under s R p q

  abbrev pub ComponentMoved : Node P → Node P → Type 0
  ComponentMoved = InMaps (Permuted (λ p q. p ≡ q))

  module _ (L : Layout) where
    abbrev pub ObjectMoved : Node P → Node P → Type 0
    ObjectMoved = InMaps (Permuted (Under (slot components_at L.object) (InMaps (Entries ComponentMoved))))

    abbrev pub RootMoved : Node P → Node P → Type 0
    RootMoved = InMaps (Permuted (Under (slot objects_at L.root) (InMaps (Entries ObjectMoved))))

-- the same once unknown fields are dropped and versions are read alike, but for the order of fields
abbrev pub Same : Layout → {P Q : Type 0} → Node P → Node Q → Type 0
Same L t u = RootMoved L (drop_root L (meaning t)) (drop_root L (meaning u))
