-- Document 01, "CBOR carried": items as trees. Every node carries an annotation of a type P: its span where it was read, nothing where only the meaning counts.
-- Widths of arguments, and definite against indefinite containers, are forgotten; the chunks of a string are joined, and a chunked string differs from a whole one.
use Rattle.std.specs.Prelude.{ℕ, List, [], ◌∷◌, ◌≡◌, refl}
use Rattle.std.proofs.Common.{ap}

mutual
  pub data Node (P : Type 0) : Type 0 where
    uint : P → ℕ → Node P
    -- the number −1 − n
    nint : P → ℕ → Node P
    bytes : P → List ℕ → Node P
    text : P → List ℕ → Node P
    chunked_bytes : P → List ℕ → Node P
    chunked_text : P → List ℕ → Node P
    array : P → Nodes P → Node P
    dict : P → Pairs P → Node P
    tag : P → ℕ → Node P → Node P
    simple : P → ℕ → Node P
    -- width in bytes, and bits
    float : P → ℕ → ℕ → Node P

  pub data Nodes (P : Type 0) : Type 0 where
    ε : Nodes P
    ◌▸◌ : Node P → Nodes P → Nodes P

  pub data Pairs (P : Type 0) : Type 0 where
    ∅ : Pairs P
    ◌⇒◌▸◌ : Node P → Node P → Pairs P → Pairs P

-- a pair of a map
pub record Pair (P : Type 0) : Type 0 where
  pub key : Node P
  pub value : Node P

module _ {P : Type 0} where
  abbrev pub nodes : List (Node P) → Nodes P
  nodes [] = ε
  nodes (n ∷ ns) = ◌▸◌ n (nodes ns)

  abbrev pub pairs : List (Pair P) → Pairs P
  pairs [] = ∅
  pairs (p ∷ ps) = ◌⇒◌▸◌ p.key p.value (pairs ps)

  abbrev pub node_list : Nodes P → List (Node P)
  node_list ε = []
  node_list (◌▸◌ n ns) = n ∷ node_list ns

  abbrev pub pair_list : Pairs P → List (Pair P)
  pair_list ∅ = []
  pair_list (◌⇒◌▸◌ k v ps) = record { key = k; value = v } ∷ pair_list ps

  abbrev pub note_of : Node P → P
  note_of (uint p n) = p
  note_of (nint p n) = p
  note_of (bytes p bs) = p
  note_of (text p bs) = p
  note_of (chunked_bytes p bs) = p
  note_of (chunked_text p bs) = p
  note_of (array p ns) = p
  note_of (dict p ps) = p
  note_of (tag p n t) = p
  note_of (simple p n) = p
  note_of (float p w b) = p

  pub node_list-nodes : (l : List (Node P)) → node_list (nodes l) ≡ l
  node_list-nodes [] = refl
  node_list-nodes (n ∷ l) = ap {B = List (Node P)} (λ r. n ∷ r) (node_list-nodes l)

  pub pair_list-pairs : (l : List (Pair P)) → pair_list (pairs l) ≡ l
  pair_list-pairs [] = refl
  pair_list-pairs (n ∷ l) = ap {B = List (Pair P)} (λ r. n ∷ r) (pair_list-pairs l)

-- a tree with its annotations changed
module _ {P Q : Type 0} (f : P → Q) where
  abbrev mutual
    pub map_p : Node P → Node Q
    map_p (uint p n) = uint (f p) n
    map_p (nint p n) = nint (f p) n
    map_p (bytes p bs) = bytes (f p) bs
    map_p (text p bs) = text (f p) bs
    map_p (chunked_bytes p bs) = chunked_bytes (f p) bs
    map_p (chunked_text p bs) = chunked_text (f p) bs
    map_p (array p ns) = array (f p) (map_nodes ns)
    map_p (dict p ps) = dict (f p) (map_pairs ps)
    map_p (tag p n t) = tag (f p) n (map_p t)
    map_p (simple p n) = simple (f p) n
    map_p (float p w b) = float (f p) w b

    pub map_nodes : Nodes P → Nodes Q
    map_nodes ε = ε
    map_nodes (◌▸◌ n ns) = ◌▸◌ (map_p n) (map_nodes ns)

    pub map_pairs : Pairs P → Pairs Q
    map_pairs ∅ = ∅
    map_pairs (◌⇒◌▸◌ k v ns) = ◌⇒◌▸◌ (map_p k) (map_p v) (map_pairs ns)

abbrev pub nothing : {P : Type 0} → P → Unit {0}
nothing p = tt

-- the meaning of an item: its tree with the annotations forgotten
abbrev pub meaning : {P : Type 0} → Node P → Node (Unit {0})
meaning = map_p nothing
