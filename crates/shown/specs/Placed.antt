-- A tree whose nodes stand in the manifest, each whole text with its letters as the last bytes of its span. With d levels left for the tree, its parts have one fewer.
use Rattle.std.specs.Prelude.{ℕ, zero, suc, List}
use Rattle.meaning.specs.Tree.{Node, Nodes, Pairs, uint, nint, bytes, text, chunked_bytes, chunked_text, array, dict, tag, simple, float, ε, ◌▸◌, ∅, ◌⇒◌▸◌, Pair}
use Rattle.meaning.specs.Read.{Span}
use Rattle.meaning.specs.Layouts.{Layout}
use Rattle.shown.specs.Accepted.{WordStands, NodeStands}

-- one level fewer
abbrev pub less : ℕ → ℕ
less zero = zero
less (suc d) = d

module _ (L : Layout) (file : List ℕ) (start : ℕ) where
  abbrev mutual
    -- what a node holds
    pub Within : ℕ → Node Span → Type 0
    Within d (uint p n) = Unit {0}
    Within d (nint p n) = Unit {0}
    Within d (bytes p bs) = Unit {0}
    Within d (text p bs) = WordStands L file start (record { note = p; letters = bs })
    Within d (chunked_bytes p bs) = Unit {0}
    Within d (chunked_text p bs) = Unit {0}
    Within d (array p ns) = PlacedNodes (less d) ns
    Within d (dict p ps) = PlacedPairs (less d) ps
    Within d (tag p n t) = NodeStands L file start (less d) t × Within (less d) t
    Within d (simple p n) = Unit {0}
    Within d (float p w b) = Unit {0}

    pub PlacedNodes : ℕ → Nodes Span → Type 0
    PlacedNodes d ε = Unit {0}
    PlacedNodes d (◌▸◌ n ns) = (NodeStands L file start d n × Within d n) × PlacedNodes d ns

    pub PlacedPairs : ℕ → Pairs Span → Type 0
    PlacedPairs d ∅ = Unit {0}
    PlacedPairs d (◌⇒◌▸◌ k v ps) = ((NodeStands L file start d k × Within d k) × (NodeStands L file start d v × Within d v)) × PlacedPairs d ps

  -- the node and what it holds
  abbrev pub Placed : ℕ → Node Span → Type 0
  Placed d t = NodeStands L file start d t × Within d t

  abbrev pub PlacedPair : ℕ → Pair Span → Type 0
  PlacedPair d p = Placed d p.key × Placed d p.value
