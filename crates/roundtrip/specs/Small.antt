-- Trees whose unsigned integers are below 2 ^ 64, those under a tag apart: no shape stands there.
use Rattle.meaning.specs.Tree.{Node, Nodes, Pairs, uint, nint, bytes, text, chunked_bytes, chunked_text, array, dict, tag, simple, float, ε, ◌▸◌, ∅, ◌⇒◌▸◌}
use Rattle.readback.specs.Fine.{Fits}

module _ {P : Type 0} where
  abbrev mutual
    pub Small : Node P → Type 0
    Small (uint p n) = Fits n
    Small (nint p n) = Unit {0}
    Small (bytes p bs) = Unit {0}
    Small (text p bs) = Unit {0}
    Small (chunked_bytes p bs) = Unit {0}
    Small (chunked_text p bs) = Unit {0}
    Small (array p ns) = SmallNodes ns
    Small (dict p ps) = SmallPairs ps
    Small (tag p n t) = Unit {0}
    Small (simple p n) = Unit {0}
    Small (float p w b) = Unit {0}

    pub SmallNodes : Nodes P → Type 0
    SmallNodes ε = Unit {0}
    SmallNodes (◌▸◌ n ns) = Small n × SmallNodes ns

    pub SmallPairs : Pairs P → Type 0
    SmallPairs ∅ = Unit {0}
    SmallPairs (◌⇒◌▸◌ k v ps) = Small v × SmallPairs ps
