-- How many bytes of text stand in a tree: those of its whole texts, in maps to any depth. No reading finds more of them than it takes bytes.
use Rattle.std.specs.Prelude.{ℕ, ◌+◌, List, [], ◌∷◌, length}
use Rattle.meaning.specs.Tree.{Node, Pairs, Pair, uint, nint, bytes, text, chunked_bytes, chunked_text, array, dict, tag, simple, float, ∅, ◌⇒◌▸◌}
use Rattle.meaning.specs.Model.{Named, Component, Object, Model}

-- of all together
abbrev pub sum_of : {A : Type 0} → (A → ℕ) → List A → ℕ
sum_of w [] = 0
sum_of w (a ∷ l) = w a + sum_of w l

module _ {P : Type 0} where
  abbrev mutual
    pub weight : Node P → ℕ
    weight (uint p n) = 0
    weight (nint p n) = 0
    weight (bytes p bs) = 0
    weight (text p bs) = length bs
    weight (chunked_bytes p bs) = 0
    weight (chunked_text p bs) = 0
    weight (array p ns) = 0
    weight (dict p ps) = weight_of_pairs ps
    weight (tag p n t) = 0
    weight (simple p n) = 0
    weight (float p w b) = 0

    pub weight_of_pairs : Pairs P → ℕ
    weight_of_pairs ∅ = 0
    weight_of_pairs (◌⇒◌▸◌ k v ps) = weight k + weight v + weight_of_pairs ps

  abbrev pub pair_weight : Pair P → ℕ
  pair_weight p = weight p.key + weight p.value

  abbrev pub named_weight : Named P → ℕ
  named_weight n = length n.name.letters + weight n.value

  -- what a listing prints of a model's texts, before escapes
  abbrev pub component_weight : Component P → ℕ
  component_weight c = length c.name.letters

  abbrev pub object_weight : Object P → ℕ
  object_weight o = length o.name.letters + length o.format.letters + sum_of component_weight o.components

  abbrev pub model_weight : Model P → ℕ
  model_weight m = sum_of object_weight m.objects
