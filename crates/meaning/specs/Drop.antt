-- Demand 3: what an old reader passes over: unknown fields in the three kinds of map that stand in their place, and which well-shaped 1.x version it is.
use Rattle.std.specs.Prelude.{ℕ, List, map, Bool, false, cond, ◌&&◌, not}
use Rattle.std.proofs.Math.Option.{Option, none, some}
use Rattle.meaning.specs.Tree.{Node, Pair, uint, nint, bytes, text, chunked_bytes, chunked_text, array, dict, tag, simple, float, pairs, pair_list}
use Rattle.meaning.specs.Text.{filter, one_of, ascii}
use Rattle.meaning.specs.Version.{version_shape, major_one}
use Rattle.meaning.specs.Layouts.{Slots, slot, somes, Layout, version_at, objects_at, components_at}
use Rattle.meaning.specs.Field.{key_of, named}

-- whole text and none of the names
unfoldable pub is_unknown : List (List ℕ) → Option (List ℕ) → Bool
is_unknown known none = false
is_unknown known (some k) = not (one_of known k)

unfoldable pub plain_version : List ℕ → List ℕ
plain_version v = cond (version_shape v && major_one v) (ascii "1.0") v

module _ {P : Type 0} where
  unfoldable pub known : Slots → Pair P → Bool
  known slots p = not (is_unknown (somes slots) (key_of p))

  -- a pair of this field
  unfoldable pub holds : Option (List ℕ) → Pair P → Bool
  holds none p = false
  holds (some n) p = named n p

  -- a change of the pairs of a map
  unfoldable pub in_map : (List (Pair P) → List (Pair P)) → Node P → Node P
  in_map g (uint p n) = uint p n
  in_map g (nint p n) = nint p n
  in_map g (bytes p bs) = bytes p bs
  in_map g (text p bs) = text p bs
  in_map g (chunked_bytes p bs) = chunked_bytes p bs
  in_map g (chunked_text p bs) = chunked_text p bs
  in_map g (array p ns) = array p ns
  in_map g (dict p ps) = dict p (pairs (g (pair_list ps)))
  in_map g (tag p n t) = tag p n t
  in_map g (simple p n) = simple p n
  in_map g (float p w b) = float p w b

  -- a change of a whole text
  unfoldable pub in_text : (List ℕ → List ℕ) → Node P → Node P
  in_text g (uint p n) = uint p n
  in_text g (nint p n) = nint p n
  in_text g (bytes p bs) = bytes p bs
  in_text g (text p bs) = text p (g bs)
  in_text g (chunked_bytes p bs) = chunked_bytes p bs
  in_text g (chunked_text p bs) = chunked_text p bs
  in_text g (array p ns) = array p ns
  in_text g (dict p ps) = dict p ps
  in_text g (tag p n t) = tag p n t
  in_text g (simple p n) = simple p n
  in_text g (float p w b) = float p w b

  unfoldable pub on_value : (Node P → Node P) → Pair P → Pair P
  on_value g p = record { key = p.key; value = g p.value }

  -- a change of the values of a field
  unfoldable pub on_field : Option (List ℕ) → (Node P → Node P) → Pair P → Pair P
  on_field s g p = record { key = p.key; value = cond (holds s p) (g p.value) p.value }

module _ (L : Layout) {P : Type 0} where
  unfoldable pub drop_component : Node P → Node P
  drop_component = in_map (filter (known L.component))

  unfoldable pub drop_object : Node P → Node P
  drop_object = in_map (λ ps. map (on_field (slot components_at L.object) (in_map (map (on_value drop_component)))) (filter (known L.object) ps))

  unfoldable pub drop_root : Node P → Node P
  drop_root =
      in_map (λ ps. map (λ p. on_field (slot version_at L.root) (in_text plain_version) (on_field (slot objects_at L.root) (in_map (map (on_value drop_object))) p)) (filter (known L.root) ps))
