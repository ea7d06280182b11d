-- The pieces of the manifest are written as its bytes, and DEEP is met in them exactly where attributes are too deep.
use Prim.Native.Nat.{ℕ}
use mathlib.Core.List.{List, [], ◌∷◌, ◌++◌, map}
use mathlib.Core.Bool.{Bool, true, false, cond}
use mathlib.Core.Option.{Option, none, some}
use mathlib.Core.Path.{◌≡◌, refl, ap, ◌∙◌}
use lib.ListN.{length, take, drop, get_or, length-map}
use Rattle.meaning.specs.Text.{ascii}
use Rattle.meaning.specs.Tree.{Node}
use Rattle.meaning.specs.Read.{joined}
use Rattle.meaning.specs.Notes.{map_option}
use Rattle.meaning.specs.Layouts.{root_names, object_names, component_names}
use Rattle.meaning.specs.Types.{storage_of}
use Rattle.meaning.specs.Sound.{root_levels, object_levels}
use Rattle.meaning.specs.Described.{DescribedComponent, DescribedObject, Described}
use Rattle.meaning.specs.Manifest.{number_bytes, text_bytes, list_bytes, Keyed, under, given, entry_bytes, map_bytes, component_bytes, component_entries, object_bytes, object_entries, manifest_bytes}
use Rattle.readback.specs.Piece.{Piece, all_written, any_deep}
use Rattle.readback.specs.Trees.{deep_at, number_piece, text_piece, several, list_piece, copied_piece, entry_piece, map_piece, component_piece, component_pieces, object_piece, object_pieces, manifest_piece}
use Rattle.readback.specs.Judged.{deep_option, any_too_deep, too_deep}

module _ {P : Type 0} (note : List ℕ → List ℕ → P) where
  abbrev Pieces : Type 0
  Pieces = List (Keyed (Piece (Node P)))

  abbrev bytes_of : Keyed (Piece (Node P)) → Keyed (List ℕ)
  bytes_of e = under e.key e.value.written

  -- ---- lists and maps

  numbers-written : (ns : List ℕ) → all_written (map (number_piece note) ns) ≡ joined (map number_bytes ns)
  unfolding number_piece
  numbers-written [] = refl
  numbers-written (n ∷ ns) = ap (λ (r : List ℕ). number_bytes n ++ r) (numbers-written ns)

  list_written : (ns : List ℕ) → (list_piece note ns).written ≡ list_bytes ns
  unfolding list_piece several list_bytes
  list_written ns = rw (length-map ns (number_piece note), numbers-written ns)

  entries-written : (es : Pieces) → all_written (map (entry_piece note) es) ≡ joined (map entry_bytes (map bytes_of es))
  unfolding entry_piece entry_bytes
  entries-written [] = refl
  entries-written (e ∷ es) = ap (λ (r : List ℕ). text_bytes e.key ++ e.value.written ++ r) (entries-written es)

  map-written : (es : Pieces) → (map_piece note es).written ≡ map_bytes (map bytes_of es)
  unfolding map_piece several map_bytes
  map-written es = rw (length-map es (entry_piece note), length-map es bytes_of, entries-written es)

  given-written : (ns : List (List ℕ)) (vs : List (Option (Piece (Node P)))) → map bytes_of (given ns vs) ≡ given ns (map (map_option (λ p. p.written)) vs)
  unfolding given
  given-written [] vs = refl
  given-written (n ∷ ns) [] = refl
  given-written (n ∷ ns) (none ∷ vs) = given-written ns vs
  given-written (n ∷ ns) (some v ∷ vs) = ap (λ (r : List (Keyed (List ℕ))). under n v.written ∷ r) (given-written ns vs)

  fields-written : (ns : List (List ℕ)) (vs : List (Option (Piece (Node P)))) → (map_piece note (given ns vs)).written ≡ map_bytes (given ns (map (map_option (λ p. p.written)) vs))
  fields-written ns vs = map-written (given ns vs) ∙ ap map_bytes (given-written ns vs)

  text-option-written : (s : Option (List ℕ)) → map_option (λ p. p.written) (map_option (text_piece note) s) ≡ map_option text_bytes s
  unfolding text_piece
  text-option-written none = refl
  text-option-written (some s) = refl

  copied-option-written : (levels : ℕ) (s : Option (List ℕ)) → map_option (λ p. p.written) (map_option (copied_piece note levels) s) ≡ s
  unfolding copied_piece
  copied-option-written levels none = refl
  copied-option-written levels (some s) = refl

  -- ---- components, objects, the root

  component-written : (offset : ℕ) (c : DescribedComponent) → (component_piece note offset c).written ≡ component_bytes offset c
  unfolding component_piece component_bytes text_piece number_piece
  component-written offset c = fields-written component_names _ ∙ rw (text-option-written c.type, text-option-written c.digest)

  components-written : (offsets : List ℕ) (cs : List DescribedComponent) → map bytes_of (component_pieces note offsets cs) ≡ component_entries offsets cs
  unfolding component_pieces component_entries
  components-written offsets [] = refl
  components-written offsets (c ∷ cs) = rw (component-written (get_or offsets 0 0) c, components-written (drop 1 offsets) cs)

  object-written : (offsets : List ℕ) (o : DescribedObject) → (object_piece note offsets o).written ≡ object_bytes offsets o
  unfolding object_piece object_bytes text_piece
  object-written offsets o =
      fields-written object_names _
      ∙ rw (list_written o.shape, copied-option-written object_levels o.attributes, map-written (component_pieces note offsets o.components), components-written offsets o.components)

  objects-written : (offsets : List ℕ) (os : List DescribedObject) → map bytes_of (object_pieces note offsets os) ≡ object_entries offsets os
  unfolding object_pieces object_entries
  objects-written offsets [] = refl
  objects-written offsets (o ∷ os) = rw (object-written (take (length o.components) offsets) o, objects-written (drop (length o.components) offsets) os)

  pub manifest-written : (d : Described) (offsets : List ℕ) → (manifest_piece note d offsets).written ≡ manifest_bytes d offsets
  unfolding manifest_piece manifest_bytes text_piece
  manifest-written d offsets =
      fields-written root_names _
      ∙ rw (copied-option-written root_levels d.attributes, map-written (object_pieces note offsets d.objects), objects-written offsets d.objects)

  -- ---- where DEEP is met

  numbers-not-deep : (ns : List ℕ) → any_deep (map (number_piece note) ns) ≡ false
  unfolding number_piece
  numbers-not-deep [] = refl
  numbers-not-deep (n ∷ ns) = numbers-not-deep ns

  list-not-deep : (ns : List ℕ) → (list_piece note ns).deep ≡ false
  unfolding list_piece several
  list-not-deep ns = numbers-not-deep ns

  component-not-deep : (offset : ℕ) (c : DescribedComponent) → (component_piece note offset c).deep ≡ false
  unfolding component_piece map_piece several given entry_piece text_piece number_piece
  component-not-deep offset c = go c.type c.digest
    where
      go : (t g : Option (List ℕ)) → any_deep (map (entry_piece note) (given component_names (some (text_piece note (storage_of c.dtype).called) ∷ map_option (text_piece note) t
          ∷ some (number_piece note offset) ∷ some (number_piece note (length c.blob)) ∷ none ∷ none ∷ map_option (text_piece note) g ∷ []))) ≡ false
      go none none = refl
      go none (some w) = refl
      go (some w) none = refl
      go (some w) (some w') = refl

  components-not-deep : (offsets : List ℕ) (cs : List DescribedComponent) → any_deep (map (entry_piece note) (component_pieces note offsets cs)) ≡ false
  unfolding component_pieces entry_piece
  components-not-deep offsets [] = refl
  components-not-deep offsets (c ∷ cs) = rw (component-not-deep (get_or offsets 0 0) c) (components-not-deep (drop 1 offsets) cs)

  cond-id : (b : Bool) → cond b true false ≡ b
  cond-id true = refl
  cond-id false = refl

  object-deep : (offsets : List ℕ) (o : DescribedObject) → (object_piece note offsets o).deep ≡ deep_option object_levels o.attributes
  unfolding object_piece map_piece several given entry_piece text_piece copied_piece deep_option
  object-deep offsets o = go o.attributes
    where
      go : (a : Option (List ℕ)) → any_deep (map (entry_piece note) (given object_names (some (list_piece note o.shape) ∷ some (text_piece note o.format) ∷ map_option (copied_piece note object_levels) a
          ∷ some (map_piece note (component_pieces note offsets o.components)) ∷ []))) ≡ deep_option object_levels a
      go none = rw (list-not-deep o.shape, components-not-deep offsets o.components)
      go (some bs) = rw (list-not-deep o.shape, components-not-deep offsets o.components, cond-id (deep_at object_levels bs))

  objects-deep : (offsets : List ℕ) (os : List DescribedObject) → any_deep (map (entry_piece note) (object_pieces note offsets os)) ≡ any_too_deep os
  unfolding object_pieces entry_piece any_too_deep
  objects-deep offsets [] = refl
  objects-deep offsets (o ∷ os) = rw (object-deep (take (length o.components) offsets) o, objects-deep (drop (length o.components) offsets) os)

  pub manifest-deep : (d : Described) (offsets : List ℕ) → (manifest_piece note d offsets).deep ≡ too_deep d
  unfolding manifest_piece map_piece several given entry_piece text_piece copied_piece deep_option too_deep
  manifest-deep d offsets = go d.attributes
    where
      go : (a : Option (List ℕ)) → any_deep (map (entry_piece note) (given root_names (some (text_piece note (ascii "1.2.0")) ∷ map_option (copied_piece note root_levels) a
          ∷ some (map_piece note (object_pieces note offsets d.objects)) ∷ []))) ≡ cond (deep_option root_levels a) true (any_too_deep d.objects)
      go none = rw (objects-deep offsets d.objects, cond-id (any_too_deep d.objects))
      go (some bs) = rw (objects-deep offsets d.objects, cond-id (any_too_deep d.objects))
