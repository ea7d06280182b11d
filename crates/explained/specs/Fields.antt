-- The known fields by what they say: the names under which a layout has them, none where it hasn't.
use Rattle.std.specs.Prelude.{ℕ, List, ◌≡◌}
use Rattle.std.proofs.Math.Option.{Option, none, some}
use Rattle.meaning.specs.Layouts.{Layout, Slots, slot, version_at, objects_at, dtype_at, components_at}

-- the maps that have known fields
pub data Level : Type 0 where
  root object component : Level

module _ (L : Layout) where
  abbrev pub known : Level → Slots
  known root = L.root
  known object = L.object
  known component = L.component

  abbrev pub version_of : Option (List ℕ)
  version_of = slot version_at L.root

  abbrev pub objects_field : Option (List ℕ)
  objects_field = slot objects_at L.root

  abbrev pub dtype_on : Level → Option (List ℕ)
  dtype_on root = none
  dtype_on object = slot dtype_at L.object
  dtype_on component = slot dtype_at L.component

  abbrev pub attributes_on : Level → Option (List ℕ)
  attributes_on root = slot 1 L.root
  attributes_on object = slot 3 L.object
  attributes_on component = none

  abbrev pub shape_field : Option (List ℕ)
  shape_field = slot 1 L.object

  abbrev pub format_of : Option (List ℕ)
  format_of = slot 2 L.object

  abbrev pub components_field : Option (List ℕ)
  components_field = slot components_at L.object

  abbrev pub type_of : Option (List ℕ)
  type_of = slot 1 L.component

  abbrev pub offset_of : Option (List ℕ)
  offset_of = slot 2 L.component

  abbrev pub length_of : Option (List ℕ)
  length_of = slot 3 L.component

  abbrev pub unpacked_of : Option (List ℕ)
  unpacked_of = slot 4 L.component

  abbrev pub encoding_of : Option (List ℕ)
  encoding_of = slot 5 L.component

  abbrev pub digest_of : Option (List ℕ)
  digest_of = slot 6 L.component

-- where a layout has its dtype: on the component; or on the object, and then components have no type
pub data Sided (L : Layout) : Type 0 where
  on_component : {n : List ℕ} → dtype_on L component ≡ some n → dtype_on L object ≡ none → Sided L
  on_object : {n : List ℕ} → dtype_on L object ≡ some n → dtype_on L component ≡ none → type_of L ≡ none → Sided L
