-- What the objects of a model add up to when they are written where a place is reached: where their last blob ends, and how many bytes their entries in the manifest take.
use Rattle.std.specs.Prelude.{ℕ, ◌+◌, List, [], ◌∷◌, ◌++◌, map, length}
use Rattle.meaning.specs.Read.{Span}
use Rattle.meaning.specs.Model.{Object}
use Rattle.meaning.specs.Rows.{word_span}
use Rattle.readback.specs.Spelled.{asked_of, asked_of_object}
use Rattle.rows.specs.Turns.{reached}
use Rattle.sizes.specs.Size.{head_size, components_size, object_size}

-- the lengths of an object's blobs, and of all objects'
abbrev pub blobs_in : Object Span → List ℕ
blobs_in o = map (λ c. c.length) o.components

unfoldable pub all_blobs : List (Object Span) → List ℕ
all_blobs [] = []
all_blobs (o ∷ os) = blobs_in o ++ all_blobs os

-- an object's entry where the place n is reached
unfoldable pub entry_size : ℕ → Object Span → ℕ
entry_size n o = object_size (asked_of_object o) + head_size (length o.components) + components_size [] n (map (asked_of 0) o.components)

unfoldable pub entry_sizes : ℕ → List (Object Span) → ℕ
entry_sizes n [] = 0
entry_sizes n (o ∷ os) = entry_size n o + entry_sizes (reached [] n (blobs_in o)) os

-- place and length of each name
unfoldable pub name_pairs : List (Object Span) → List ℕ
name_pairs [] = []
name_pairs (o ∷ os) = (word_span o.name).place ∷ (word_span o.name).size ∷ name_pairs os
