-- Two small descriptions and their list, computed.
use Prim.Native.Nat.{ℕ}
use mathlib.Core.List.{List, [], ◌∷◌}
use mathlib.Core.Option.{Option, none, some}
use mathlib.Core.Path.{◌≡◌, refl}
use Rattle.meaning.specs.Text.{ascii}
use Rattle.meaning.specs.Described.{DescribedComponent, DescribedObject, Described}
use Rattle.changes.specs.Changes.{changes, change_numbers}

abbrev component : List ℕ → ℕ → Option (List ℕ) → List ℕ → DescribedComponent
component n d t b = record { name = n; dtype = d; type = t; digest = none; blob = b }

abbrev object : List ℕ → List ℕ → List DescribedComponent → DescribedObject
object n s cs = record { name = n; shape = s; format = ascii "x"; attributes = none; components = cs }

abbrev before : Described
before = record {
  attributes = none;
  objects =
      object (ascii "gone") [] []
      ∷ object (ascii "kept") (2 ∷ []) (component (ascii "a") 11 none (1 ∷ 2 ∷ []) ∷ component (ascii "b") 11 none (5 ∷ []) ∷ component (ascii "c") 11 none [] ∷ [])
      ∷ object (ascii "same") [] (component (ascii "a") 1 (some []) (7 ∷ []) ∷ []) ∷ [];
}

abbrev after : Described
after = record {
  attributes = none;
  objects =
      object (ascii "same") [] (component (ascii "a") 1 (some []) (7 ∷ []) ∷ [])
      ∷ object (ascii "new") [] []
      ∷ object (ascii "kept") (3 ∷ []) (component (ascii "d") 11 none [] ∷ component (ascii "b") 11 (some []) (5 ∷ []) ∷ component (ascii "a") 10 none (1 ∷ 3 ∷ 4 ∷ []) ∷ [])
      ∷ [];
}

pub listed : change_numbers before after ≡ (
    1 ∷ 0 ∷ 0 ∷ 0 ∷ 0 ∷ 0 ∷ 0 ∷ 0
    ∷ 3 ∷ 1 ∷ 2 ∷ 0 ∷ 0 ∷ 61 ∷ 0 ∷ 0
    ∷ 4 ∷ 1 ∷ 2 ∷ 0 ∷ 2 ∷ 40 ∷ 1 ∷ 2
    ∷ 4 ∷ 1 ∷ 2 ∷ 1 ∷ 1 ∷ 16 ∷ 0 ∷ 0
    ∷ 5 ∷ 1 ∷ 2 ∷ 2 ∷ 0 ∷ 0 ∷ 0 ∷ 0
    ∷ 6 ∷ 1 ∷ 2 ∷ 0 ∷ 0 ∷ 0 ∷ 0 ∷ 0
    ∷ 2 ∷ 0 ∷ 1 ∷ 0 ∷ 0 ∷ 0 ∷ 0 ∷ 0 ∷ [])
unfolding changes change_numbers
listed = refl
