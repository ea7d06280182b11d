-- What a model that was read tells of a description, and where its blobs stand.
use Rattle.std.specs.Prelude.{ℕ, ◌+◌, ◌%◌, ◌≤◌, List, [], ◌∷◌, ◌++◌, map, ◌≡◌, length, take, drop, get_or}
use Rattle.meaning.specs.Limit.{alignment}
use Rattle.meaning.specs.Read.{Span}
use Rattle.meaning.specs.Model.{Component, Object, Model}
use Rattle.meaning.specs.Check.{pass}
use Rattle.meaning.specs.Frame.{Reading, reading}
use Rattle.meaning.specs.Described.{DescribedComponent, DescribedObject, Described, blobs_in, blobs, read_component, read_object, described_by}
use Rattle.meaning.specs.Layouts.{current}

-- a blob at its offset, before the manifest
pub record BlobAt (file : List ℕ) (start offset : ℕ) (b : List ℕ) : Type 0 where
  pub multiple : offset % alignment ≡ 0
  pub low : alignment ≤ offset
  pub inside : offset + length b ≤ start
  pub stands : take (length b) (drop offset file) ≡ b

pub record Tells (file : List ℕ) (offset : ℕ) (c : DescribedComponent) (m : Component Span) : Type 0 where
  pub same : read_component file m ≡ c
  pub size : m.length ≡ length c.blob
  pub place : m.offset ≡ offset

-- each blob at its offset
abbrev pub AllAt : List ℕ → ℕ → List ℕ → List (List ℕ) → Type 0
AllAt file start [] [] = Unit {0}
AllAt file start [] (b ∷ bs) = ⊥
AllAt file start (o ∷ os) [] = ⊥
AllAt file start (o ∷ os) (b ∷ bs) = BlobAt file start o b × AllAt file start os bs

-- each component's blob at the first of the offsets that are left
abbrev pub Stand : List ℕ → ℕ → List ℕ → List DescribedComponent → Type 0
Stand file start offsets [] = Unit {0}
Stand file start offsets (c ∷ cs) = BlobAt file start (get_or offsets 0 0) c.blob × Stand file start (drop 1 offsets) cs

abbrev pub StandAll : List ℕ → ℕ → List ℕ → List DescribedObject → Type 0
StandAll file start offsets [] = Unit {0}
StandAll file start offsets (o ∷ os) =
    Stand file start (take (length o.components) offsets) o.components × StandAll file start (drop (length o.components) offsets) os

-- each component of its description, at the first of the offsets that are left
abbrev pub AllTell : List ℕ → List ℕ → List DescribedComponent → List (Component Span) → Type 0
AllTell file offsets [] [] = Unit {0}
AllTell file offsets [] (m ∷ ms) = ⊥
AllTell file offsets (c ∷ cs) [] = ⊥
AllTell file offsets (c ∷ cs) (m ∷ ms) = Tells file (get_or offsets 0 0) c m × AllTell file (drop 1 offsets) cs ms

-- the offsets that components give, in row order
abbrev pub offsets_of : List (Component Span) → List ℕ
offsets_of = map (λ c. c.offset)

unfoldable pub offsets_in : List (Object Span) → List ℕ
offsets_in [] = []
offsets_in (o ∷ os) = offsets_of o.components ++ offsets_in os

-- of its description; if there are as many offsets as components, they are what its components give
pub record TellsObject (file offsets : List ℕ) (o : DescribedObject) (m : Object Span) : Type 0 where
  pub same : read_object file m ≡ o
  pub placed : length offsets ≡ length o.components → offsets_of m.components ≡ offsets

pub record TellsObjects (file offsets : List ℕ) (os : List DescribedObject) (ms : List (Object Span)) : Type 0 where
  pub same : map (read_object file) ms ≡ os
  pub placed : length offsets ≡ length (blobs_in os) → offsets_in ms ≡ offsets

pub record TellsModel (file offsets : List ℕ) (d : Described) (m : Model Span) : Type 0 where
  pub same : described_by file m ≡ d
  pub placed : length offsets ≡ length (blobs d) → offsets_in m.objects ≡ offsets

-- the file is accepted, and what was read describes d
pub record ReadsBack (file : List ℕ) (d : Described) : Type 0 where
  pub read : Reading
  pub is : reading current file ≡ pass read
  pub back : described_by file read.model ≡ d

-- and the components that were read give these offsets, in row order
pub record ReadsBackAt (file : List ℕ) (d : Described) (offsets : List ℕ) : Type 0 where
  pub reads : ReadsBack file d
  pub placed : offsets_in reads.read.model.objects ≡ offsets
