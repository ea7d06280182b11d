-- What rows and a buffer describe, and what a file that was read does: a model without places. Read-back is said of this.
use Rattle.std.specs.Prelude.{ℕ, List, [], ◌∷◌, ◌++◌, map, take, drop}
use Rattle.std.proofs.Math.Option.{Option}
use Rattle.meaning.specs.Tree.{note_of}
use Rattle.meaning.specs.Read.{Span, bytes_at}
use Rattle.meaning.specs.Notes.{map_option}
use Rattle.meaning.specs.Model.{Component, Object, Model}
use Rattle.meaning.specs.Judge.{letters_of}
use Rattle.meaning.specs.Asked.{AskedObject, AskedComponent, Asked, present_at}

pub record DescribedComponent : Type 0 where
  pub name : List ℕ
  pub dtype : ℕ
  pub type : Option (List ℕ)
  pub digest : Option (List ℕ)
  pub blob : List ℕ

-- attributes are the bytes of their item, as they stand
pub record DescribedObject : Type 0 where
  pub name : List ℕ
  pub shape : List ℕ
  pub format : List ℕ
  pub attributes : Option (List ℕ)
  pub components : List DescribedComponent

pub record Described : Type 0 where
  pub attributes : Option (List ℕ)
  pub objects : List DescribedObject

-- the blobs in row order
unfoldable pub blobs_in : List DescribedObject → List (List ℕ)
blobs_in [] = []
blobs_in (o ∷ os) = map (λ c. c.blob) o.components ++ blobs_in os

abbrev pub blobs : Described → List (List ℕ)
blobs d = blobs_in d.objects

-- ---------------------------------------------------------------- by rows

module _ (buffer : List ℕ) where
  unfoldable pub described_component : AskedComponent → DescribedComponent
  described_component c = record {
    name = bytes_at buffer c.name;
    dtype = c.dtype;
    type = present_at buffer c.type;
    digest = present_at buffer c.digest;
    blob = bytes_at buffer c.blob;
  }

  -- an object with its components' rows
  unfoldable pub described_object : AskedObject → List AskedComponent → DescribedObject
  described_object o cs = record {
    name = bytes_at buffer o.name;
    shape = o.shape;
    format = bytes_at buffer o.format;
    attributes = present_at buffer o.attributes;
    components = map described_component cs;
  }

  -- each object takes as many components as it counts
  unfoldable pub described_objects : List AskedObject → List AskedComponent → List DescribedObject
  described_objects [] cs = []
  described_objects (o ∷ os) cs = described_object o (take o.count cs) ∷ described_objects os (drop o.count cs)

  unfoldable pub described : Asked → Described
  described a = record { attributes = present_at buffer a.attributes; objects = described_objects a.objects a.components }

-- ---------------------------------------------------------------- by a file that was read

module _ (file : List ℕ) where
  unfoldable pub read_component : Component Span → DescribedComponent
  read_component c = record {
    name = c.name.letters;
    dtype = c.dtype;
    type = letters_of c.type;
    digest = letters_of c.digest;
    blob = bytes_at file (record { place = c.offset; size = c.length });
  }

  unfoldable pub read_object : Object Span → DescribedObject
  read_object o = record {
    name = o.name.letters;
    shape = o.shape;
    format = o.format.letters;
    attributes = map_option (λ t. bytes_at file (note_of t)) o.attributes;
    components = map read_component o.components;
  }

  unfoldable pub described_by : Model Span → Described
  described_by m = record { attributes = map_option (λ t. bytes_at file (note_of t)) m.attributes; objects = map read_object m.objects }
