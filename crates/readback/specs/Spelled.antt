-- A model whose texts and attributes stand in its file where their spans say, after the header: what the model of an accepted file is.
use Rattle.std.specs.Prelude.{ℕ, suc, ◌+◌, ◌≤◌, List, [], ◌∷◌, ◌++◌, map, true, ◌≡◌, length}
use Rattle.meaning.specs.Tree.{Node, note_of}
use Rattle.meaning.specs.Read.{Span, bytes_at}
use Rattle.meaning.specs.Model.{Word, Component, Object, Model}
use Rattle.meaning.specs.Rows.{word_span, optional_span, attributes_span}
use Rattle.meaning.specs.Asked.{AskedObject, AskedComponent, Asked}
use Rattle.meaning.specs.Sound.{a_map}
use Rattle.meaning.specs.Stands.{WordStands, ComponentStands, ObjectStands, ModelStands}

module _ (file : List ℕ) where
  -- inside the file, and not at its beginning
  pub record Within (s : Span) : Type 0 where
    pub inside : s.place + s.size ≤ length file
    pub later : 1 ≤ s.place

  abbrev pub SpelledWord : Word Span → Type 0
  SpelledWord = WordStands Within file

  -- one well-formed map where so many levels are left
  pub record SpelledMap (levels : ℕ) (t : Node Span) : Type 0 where
    pub lies : Within (note_of t)
    pub well-formed : a_map levels (bytes_at file (note_of t)) ≡ true

  abbrev pub BlobInside : Component Span → Type 0
  BlobInside c = c.offset + c.length ≤ length file

  abbrev pub SpelledComponent : Component Span → Type 0
  SpelledComponent = ComponentStands Within SpelledMap BlobInside file

  abbrev pub SpelledObject : Object Span → Type 0
  SpelledObject = ObjectStands Within SpelledMap BlobInside file

  abbrev pub Spelled : Model Span → Type 0
  Spelled = ModelStands Within SpelledMap BlobInside file

-- ---- a model's rows, by name

unfoldable pub asked_of : ℕ → Component Span → AskedComponent
asked_of owner c = record {
  name = word_span c.name;
  dtype = c.dtype;
  type = optional_span c.type;
  blob = record { place = c.offset; size = c.length };
  digest = optional_span c.digest;
  owner = owner;
}

unfoldable pub asked_of_object : Object Span → AskedObject
asked_of_object o = record {
  name = word_span o.name;
  rank = length o.shape;
  shape = o.shape;
  format = word_span o.format;
  attributes = attributes_span o.attributes;
  count = length o.components;
}

unfoldable pub asked_of_all : ℕ → List (Object Span) → List AskedComponent
asked_of_all i [] = []
asked_of_all i (o ∷ os) = map (asked_of i) o.components ++ asked_of_all (suc i) os

unfoldable pub asked_of_model : Model Span → Asked
asked_of_model m = record { attributes = attributes_span m.attributes; objects = map asked_of_object m.objects; components = asked_of_all 0 m.objects }
