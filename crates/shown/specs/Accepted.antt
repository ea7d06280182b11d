-- What holds of an accepted file: its texts, attributes and component maps stand in the manifest where their rows say, and its blobs lie between header and manifest.
use Rattle.std.specs.Prelude.{ℕ, ◌+◌, ◌%◌, ◌≤◌, List, [], ◌≡◌, length, take, drop}
use Rattle.std.proofs.Math.Option.{Option, none}
use Rattle.meaning.specs.Tree.{Node, Pair, note_of, meaning}
use Rattle.meaning.specs.Check.{pass}
use Rattle.meaning.specs.Read.{Span, got, item, no_note}
use Rattle.meaning.specs.Kind.{a_mapping}
use Rattle.meaning.specs.Model.{Word, Component, Object, Model}
use Rattle.meaning.specs.Layouts.{slot, Layout, dtype_at}
use Rattle.meaning.specs.Judge.{component}
use Rattle.meaning.specs.Frame.{Reading}
use Rattle.meaning.specs.Stands as stands

-- a blob begins at a multiple of 64, after the header, and ends before a manifest that begins at `start`
pub record BlobLies (start : ℕ) (c : Component Span) : Type 0 where
  pub aligned : c.offset % 64 ≡ 0
  pub past-header : 64 ≤ c.offset
  pub before-manifest : c.offset + c.length ≤ start

-- besides its blobs and its manifest a file holds the header's 8 bytes, and what stands from the manifest's size on
abbrev pub Framing : Layout → Type 0
Framing L = L.size_back + 8 ≡ L.least

-- the manifest ends where its size begins
module _ (L : Layout) (file : List ℕ) (start : ℕ) where
  pub record InManifest (s : Span) : Type 0 where
    pub begins : start ≤ s.place
    pub ends : s.place + s.size + L.size_back ≤ length file

  -- the text's letters are the file's bytes at the place and of the length that its row gives
  abbrev pub WordStands : Word Span → Type 0
  WordStands = stands.WordStands InManifest file

  -- the item's own bytes, read where d levels are left, are this node and nothing more
  pub record NodeStands (d : ℕ) (t : Node Span) : Type 0 where
    pub lies : InManifest (note_of t)
    pub read : item no_note d (take (note_of t).size (drop (note_of t).place file)) ≡ got (meaning t) []

  -- and it is a map
  pub record AttributesStand (d : ℕ) (t : Node Span) : Type 0 where
    pub stands : NodeStands d t
    pub pairs : List (Pair Span)
    pub map : a_mapping t ≡ pass pairs

  -- the entry of a component's row is one whole map of the manifest, at depth 5: 28 levels are left there; under the component's name, with the code that its object gives it, that
  -- map is this component; an object that can have no dtype gives none
  pub record EntryStands (c : Component Span) : Type 0 where
    pub node : Node Span
    pub noted : c.entry ≡ note_of node
    pub stands : AttributesStand 28 node
    pub above : Option ℕ
    pub ungiven : slot dtype_at L.object ≡ none → above ≡ none
    pub judged : component L start above (record { name = c.name; value = node }) ≡ pass c

  pub record PartAccepted (c : Component Span) : Type 0 where
    pub blob : BlobLies start c
    pub entry : EntryStands c

  abbrev pub ComponentAccepted : Component Span → Type 0
  ComponentAccepted = stands.ComponentStands InManifest AttributesStand PartAccepted file

  -- its attributes are at depth 4: 29 levels are left there
  abbrev pub ObjectAccepted : Object Span → Type 0
  ObjectAccepted = stands.ObjectStands InManifest AttributesStand PartAccepted file

  -- the root's attributes are at depth 2: 31 levels are left there
  abbrev pub ModelAccepted : Model Span → Type 0
  ModelAccepted = stands.ModelStands InManifest AttributesStand PartAccepted file

pub record Accepted (L : Layout) (file : List ℕ) (r : Reading) : Type 0 where
  pub header : 8 ≤ r.start
  -- a manifest of a byte at least, its size and the footer
  pub footer : r.start + 1 + L.size_back ≤ length file
  pub model : ModelAccepted L file r.start r.model
