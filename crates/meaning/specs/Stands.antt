-- A model that stands in its file: each text's letters are the file's bytes where its span says. What more is asked differs, and is given: where a span lies, what holds of attributes
-- where so many levels are left, and what holds of a component besides its texts and its storage.
use Rattle.std.specs.Prelude.{ℕ, ◌+◌, ◌≤◌, ◌<◌, List, ◌≡◌, length}
use Rattle.meaning.specs.Limit.{rank_limit}
use Rattle.meaning.specs.Tree.{Node}
use Rattle.meaning.specs.Read.{Span, bytes_at}
use Rattle.meaning.specs.Model.{Word, Component, Object, Model}
use Rattle.meaning.specs.Types.{storages}
use Rattle.meaning.specs.Rows.{word_span}
use Rattle.meaning.specs.Sound.{root_levels, object_levels}
use Rattle.meaning.specs.Every.{Every, IfAny}

pub record WordStands (Lies : Span → Type 0) (file : List ℕ) (w : Word Span) : Type 0 where
  pub lies : Lies (word_span w)
  pub spelled : bytes_at file (word_span w) ≡ w.letters

module _ (Lies : Span → Type 0) (Attributes : ℕ → Node Span → Type 0) (Part : Component Span → Type 0) (file : List ℕ) where
  pub record ComponentStands (c : Component Span) : Type 0 where
    pub name : WordStands Lies file c.name
    pub dtype : c.dtype < length storages
    pub type : IfAny (WordStands Lies file) c.type
    pub digest : IfAny (WordStands Lies file) c.digest
    pub part : Part c

  pub record ObjectStands (o : Object Span) : Type 0 where
    pub name : WordStands Lies file o.name
    pub rank : length o.shape ≤ rank_limit
    pub format : WordStands Lies file o.format
    pub attributes : IfAny (Attributes object_levels) o.attributes
    pub components : Every ComponentStands o.components

  pub record ModelStands (m : Model Span) : Type 0 where
    pub attributes : IfAny (Attributes root_levels) m.attributes
    pub objects : Every ObjectStands m.objects

-- terms by which texts and blobs lie in the file
pub record InFile (Lies : Span → Type 0) (Attributes : ℕ → Node Span → Type 0) (Part : Component Span → Type 0) (file : List ℕ) : Type 0 where
  pub spans : (s : Span) → Lies s → s.place + s.size ≤ length file
  pub blobs : (c : Component Span) → Part c → c.offset + c.length ≤ length file
