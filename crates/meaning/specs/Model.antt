-- What a sound manifest says, with the annotations of what was read.
use Rattle.std.specs.Prelude.{ℕ, List}
use Rattle.std.proofs.Math.Option.{Option}
use Rattle.meaning.specs.Tree.{Node}

-- a text in a known place: its bytes, and its item's annotation
pub record Word (P : Type 0) : Type 0 where
  pub note : P
  pub letters : List ℕ

-- `entry` is the annotation of its map
pub record Component (P : Type 0) : Type 0 where
  pub name : Word P
  pub dtype : ℕ
  pub type : Option (Word P)
  pub offset : ℕ
  pub length : ℕ
  pub digest : Option (Word P)
  pub entry : P

pub record Object (P : Type 0) : Type 0 where
  pub name : Word P
  pub shape : List ℕ
  pub format : Word P
  pub attributes : Option (Node P)
  pub components : List (Component P)

pub record Model (P : Type 0) : Type 0 where
  pub attributes : Option (Node P)
  pub objects : List (Object P)

-- a name, and what it names
pub record Named (P : Type 0) : Type 0 where
  pub name : Word P
  pub value : Node P

-- the known fields of each kind of map, as they stand
pub record RootFields (P : Type 0) : Type 0 where
  pub version : Option (Node P)
  pub attributes : Option (Node P)
  pub objects : Option (Node P)

pub record ObjectFields (P : Type 0) : Type 0 where
  pub dtype : Option (Node P)
  pub shape : Option (Node P)
  pub format : Option (Node P)
  pub attributes : Option (Node P)
  pub components : Option (Node P)

pub record ComponentFields (P : Type 0) : Type 0 where
  pub dtype : Option (Node P)
  pub type : Option (Node P)
  pub offset : Option (Node P)
  pub length : Option (Node P)
  pub uncompressed-length : Option (Node P)
  pub encoding : Option (Node P)
  pub digest : Option (Node P)
