-- Descriptions that sound rows give: what ROW has asked, and numbers and lengths below 2 ^ 64.
use Rattle.std.specs.Prelude.{ℕ, ◌≤◌, ◌<◌, ◌^◌, List, true, ◌≡◌, length}
use Rattle.std.proofs.Math.Option.{Option, none, some}
use Rattle.meaning.specs.Limit.{rank_limit}
use Rattle.meaning.specs.Types.{storages}
use Rattle.meaning.specs.Sound.{a_map, root_levels, object_levels, absent_or}
use Rattle.meaning.specs.Described.{DescribedComponent, DescribedObject, Described}
use Rattle.meaning.specs.Every.{Every}

-- a head's argument
abbrev pub Fits : ℕ → Type 0
Fits n = n < 256 ^ 8

abbrev pub Brief : List ℕ → Type 0
Brief s = Fits (length s)

abbrev pub BriefOption : Option (List ℕ) → Type 0
BriefOption none = Unit {0}
BriefOption (some s) = Brief s

pub record FineComponent (c : DescribedComponent) : Type 0 where
  pub name : Brief c.name
  pub dtype : c.dtype < length storages
  pub type : BriefOption c.type
  pub digest : BriefOption c.digest
  pub blob : Brief c.blob

pub record FineObject (o : DescribedObject) : Type 0 where
  pub name : Brief o.name
  pub rank : length o.shape ≤ rank_limit
  pub shape : Every Fits o.shape
  pub format : Brief o.format
  pub attributes : absent_or (a_map object_levels) o.attributes ≡ true
  pub count : Fits (length o.components)
  pub components : Every FineComponent o.components

pub record Fine (d : Described) : Type 0 where
  pub attributes : absent_or (a_map root_levels) d.attributes ≡ true
  pub count : Fits (length d.objects)
  pub objects : Every FineObject d.objects
