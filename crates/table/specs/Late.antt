-- The components' rows of an object whose map has been passed over: a 1.0 tensor gives them its dtype, which may stand after them.
use Rattle.std.specs.Prelude.{ℕ, List, ◌≡◌, get_or}
use Rattle.std.proofs.Math.Option.{Option, none}
use Rattle.meaning.specs.Tree.{Node}
use Rattle.meaning.specs.Check.{pass, optional}
use Rattle.meaning.specs.Model.{Object}
use Rattle.meaning.specs.Kind.{a_text}
use Rattle.meaning.specs.Judge.{inherited, a_dtype, components_of}
use Rattle.meaning.specs.Layouts.{Layout, layout_of}
use Rattle.walk.specs.Reading.{Ends}
use Rattle.fields.specs.Slots.{Stands, Holds}
use Rattle.table.specs.Rows.{Put}

-- where the fields of a tensor stand in m that say what its components are: the slots p
pub record Gives (L : Layout) (start : ℕ) (m p : List ℕ) (o : Object Ends) : Type 0 where
  pub dtype : Option (Node Ends)
  pub dtype-held : Holds 29 m (get_or p 0 0) dtype
  pub code : Option ℕ
  pub code_is : optional (a_dtype L) dtype ≡ pass code
  pub some-code : code ≡ none → ⊥
  pub format : Node Ends
  pub format-stands : Stands 29 m (get_or p 2 0) format
  pub format-is : a_text format ≡ pass o.format
  pub attributes : Option (Node Ends)
  pub attributes-held : Holds 29 m (get_or p 3 0) attributes
  pub components : Node Ends
  pub components-stand : Stands 29 m (get_or p 4 0) components
  pub components-are : components_of L start (inherited o.format.letters code) components ≡ pass o.components

-- the table when the map has been passed over, and after: in layout 1.0 the rows of every such tensor are put, else it stays
pub record LatePut (layout : ℕ) (m p : List ℕ) (start end owner from : ℕ) (before after : List ℕ) : Type 0 where
  pub late : layout ≡ 1 → (o : Object Ends) → Gives (layout_of layout) start m p o → Put end owner from before o.components after
  pub other : (layout ≡ 1 → ⊥) → after ≡ before
