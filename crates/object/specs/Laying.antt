-- What is put into the table while an object is judged: its components' rows as they are met or, in layout 1.0, once its dtype is known; and its own row, if it passes.
use Rattle.std.specs.Prelude.{ℕ, ◌-◌, List, true, false, ◌≡◌, length, drop, Ok, Result}
use Rattle.std.proofs.Math.Option.{none}
use Rattle.meaning.specs.Tree.{Node}
use Rattle.meaning.specs.Model.{Object}
use Rattle.meaning.specs.Layouts.{layout_of}
use Rattle.walk.specs.Reading.{Ends}
use Rattle.fields.specs.FieldWalk as keeping
use Rattle.component.specs.Value.{given}
use Rattle.table.specs.Given.{offered}
use Rattle.table.specs.Rows as laid
use Rattle.table.specs.Object.{ObjectPut}
use Rattle.table.specs.Late.{Gives}
use Rattle.table.specs.declared.Place.{Place}
use Rattle.object.specs.declared.judge.Measured.{Measured}
use Rattle.object.specs.Verdict.{Says, waiting}
use Rattle.numbers.specs.declared.fault.ObjectFault.{ObjectFault}

-- the table after the components x, where their rows are put as they are met
abbrev pub Lays : ℕ → ℕ → Place → List ℕ → Node Ends → List ℕ → Type 0
Lays layout start to before x t = (layout ≡ 1 → ⊥) → laid.Says (layout_of layout) (λ r. none) start to.end to.owner to.from before x t

-- what was found in the components x and the rows that were put for the judge, and the table
abbrev pub Tells : ℕ → ℕ → Place → List ℕ → Node Ends → (Result ℕ ObjectFault × List ℕ) × List ℕ → Type 0
Tells layout start to before x (kept, t) = Says layout start x kept × Lays layout start to before x t

-- the value that begins c, whose key has slot k, where the slot of `components` holds `seen`; nothing is given to components here
pub record ValuePut (layout start : ℕ) (to : Place) (k seen : ℕ) (c before after : List ℕ) : Type 0 where
  pub first : waiting layout k seen ≡ false → laid.RowsPut (offered layout 4 13) c start to.end to.owner to.from before after
  pub other : waiting layout k seen ≡ true → after ≡ before

-- what is noted of all pairs that are due at s
pub record Walked (layout start : ℕ) (to : Place) (mode count : ℕ) (s before p : List ℕ) (found : Result ℕ ObjectFault) (rows t : List ℕ) : Type 0 where
  pub notes : keeping.Walked (layout_of layout).object 5 4 (Tells layout start to before) 29 mode count s p ((found, rows), t)
  -- in layout 1.0 no row is put yet
  pub untouched : layout ≡ 1 → t ≡ before

-- the components that waited, which stand where `left` bytes of s are left, of an object with this format and code
pub record WaitedPut (layout format code : ℕ) (s : List ℕ) (start left : ℕ) (to : Place) (before after : List ℕ) : Type 0 where
  pub late : layout ≡ 1 → laid.RowsPut (offered layout format code) (drop (length s - left) s) start to.end to.owner to.from before after
  pub other : (layout ≡ 1 → ⊥) → after ≡ before

-- those of a tensor whose dtype has the code d
pub record ShapedPut (layout d : ℕ) (s : List ℕ) (start : ℕ) (p : List ℕ) (to : Place) (before after : List ℕ) : Type 0 where
  pub late : layout ≡ 1 → (o : Object Ends) (g : Gives (layout_of layout) start s p o) → g.code ≡ given d → laid.Put to.end to.owner to.from before o.components after
  pub other : (layout ≡ 1 → ⊥) → after ≡ before

-- where the object passes
abbrev pub Once : Result Measured ObjectFault → Type 0 → Type 0
Once v P = (m : Measured) → v ≡ Ok m → P

-- its own row, with the numbers of components and of dimensions that it is judged to have
abbrev pub OwnPut : List ℕ → List ℕ → List ℕ → List ℕ → Result Measured ObjectFault → Place → List ℕ → List ℕ → Type 0
OwnPut s m p dims v to before after = (k : Measured) → v ≡ Ok k → ObjectPut s m p k.rank dims k.count to.end to.row before after
