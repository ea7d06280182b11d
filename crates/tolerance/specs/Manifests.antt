-- Files whose manifests a reader of a layout must not tell apart: demand 3 and Req 06, each in its own words.
use Rattle.std.specs.Prelude.{◌≡◌}
use Rattle.meaning.specs.Tree.{Node, meaning}
use Rattle.meaning.specs.Check.{Check, pass, refuse}
use Rattle.meaning.specs.Layouts.{Layout}
use Rattle.meaning.specs.Drop.{drop_component, drop_root}
use Rattle.meaning.specs.Moved.{ComponentMoved, RootMoved}
use Rattle.meaning.specs.Parsed.{Parsed}

-- both files pass checks 1 to 7, and what was parsed is so related
abbrev pub BothPass : (Parsed → Parsed → Type 0) → Check Parsed → Check Parsed → Type 0
BothPass R (pass p) (pass q) = R p q
BothPass R (pass p) (refuse n o c) = ⊥
BothPass R (refuse n o c) k = ⊥

module _ (L : Layout) where
  -- demand 3: the manifests start at the same place, and mean the same once unknown fields are dropped and every well-shaped 1.x version is read alike
  pub record SameManifest (p q : Parsed) : Type 0 where
    pub start : p.start ≡ q.start
    pub meant : drop_root L (meaning p.tree) ≡ drop_root L (meaning q.tree)

  abbrev pub SameOnceDropped : Check Parsed → Check Parsed → Type 0
  SameOnceDropped = BothPass SameManifest

  -- Req 06: the manifests start at the same place, and mean the same but for the order of fields in the root, an object or a component map in its place
  pub record MovedManifest (p q : Parsed) : Type 0 where
    pub start : p.start ≡ q.start
    pub moved : RootMoved L (meaning p.tree) (meaning q.tree)

  abbrev pub FieldsMoved : Check Parsed → Check Parsed → Type 0
  FieldsMoved = BothPass MovedManifest

  -- what the entries of two rows are to each other: the same once unknown fields are dropped; or that, and fields put in order
  abbrev pub SameEntry : Node (Unit {0}) → Node (Unit {0}) → Type 0
  SameEntry x y = drop_component L x ≡ drop_component L y

  abbrev pub AlikeEntry : Node (Unit {0}) → Node (Unit {0}) → Type 0
  AlikeEntry x y = ComponentMoved (drop_component L x) (drop_component L y)
