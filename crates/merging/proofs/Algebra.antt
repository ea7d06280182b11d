-- Merging descriptions is associative, and one that describes nothing changes nothing.
use Prim.Native.Nat.{ℕ}
use mathlib.Core.List.{List, append_assoc, append-nil}
use mathlib.Core.Option.{Option, none, some}
use mathlib.Core.Path.{◌≡◌, refl, ap₂}
use Rattle.meaning.specs.Described.{DescribedObject, Described}
use Rattle.merging.specs.Merge.{or_else, merged}
use Rattle.merging.specs.Anew.{nothing}

describes : Option (List ℕ) → List DescribedObject → Described
describes a os = record { attributes = a; objects = os }

or-else-groups : (a b c : Option (List ℕ)) → or_else (or_else a b) c ≡ or_else a (or_else b c)
unfolding or_else
or-else-groups none b c = refl
or-else-groups (some x) b c = refl

or_else_none : (a : Option (List ℕ)) → or_else a none ≡ a
unfolding or_else
or_else_none none = refl
or_else_none (some x) = refl

pub merged-groups : (a b c : Described) → merged (merged a b) c ≡ merged a (merged b c)
unfolding merged describes
merged-groups a b c = ap₂ describes (or-else-groups a.attributes b.attributes c.attributes) (append_assoc a.objects b.objects c.objects)

pub nothing-before : (d : Described) → merged nothing d ≡ d
unfolding merged nothing or_else
nothing-before d = refl

pub nothing-after : (d : Described) → merged d nothing ≡ d
unfolding merged nothing describes
nothing-after d = ap₂ describes (or_else_none d.attributes) (append-nil d.objects)
