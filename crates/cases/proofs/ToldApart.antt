-- What the theorem on moved fields doesn't forgive, and what it rests on, by computation.
use Prim.Native.Nat.{ℕ}
use native.Mathlib.Omega.{arith}
use mathlib.Core.List.{List, [], ◌∷◌}
use mathlib.Core.Option.{Option, some}
use mathlib.Core.Path.{◌≡◌, refl, ap, sym, ◌∙◌}
use lib.ListN.{length}
use Rattle.meaning.specs.Tree.{Node, Pair, text, uint}
use Rattle.meaning.specs.Text.{ascii}
use Rattle.meaning.specs.Check.{Check, pass, refuse}
use Rattle.meaning.specs.Refusal.{TWICE}
use Rattle.meaning.specs.Computed.{computed}
use Rattle.meaning.specs.Layouts.{old}
use Rattle.meaning.specs.Field.{get}
use Rattle.meaning.specs.Frame.{reading}
use Rattle.meaning.specs.Notes.{map_check}
use Rattle.meaning.specs.Model.{Object}
use Rattle.meaning.specs.Parsed.{parsed, SameFiles}
use Rattle.meaning.proofs.SameReading.{Said, said, readings-same}
use Rattle.cases.specs.Old.{tensors_in_order, tensors_swapped, right_first, right_last}

-- the first dimension of the first object
abbrev first_of : List ℕ → ℕ
first_of [] = 0
first_of (n ∷ ns) = n

abbrev first_shape : List (Object (Unit {0})) → ℕ
first_shape [] = 0
first_shape (o ∷ os) = first_of o.shape

abbrev dimension : Check Said → ℕ
dimension (pass s) = first_shape s.model.objects
dimension (refuse n o c) = 0

-- both are accepted, and say different things
pub in_order : dimension (map_check said (reading old tensors_in_order)) ≡ 2
unfolding computed
in_order = refl

pub swapped : dimension (map_check said (reading old tensors_swapped)) ≡ 1
unfolding computed
swapped = refl

-- so names that are moved about aren't the same: the relation isn't too wide
pub names-keep-their-order : SameFiles old (parsed old tensors_in_order) (parsed old tensors_swapped) → ⊥
names-keep-their-order h =
    let z : ◌≡◌ {A = ℕ} 2 1 = sym in_order ∙ ap dimension (readings-same old tensors_in_order tensors_swapped h) ∙ swapped in
    omega arith

-- a field that stands twice is refused alike in both orders
pub right-first : reading old right_first ≡ refuse TWICE 0 0
unfolding computed
right-first = refl

pub right-last : reading old right_last ≡ refuse TWICE 0 0
unfolding computed
right-last = refl

-- that check is needed: which of two values `get` finds depends on their order
abbrev x : ℕ → Pair (Unit {0})
x n = record { key = text tt (ascii "x"); value = uint tt n }

pub first-counts : get (ascii "x") (x 1 ∷ x 2 ∷ []) ≡ some (uint tt 1)
unfolding computed
first-counts = refl

pub then-the-other : get (ascii "x") (x 2 ∷ x 1 ∷ []) ≡ some (uint tt 2)
unfolding computed
then-the-other = refl
