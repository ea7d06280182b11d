-- What is told of an object that the reader refuses: the spot of the first check that breaks, and the component that it belongs to.
use Rattle.std.specs.Prelude.{ℕ, List, Bool, true, cond, ◌≡◌, get_or, eqb}
use Rattle.std.proofs.Math.Option.{Option, none, some}
use Rattle.meaning.specs.Tree.{Node}
use Rattle.meaning.specs.Check.{refuse}
use Rattle.meaning.specs.Model.{Word}
use Rattle.meaning.specs.Layouts.{layout_of}
use Rattle.meaning.specs.Judge.{object}
use Rattle.walk.specs.Reading.{Ends, Reads}
use Rattle.object.specs.Verdict.{lacks_dtype, Fields, Standing}
use Rattle.explained.specs.Step.{Step, first}
use Rattle.explained.specs.Order.{object_steps}
use Rattle.spot.specs.Shown.{spot}
use Rattle.badvalues.specs.Steps.{value_steps}
use Rattle.badparts.specs.Parts.{Owned}
use Rattle.badparts.specs.Parts.{owned, owned_by, part_steps}

-- a needed field is missing: its slot is empty
unfoldable pub lacks : ℕ → List ℕ → Bool
lacks layout p = cond (eqb (get_or p 1 0) 0) true (cond (eqb (get_or p 2 0) 0) true (cond (eqb (get_or p 4 0) 0) true (lacks_dtype layout (get_or p 0 0))))

-- of the first check that breaks: its number and place, and where its component's name stands
unfoldable pub owned_of : Option (Step Ends) → Owned
owned_of none = owned (spot 0 0) 0
owned_of (some s) = owned_by s

-- values, components and rules, over the fields of an object
abbrev pub rest_steps : ℕ → ℕ → Fields → List (Step Ends)
rest_steps layout start f = value_steps (layout_of layout) f (λ d s w. part_steps (layout_of layout) start f.shape f.components d s w)

-- the fields stand at the places p in s; a check with this number and component breaks first
abbrev pub ValuesAre : ℕ → List ℕ → ℕ → List ℕ → ℕ → ℕ → Owned → Type 0
ValuesAre layout s start p n c r =
    (f : Fields) → Standing layout s p f → (x : Step Ends) → first (rest_steps layout start f) ≡ some x → x.number ≡ n → x.component ≡ c → r ≡ owned_by x

-- for every object that is read at s, under any name, if the reader refuses it so
abbrev pub ObjectIs : ℕ → List ℕ → ℕ → ℕ → ℕ → Owned → Type 0
ObjectIs layout s start n c r =
    (t : Node Ends) (q : List ℕ) → Reads 30 s t q → (w : Word Ends) (o : ℕ) → object (layout_of layout) start (record { name = w; value = t }) ≡ refuse n o c
    → r ≡ owned_of (first (object_steps (layout_of layout) start (record { name = w; value = t })))
