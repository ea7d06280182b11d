-- What breaks in an object's map before its values: its kind, its entries, a field that is missing. None of these belongs to a component.
use Prim.Native.Nat.{ℕ, ◌<◌}
use mathlib.Core.List.{List, [], ◌∷◌, ◌++◌}
use mathlib.Core.Bool.{true, false}
use mathlib.Core.Option.{Option, none, some}
use mathlib.Core.Path.{◌≡◌, refl, ap, sym, ◌∙◌}
use native.Mathlib.Omega.{arith}
use lib.ListN.{length}
use Rattle.meaning.specs.Tree.{Node, Pair, note_of}
use Rattle.meaning.specs.Check.{fault}
use Rattle.meaning.specs.Kind.{a_mapping}
use Rattle.meaning.specs.Model.{Word}
use Rattle.meaning.specs.Field.{is_some, key_of}
use Rattle.meaning.specs.Layouts.{Slots, somes}
use Rattle.walk.specs.Reading.{Ends}
use Rattle.component.specs.Value as value
use Rattle.explained.specs.Step.{Step, first}
use Rattle.explained.specs.Order.{more, mapping_steps, key_steps, repeat_steps, field_steps, missing, missing_in}
use Rattle.spot.specs.Shown.{spot}
use Rattle.badfields.specs.Fields.{entry_steps}
use Rattle.badfields.proofs.Firsts.{Each, no_more, and_so, each-++}
use Rattle.badvalues.specs.Steps.{Alone}
use Rattle.badvalues.proofs.Alone.{Plain}
use Rattle.badparts.specs.Parts.{owned, owned_by}
use Rattle.badobject.specs.Owner.{owned_of}

-- a check of this number at the item t
abbrev pub step_at : ℕ → Node Ends → Step Ends
step_at n t = record { number = n; object = 0; component = 0; object_name = none; component_name = none; place = note_of t; right = false }

pub step-alone : (n left : ℕ) (t : Node Ends) → left ≡ length (note_of t).start → (f : Option (Step Ends)) → f ≡ some (step_at n t) → Alone n left f
step-alone n left t l f e = record { this = step_at n t; is = e; number = refl; place = sym l; owner = refl }

-- it is told without a component
pub alone-owned : (n left : ℕ) (f : Option (Step Ends)) → Alone n left f → owned (spot n left) 0 ≡ owned_of f
unfolding owned_of owned_by
alone-owned n left f a = same a.this a.number a.place a.owner ∙ ap owned_of (sym a.is)
  where
    same : (x : Step Ends) → x.number ≡ n → length x.place.start ≡ left → x.component_name ≡ none → owned (spot n left) 0 ≡ owned_by x
    same x e g h = rw (← e, ← g) (ap (λ (w : Option (Word Ends)). owned (spot x.number (length x.place.start)) (value.left_word w)) (sym h))

pub no-map : (ns : Slots) (t : Node Ends) → a_mapping t ≡ fault 8 → (r : List (Step Ends)) → first (field_steps ns t ++ r) ≡ some (step_at 8 t)
unfolding field_steps mapping_steps
no-map ns t e r = rw e refl

-- ---------------------------------------------------------------- entries

plain : (n : ℕ) → 0 < n → (0 < n) × (◌≡◌ {A = Option (Word Ends)} none none)
plain n h = (h, refl)

keys-plain : (ps : List (Pair Ends)) → Each Plain (key_steps ps)
unfolding key_steps
keys-plain [] = no_more
keys-plain (p ∷ ps) = and_so (plain 9 (omega arith)) (keys-plain ps)

repeats-plain : (known before : List (List ℕ)) (ps : List (Pair Ends)) → Each Plain (repeat_steps known before ps)
unfolding repeat_steps
repeats-plain known before [] = no_more
repeats-plain known before (p ∷ ps) = and_so (plain 11 (omega arith)) (repeats-plain known (more before (key_of p)) ps)

pub entries-plain : (ns : Slots) (ps : List (Pair Ends)) → Each Plain (entry_steps ns ps)
entries-plain ns ps = each-++ (keys-plain ps) (repeats-plain (somes ns) [] ps)

-- ---------------------------------------------------------------- fields that are missing

module _ (t : Node Ends) (r : List (Step Ends)) where
  module _ {A : Type 0} where
    pub here : (v : Option A) → v ≡ none → first (missing t v ++ r) ≡ some (step_at 12 t)
    unfolding missing is_some
    here v e = rw e refl

    pub later : (v : Option A) → first r ≡ some (step_at 12 t) → first (missing t v ++ r) ≡ some (step_at 12 t)
    unfolding missing is_some
    later none h = refl
    later (some a) h = h

  pub here_in : (name : Option (List ℕ)) (v : Option (Node Ends)) → is_some name ≡ true → v ≡ none → first (missing_in name t v ++ r) ≡ some (step_at 12 t)
  unfolding missing_in is_some
  here_in none v e h = absurd (let z : ◌≡◌ {A = ℕ} 0 1 = cc in omega arith)
  here_in (some n) v e h = here v h

  pub later-in : (name : Option (List ℕ)) (v : Option (Node Ends)) → first r ≡ some (step_at 12 t) → first (missing_in name t v ++ r) ≡ some (step_at 12 t)
  unfolding missing_in
  later-in none v h = h
  later-in (some n) v h = later v h
