-- A map with known fields: its kind, its entries, and fields that are missing.
use Prim.Native.Nat.{ℕ}
use mathlib.Core.List.{List, ◌++◌}
use mathlib.Core.Bool.{true}
use mathlib.Core.Option.{Option, none, some}
use mathlib.Core.Path.{◌≡◌, refl, ap, sym, ◌∙◌}
use native.Mathlib.Omega.{arith}
use lib.ListN.{length}
use Rattle.meaning.specs.Tree.{Node, Pair, note_of}
use Rattle.meaning.specs.Check.{pass, fault}
use Rattle.meaning.specs.Kind.{kind, mapping, a_mapping, as_mapping}
use Rattle.meaning.specs.Field.{is_some}
use Rattle.meaning.specs.Layouts.{Slots}
use Rattle.walk.specs.Reading.{Ends}
use Rattle.explained.specs.Step as steps
use Rattle.explained.specs.Step.{Step, first, given}
use Rattle.explained.specs.Order.{mapping_steps, field_steps, missing, missing_in}
use Rattle.spot.specs.Shown.{spot, shown}
use Rattle.badfields.specs.Fields.{entry_steps}

pub table_is : {P : Type 0} (t : Node P) (ps : List (Pair P)) → kind t ≡ mapping ps → a_mapping t ≡ pass ps
unfolding a_mapping as_mapping
table_is t ps e = rw e refl

module _ (ns : Slots) (t : Node Ends) where
  pub no-map : a_mapping t ≡ fault 8 → (r : List (Step Ends)) → spot 8 (length (note_of t).start) ≡ shown (first (field_steps ns t ++ r))
  unfolding field_steps mapping_steps shown
  no-map e r = rw e refl

  pub map-entries : (ps : List (Pair Ends)) → a_mapping t ≡ pass ps → (g : List (Pair Ends) → List (Step Ends))
      → first (field_steps ns t ++ steps.◌>>=◌ (given (a_mapping t)) g) ≡ first (entry_steps ns ps ++ g ps)
  unfolding field_steps mapping_steps
  map-entries ps e g = rw e refl

-- ---------------------------------------------------------------- fields that are missing

module _ (t : Node Ends) (left : ℕ) (is : left ≡ length (note_of t).start) (r : List (Step Ends)) where
  module _ {A : Type 0} where
    pub missing-here : (v : Option A) → v ≡ none → spot 12 left ≡ shown (first (missing t v ++ r))
    unfolding missing is_some shown
    missing-here v e = rw (e, is) refl

    pub missing-not : (v : Option A) (a : A) → v ≡ some a → first (missing t v ++ r) ≡ first r
    unfolding missing is_some
    missing-not v a e = rw e refl

    -- whether it is there or not, if something later is missing
    pub missing-later : (v : Option A) → spot 12 left ≡ shown (first r) → spot 12 left ≡ shown (first (missing t v ++ r))
    missing-later none h = missing-here none refl
    missing-later (some a) h = h ∙ ap shown (sym (missing-not (some a) a refl))

  -- a field that the layout may lack
  pub missing-in-here : (name : Option (List ℕ)) (v : Option (Node Ends)) → is_some name ≡ true → v ≡ none → spot 12 left ≡ shown (first (missing_in name t v ++ r))
  unfolding missing_in is_some
  missing-in-here none v e h = absurd (let z : ◌≡◌ {A = ℕ} 0 1 = cc in omega arith)
  missing-in-here (some n) v e h = missing-here v h

  pub missing-in-later : (name : Option (List ℕ)) (v : Option (Node Ends)) → spot 12 left ≡ shown (first r) → spot 12 left ≡ shown (first (missing_in name t v ++ r))
  unfolding missing_in
  missing-in-later none v h = h
  missing-in-later (some n) v h = missing-later v h

  pub missing-in-not : (name : Option (List ℕ)) (v : Option (Node Ends)) → (is_some name ≡ true → v ≡ none → ⊥) → first (missing_in name t v ++ r) ≡ first r
  unfolding missing_in is_some
  missing-in-not none v h = refl
  missing-in-not (some n) none h = absurd (h refl refl)
  missing-in-not (some n) (some a) h = missing-not (some a) a refl
