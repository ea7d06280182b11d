-- One mark in the slots, a branch each; and one pair of a map in a loop over its entries.
use mathlib.Core.Path.{◌≡◌, refl, ap, ◌∙◌}
use mathlib.Core.List.{List}
use mathlib.Core.Bool.{Bool, true, false, cond}
use Prim.Native.Nat.{ℕ, suc, ◌+◌, ◌-◌, ◌≤◌, ◌<◌}
use lib.ListN.{length, get_or, drop, set, length-drop, length-set}
use lib.Dec.{ltb, eqb}
use borrow.Author.Tests.{eq-eqb, ne_eqb, lt-ltb, le-ltb}
use Rattle.meaning.specs.Tree.{Pair, note_of}
use Rattle.meaning.specs.Layouts.{Slots}
use Rattle.meaning.specs.Field as field
use Rattle.walk.specs.Reading.{Ends, Reads}
use Rattle.walk.proofs.ReadSays.{note-of}
use Rattle.fields.specs.Slots.{marked, marks, SlotIs}

module _ (known : ℕ) (p : List ℕ) (k left : ℕ) where
  pub mark-late : known ≤ k → set p k left ≡ marked known p k left
  unfolding marked
  mark-late h = rw (le-ltb k known h)

  pub mark-first : k < known → get_or p k 0 ≡ 0 → set p k left ≡ marked known p k left
  unfolding marked
  mark-first h e = rw (lt-ltb k known h, eq-eqb _ _ e)

  pub mark-again : k < known → (get_or p k 0 ≡ 0 → ⊥) → set p (known + 2) left ≡ marked known p k left
  unfolding marked
  mark-again h e = rw (lt-ltb k known h, ne_eqb _ _ e)

  pub marked-length : length (marked known p k left) ≡ length p
  unfolding marked
  marked-length = go (ltb k known) (eqb (get_or p k 0) 0)
    where
      go : (a b : Bool) → length (cond a (cond b (set p k left) (set p (known + 2) left)) (set p k left)) ≡ length p
      go true true = length-set p k left
      go true false = length-set p (known + 2) left
      go false b = length-set p k left

-- a pair whose key stands at `at` and whose value stands at v
pub marks-step : (slots : Slots) (n : ℕ) → length slots ≡ n → (d : ℕ) (s : List ℕ) (at v : ℕ) (st q : List ℕ) (k : ℕ) → SlotIs slots (drop at s) k → q ≡ marked n st k (length s - v)
    → (p : Pair Ends) (r₁ r₂ : List ℕ) → Reads (suc d) (drop at s) p.key r₁ → Reads (suc d) (drop v s) p.value r₂ → q ≡ marks slots st p
unfolding marks field.key_of
marks-step slots n places d s at v st q k slot_is is p r₁ r₂ key value =
    let left_is : length (note_of p.value).start ≡ length s - v = ap (λ n. length n.start) (note-of (suc d) (drop v s) p.value r₂ value) ∙ length-drop v s in
    is ∙ (rw (slot_is d p.key r₁ key, ← left_is, ← places) refl)
