-- What stands at a place: absent, null, or an item that was asked about at the part from `at` on.
use mathlib.Core.Path.{◌≡◌, refl, sym, ap, ◌∙◌, subst}
use mathlib.Core.List.{List}
use mathlib.Core.Bool.{Bool, true, false}
use mathlib.Core.Option.{Option, none, some}
use Prim.Native.Nat.{ℕ, suc, ◌-◌}
use native.Mathlib.Omega.{arith}
use lib.ListN.{length, drop}
use borrow.Author.Rules.{part_to_end}
use Rattle.meaning.specs.Tree.{Node}
use Rattle.meaning.specs.Kind as kinds
use Rattle.meaning.specs.Kind.{Kind, kind, present, present_kind}
use Rattle.walk.specs.Reading.{Ends, Reads}
use Rattle.walk.specs.Places.{Whatever, is_null, NullIs}
use Rattle.fields.proofs.Texts.{Here}
use Rattle.fields.specs.Slots.{ItemAt, OptionAt}

null-absent : (t : Node Ends) → is_null (kind t) ≡ true → present (some t) ≡ none
unfolding present present_kind
null-absent t = go (kind t)
  where
    go : (k : Kind Ends) → is_null k ≡ true → present_kind t k ≡ none
    go (kinds.number n) e = absurd (let z : ◌≡◌ {A = ℕ} 0 1 = cc in omega arith)
    go (kinds.words w) e = absurd (let z : ◌≡◌ {A = ℕ} 0 1 = cc in omega arith)
    go (kinds.list l) e = absurd (let z : ◌≡◌ {A = ℕ} 0 1 = cc in omega arith)
    go (kinds.mapping l) e = absurd (let z : ◌≡◌ {A = ℕ} 0 1 = cc in omega arith)
    go kinds.null e = refl
    go kinds.another e = absurd (let z : ◌≡◌ {A = ℕ} 0 1 = cc in omega arith)

other-present : (t : Node Ends) → is_null (kind t) ≡ false → present (some t) ≡ some t
unfolding present present_kind
other-present t = go (kind t)
  where
    go : (k : Kind Ends) → is_null k ≡ false → present_kind t k ≡ some t
    go (kinds.number n) e = refl
    go (kinds.words w) e = refl
    go (kinds.list l) e = refl
    go (kinds.mapping l) e = refl
    go kinds.null e = absurd (let z : ◌≡◌ {A = ℕ} 0 1 = cc in omega arith)
    go kinds.another e = refl

module _ (s : List ℕ) (left : ℕ) where
  pub there : (at : ℕ) → at ≡ length s - left → (P : Node Ends → Type 0) → (Whatever (Here s at) λ d t q. P t) → ItemAt s left P
  there at is P h d t x = h d t x.rest (subst (λ u. Reads (suc d) u t x.rest) (sym (part_to_end s at ∙ ap (λ (i : ℕ). drop i s) is)) x.reads)

-- a check F of what may be absent has the outcome r
module _ {R : Type 0} (F : Option (Node Ends) → R) (s : List ℕ) (left : ℕ) where
  pub nothing-there : left ≡ 0 → OptionAt s left (λ o. F o ≡ F none)
  nothing-there z d none h = refl
  nothing-there z d (some t) h = let x = h.0 in absurd (omega arith)

  module _ (r : R) (at : ℕ) (is : at ≡ length s - left) (here : left ≡ 0 → ⊥) where
    pub something-there : (Whatever (Here s at) λ d t q. F (some t) ≡ r) → OptionAt s left (λ o. F o ≡ r)
    something-there h d none e = absurd (here e)
    something-there h d (some t) x = there s left at is (λ t. F (some t) ≡ r) h d t x.1

-- where null counts as absent
module _ {R : Type 0} (F : Option (Node Ends) → R) (s : List ℕ) (left : ℕ) where
  pub none-there : left ≡ 0 → OptionAt s left (λ o. F (present o) ≡ F none)
  unfolding present
  none-there = nothing-there (λ o. F (present o)) s left

  module _ (at : ℕ) (is : at ≡ length s - left) (here : left ≡ 0 → ⊥) (b : Bool) (asked : NullIs (Here s at) b) where
    pub null-there : b ≡ true → OptionAt s left (λ o. F (present o) ≡ F none)
    null-there e = something-there (λ o. F (present o)) s left (F none) at is here (λ d t q x. ap F (null-absent t (asked d t q x ∙ e)))

    pub item-there : (r : R) → b ≡ false → (Whatever (Here s at) λ d t q. F (some t) ≡ r) → OptionAt s left (λ o. F (present o) ≡ r)
    item-there r e h = something-there (λ o. F (present o)) s left r at is here (λ d t q x. ap F (other-present t (asked d t q x ∙ e)) ∙ h d t q x)
