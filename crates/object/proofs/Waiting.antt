-- Which values wait for the end of an object's map, and what is put into the table where one is met.
use Prim.Native.Nat.{ℕ, ◌+◌, ◌<◌}
use native.Mathlib.Omega.{arith}
use mathlib.Core.List.{List}
use mathlib.Core.Bool.{Bool, true, false, cond, not, ◌||◌}
use mathlib.Core.Path.{◌≡◌, refl, ap, sym, ◌∙◌, subst}
use lib.ListN.{length, get_or, set}
use lib.Seq.{get_or-set_same, get_or-set_other}
use lib.Dec.{ltb, eqb}
use borrow.Author.Tests.{eq-eqb, ne_eqb, eqb-true, eqb-false}
use borrow.Author.Rules.{part_to_end}
use Rattle.meaning.proofs.Tests.{not-both}
use Rattle.fields.specs.Slots.{marked}
use Rattle.fields.proofs.Texts.{Here}
use Rattle.table.specs.Given.{offered}
use Rattle.table.specs.Rows.{RowsPut}
use Rattle.table.specs.declared.Place.{Place}
use Rattle.object.specs.Verdict.{waiting}
use Rattle.object.specs.Laying.{ValuePut}

module _ (layout k seen : ℕ) where
  pub waits-old : layout ≡ 1 → waiting layout k seen ≡ true
  unfolding waiting
  waits-old e = rw (eq-eqb layout 1 e) refl

  pub waits-not : (layout ≡ 1 → ⊥) → k ≡ 4 → seen ≡ 0 → waiting layout k seen ≡ false
  unfolding waiting
  waits-not a b c = rw (ne_eqb layout 1 a, eq-eqb k 4 b, eq-eqb seen 0 c) refl

  pub waits-other : (k ≡ 4 → seen ≡ 0 → ⊥) → waiting layout k seen ≡ true
  unfolding waiting
  waits-other n = go (eqb layout 1) (eqb k 4) refl (eqb seen 0) refl
    where
      go : (x y : Bool) → eqb k 4 ≡ y → (z : Bool) → eqb seen 0 ≡ z → (x || (not y || not z)) ≡ true
      go true y e z f = refl
      go false false e z f = refl
      go false true e false f = refl
      go false true e true f = absurd (n (eqb-true k 4 e) (eqb-true seen 0 f))

module _ (layout start : ℕ) (to : Place) (k seen : ℕ) (c before : List ℕ) (b : Bool) (is : b ≡ waiting layout k seen) where
  pub first-put : b ≡ false → (after : List ℕ) → RowsPut (offered layout 4 13) (Here c 0) start to.end to.owner to.from before after → ValuePut layout start to k seen c before after
  first-put e after h = record {
    first = λ x. subst (λ u. RowsPut (offered layout 4 13) u start to.end to.owner to.from before after) (part_to_end c 0) h;
    other = λ x. absurd (not-both (is ∙ x) e);
  }

  pub stays : b ≡ true → ValuePut layout start to k seen c before before
  stays e = record { first = λ x. absurd (not-both e (is ∙ x)); other = λ x. refl }

-- a slot that is still blank was so before, and another was marked
pub still-blank : (known : ℕ) (p : List ℕ) (j left i : ℕ) → 0 < left → i < known → i < length p → get_or (marked known p j left) i 0 ≡ 0 → (get_or p i 0 ≡ 0) × (j ≡ i → ⊥)
unfolding marked
still-blank known p j left i some low room = go (ltb j known) refl (eqb (get_or p j 0) 0) refl
  where
    here : get_or (set p j left) i 0 ≡ 0 → j ≡ i → ⊥
    here e z = let y : get_or (set p i left) i 0 ≡ 0 = ap (λ j. get_or (set p j left) i 0) (sym z) ∙ e in let x = get_or-set_same p i left 0 room in omega arith

    elsewhere : (k : ℕ) → (k ≡ i → ⊥) → get_or (set p k left) i 0 ≡ 0 → get_or p i 0 ≡ 0
    elsewhere k n e = sym (get_or-set_other p k i left 0 (λ z. n (sym z))) ∙ e

    go : (a : Bool) → ltb j known ≡ a → (b : Bool) → eqb (get_or p j 0) 0 ≡ b → get_or (cond a (cond b (set p j left) (set p (known + 2) left)) (set p j left)) i 0 ≡ 0 → (get_or p i 0 ≡ 0) × (j ≡ i → ⊥)
    go true x true y e = (elsewhere j (here e) e, here e)
    go true x false y e = let z = elsewhere (known + 2) (λ q. omega arith) e in (z, λ q. eqb-false (get_or p j 0) 0 y (ap (λ j. get_or p j 0) q ∙ z))
    go false x b y e = (elsewhere j (here e) e, here e)
