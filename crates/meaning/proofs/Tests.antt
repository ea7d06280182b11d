-- Tests: one that holds is not one that doesn't; of two at once, each. Assumes nothing.
use Prim.Native.Nat.{ℕ, zero, suc}
use native.Mathlib.Omega.{arith}
use mathlib.Core.Bool.{Bool, true, false, not, cond, ◌&&◌}
use mathlib.Core.Path.{◌≡◌, refl, ap, sym, ◌∙◌}
use lib.Dec.{eqb, eqb-suc-zero, eqb-zero-suc, eqb-suc-suc}

pub false-not : false ≡ true → ⊥
false-not e = let z : ◌≡◌ {A = ℕ} 0 1 = cc in omega arith

pub not-both : {b : Bool} → b ≡ true → b ≡ false → ⊥
not-both p q = let z : ◌≡◌ {A = ℕ} 0 1 = cc in omega arith

pub both_left : (a b : Bool) → (a && b) ≡ true → a ≡ true
both_left true b e = refl
both_left false b e = e

pub both_right : (a b : Bool) → (a && b) ≡ true → b ≡ true
both_right true b e = e
both_right false b e = absurd (false-not e)

pub both_true : (a b : Bool) → (a && b) ≡ true → (a ≡ true) × (b ≡ true)
both_true a b e = (both_left a b e, both_right a b e)

pub four-true : (a b c d : Bool) → (a && b && c && d) ≡ true → (a ≡ true) × ((b ≡ true) × ((c ≡ true) × (d ≡ true)))
four-true true true c d e = (refl, (refl, both_true c d e))
four-true true false c d e = absurd (false-not e)
four-true false b c d e = absurd (false-not e)

pub opposite : {a b : Bool} → a ≡ not b → (t : Bool) → a ≡ t → b ≡ not t
opposite {a} {b} h t e = go b t (sym h ∙ e)
  where
    go : (b t : Bool) → not b ≡ t → b ≡ not t
    go true t z = ap not z
    go false t z = ap not z

pub and-true : (b : Bool) → (b && true) ≡ b
and-true true = refl
and-true false = refl

pub and-false : (b : Bool) → (b && false) ≡ false
and-false true = refl
and-false false = refl

pub cond_map : {A B : Type 0} (g : A → B) (b : Bool) (x y : A) → g (cond b x y) ≡ cond b (g x) (g y)
cond_map g true x y = refl
cond_map g false x y = refl

pub eqb-turned : (a b : ℕ) → eqb a b ≡ eqb b a
eqb-turned zero zero = refl
eqb-turned zero (suc b) = eqb-zero-suc b ∙ sym (eqb-suc-zero b)
eqb-turned (suc a) zero = eqb-suc-zero a ∙ sym (eqb-zero-suc a)
eqb-turned (suc a) (suc b) = eqb-suc-suc a b ∙ eqb-turned a b ∙ sym (eqb-suc-suc b a)
