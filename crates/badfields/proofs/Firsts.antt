-- The first check that breaks in lists one after the other, from the spot that is shown of it; and what holds of every check of a list.
use Prim.Native.Nat.{ℕ, suc, ◌<◌}
use mathlib.Core.List.{List, [], ◌∷◌, ◌++◌}
use mathlib.Core.Bool.{Bool, true, false, cond}
use mathlib.Core.Option.{Option, none, some}
use mathlib.Core.Path.{◌≡◌, refl, ap, sym, ◌∙◌, subst}
use native.Mathlib.Omega.{arith}
use Rattle.walk.specs.Reading.{Ends}
use Rattle.explained.specs.Step as steps
use Rattle.explained.specs.Step.{Step, first, every, each_of}
use Rattle.explained.proofs.Why.{or_else, first-++}
use Rattle.spot.specs.Shown.{shown}
use Rattle.spot.specs.Shown.{Spot}

-- something holds of every check of a list
pub data Each {P : Type 0} (Q : Step P → Type 0) : List (Step P) → Type 0 where
  no_more : Each Q []
  and_so : {s : Step P} {ss : List (Step P)} → Q s → Each Q ss → Each Q (s ∷ ss)

module _ {P : Type 0} {Q : Step P → Type 0} where
  pub each_first : {ss : List (Step P)} → Each Q ss → (x : Step P) → first ss ≡ some x → Q x
  each_first no_more x e = absurd (let z : ◌≡◌ {A = ℕ} 0 1 = cc in omega arith)
  each_first (and_so {s} {ss} q h) x e = go s.right e (each_first h x)
    where
      go : (b : Bool) → cond b (first ss) (some s) ≡ some x → (first ss ≡ some x → Q x) → Q x
      go true e f = f e
      go false e f = let y : s ≡ x = cc in subst Q y q

  pub each-++ : {s r : List (Step P)} → Each Q s → Each Q r → Each Q (s ++ r)
  each-++ no_more k = k
  each-++ (and_so q h) k = and_so q (each-++ h k)

  pub each-found : {A : Type 0} (v : Option A) (f : A → List (Step P)) → ((a : A) → Each Q (f a)) → Each Q (steps.◌>>=◌ v f)
  each-found none f h = no_more
  each-found (some a) f h = h a

  pub each-every : {A : Type 0} (n : ℕ) (place : A → P) (right : A → Bool) → ((a : A) → Each Q (steps.◌at◌unless◌ n (place a) (right a))) → (l : List A) → Each Q (every n place right l)
  each-every n place right h [] = no_more
  each-every n place right h (a ∷ l) = each-++ (h a) (each-every n place right h l)

  pub each_of_lem : {A : Type 0} (f : ℕ → A → List (Step P)) → ((i : ℕ) (a : A) → Each Q (f i a)) → (i : ℕ) (l : List A) → Each Q (each_of f i l)
  each_of_lem f h i [] = no_more
  each_of_lem f h i (a ∷ l) = each-++ (h i a) (each_of_lem f h (suc i) l)

module _ {P : Type 0} where
  -- a list in which a check breaks hides what follows; one in which none does is passed over
  pub broken-first : (s r : List (Step P)) (x : Step P) → first s ≡ some x → first (s ++ r) ≡ some x
  unfolding or_else
  broken-first s r x e = first-++ s r ∙ ap (λ y. or_else y (first r)) e

  pub none_first : (s r : List (Step P)) → first s ≡ none → first (s ++ r) ≡ first r
  unfolding or_else
  none_first s r e = first-++ s r ∙ ap (λ y. or_else y (first r)) e

-- a check has a number
abbrev pub Numbered : {P : Type 0} → Step P → Type 0
Numbered s = 0 < s.number

module _ (s : List (Step Ends)) (x : Spot) (is : x ≡ shown (first s)) where
  pub shown-here : (r : List (Step Ends)) → (x.number ≡ 0 → ⊥) → x ≡ shown (first (s ++ r))
  unfolding shown
  shown-here r n = go (first s) refl
    where
      go : (f : Option (Step Ends)) → first s ≡ f → x ≡ shown (first (s ++ r))
      go none e = absurd (n (ap (λ (y : Spot). y.number) (is ∙ ap shown e)))
      go (some y) e = is ∙ ap shown (e ∙ sym (broken-first s r y e))

  pub shown-none : Each Numbered s → x.number ≡ 0 → first s ≡ none
  unfolding shown
  shown-none h n = go (first s) refl
    where
      go : (f : Option (Step Ends)) → first s ≡ f → first s ≡ none
      go none e = e
      go (some y) e = let k = each_first h y e in let z : x.number ≡ y.number = ap (λ (u : Spot). u.number) (is ∙ ap shown e) in absurd (omega (arith, k, z, n))

  pub shown-past : Each Numbered s → x.number ≡ 0 → (r : List (Step Ends)) → first (s ++ r) ≡ first r
  shown-past h n r = none_first s r (shown-none h n)
