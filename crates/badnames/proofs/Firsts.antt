-- The first check of a list that breaks, as a spot: of one list after another, and of the same check of every one.
use Prim.Native.Nat.{ℕ, ◌<◌}
use native.Mathlib.Omega.{arith}
use mathlib.Core.List.{List, [], ◌∷◌, ◌++◌, map}
use mathlib.Core.Bool.{Bool, true, false, cond, not, ◌&&◌}
use mathlib.Core.Option.{Option, none, some}
use mathlib.Core.Path.{◌≡◌, refl, ap, sym, ◌∙◌}
use lib.ListN.{length}
use Rattle.meaning.specs.Text.{all}
use Rattle.walk.specs.Reading.{Ends}
use Rattle.naming.proofs.NameNoted.{all_snoc}
use Rattle.explained.specs.Step.{Step, first, every}
use Rattle.explained.proofs.Why.{or_else}
use Rattle.spot.specs.Shown.{spot, shown}
use Rattle.spot.specs.Shown.{Spot}

-- a check that breaks hides what follows
pub shown-here : (f g : Option (Step Ends)) {n l : ℕ} → 0 < n → shown f ≡ spot n l → shown (or_else f g) ≡ spot n l
unfolding shown or_else
shown-here none g {n} h e = let z : ◌≡◌ {A = ℕ} 0 n = ap (λ (x : Spot). x.number) e in absurd (omega (arith, z, h))
shown-here (some s) g h e = e

pub broken-first : (f g : Option (Step Ends)) {x : Step Ends} → f ≡ some x → or_else f g ≡ some x
unfolding or_else
broken-first f g e = rw e refl

abbrev pub step_of : ℕ → Ends → Bool → Step Ends
step_of n w b = record { number = n; object = 0; component = 0; object_name = none; component_name = none; place = w; right = b }

module _ {A : Type 0} (n : ℕ) (place : A → Ends) (right : A → Bool) where
  pub every-right : (l : List A) → all right l ≡ true → first (every n place right l) ≡ none
  every-right [] e = refl
  every-right (a ∷ l) e = go (right a) e (every-right l)
    where
      go : (b : Bool) → (b && all right l) ≡ true → (all right l ≡ true → first (every n place right l) ≡ none) → cond b (first (every n place right l)) (some (step_of n (place a) b)) ≡ none
      go true e ih = ih e
      go false e ih = absurd (let z : ◌≡◌ {A = ℕ} 0 1 = cc in omega arith)

  every-snoc : (l : List A) (a : A) → first (every n place right (l ++ a ∷ [])) ≡ cond (all right l) (cond (right a) none (some (step_of n (place a) (right a)))) (first (every n place right l))
  every-snoc [] a = refl
  every-snoc (x ∷ l) a = go (right x) (every-snoc l a)
    where
      go : (b : Bool) → first (every n place right (l ++ a ∷ [])) ≡ cond (all right l) (cond (right a) none (some (step_of n (place a) (right a)))) (first (every n place right l))
          → cond b (first (every n place right (l ++ a ∷ []))) (some (step_of n (place x) b))
          ≡ cond (b && all right l) (cond (right a) none (some (step_of n (place a) (right a)))) (cond b (first (every n place right l)) (some (step_of n (place x) b)))
      go true ih = ih
      go false ih = refl

  -- what is held once one is found, and until then the one at hand, is the place of the first
  pub found_first : (l : List A) (a : A) (flag flag' : Bool) (held left : ℕ) → flag ≡ not (all right l) → flag' ≡ not (all right (l ++ a ∷ [])) → length (place a).start ≡ left
      → (flag ≡ true → shown (first (every n place right l)) ≡ spot n held) → flag' ≡ true → shown (first (every n place right (l ++ a ∷ []))) ≡ spot n (cond flag held left)
  unfolding shown
  found_first l a flag flag' held left e e' is before found =
      ap shown (every-snoc l a) ∙ go (all right l) (right a) flag e (sym found ∙ e' ∙ ap not (all_snoc right l a)) before
    where
      go : (b c f : Bool) → f ≡ not b → true ≡ not (b && c) → (f ≡ true → shown (first (every n place right l)) ≡ spot n held)
          → shown (cond b (cond c none (some (step_of n (place a) c))) (first (every n place right l))) ≡ spot n (cond f held left)
      go true true f e x h = absurd (let z : ◌≡◌ {A = ℕ} 0 1 = cc in omega arith)
      go true false f e x h = ap (spot n) is ∙ (rw e refl)
      go false c f e x h = h e ∙ (rw e refl)

-- the same check of what each is taken for
pub every_map : {A B : Type 0} (n : ℕ) (u : A → B) (place : B → Ends) (right : B → Bool) (place' : A → Ends) (right' : A → Bool)
    → ((a : A) → place (u a) ≡ place' a) → ((a : A) → right (u a) ≡ right' a) → (l : List A) → every n place right (map u l) ≡ every n place' right' l
every_map n u place right place' right' p r [] = refl
every_map n u place right place' right' p r (a ∷ l) = rw (p a, r a, every_map n u place right place' right' p r l) refl
