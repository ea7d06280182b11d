-- The component that a check belongs to, by its index.
use Prim.Native.Nat.{ℕ, zero, suc, ◌+◌, ◌<◌}
use mathlib.Core.List.{List, [], ◌∷◌, map}
use mathlib.Core.Option.{Option, none, some}
use mathlib.Core.Path.{◌≡◌, refl, ap, sym, ◌∙◌, subst}
use native.Mathlib.Omega.{arith}
use lib.ListN.{length, get_or}
use Rattle.meaning.specs.Notes.{map_option}
use Rattle.meaning.specs.Model.{Named}
use Rattle.walk.specs.Reading.{Ends}
use Rattle.explained.specs.Step as steps
use Rattle.explained.specs.Step.{Step, first, each_of}
use Rattle.explained.specs.Breaks.{At, first as top, later}
use Rattle.explained.proofs.Jump.{first-in_component}
use Rattle.entry.specs.Nth.{nth}
use Rattle.indexed.proofs.Named.{the-nth}
use Rattle.badfields.proofs.Firsts.{none_first, broken-first}

module _ (g : Named Ends → List (Step Ends)) where
  abbrev owning : ℕ → Named Ends → List (Step Ends)
  owning j n = map (steps.in_component j (some n.name)) (g n)

  pub record Blamed (i : ℕ) (ns : List (Named Ends)) (x : Step Ends) : Type 0 where
    pub it : Named Ends
    pub at : At x.component it i ns
    pub inner : Step Ends
    pub breaks : first (g it) ≡ some inner
    pub is : x ≡ steps.in_component x.component (some it.name) inner

  pub blamed : (i : ℕ) (ns : List (Named Ends)) (x : Step Ends) → first (each_of owning i ns) ≡ some x → Blamed i ns x
  blamed i [] x e = absurd (let z : ◌≡◌ {A = ℕ} 0 1 = cc in omega arith)
  blamed i (a ∷ l) x e = go (first (g a)) refl (blamed (suc i) l x)
    where
      go : (f : Option (Step Ends)) → first (g a) ≡ f → (first (each_of owning (suc i) l) ≡ some x → Blamed (suc i) l x) → Blamed i (a ∷ l) x
      go none h ih =
          let q : first (owning i a) ≡ none = first-in_component i (some a.name) (g a) ∙ ap (map_option (steps.in_component i (some a.name))) h in
          let k = ih (sym (none_first (owning i a) (each_of owning (suc i) l) q) ∙ e) in
          record { it = k.it; at = later k.at; inner = k.inner; breaks = k.breaks; is = k.is }
      go (some y) h ih =
          let q : first (owning i a) ≡ some (steps.in_component i (some a.name) y) = first-in_component i (some a.name) (g a) ∙ ap (map_option (steps.in_component i (some a.name))) h in
          let p : some (steps.in_component i (some a.name) y) ≡ some x = sym (broken-first (owning i a) (each_of owning (suc i) l) _ q) ∙ e in
          let z : steps.in_component i (some a.name) y ≡ x = cc in
          let j : i ≡ x.component = ap (λ (s : Step Ends). s.component) z in
          record { it = a; at = subst (λ k. At k a i (a ∷ l)) j top; inner = y; breaks = h; is = sym z ∙ ap (λ k. steps.in_component k (some a.name) y) j }

-- ---------------------------------------------------------------- an index that is below the length

pick : {A : Type 0} (i c : ℕ) (l : List A) → c < length l → (a : A) × At (i + c) a i l
pick i c [] h = absurd (omega (arith, h))
pick i zero (a ∷ l) h = (a, subst (λ k. At k a i (a ∷ l)) (let z : i ≡ i + 0 = omega arith in z) top)
pick i (suc c) (b ∷ l) h = let k = pick (suc i) c l (omega (arith, h)) in (k.0, later (subst (λ j. At j k.0 (suc i) l) (let z : suc i + c ≡ i + suc c = omega arith in z) k.1))

pub picked : {A : Type 0} (c : ℕ) (l : List A) → c < length l → (a : A) × At c a 0 l
picked c l h = let k = pick 0 c l h in (k.0, subst (λ j. At j k.0 0 l) (let z : 0 + c ≡ c = omega arith in z) k.1)

nth-got : {A B : Type 0} (g : A → B) (d : B) (l : List A) (c : ℕ) (a : A) → nth c l ≡ some a → get_or (map g l) c d ≡ g a
unfolding nth
nth-got g d [] c a e = absurd (let z : ◌≡◌ {A = ℕ} 0 1 = cc in omega arith)
nth-got g d (b ∷ l) zero a e = let z : b ≡ a = cc in ap g z
nth-got g d (b ∷ l) (suc c) a e = nth-got g d l c a e

pub got : {A B : Type 0} (g : A → B) (d : B) (l : List A) (c : ℕ) (a : A) → At c a 0 l → get_or (map g l) c d ≡ g a
got g d l c a h = nth-got g d l c a (the-nth h)
