-- What every check of a list that is not right says.
use Prim.Native.Nat.{ℕ, suc}
use mathlib.Core.List.{List, [], ◌∷◌, ◌++◌, map}
use mathlib.Core.Bool.{Bool, true, false}
use mathlib.Core.Option.{Option, none, some}
use mathlib.Core.Path.{◌≡◌, refl, ap, ◌∙◌}
use Rattle.meaning.specs.Check.{Check, pass, refuse}
use Rattle.meaning.specs.Text.{all}
use Rattle.meaning.specs.Model.{Word}
use Rattle.meaning.specs.Field.{is_some}
use Rattle.meaning.proofs.Tests.{both_true}
use Rattle.explained.specs.Step
use Rattle.explained.specs.Step.{Step, ◌at◌unless◌, given, every, each_of}
use Rattle.explained.specs.Breaks.{At, first, later}

pub snoc : {A : Type 0} (l : List A) (a : A) (r : List A) → l ++ a ∷ r ≡ (l ++ a ∷ []) ++ r
snoc [] a r = refl
snoc {A} (b ∷ l) a r = ap {B = List A} (λ x. b ∷ x) (snoc l a r)

pub all_snoc : {A : Type 0} (p : A → Bool) (l : List A) (a : A) → all p l ≡ true → p a ≡ true → all p (l ++ a ∷ []) ≡ true
all_snoc p [] a e f = rw f
all_snoc p (b ∷ l) a e f = let h = both_true (p b) (all p l) e in rw (h.0, all_snoc p l a h.1 f)

-- each that is not right, where all before it are
pub data Truly {P : Type 0} (B : ℕ → ℕ → ℕ → Option (Word P) → Option (Word P) → P → Type 0) : List (Step P) → Type 0 where
  nothing : Truly B []
  also : {s : Step P} {ss : List (Step P)} → (s.right ≡ false → B s.number s.object s.component s.object_name s.component_name s.place) → (s.right ≡ true → Truly B ss) → Truly B (s ∷ ss)

module _ {P : Type 0} {B : ℕ → ℕ → ℕ → Option (Word P) → Option (Word P) → P → Type 0} where
  pub truly-at : (n : ℕ) (w : P) (b : Bool) → (b ≡ false → B n 0 0 none none w) → Truly B (n at w unless b)
  truly-at n w b f = also f (λ e. nothing)

  pub truly-then : {s r : List (Step P)} → Truly B s → Truly B r → Truly B (s ++ r)
  truly-then nothing g = g
  truly-then (also q f) g = also q (λ e. truly-then (f e) g)

  -- what follows may rest on all of these being right
  pub truly-after : {s r : List (Step P)} → Truly B s → (all (λ x. x.right) s ≡ true → Truly B r) → Truly B (s ++ r)
  truly-after nothing g = g refl
  truly-after (also q f) g = also q (λ e. truly-after (f e) (λ h. g (rw (e, h))))

  pub truly-this : (before after : List (Step P)) (s : Step P) → Truly B (before ++ s ∷ after) → all (λ x. x.right) before ≡ true → s.right ≡ false
      → B s.number s.object s.component s.object_name s.component_name s.place
  truly-this [] after s (also q f) r = q
  truly-this (x ∷ before) after s (also q f) r = let b = both_true x.right (all (λ y. y.right) before) r in truly-this before after s (f b.0) b.1

module _ {P A : Type 0} {B : ℕ → ℕ → ℕ → Option (Word P) → Option (Word P) → P → Type 0} where
  pub truly-some : {r : A → List (Step P)} (v : Option A) → ((a : A) → v ≡ some a → Truly B (r a)) → Truly B (Step.◌>>=◌ v r)
  truly-some none f = nothing
  truly-some (some a) f = f a refl

  pub truly-given : {r : A → List (Step P)} (m : Check A) → ((a : A) → m ≡ pass a → Truly B (r a)) → Truly B (Step.◌>>=◌ (given m) r)
  truly-given (pass a) f = f a refl
  truly-given (refuse n o c) f = nothing

  -- the leftmost that is not right
  every-from : (n : ℕ) (place : A → P) (right : A → Bool) (l left rest : List A) → l ≡ left ++ rest → all right left ≡ true
      → ((left rest : List A) (a : A) → l ≡ left ++ a ∷ rest → all right left ≡ true → right a ≡ false → B n 0 0 none none (place a)) → Truly B (every n place right rest)
  every-from n place right l left [] e h f = nothing
  every-from n place right l left (a ∷ rest) e h f =
      also (f left rest a e h) (λ g. every-from n place right l (left ++ a ∷ []) rest (e ∙ snoc left a rest) (all_snoc right left a h g) f)

  pub truly-every : (n : ℕ) (place : A → P) (right : A → Bool) (l : List A)
      → ((left rest : List A) (a : A) → l ≡ left ++ a ∷ rest → all right left ≡ true → right a ≡ false → B n 0 0 none none (place a)) → Truly B (every n place right l)
  truly-every n place right l f = every-from n place right l [] l refl refl f

  pub truly-each : {f : ℕ → A → List (Step P)} (i : ℕ) (l : List A) → ((j : ℕ) (a : A) → At j a i l → Truly B (f j a)) → Truly B (each_of f i l)
  truly-each i [] h = nothing
  truly-each i (a ∷ l) h = truly-then (h i a first) (truly-each (suc i) l (λ j b g. h j b (later g)))

module _ {P : Type 0} {B : ℕ → ℕ → ℕ → Option (Word P) → Option (Word P) → P → Type 0} where
  pub truly-in_component : (j : ℕ) (w : Option (Word P)) {s : List (Step P)} → Truly (λ n o c a b p. B n o j a w p) s → Truly B (map (Step.in_component j w) s)
  truly-in_component j w nothing = nothing
  truly-in_component j w (also q f) = also q (λ e. truly-in_component j w (f e))

  pub truly-in_object : (i : ℕ) (w : Option (Word P)) {s : List (Step P)} → Truly (λ n o c a b p. B n i c w b p) s → Truly B (map (Step.in_object i w) s)
  truly-in_object i w nothing = nothing
  truly-in_object i w (also q f) = also q (λ e. truly-in_object i w (f e))

-- ---------------------------------------------------------------- what is absent

pub no-some : {A : Type 0} (v : Option A) → is_some v ≡ false → v ≡ none
unfolding is_some
no-some none e = refl
no-some (some a) e = cc
