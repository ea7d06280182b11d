-- Request 08: a check of document 01, made at one place: its number, the indices and names that a refusal gives, the annotation of the value, key or map that it
-- looks at, and whether that is right. A list of them is an order of checking; the first that is not right is the refusal.
use Rattle.std.specs.Prelude.{ℕ, suc, List, [], ◌∷◌, ◌++◌, Bool, true, false, cond}
use Rattle.std.proofs.Math.Option.{Option, none, some}
use Rattle.meaning.specs.Check.{Check, pass, refuse}
use Rattle.meaning.specs.Model.{Word}

pub record Step (P : Type 0) : Type 0 where
  pub number : ℕ
  pub object : ℕ
  pub component : ℕ
  pub object_name : Option (Word P)
  pub component_name : Option (Word P)
  pub place : P
  pub right : Bool

infixl 10 ◌>>=◌
infixl 10 ◌>>◌
infix 20 ◌at◌unless◌
module _ {P : Type 0} where
  -- a check with the number n of what has this annotation
  abbrev pub ◌at◌unless◌ : ℕ → P → Bool → List (Step P)
  ◌at◌unless◌ n w b = record { number = n; object = 0; component = 0; object_name = none; component_name = none; place = w; right = b } ∷ []

  -- one check after the other
  abbrev pub ◌>>◌ : List (Step P) → List (Step P) → List (Step P)
  ◌>>◌ s r = s ++ r

  -- what is asked of a thing is asked where there is one
  abbrev pub ◌>>=◌ : {A : Type 0} → Option A → (A → List (Step P)) → List (Step P)
  ◌>>=◌ none f = []
  ◌>>=◌ (some a) f = f a

  abbrev pub in_object : ℕ → Option (Word P) → Step P → Step P
  in_object i n s = record {
    number = s.number;
    object = i;
    component = s.component;
    object_name = n;
    component_name = s.component_name;
    place = s.place;
    right = s.right;
  }

  abbrev pub in_component : ℕ → Option (Word P) → Step P → Step P
  in_component j n s = record {
    number = s.number;
    object = s.object;
    component = j;
    object_name = s.object_name;
    component_name = n;
    place = s.place;
    right = s.right;
  }

  -- the first check that is not right
  abbrev pub first : List (Step P) → Option (Step P)
  first [] = none
  first (s ∷ ss) = let r = first ss in cond s.right r (some s)

  -- the reader's refusal for it
  abbrev pub refusal : Option (Step P) → Check (Unit {0})
  refusal none = pass tt
  refusal (some s) = refuse s.number s.object s.component

  abbrev pub told : List (Step P) → Check (Unit {0})
  told ss = refusal (first ss)

module _ {A : Type 0} where
  -- what a check gives, where it passes
  abbrev pub given : Check A → Option A
  given (pass a) = some a
  given (refuse n o c) = none

  abbrev pub passes : Check A → Bool
  passes (pass a) = true
  passes (refuse n o c) = false

module _ {P A : Type 0} where
  -- the same check of every one, from the left
  abbrev pub every : ℕ → (A → P) → (A → Bool) → List A → List (Step P)
  every n place right [] = []
  every n place right (a ∷ as') = n at place a unless right a >> every n place right as'

  -- the checks of each in turn, with its index from i on
  abbrev pub each_of : (ℕ → A → List (Step P)) → ℕ → List A → List (Step P)
  each_of f i [] = []
  each_of f i (a ∷ as') = f i a >> each_of f (suc i) as'
