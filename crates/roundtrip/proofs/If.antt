-- Checks whose value, if they pass, is so.
use Prim.Native.Nat.{ℕ, suc}
use mathlib.Core.List.{List, [], ◌∷◌}
use mathlib.Core.Bool.{Bool, true, false}
use mathlib.Core.Option.{Option, none, some}
use mathlib.Core.Path.{◌≡◌, refl, ap, subst}
use lib.ListN.{length}
use Rattle.meaning.specs.Check.{Check, pass, refuse, ◌>>=◌, ◌>>◌, ◌unless◌, in_object, required, each}
use Rattle.meaning.specs.Every.{IfAny, Every}

abbrev pub Any : {A : Type 0} → A → Type 0
Any a = Unit {0}

module _ {A : Type 0} where
  abbrev Cases : (A → Type 0) → Check A → Type 0
  Cases Q (pass a) = Q a
  Cases Q (refuse n o c) = Unit {0}

  pub record If (Q : A → Type 0) (k : Check A) : Type 0 where
    pub is : Cases Q k

  pub passes : {Q : A → Type 0} (a : A) → Q a → If Q (pass a)
  passes a q = record { is = q }

  pub anyhow : (k : Check A) → If Any k
  anyhow (pass a) = record { is = tt }
  anyhow (refuse n o c) = record { is = tt }

  pub passed-so : {Q : A → Type 0} {k : Check A} {a : A} → If Q k → k ≡ pass a → Q a
  passed-so {Q} h e = (subst (If Q) e h).is

  pub in-object : {Q : A → Type 0} (i : ℕ) (k : Check A) → If Q k → If Q (in_object i k)
  in-object i (pass a) h = record { is = h.is }
  in-object i (refuse n o c) h = record { is = tt }

  pub is-required : {Q : A → Type 0} (o : Option A) → IfAny Q o → If Q (required o)
  is-required none h = record { is = tt }
  is-required (some a) h = record { is = h }

module _ {A B : Type 0} {Q : A → Type 0} {R : B → Type 0} where
  pub bind : (m : Check A) (k : A → Check B) → If Q m → ((a : A) → Q a → If R (k a)) → If R (m >>= k)
  bind (pass a) k h f = f a h.is
  bind (refuse n o c) k h f = record { is = tt }

pub then : {A B : Type 0} {R : B → Type 0} (m : Check A) (k : Check B) → If R k → If R (m >> k)
then (pass a) k f = f
then (refuse n o c) k f = record { is = tt }

-- the rest is judged where the test held
pub tested : {B : Type 0} {R : B → Type 0} (n : ℕ) (b : Bool) (k : Check B) → (b ≡ true → If R k) → If R (n unless b >> k)
tested n true k f = f refl
tested n false k f = record { is = tt }

-- as many as there were, and each so
module _ {A B : Type 0} {Q : A → Type 0} {R : B → Type 0} (f : ℕ → A → Check B) (g : (i : ℕ) (a : A) → Q a → If R (f i a)) where
  pub each-so : (i : ℕ) (l : List A) → Every Q l → If (λ (bs : List B). Every R bs × (length bs ≡ length l)) (each f i l)
  each-so i [] h = passes [] (tt, refl)
  each-so i (a ∷ l) (h, hs) = bind (f i a) _ (g i a h) λ b q. bind (each f (suc i) l) _ (each-so (suc i) l hs) λ bs qs. passes (b ∷ bs) ((q, qs.0), ap suc qs.1)

pub any-every : {A : Type 0} (l : List A) → Every Any l
any-every [] = tt
any-every (a ∷ l) = (tt, any-every l)
