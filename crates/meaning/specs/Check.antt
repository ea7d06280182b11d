-- Document 01, "Refusal numbers" and "Order": a run of checks. The first that fails gives the refusal: its number, the object's index and the component's in its object, 0 where there is none.
use Rattle.std.specs.Prelude.{ℕ, suc, List, [], ◌∷◌, Bool, true, false}
use Rattle.std.proofs.Math.Option.{Option, none, some}
use Rattle.meaning.specs.Refusal.{MISSING}

pub data Check (A : Type 0) : Type 0 where
  pass : A → Check A
  refuse : ℕ → ℕ → ℕ → Check A

infixl 10 ◌>>=◌
infixl 10 ◌>>◌
infix 20 ◌unless◌
module _ {A B : Type 0} where
  abbrev pub ◌>>=◌ : Check A → (A → Check B) → Check B
  ◌>>=◌ (pass a) k = k a
  ◌>>=◌ (refuse n o c) k = refuse n o c

  abbrev pub ◌>>◌ : Check A → Check B → Check B
  ◌>>◌ (pass a) m = m
  ◌>>◌ (refuse n o c) m = refuse n o c

-- refuse with the number n, unless the test holds
abbrev pub ◌unless◌ : ℕ → Bool → Check (Unit {0})
n unless true = pass tt
n unless false = refuse n 0 0

module _ {A : Type 0} where
  abbrev pub fault : ℕ → Check A
  fault n = refuse n 0 0

  abbrev pub in_object : ℕ → Check A → Check A
  in_object i (pass a) = pass a
  in_object i (refuse n o c) = refuse n i c

  abbrev pub in_component : ℕ → Check A → Check A
  in_component j (pass a) = pass a
  in_component j (refuse n o c) = refuse n o j

  abbrev pub required : Option A → Check A
  required none = fault MISSING
  required (some a) = pass a

  -- required where the layout has the field
  abbrev pub required_in : Option (List ℕ) → Option A → Check (Option A)
  required_in none o = pass o
  required_in (some n) o = required o >>= λ a. pass (some a)

module _ {A B : Type 0} where
  -- a check of what may be absent
  abbrev pub optional : (A → Check B) → Option A → Check (Option B)
  optional f none = pass none
  optional f (some a) = f a >>= λ b. pass (some b)

  -- a check of each in turn, with its index from i on
  abbrev pub each : (ℕ → A → Check B) → ℕ → List A → Check (List B)
  each f i [] = pass []
  each f i (a ∷ as') = f i a >>= λ b. each f (suc i) as' >>= λ bs. pass (b ∷ bs)
