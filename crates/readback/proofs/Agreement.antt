-- Checks that agree, step by step.
use Prim.Native.Nat.{ℕ, suc}
use native.Mathlib.Omega.{arith}
use mathlib.Core.List.{List, ◌∷◌}
use mathlib.Core.Bool.{Bool, true, false}
use mathlib.Core.Path.{◌≡◌, refl, subst}
use Rattle.meaning.specs.Check.{Check, pass, refuse, ◌>>=◌, ◌>>◌, ◌unless◌, in_object, in_component, each}
use Rattle.meaning.proofs.Checks.{pass_same}
use Rattle.readback.specs.Agrees.{Agrees, passes, refuses}

module _ {A B C D : Type 0} {R : A → Type 0} {S : C → Type 0} where
  pub agrees-bind : {m : Check A} {m' : Check B} {k : A → Check C} {k' : Check D} → Agrees R m m' → ((a : A) → R a → Agrees S (k a) k') → Agrees S (m >>= k) (m' >> k')
  agrees-bind (passes {a} r) f = f a r
  agrees-bind refuses f = refuses

-- each in turn
module _ {A B C D : Type 0} {R : B → Type 0} {Rs : List B → Type 0} {S : List B → Type 0} (f : ℕ → A → Check B) (g : ℕ → C → Check D) where
  pub each-agrees : (i : ℕ) (a : A) (as' : List A) (c : C) (cs : List C) → Agrees R (f i a) (g i c) → Agrees Rs (each f (suc i) as') (each g (suc i) cs)
      → ((b : B) (bs : List B) → R b → Rs bs → S (b ∷ bs)) → Agrees S (each f i (a ∷ as')) (each g i (c ∷ cs))
  each-agrees i a as' c cs h hs k = both h hs
    where
      both : {m : Check B} {m' : Check D} {ms : Check (List B)} {ms' : Check (List D)} → Agrees R m m' → Agrees Rs ms ms'
          → Agrees S (m >>= λ b. ms >>= λ bs. pass (b ∷ bs)) (m' >>= λ d. ms' >>= λ ds. pass (d ∷ ds))
      both (passes {a = b} r) (passes {a = bs} rs) = passes (k b bs r rs)
      both (passes r) refuses = refuses
      both refuses q = refuses

module _ {A B C : Type 0} {R : A → Type 0} {S : C → Type 0} where
  pub agrees-map : (f : A → C) {m : Check A} {m' : Check B} → Agrees R m m' → ((a : A) → R a → S (f a)) → Agrees S (m >>= λ a. pass (f a)) m'
  agrees-map f (passes {a} r) g = passes (g a r)
  agrees-map f refuses g = refuses

module _ {A B : Type 0} {R : A → Type 0} where
  -- the same test first
  pub agrees-unless : (n : ℕ) (b : Bool) {k : Check A} {k' : Check B} → Agrees R k k' → Agrees R ((n unless b) >> k) ((n unless b) >> k')
  agrees-unless n true h = h
  agrees-unless n false h = refuses

  pub agrees-in-object : (i : ℕ) {m : Check A} {m' : Check B} → Agrees R m m' → Agrees R (in_object i m) (in_object i m')
  agrees-in-object i (passes r) = passes r
  agrees-in-object i refuses = refuses

  pub agrees-in-component : (i : ℕ) {m : Check A} {m' : Check B} → Agrees R m m' → Agrees R (in_component i m) (in_component i m')
  agrees-in-component i (passes r) = passes r
  agrees-in-component i refuses = refuses

  -- what passed has the property
  pub passed-has : {m : Check A} {m' : Check B} {a : A} → Agrees R m m' → m ≡ pass a → R a
  passed-has (passes {a} r) e = subst R (pass_same e) r
  passed-has refuses e = absurd (let z : ◌≡◌ {A = ℕ} 0 1 = cc in omega arith)

  -- and what is done afterwards, whatever was passed, is the same
  pub agrees-then : {C : Type 0} {m : Check A} {m' : Check B} → Agrees R m m' → (k : Check C) → (m >> k) ≡ (m' >> k)
  agrees-then (passes r) k = refl
  agrees-then refuses k = refl

pub then-then : {A B C : Type 0} (m : Check A) (k : Check B) (l : Check C) → ((m >> k) >> l) ≡ (m >> (k >> l))
then-then (pass a) k l = refl
then-then (refuse n o c) k l = refl
