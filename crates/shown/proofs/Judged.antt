-- Checks whose value, if they pass, is so, and whose number, if they refuse, is one of a run that ends with LENGTH: from SHORT on for a file, from KIND on for the judgement of a tree.
use Prim.Native.Nat.{ℕ, suc, ◌≤◌}
use native.Mathlib.Omega.{arith}
use mathlib.Core.List.{List, [], ◌∷◌}
use mathlib.Core.Bool.{Bool, true, false, cond, ◌&&◌}
use mathlib.Core.Option.{Option, none, some}
use mathlib.Core.Path.{◌≡◌, refl, subst}
use lib.Dec.{leb, T}
use borrow.Author.Tests.{leb-true, le-leb}
use Rattle.meaning.specs.Check.{Check, pass, refuse, ◌>>=◌, ◌>>◌, ◌unless◌, fault, in_object, in_component, required, optional, each}
use Rattle.meaning.specs.Refusal.{SHORT, KIND, LENGTH}
use Rattle.meaning.specs.Every.{Every, IfAny}

-- computed, so that a number written out needs no proof
abbrev pub Between : ℕ → ℕ → ℕ → Type 0
Between least most n = T (leb least n && leb n most)

abbrev pub Numbered : ℕ → ℕ → Type 0
Numbered least n = Between least LENGTH n

module _ {least most : ℕ} where
  pub between : (n : ℕ) → Between least most n → (least ≤ n) × (n ≤ most)
  between n = by (leb least n) (leb n most) refl refl
    where
      by : (a b : Bool) → leb least n ≡ a → leb n most ≡ b → T (a && b) → (least ≤ n) × (n ≤ most)
      by true true e f h = (leb-true least n e, leb-true n most f)
      by true false e f h = absurd h
      by false b e f h = absurd h

  pub is-between : (n : ℕ) → least ≤ n → n ≤ most → Between least most n
  is-between n h k = rw (le-leb least n h, le-leb n most k) tt

-- of which nothing is said
abbrev pub Any : {A : Type 0} → A → Type 0
Any a = Unit {0}

module _ {A : Type 0} where
  abbrev Cases : ℕ → (A → Type 0) → Check A → Type 0
  Cases least Q (pass a) = Q a
  Cases least Q (refuse n o c) = Numbered least n

  pub record JudgedFrom (least : ℕ) (Q : A → Type 0) (k : Check A) : Type 0 where
    pub is : Cases least Q k

  -- the judgement of a tree
  abbrev pub Judged : (A → Type 0) → Check A → Type 0
  Judged = JudgedFrom KIND

  pub passes : {least : ℕ} {Q : A → Type 0} (a : A) → Q a → JudgedFrom least Q (pass a)
  passes a q = record { is = q }

  pub faults : {least : ℕ} {Q : A → Type 0} (n : ℕ) → Numbered least n → JudgedFrom least Q (fault n)
  faults n h = record { is = h }

  -- a value that is so, and is the check's own
  pub with-verdict : {least : ℕ} {Q : A → Type 0} (k : Check A) → JudgedFrom least Q k → JudgedFrom least (λ a. (k ≡ pass a) × Q a) k
  with-verdict (pass a) h = record { is = (refl, h.is) }
  with-verdict (refuse n o c) h = record { is = h.is }

  pub so-too : {least : ℕ} {Q R : A → Type 0} (k : Check A) → ((a : A) → Q a → R a) → JudgedFrom least Q k → JudgedFrom least R k
  so-too (pass a) f h = record { is = f a h.is }
  so-too (refuse n o c) f h = record { is = h.is }

  pub passed-so : {least : ℕ} {Q : A → Type 0} {k : Check A} {a : A} → JudgedFrom least Q k → k ≡ pass a → Q a
  passed-so {least} {Q} h e = (subst (JudgedFrom least Q) e h).is

  pub refused-so : {least : ℕ} {Q : A → Type 0} {k : Check A} {n o c : ℕ} → JudgedFrom least Q k → k ≡ refuse n o c → Numbered least n
  refused-so {least} {Q} h e = (subst (JudgedFrom least Q) e h).is

  pub in-object : {least : ℕ} {Q : A → Type 0} (i : ℕ) (k : Check A) → JudgedFrom least Q k → JudgedFrom least Q (in_object i k)
  in-object i (pass a) h = record { is = h.is }
  in-object i (refuse n o c) h = record { is = h.is }

  pub in-component : {least : ℕ} {Q : A → Type 0} (j : ℕ) (k : Check A) → JudgedFrom least Q k → JudgedFrom least Q (in_component j k)
  in-component j (pass a) h = record { is = h.is }
  in-component j (refuse n o c) h = record { is = h.is }

  pub is-required : {Q : A → Type 0} (o : Option A) → IfAny Q o → JudgedFrom KIND Q (required o)
  is-required none h = record { is = tt }
  is-required (some a) h = record { is = h }

  pub one_of_two : {least : ℕ} {Q : A → Type 0} (b : Bool) (x y : Check A) → JudgedFrom least Q x → JudgedFrom least Q y → JudgedFrom least Q (cond b x y)
  one_of_two true x y h k = h
  one_of_two false x y h k = k

module _ {A B : Type 0} {least : ℕ} {Q : A → Type 0} {R : B → Type 0} where
  pub bind : (m : Check A) (k : A → Check B) → JudgedFrom least Q m → ((a : A) → Q a → JudgedFrom least R (k a)) → JudgedFrom least R (m >>= k)
  bind (pass a) k h f = f a h.is
  bind (refuse n o c) k h f = record { is = h.is }

  pub then : (m : Check A) (k : Check B) → JudgedFrom least Q m → JudgedFrom least R k → JudgedFrom least R (m >> k)
  then (pass a) k h f = f
  then (refuse n o c) k h f = record { is = h.is }

  pub if-any : (f : A → Check B) (o : Option A) → IfAny Q o → ((a : A) → Q a → JudgedFrom least R (f a)) → JudgedFrom least (IfAny R) (optional f o)
  if-any f none h g = record { is = tt }
  if-any f (some a) h g = by (f a) (g a h)
    where
      by : (k : Check B) → JudgedFrom least R k → JudgedFrom least (IfAny R) (k >>= λ b. pass (some b))
      by (pass b) h = record { is = h.is }
      by (refuse n o c) h = record { is = h.is }

-- the rest is judged where the test held
pub tested : {B : Type 0} {least : ℕ} {R : B → Type 0} (n : ℕ) (b : Bool) (k : Check B) → Numbered least n → (b ≡ true → JudgedFrom least R k) → JudgedFrom least R (n unless b >> k)
tested n true k h f = f refl
tested n false k h f = record { is = h }

pub test : {least : ℕ} (n : ℕ) (b : Bool) → Numbered least n → JudgedFrom least Any (n unless b)
test n true h = record { is = tt }
test n false h = record { is = h }

module _ {A B : Type 0} {least : ℕ} {Q : A → Type 0} {R : B → Type 0} (f : ℕ → A → Check B) (g : (i : ℕ) (a : A) → Q a → JudgedFrom least R (f i a)) where
  pub each-so : (i : ℕ) (l : List A) → Every Q l → JudgedFrom least (Every R) (each f i l)
  each-so i [] h = passes [] tt
  each-so i (a ∷ l) h = bind (f i a) _ (g i a h.0) λ b q. bind (each f (suc i) l) _ (each-so (suc i) l h.1) λ bs qs. passes (b ∷ bs) (q, qs)

-- a tree's judgement is a file's too
pub widened : {A : Type 0} {Q : A → Type 0} (k : Check A) → Judged Q k → JudgedFrom SHORT Q k
widened (pass a) h = record { is = h.is }
widened (refuse n o c) h = let a = between n h.is in record { is = is-between n (let b = a.0 in omega (arith, b)) a.1 }

pub any-each : {A : Type 0} (l : List A) → Every Any l
any-each [] = tt
any-each (a ∷ l) = (tt, any-each l)
