-- Checks that pass: each of a run passed, and of what. Assumes nothing.
use Prim.Native.Nat.{ℕ, suc}
use native.Mathlib.Omega.{arith}
use mathlib.Core.List.{List, [], ◌∷◌}
use mathlib.Core.Option.{Option, none, some}
use mathlib.Core.Path.{◌≡◌, refl, ap, sym, ◌∙◌}
use lib.ListN.{length}
use Rattle.meaning.specs.Check.{Check, pass, refuse, ◌>>=◌, ◌>>◌, in_object, in_component, required, each}

pub pass_same : {A : Type 0} {a b : A} → pass a ≡ pass b → a ≡ b
pass_same e = cc

pub refused-is-not : {A : Type 0} {n o c : ℕ} {a : A} → refuse n o c ≡ pass a → ⊥
refused-is-not e = let z : ◌≡◌ {A = ℕ} 0 1 = cc in omega arith

module _ {A B : Type 0} where
  -- what the first of two checks passed, and that the second passed for it
  pub record Passed (m : Check A) (f : A → Check B) (b : B) : Type 0 where
    pub value : A
    pub is : m ≡ pass value
    pub then : f value ≡ pass b

  pub passed : (m : Check A) (f : A → Check B) (b : B) → (m >>= f) ≡ pass b → Passed m f b
  passed (pass a) f b e = record { value = a; is = refl; then = e }
  passed (refuse n o c) f b e = absurd (refused-is-not e)

  pub passed_on : (m : Check A) (k : Check B) (b : B) → (m >> k) ≡ pass b → k ≡ pass b
  passed_on (pass a) k b e = e
  passed_on (refuse n o c) k b e = absurd (refused-is-not e)

module _ {A : Type 0} where
  pub required-some : (o : Option A) (a : A) → required o ≡ pass a → o ≡ some a
  required-some none a e = absurd (refused-is-not e)
  required-some (some b) a e = ap some (pass_same e)

  pub in-object : (i : ℕ) (k : Check A) (a : A) → in_object i k ≡ pass a → k ≡ pass a
  in-object i (pass b) a e = e
  in-object i (refuse n o c) a e = absurd (refused-is-not e)

  pub in-component : (j : ℕ) (k : Check A) (a : A) → in_component j k ≡ pass a → k ≡ pass a
  in-component j (pass b) a e = e
  in-component j (refuse n o c) a e = absurd (refused-is-not e)

-- as many pass as there are
pub each-length : {A B : Type 0} (f : ℕ → A → Check B) (i : ℕ) (l : List A) (bs : List B) → each f i l ≡ pass bs → length bs ≡ length l
each-length f i [] bs e = ap length (sym (pass_same e))
each-length f i (a ∷ l) bs e =
    let b = passed (f i a) _ bs e in
    let c = passed (each f (suc i) l) _ bs b.then in
    ap length (sym (pass_same c.then)) ∙ ap suc (each-length f (suc i) l c.value c.is)
