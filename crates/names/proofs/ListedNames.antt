-- Which names stand in a list of them, and whether they differ from each other. Assumes nothing.
use mathlib.Core.Path.{◌≡◌, refl, sym, ap, ◌∙◌}
use mathlib.Core.List.{List}
use mathlib.Core.Bool.{Bool, true, false, cond}
use Prim.Native.Nat.{ℕ, zero, suc, ◌+◌, ◌≤◌, ◌<◌}
use native.Mathlib.Omega.{arith}
use lib.Dec.{eqb}
use borrow.Author.Tests.{eq-eqb, ne_eqb}
use Rattle.meaning.specs.Text.{same, one_of, distinct}
use Rattle.meaning.proofs.SameText.{same-eq}
use Rattle.text.proofs.OrderIsTotal.{Which, less, more, equal, which}
use Rattle.text.proofs.SameIsEqual.{eq-same, ne_same}
use Rattle.names.specs.Names.{listed, Differ, Copy, Leading}

module _ (f : ℕ → List ℕ) where
  pub listed-there : (w : List ℕ) (i k j : ℕ) → i ≤ j → j < i + k → f j ≡ w → one_of (listed f i k) w ≡ true
  unfolding listed
  listed-there w i zero j l m e = absurd (omega arith)
  listed-there w i (suc k) j l m e = go (which i j) λ q. listed-there w (suc i) k j q (omega arith) e
    where
      later : (b : Bool) → one_of (listed f (suc i) k) w ≡ true → cond b true (one_of (listed f (suc i) k) w) ≡ true
      later true h = refl
      later false h = h

      go : Which i j → (i < j → one_of (listed f (suc i) k) w ≡ true) → cond (same (f i) w) true (one_of (listed f (suc i) k) w) ≡ true
      go (less q) h = later (same (f i) w) (h q)
      go (more q) h = absurd (omega arith)
      go (equal q) h = rw (eq-same (f i) w (ap f q ∙ e))

  pub listed-not : (w : List ℕ) (i k : ℕ) → ((j : ℕ) → i ≤ j → j < i + k → f j ≡ w → ⊥) → one_of (listed f i k) w ≡ false
  unfolding listed
  listed-not w i zero h = refl
  listed-not w i (suc k) h = rw (ne_same (f i) w (h i (omega arith) (omega arith))) (listed-not w (suc i) k λ j l m. h j (omega arith) (omega arith))

  once : (i k : ℕ) → ((a b : ℕ) → i ≤ a → a < b → b < i + k → f a ≡ f b → ⊥) → distinct (listed f i k) ≡ true
  unfolding listed
  once i zero h = refl
  once i (suc k) h =
      rw (listed-not (f i) (suc i) k λ j l m e. h i j (omega arith) (omega arith) (omega arith) (sym e))
      (once (suc i) k λ a b l m n. h a b (omega arith) m (omega arith))

  twice : (i k a b : ℕ) → i ≤ a → a < b → b < i + k → f a ≡ f b → distinct (listed f i k) ≡ false
  unfolding listed
  twice i zero a b l m n e = absurd (omega arith)
  twice i (suc k) a b l m n e = go (which i a) λ q. twice (suc i) k a b q m (omega arith) e
    where
      later : (b : Bool) → distinct (listed f (suc i) k) ≡ false → cond b false (distinct (listed f (suc i) k)) ≡ false
      later true h = refl
      later false h = h

      go : Which i a → (i < a → distinct (listed f (suc i) k) ≡ false) → cond (one_of (listed f (suc i) k) (f i)) false (distinct (listed f (suc i) k)) ≡ false
      go (less q) h = later (one_of (listed f (suc i) k) (f i)) (h q)
      go (more q) h = absurd (omega arith)
      go (equal q) h = rw (listed-there (f i) (suc i) k b (omega arith) (omega arith) (sym e ∙ ap f (sym q)))

  -- ---------------------------------------------------------------- names from the left

  pub none_differ : Differ f 0
  none_differ i j l m = absurd (omega arith)

  pub differ-once : {k : ℕ} → Differ f k → distinct (listed f 0 k) ≡ true
  differ-once {k} h = once 0 k λ a b l m n. h a b m (omega arith)

  pub copy-twice : {k n : ℕ} → Copy f k → k < n → distinct (listed f 0 n) ≡ false
  copy-twice {k} {n} c l = twice 0 n c.first k (omega arith) c.before (omega arith) c.is

module _ {f : ℕ → List ℕ} where
  pub differ-more : {k : ℕ} → Differ f k → ((j : ℕ) → j < k → f j ≡ f k → ⊥) → Differ f (k + 1)
  differ-more {k} h new i j l m = go (which j k)
    where
      go : Which j k → f i ≡ f j → ⊥
      go (less q) = h i j l q
      go (more q) = absurd (omega arith)
      go (equal q) = λ e. new i (omega arith) (e ∙ ap f q)

  pub fewer-differ : {k n : ℕ} → n ≤ k → Differ f k → Differ f n
  fewer-differ l h i j m o = h i j m (omega arith)

  pub leading-all : {n : ℕ} → Differ f n → Leading f n n
  leading-all h = record { most = omega arith; differ = h; copied = λ l. absurd (omega arith) }

  pub leading-some : {k n : ℕ} → k ≤ n → Differ f k → Copy f k → Leading f n k
  leading-some l h c = record { most = l; differ = h; copied = λ _. c }

  pub not-said : {x : ℕ} → false ≡ true → Copy f x
  not-said q = let z : ◌≡◌ {A = ℕ} 0 1 = cc in absurd (omega arith)

  pub leading-decides : {n r : ℕ} → Leading f n r → eqb r n ≡ distinct (listed f 0 n)
  leading-decides {n} {r} h = go (which r n)
    where
      go : Which r n → eqb r n ≡ distinct (listed f 0 n)
      go (less q) = ne_eqb r n (λ e. omega arith) ∙ sym (copy-twice f (h.copied q) q)
      go (more q) = absurd (omega (arith, h.most))
      go (equal q) = rw q (eq-eqb n n refl ∙ sym (differ-once f (rw q at h.differ)))

  -- a and b are the names i and x, and r says that they are the same
  pub copy-found : {i x : ℕ} {a b : List ℕ} {r : Bool} → a ≡ f i → b ≡ f x → r ≡ same a b → r ≡ true → i < x → Copy f x
  copy-found {i} {x} {a} {b} p q e t l = record { first = i; before = l; is = sym p ∙ same-eq a b (sym e ∙ t) ∙ q }

  pub all-lead : {k n : ℕ} → Differ f k → k ≡ n → Leading f n n
  all-lead h e = leading-all (fewer-differ (omega arith) h)

  pub some-lead : {k n : ℕ} {r : Bool} → Differ f k → k ≤ n → (r ≡ true → Copy f k) → r ≡ true → Leading f n k
  some-lead h l c q = leading-some l h (c q)
