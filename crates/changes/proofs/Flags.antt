-- A test that decides a fact gives the fact's number; positions of two blobs.
use Prim.Native.Nat.{ℕ, zero, suc, ◌+◌, ◌<◌}
use mathlib.Core.List.{List, [], ◌∷◌}
use mathlib.Core.Bool.{Bool, true, false, cond, not, ◌||◌}
use mathlib.Core.Option.{Option, none, some, some-injective, none-ne-some, some-ne-none}
use mathlib.Core.Logic.{◌⊎◌, inl, inr}
use mathlib.Core.Path.{◌≡◌, refl, sym, ap, ap₂, ◌∙◌}
use native.Mathlib.Omega.{arith}
use lib.ListN.{get_elem?}
use lib.Dec.{eqb}
use borrow.Author.Tests.{eqb-true, eqb-false, not-true, not-false}
use Rattle.meaning.specs.Text.{same}
use Rattle.meaning.proofs.Tests.{not-both}
use Rattle.meaning.proofs.SameText.{same-eq}
use Rattle.text.proofs.SameIsEqual.{eq-same}
use Rattle.changes.specs.Changes.{same_option, differs_at, least, bit, how_many, longer, position_apart, count_apart}
use Rattle.changes.specs.Differs.{Flag, Counted, DiffersAt, Bytes}

-- the test t says whether P
pub record Says (t : Bool) (P : Type 0) : Type 0 where
  pub holds : t ≡ true → P
  pub fails : t ≡ false → P → ⊥

pub flag-of : (n : ℕ) {P : Type 0} (t : Bool) → Says t P → Flag n P (bit n t)
flag-of n true s = inl (s.holds refl, refl)
flag-of n false s = inr (s.fails refl, refl)

pub flag_same : {n : ℕ} {P : Type 0} {x y : ℕ} → Flag n P x → Flag n P y → x ≡ y
flag_same (inl (p, e)) (inl (q, f)) = e ∙ sym f
flag_same (inl (p, e)) (inr (q, f)) = absurd (q p)
flag_same (inr (p, e)) (inl (q, f)) = absurd (p q)
flag_same (inr (p, e)) (inr (q, f)) = e ∙ sym f

pub flag-as : {n : ℕ} {P Q : Type 0} {x : ℕ} → (P → Q) → (Q → P) → Flag n P x → Flag n Q x
flag-as f g (inl (p, e)) = inl (f p, e)
flag-as f g (inr (p, e)) = inr ((λ q. p (g q)), e)

pub says-not : {P : Type 0} (t : Bool) → Says t P → Says (not t) (P → ⊥)
says-not t s = record { holds = λ e. s.fails (not-true t e); fails = λ e h. h (s.holds (not-false t e)) }

pub says-or : {P Q : Type 0} (t u : Bool) → Says t P → Says u Q → Says (t || u) (P ⊎ Q)
says-or true u s r = record { holds = λ e. inl (s.holds refl); fails = λ e h. not-both refl e }
says-or {P} {Q} false u s r = record { holds = λ e. inr (r.holds e); fails = λ e h. go e h }
  where
    go : u ≡ false → P ⊎ Q → ⊥
    go e (inl p) = s.fails refl p
    go e (inr q) = r.fails e q

pub says-eqb : (x y : ℕ) → Says (eqb x y) (x ≡ y)
says-eqb x y = record { holds = eqb-true x y; fails = eqb-false x y }

pub says_same : (x y : List ℕ) → Says (same x y) (x ≡ y)
says_same x y = record { holds = same-eq x y; fails = λ e h. not-both (eq-same x y h) e }

pub says-option : {A : Type 0} (t : A → A → Bool) → ((a b : A) → Says (t a b) (a ≡ b)) → (x y : Option A) → Says (same_option t x y) (x ≡ y)
says-option t h none none = record { holds = λ e. refl; fails = λ e q. not-both refl e }
says-option t h none (some y) = record { holds = λ e. absurd (not-both e refl); fails = λ e. none-ne-some y }
says-option t h (some x) none = record { holds = λ e. absurd (not-both e refl); fails = λ e. some-ne-none x }
says-option {A} t h (some x) (some y) = record { holds = λ e. ap {B = Option A} some ((h x y).holds e); fails = λ e q. (h x y).fails e (some-injective x y q) }

-- ---------------------------------------------------------------- positions

pub says-differs : (x y : List ℕ) (p : ℕ) → Says (differs_at x y p) (DiffersAt x y p)
says-differs x y p = says-not (same_option eqb (get_elem? x p) (get_elem? y p)) (says-option eqb says-eqb (get_elem? x p) (get_elem? y p))

counted : (t : ℕ → Bool) (P : ℕ → Type 0) → ((i : ℕ) → Says (t i) (P i)) → (n : ℕ) → Counted P n (how_many t n)
counted t P s zero = refl
counted t P s (suc n) = (bit 1 (t 0), how_many (λ i. t (suc i)) n, flag-of 1 (t 0) (s 0), counted (λ i. t (suc i)) (λ i. P (suc i)) (λ i. s (suc i)) n, refl)

counted_same : (P : ℕ → Type 0) (n k m : ℕ) → Counted P n k → Counted P n m → k ≡ m
counted_same P zero k m h g = h ∙ sym g
counted_same P (suc n) k m (x, u, f, c, e) (y, v, g, d, q) =
    e ∙ ap₂ ◌+◌ (flag_same f g) (counted_same (λ i. P (suc i)) n u v c d) ∙ sym q

pub counted-as : (P Q : ℕ → Type 0) → ((i : ℕ) → P i → Q i) → ((i : ℕ) → Q i → P i) → (n k : ℕ) → Counted P n k → Counted Q n k
counted-as P Q f g zero k h = h
counted-as P Q f g (suc n) k (x, u, h, c, e) =
    (x, u, flag-as (f 0) (g 0) h, counted-as (λ i. P (suc i)) (λ i. Q (suc i)) (λ i. f (suc i)) (λ i. g (suc i)) n u c, e)

least-is : (t : ℕ → Bool) (n p : ℕ) → p < n → t p ≡ true → t (least t n) ≡ true
least-is t zero p l h = absurd (omega arith)
least-is t (suc n) p l h = go (t 0) refl p l h (least-is (λ i. t (suc i)) n)
  where
    go : (b : Bool) → t 0 ≡ b → (p : ℕ) → p < suc n → t p ≡ true → ((p : ℕ) → p < n → t (suc p) ≡ true → t (suc (least (λ i. t (suc i)) n)) ≡ true) → t (cond b 0 (suc (least (λ i. t (suc i)) n))) ≡ true
    go true e p l h ih = e
    go false e zero l h ih = absurd (not-both h e)
    go false e (suc p) l h ih = ih p (omega arith) h

least-before : (t : ℕ → Bool) (n q : ℕ) → q < least t n → t q ≡ false
least-before t zero q l = absurd (omega arith)
least-before t (suc n) q l = go (t 0) refl q l (least-before (λ i. t (suc i)) n)
  where
    go : (b : Bool) → t 0 ≡ b → (q : ℕ) → q < cond b 0 (suc (least (λ i. t (suc i)) n)) → ((q : ℕ) → q < least (λ i. t (suc i)) n → t (suc q) ≡ false) → t q ≡ false
    go true e q l ih = absurd (omega arith)
    go false e zero l ih = e
    go false e (suc q) l ih = ih q (omega arith)

none-differs : (t : ℕ → Bool) → ((i : ℕ) → t i ≡ false) → (n : ℕ) → how_many t n ≡ 0
none-differs t h zero = refl
none-differs t h (suc n) = rw (h 0, none-differs (λ i. t (suc i)) (λ i. h (suc i)) n)

pub somewhere-apart : (x y : List ℕ) → same x y ≡ false → (p : ℕ) × (p < longer x y) × (differs_at x y p ≡ true)
somewhere-apart [] [] h = absurd (not-both refl h)
somewhere-apart [] (b ∷ y) h = (0, omega arith, refl)
somewhere-apart (a ∷ x) [] h = (0, omega arith, refl)
somewhere-apart (a ∷ x) (b ∷ y) h = go (eqb a b) refl (somewhere-apart x y)
  where
    go : (t : Bool) → eqb a b ≡ t → (same x y ≡ false → (p : ℕ) × (p < longer x y) × (differs_at x y p ≡ true)) → (p : ℕ) × (p < longer (a ∷ x) (b ∷ y)) × (differs_at (a ∷ x) (b ∷ y) p ≡ true)
    go true e ih = let r = ih (rw e at h) in (suc r.0, omega (arith, r.1), r.2)
    go false e ih = (0, omega arith, rw e)

alike_at : (x y : List ℕ) → x ≡ y → (i : ℕ) → differs_at x y i ≡ false
alike_at x y e i = go (differs_at x y i) refl
  where
    go : (t : Bool) → differs_at x y i ≡ t → differs_at x y i ≡ false
    go true q = absurd ((says-differs x y i).holds q (ap (λ u. get_elem? u i) e))
    go false q = q

pub bytes-are : (x y : List ℕ) → Bytes x y (position_apart x y) (count_apart x y)
bytes-are x y = go (same x y) refl
  where
    go : (t : Bool) → same x y ≡ t → Bytes x y (cond t 0 (least (differs_at x y) (longer x y))) (count_apart x y)
    go true e = inl (same-eq x y e, refl, none-differs (differs_at x y) (λ i. alike_at x y (same-eq x y e) i) (longer x y))
    go false e = let r = somewhere-apart x y e in inr (record {
      at = (says-differs x y (least (differs_at x y) (longer x y))).holds (least-is (differs_at x y) (longer x y) r.0 r.1 r.2);
      before = λ q l. (says-option eqb says-eqb (get_elem? x q) (get_elem? y q)).holds (not-false (same_option eqb (get_elem? x q) (get_elem? y q)) (least-before (differs_at x y) (longer x y) q l));
      counted = counted (differs_at x y) (DiffersAt x y) (says-differs x y) (longer x y);
    })

pub bytes_same : (x y : List ℕ) (p k q m : ℕ) → Bytes x y p k → Bytes x y q m → (p ≡ q) × (k ≡ m)
bytes_same x y p k q m (inl (e, a, b)) (inl (f, c, d)) = (a ∙ sym c, b ∙ sym d)
bytes_same x y p k q m (inl (e, a, b)) (inr r) = absurd (r.at (ap (λ u. get_elem? u q) e))
bytes_same x y p k q m (inr r) (inl (e, a, b)) = absurd (r.at (ap (λ u. get_elem? u p) e))
bytes_same x y p k q m (inr r) (inr s) = (neither (λ l. r.at (s.before p l)) (λ l. s.at (r.before q l)), counted_same (DiffersAt x y) (longer x y) k m r.counted s.counted)
  where
    neither : (p < q → ⊥) → (q < p → ⊥) → p ≡ q
    neither u v = omega (arith, u, v)
