-- One turn of the loop, as a step of the definition.
use Prim.Native.Nat.{ℕ, suc, ◌+◌, ◌≤◌, ◌<◌}
use native.Mathlib.Omega.{arith}
use native.Mathlib.Numerals.{add-one}
use mathlib.Core.Bool.{Bool, true, false, not, cond}
use mathlib.Core.List.{List, [], ◌∷◌, ◌++◌}
use mathlib.Core.Path.{◌≡◌, refl, sym, ap, ◌∙◌}
use lib.Dec.{T}
use lib.ListN.{length, length-append}
use lib.Ieee.{Float, nan, inf, fin, binary32, of_bits, nan_bits, is_nan, lt}
use lib.Ieee.Bits.{nan_bits_is}
use Rattle.finding.specs.Finding.{pattern, pattern_at, values, nans, numbers, lesser, greater, within, smallest, largest, of_numbers, of_values, finding}
use Rattle.finding.specs.declared.Finding as the
use Rattle.finding.specs.declared.Finding.TheVariants.{Empty, OnlyNaN, Span}

-- the values of four bytes and more
values-four : (x r : List ℕ) → length x ≡ 4 → values (x ++ r) ≡ of_bits binary32 (pattern_at x 0) ∷ values r
unfolding values
values-four [] r l = absurd (omega arith)
values-four (a ∷ []) r l = absurd (omega arith)
values-four (a ∷ b ∷ []) r l = absurd (omega arith)
values-four (a ∷ b ∷ c ∷ []) r l = absurd (omega arith)
values-four (a ∷ b ∷ c ∷ d ∷ []) r l = refl
values-four (a ∷ b ∷ c ∷ d ∷ e ∷ x) r l = absurd (omega arith)

values-some : (s : List ℕ) → 4 ≤ length s → (x : Float) × (xs : List Float) × (values s ≡ x ∷ xs)
unfolding values
values-some [] l = absurd (omega arith)
values-some (a ∷ []) l = absurd (omega arith)
values-some (a ∷ b ∷ []) l = absurd (omega arith)
values-some (a ∷ b ∷ c ∷ []) l = absurd (omega arith)
values-some (a ∷ b ∷ c ∷ d ∷ s) l = (of_bits binary32 (pattern a b c d), values s, refl)

-- fewer than four bytes hold none
values-short : (s : List ℕ) → length s < 4 → values s ≡ []
unfolding values
values-short [] l = refl
values-short (a ∷ []) l = refl
values-short (a ∷ b ∷ []) l = refl
values-short (a ∷ b ∷ c ∷ []) l = refl
values-short (a ∷ b ∷ c ∷ d ∷ s) l = absurd (omega arith)

-- the loop's own fold: b says whether a number was met
unfoldable pub run : Float → Float → ℕ → Bool → List Float → the.Finding
run lo hi n b [] = cond b (Span lo hi n) (OnlyNaN n)
run lo hi n b (x ∷ xs) = cond (is_nan x) (run lo hi (suc n) b xs) (run (lesser lo x) (greater hi x) n true xs)

-- once a number was met
run-met : (lo hi : Float) (n : ℕ) (xs : List Float) → run lo hi n true xs ≡ Span (smallest lo (numbers xs)) (largest hi (numbers xs)) (n + nans xs)
unfolding run smallest largest nans numbers
run-met lo hi n [] = ap (Span lo hi) (omega arith)
run-met lo hi n (x ∷ xs) = go (is_nan x) (run-met lo hi (suc n) xs) (run-met (lesser lo x) (greater hi x) n xs)
  where
    go : (b : Bool) → run lo hi (suc n) true xs ≡ Span (smallest lo (numbers xs)) (largest hi (numbers xs)) (suc n + nans xs)
        → run (lesser lo x) (greater hi x) n true xs ≡ Span (smallest (lesser lo x) (numbers xs)) (largest (greater hi x) (numbers xs)) (n + nans xs)
        → cond b (run lo hi (suc n) true xs) (run (lesser lo x) (greater hi x) n true xs)
        ≡ Span (smallest lo (cond b (numbers xs) (x ∷ numbers xs))) (largest hi (cond b (numbers xs) (x ∷ numbers xs))) (n + cond b (suc (nans xs)) (nans xs))
    go true p q = p ∙ ap (Span (smallest lo (numbers xs)) (largest hi (numbers xs))) (omega arith)
    go false p q = q

-- no number is above +inf or below -inf
lesser-first : (x : Float) → is_nan x ≡ false → lesser (inf false) x ≡ x
unfolding is_nan lt
lesser-first nan e = let z : ◌≡◌ {A = ℕ} 0 1 = cc in absurd (omega arith)
lesser-first (inf true) e = refl
lesser-first (inf false) e = refl
lesser-first (fin s m e) _ = refl

greater-first : (x : Float) → is_nan x ≡ false → greater (inf true) x ≡ x
unfolding is_nan lt
greater-first nan e = let z : ◌≡◌ {A = ℕ} 0 1 = cc in absurd (omega arith)
greater-first (inf true) e = refl
greater-first (inf false) e = refl
greater-first (fin s m e) _ = refl

-- before
run-unmet : (n : ℕ) (xs : List Float) → run (inf false) (inf true) n false xs ≡ of_numbers (n + nans xs) (numbers xs)
unfolding run nans numbers of_numbers
run-unmet n [] = ap OnlyNaN (omega arith)
run-unmet n (x ∷ xs) = go (is_nan x) refl (run-unmet (suc n) xs)
  where
    go : (b : Bool) → is_nan x ≡ b → run (inf false) (inf true) (suc n) false xs ≡ of_numbers (suc n + nans xs) (numbers xs)
        → cond b (run (inf false) (inf true) (suc n) false xs) (run (lesser (inf false) x) (greater (inf true) x) n true xs)
        ≡ of_numbers (n + cond b (suc (nans xs)) (nans xs)) (cond b (numbers xs) (x ∷ numbers xs))
    go true e p = p ∙ ap (λ (k : ℕ). of_numbers k (numbers xs)) (omega arith)
    go false e p = rw (lesser-first x e, greater-first x e) (run-met x x n xs)

first : of_bits binary32 2139095040 ≡ inf false
unfolding of_bits
first = refl

last : of_bits binary32 4286578688 ≡ inf true
unfolding of_bits
last = refl

unmet-is : (xs : List Float) (x : Float) (ys : List Float) → xs ≡ x ∷ ys → run (inf false) (inf true) 0 false xs ≡ of_values xs
unfolding of_values
unmet-is xs x ys e =
    let z : 0 + nans (x ∷ ys) ≡ nans (x ∷ ys) = omega arith in
    rw e (run-unmet 0 (x ∷ ys) ∙ ap (λ (k : ℕ). of_numbers k (numbers (x ∷ ys))) z)

-- what the loop begins with is the finding
begins : (s : List ℕ) → 4 ≤ length s → run (of_bits binary32 2139095040) (of_bits binary32 4286578688) 0 false (values s) ≡ finding s
unfolding finding
begins s l = let k = values-some s l in rw (first, last) (unmet-is (values s) k.0 k.1 k.2)

-- what lies within is kept as neither
kept : (p q : Bool) (lo hi x : Float) → cond p false (not q) ≡ true → (cond p x lo ≡ lo) × (cond q x hi ≡ hi)
kept true q lo hi x e = let z : ◌≡◌ {A = ℕ} 0 1 = cc in absurd (omega arith)
kept false true lo hi x e = let z : ◌≡◌ {A = ℕ} 0 1 = cc in absurd (omega arith)
kept false false lo hi x e = (refl, refl)

-- a turn at a NaN, at a number, and at one that lies within
module _ (x r : List ℕ) (l : length x ≡ 4) (lo hi : Float) (n : ℕ) (b : Bool) where
  turn-nan : nan_bits binary32 (pattern_at x 0) ≡ true → run lo hi (n + 1) b (values r) ≡ run lo hi n b (values (x ++ r))
  unfolding run
  turn-nan e = let z : is_nan (of_bits binary32 (pattern_at x 0)) ≡ true = sym (nan_bits_is binary32 (pattern_at x 0)) ∙ e in rw (values-four x r l, z, add-one n)

  turn-number : nan_bits binary32 (pattern_at x 0) ≡ false
      → run (lesser lo (of_bits binary32 (pattern_at x 0))) (greater hi (of_bits binary32 (pattern_at x 0))) n true (values r) ≡ run lo hi n b (values (x ++ r))
  unfolding run
  turn-number e = let z : is_nan (of_bits binary32 (pattern_at x 0)) ≡ false = sym (nan_bits_is binary32 (pattern_at x 0)) ∙ e in rw (values-four x r l, z)

  turn-within : nan_bits binary32 (pattern_at x 0) ≡ false → within lo hi (of_bits binary32 (pattern_at x 0)) ≡ true → run lo hi n true (values r) ≡ run lo hi n b (values (x ++ r))
  turn-within e w =
      let y = of_bits binary32 (pattern_at x 0) in
      let k = kept (lt y lo) (lt hi y) lo hi y w in
      rw (k.0, k.1) at (turn-number e)

-- where it ends
ends : (r : List ℕ) → length r < 4 → (lo hi : Float) (n : ℕ) (b t : Bool) {f : the.Finding}
    → b ≡ t → run lo hi n b (values r) ≡ f → cond t (Span lo hi n) (OnlyNaN n) ≡ f
unfolding run
ends r l lo hi n b t e p = rw (← e) (rw (values-short r l) at p)

pub is-empty : (s : List ℕ) → length s < 4 → Empty ≡ finding s
unfolding finding of_values
is-empty s l = rw (values-short s l)

pub no : (b : Bool) → b ≡ false → T (not b)
no b e = rw e tt

-- ---- the loop: its own fold of the rest is the finding of all

-- r is what is left of s
pub record Ran (s : List ℕ) (lo hi : Float) (n : ℕ) (b : Bool) (r : List ℕ) : Type 0 where
  pub few : n + length r ≤ length s
  pub so_far : run lo hi n b (values r) ≡ finding s

pub ran-none : {s r : List ℕ} → 4 ≤ length s → r ≡ s → Ran s (of_bits binary32 2139095040) (of_bits binary32 4286578688) 0 false r
ran-none {s} {r} l e = rw e (record { few = omega arith; so_far = begins s l })

module _ {s : List ℕ} {lo hi : Float} {n : ℕ} {b : Bool} {u : List ℕ} (w : Ran s lo hi n b u) where
  -- p is the pattern of the next four bytes, and q says whether it is a NaN
  module _ (x r : List ℕ) (goes : u ≡ x ++ r) (l : length x ≡ 4) {p : ℕ} (e : p ≡ pattern_at x 0) {q : Bool} (is : q ≡ nan_bits binary32 p) where
    left : length u ≡ 4 + length r
    left = ap length goes ∙ omega (arith, l, length-append x r)

    so-far : run lo hi n b (values (x ++ r)) ≡ finding s
    so-far = rw goes at w.so_far

    pub past-nan : q ≡ true → Ran s lo hi (n + 1) b r
    past-nan y = let m = w.few in record { few = omega (arith, left); so_far = turn-nan x r l lo hi n b (ap (nan_bits binary32) (sym e) ∙ sym is ∙ y) ∙ so-far }

    module _ (y : q ≡ false) {z : Float} (ez : z ≡ of_bits binary32 p) where
      number-here : nan_bits binary32 (pattern_at x 0) ≡ false
      number-here = ap (nan_bits binary32) (sym e) ∙ sym is ∙ y

      here : of_bits binary32 (pattern_at x 0) ≡ z
      here = ap (of_bits binary32) (sym e) ∙ sym ez

      pub past-within : {t : Bool} → t ≡ within lo hi z → t ≡ true → Ran s lo hi n true r
      past-within er v = let m = w.few in record { few = omega (arith, left); so_far = turn-within x r l lo hi n b number-here (ap (within lo hi) here ∙ sym er ∙ v) ∙ so-far }

      pub past-number : {lo' hi' : Float} → lo' ≡ lesser lo z → hi' ≡ greater hi z → Ran s lo' hi' n true r
      past-number el eh = let m = w.few in record { few = omega (arith, left); so_far = rw (el, eh) ((rw here at (turn-number x r l lo hi n b number-here)) ∙ so-far) }

  module _ (l : length u < 4) where
    pub ran-span : b ≡ true → Span lo hi n ≡ finding s
    ran-span e = ends u l lo hi n b true e w.so_far

    pub ran-nans : b ≡ false → OnlyNaN n ≡ finding s
    ran-nans e = ends u l lo hi n b false e w.so_far
