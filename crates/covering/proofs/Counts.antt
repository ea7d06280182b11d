-- Positions counted: in two parts, all or none of them; and what one sweep over ranges in order comes to.
use Prim.Native.Nat.{ℕ, zero, suc, ◌+◌, ◌-◌, ◌≤◌, ◌<◌}
use native.Mathlib.Omega.{arith}
use mathlib.Core.List.{List, [], ◌∷◌}
use mathlib.Core.Bool.{Bool, true, false, cond, ◌&&◌}
use mathlib.Core.Path.{◌≡◌, refl, sym, ap, ◌∙◌, subst}
use lib.Dec.{leb, ltb}
use borrow.Author.Tests.{lt-ltb, le-ltb, le-leb, lt-leb, ltb-true, ltb-false}
use Rattle.covering.specs.Ranges.{count, lies, times, covered, inside}
use Rattle.covering.specs.Order.{Rising, End, Alike}
use Rattle.covering.specs.Sweep.{from, swept}

-- 1 where it holds
abbrev one : Bool → ℕ
one b = cond b 1 0

-- ---- counting

pub count-split : (f : ℕ → Bool) (n m at : ℕ) → count f (n + m) at ≡ count f n at + count f m (at + n)
unfolding count
count-split f zero m at = let z : 0 + m ≡ m = omega arith in let y : at + 0 ≡ at = omega arith in rw (z, y) (omega arith)
count-split f (suc n) m at =
    let z : suc n + m ≡ suc (n + m) = omega arith in
    let y : at + suc n ≡ suc at + n = omega arith in
    let h : count f (n + m) (suc at) ≡ count f n (suc at) + count f m (suc at + n) = count-split f n m (suc at) in
    rw (z, y) (omega (arith, h))

pub count_same : (f g : ℕ → Bool) (n at : ℕ) → ((p : ℕ) → at ≤ p → p < at + n → f p ≡ g p) → count f n at ≡ count g n at
unfolding count
count_same f g zero at h = refl
count_same f g (suc n) at h =
    rw (h at (omega arith) (omega arith), count_same f g n (suc at) (λ p a b. h p (omega (arith, a)) (omega (arith, b)))) refl

pub count_none : (f : ℕ → Bool) (n at : ℕ) → ((p : ℕ) → at ≤ p → p < at + n → f p ≡ false) → count f n at ≡ 0
unfolding count
count_none f zero at h = refl
count_none f (suc n) at h = rw (h at (omega arith) (omega arith), count_none f n (suc at) (λ p a b. h p (omega (arith, a)) (omega (arith, b)))) refl

pub count-all : (f : ℕ → Bool) (n at : ℕ) → ((p : ℕ) → at ≤ p → p < at + n → f p ≡ true) → count f n at ≡ n
unfolding count
count-all f zero at h = refl
count-all f (suc n) at h = rw (h at (omega arith) (omega arith), count-all f n (suc at) (λ p a b. h p (omega (arith, a)) (omega (arith, b)))) (omega arith)

pub count_most : (f : ℕ → Bool) (n at : ℕ) → count f n at ≤ n
unfolding count
count_most f zero at = omega arith
count_most f (suc n) at = by (f at) (count_most f n (suc at))
  where
    by : (b : Bool) → count f n (suc at) ≤ n → one b + count f n (suc at) ≤ suc n
    by true h = omega (arith, h)
    by false h = omega (arith, h)

-- ---- where a position lies

pub lies-not-yet : (p o e : ℕ) → p < o → lies p o e ≡ false
lies-not-yet p o e h = rw (lt-leb o p h) refl

pub lies-past : (p o e : ℕ) → e ≤ p → lies p o e ≡ false
lies-past p o e h = by (leb o p)
  where
    by : (b : Bool) → b && ltb p e ≡ false
    by true = le-ltb p e h
    by false = refl

lies-there : (p o e : ℕ) → o ≤ p → p < e → lies p o e ≡ true
lies-there p o e a b = rw (le-leb o p a, lt-ltb p e b) refl

not_yet : (low p : ℕ) (s : List ℕ) → Rising low s → p < low → times p s ≡ 0
unfolding times
not_yet low p [] r h = refl
not_yet low p (o ∷ []) r h = refl
not_yet low p (o ∷ e ∷ s) r h =
    rw (lies-not-yet p o e (omega (arith, r.0, h)), not_yet o p s r.1 (omega (arith, r.0, h))) refl

-- ---- a sweep

module _ (o e : ℕ) (s : List ℕ) where
  skips : (p : ℕ) → lies p o e ≡ false → covered (o ∷ e ∷ s) p ≡ covered s p
  unfolding covered times
  skips p h = rw h (ap (ltb 0) (let z : 0 + times p s ≡ times p s = omega arith in z))

  meets : (p : ℕ) → lies p o e ≡ true → covered (o ∷ e ∷ s) p ≡ true
  unfolding covered times
  meets p h = rw h (lt-ltb 0 (1 + times p s) (omega arith))

  empty : (p : ℕ) → lies p o e ≡ false → times p s ≡ 0 → covered (o ∷ e ∷ s) p ≡ false
  unfolding covered times
  empty p h g = rw (h, g) refl

from-reach : (r o : ℕ) → r ≤ from r o
from-reach r o = by (ltb o r) refl
  where
    by : (b : Bool) → ltb o r ≡ b → r ≤ cond b r o
    by true h = omega arith
    by false h = ltb-false o r h

from-begins : (r o : ℕ) → o ≤ from r o
from-begins r o = by (ltb o r) refl
  where
    by : (b : Bool) → ltb o r ≡ b → o ≤ cond b r o
    by true h = let z : o < r = ltb-true o r h in omega (arith, z)
    by false h = omega arith

-- it is one of the two
from-least : (r o p : ℕ) → r ≤ p → p < from r o → p < o
from-least r o p a = by (ltb o r)
  where
    by : (b : Bool) → p < cond b r o → p < o
    by true h = absurd (omega (arith, a, h))
    by false h = h

-- a range that adds nothing
outside : (r o e p : ℕ) → r ≤ p → e ≤ from r o → lies p o e ≡ false
outside r o e p x g = by (ltb p (from r o)) refl
  where
    by : (b : Bool) → ltb p (from r o) ≡ b → lies p o e ≡ false
    by true h = lies-not-yet p o e (from-least r o p x (ltb-true p (from r o) h))
    by false h = let z : from r o ≤ p = ltb-false p (from r o) h in lies-past p o e (omega (arith, z, g))

-- ranges that rise, swept from r on: the n positions from r on, where none ends past them
pub swept-is : (a : List ℕ) (low r n : ℕ) → Rising low a → End (r + n) a → swept r a ≡ count (covered a) n r
unfolding swept
swept-is [] low r n u v = sym (count_none (covered []) n r (λ p g h. none p))
  where
    none : (p : ℕ) → covered [] p ≡ false
    none p = unfold covered times in refl
swept-is (o ∷ []) low r n u v = sym (count_none (covered (o ∷ [])) n r (λ p g h. none p))
  where
    none : (p : ℕ) → covered (o ∷ []) p ≡ false
    none p = unfold covered times in refl
swept-is (o ∷ e ∷ s) low r n u v = by (ltb (from r o) e) refl (swept-is s o r n u.1 v.1) (λ m q. swept-is s o e m u.1 (subst (λ (k : ℕ). End k s) q v.1))
  where
    after : from r o < e → (m : ℕ) → n ≡ from r o - r + (e - from r o + m) → swept e s ≡ count (covered s) m e → e - from r o + swept e s ≡ count (covered (o ∷ e ∷ s)) n r
    after h m q w =
        let b = from-reach r o in
        let before : count (covered (o ∷ e ∷ s)) (from r o - r) r ≡ 0 =
        count_none (covered (o ∷ e ∷ s)) (from r o - r) r (λ p x y. let z : p < o = from-least r o p x (omega (arith, y, b)) in empty o e s p (lies-not-yet p o e z) (not_yet o p s u.1 z)) in
        let there : count (covered (o ∷ e ∷ s)) (e - from r o) (r + (from r o - r)) ≡ e - from r o =
        count-all (covered (o ∷ e ∷ s)) (e - from r o) (r + (from r o - r)) (λ p x y. meets o e s p (lies-there p o e (let z = from-begins r o in omega (arith, x, b, z)) (omega (arith, y, b, h)))) in
        let at-e : r + (from r o - r) + (e - from r o) ≡ e = omega (arith, b, h) in
        let further : count (covered (o ∷ e ∷ s)) m e ≡ count (covered s) m e =
        count_same (covered (o ∷ e ∷ s)) (covered s) m e (λ p x y. skips o e s p (lies-past p o e x)) in
        let parts : count (covered (o ∷ e ∷ s)) (from r o - r + (e - from r o + m)) r ≡ count (covered (o ∷ e ∷ s)) (from r o - r) r + count (covered (o ∷ e ∷ s)) (e - from r o + m) (r + (from r o - r)) =
        count-split (covered (o ∷ e ∷ s)) (from r o - r) (e - from r o + m) r in
        let halves : count (covered (o ∷ e ∷ s)) (e - from r o + m) (r + (from r o - r)) ≡ count (covered (o ∷ e ∷ s)) (e - from r o) (r + (from r o - r)) + count (covered (o ∷ e ∷ s)) m (r + (from r o - r) + (e - from r o)) =
        count-split (covered (o ∷ e ∷ s)) (e - from r o) m (r + (from r o - r)) in
        let last : count (covered (o ∷ e ∷ s)) m (r + (from r o - r) + (e - from r o)) ≡ swept e s =
        ap (count (covered (o ∷ e ∷ s)) m) at-e ∙ further ∙ sym w in
        let whole : count (covered (o ∷ e ∷ s)) n r ≡ count (covered (o ∷ e ∷ s)) (from r o - r + (e - from r o + m)) r = ap (λ (k : ℕ). count (covered (o ∷ e ∷ s)) k r) q in
        sym (whole ∙ parts ∙ ap (λ (k : ℕ). k + count (covered (o ∷ e ∷ s)) (e - from r o + m) (r + (from r o - r))) before ∙
        (let z : 0 + count (covered (o ∷ e ∷ s)) (e - from r o + m) (r + (from r o - r)) ≡ count (covered (o ∷ e ∷ s)) (e - from r o + m) (r + (from r o - r)) = omega arith in z) ∙ halves ∙ ap
        (λ (k : ℕ). k + count (covered (o ∷ e ∷ s)) m (r + (from r o - r) + (e - from r o))) there ∙ ap (λ (k : ℕ). e - from r o + k) last)

    by : (b : Bool) → ltb (from r o) e ≡ b → swept r s ≡ count (covered s) n r → ((m : ℕ) → r + n ≡ e + m → swept e s ≡ count (covered s) m e)
        → cond b (e - from r o + swept e s) (swept r s) ≡ count (covered (o ∷ e ∷ s)) n r
    by true h w k =
        let g : from r o < e = ltb-true (from r o) e h in
        let b = from-reach r o in
        after g (r + n - e) (omega (arith, g, b, v.0)) (k (r + n - e) (omega (arith, g, b, v.0)))
    by false h w k =
        let g : e ≤ from r o = ltb-false (from r o) e h in
        w ∙ sym (count_same (covered (o ∷ e ∷ s)) (covered s) n r (λ p x y. skips o e s p (outside r o e p x g)))

-- the positions below n, by ranges that rise, of ranges that cover the same
pub inside_is : (a b : List ℕ) (n : ℕ) → Rising 0 b → End n a → Alike a b → swept 0 b ≡ inside a n
unfolding inside covered
inside_is a b n u v w =
    swept-is b 0 0 n u (let z : n ≡ 0 + n = omega arith in subst (λ (k : ℕ). End k b) z (w.ending n v))
    ∙ count_same (covered b) (covered a) n 0 (λ p g h. ap (ltb 0) (w.often p))

pub inside-most : (a : List ℕ) (n : ℕ) → inside a n ≤ n
unfolding inside
inside-most a n = count_most (covered a) n 0
