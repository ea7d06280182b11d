-- What std's comparisons answer of two numbers and of two texts, in the numbers of `order`. Assumes nothing.
use Rattle.std.proofs.Common.{◌≡◌, ℕ, zero, suc, List, [], ◌∷◌, ◌<◌, ◌≤◌, length, sym, ◌∙◌, ap, refl, arith}
use Rattle.std.specs.declared.cmp.Ordering.{Ordering}
use Rattle.std.specs.declared.cmp.Ordering.TheVariants.{Less, Equal, Greater}
use Rattle.std.specs.Ordering.{nat_cmp, ordering_then, MatchOrdering}
use Rattle.std.specs.Cmp.Lexicographic.{slice_cmp}
use Rattle.std.proofs.lemmas.Cmp.{ranked}
use Rattle.text.specs.Order.{first, lex, order, number}
use Rattle.text.proofs.OrderIsTotal.{first-less, first_more, first-equal}

-- a comparison of two numbers, and of what follows where they are equal
first-then : (x y : ℕ) (o : Ordering) (r : ℕ) → number o ≡ r → number (ordering_then (nat_cmp x y) o) ≡ first x y r
first-then x y o r e = go (nat_cmp x y) (ranked x y _ refl)
  where
    go : (q : Ordering) → MatchOrdering q (x < y) (x ≡ y) (y < x) → number (ordering_then q o) ≡ first x y r
    go Less l = sym (first-less x y r l)
    go Equal l = e ∙ sym (first-equal x y r l)
    go Greater l = sym (first_more x y r l)

lex-by-std : (a b : List ℕ) → number (slice_cmp nat_cmp a b) ≡ lex a b
unfolding lex
lex-by-std [] [] = refl
lex-by-std [] (y ∷ b) = refl
lex-by-std (x ∷ a) [] = refl
lex-by-std (x ∷ a) (y ∷ b) = first-then x y (slice_cmp nat_cmp a b) (lex a b) (lex-by-std a b)

-- the lengths decide, and else the bytes
pub order-by-std : (a b : List ℕ) (P : Type 0) {q r : Ordering} → q ≡ nat_cmp (length a) (length b) → MatchOrdering q (r ≡ Less) P (r ≡ Greater)
    → (P → r ≡ slice_cmp nat_cmp a b) → number r ≡ order a b
unfolding order
order-by-std a b P {q} {r} e m f = go q (ranked (length a) (length b) q e) m
  where
    go : (q : Ordering) → MatchOrdering q (length a < length b) (length a ≡ length b) (length b < length a) → MatchOrdering q (r ≡ Less) P (r ≡ Greater)
        → number r ≡ first (length a) (length b) (lex a b)
    go Less l h = ap number h ∙ sym (first-less _ _ _ l)
    go Equal l h = ap number (f h) ∙ lex-by-std a b ∙ sym (first-equal _ _ _ l)
    go Greater l h = ap number h ∙ sym (first_more _ _ _ l)

-- one of these numbers as std names it
abbrev pub ordering : ℕ → Ordering
ordering zero = Equal
ordering (suc zero) = Less
ordering (suc (suc n)) = Greater

pub ordering-of : (o : Ordering) {n : ℕ} → number o ≡ n → o ≡ ordering n
ordering-of Less e = ap ordering e
ordering-of Equal e = ap ordering e
ordering-of Greater e = ap ordering e

pub less-one : (n : ℕ) → ordering n ≡ Less → n ≡ 1
less-one zero e = cc
less-one (suc zero) e = refl
less-one (suc (suc n)) e = cc

pub equal-zero : (n : ℕ) → ordering n ≡ Equal → n ≡ 0
equal-zero zero e = refl
equal-zero (suc zero) e = cc
equal-zero (suc (suc n)) e = cc

pub greater-two : (n : ℕ) → n ≤ 2 → ordering n ≡ Greater → n ≡ 2
greater-two zero l e = cc
greater-two (suc zero) l e = cc
greater-two (suc (suc n)) l e = omega arith
