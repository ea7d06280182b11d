-- The text's pieces: what each branch has written is what the definition says.
use Prim.Native.Nat.{ℕ, zero, suc, ◌+◌, ◌-◌, ◌*◌, ◌/◌, ◌%◌, ◌^◌, ◌<◌, ◌≤◌}
use native.Mathlib.Nat.{mul-pos}
use native.Mathlib.Omega.{arith}
use mathlib.Core.List.{List, [], ◌∷◌, ◌++◌}
use mathlib.Core.Path.{◌≡◌, refl}
use lib.ListN.{length}
use lib.Pow.{pow_pos}
use borrow.Author.Tests.{lt-ltb, le-ltb, lt-leb, le-leb, ne_eqb}
use Rattle.meaning.specs.Text.{ascii}
use Rattle.put.specs.Wrote.{most, capped, Wrote}
use Rattle.put.proofs.PiecesInTurn as writing
use Rattle.decimal.specs.Decimal.{decimal}
use Rattle.decimal.specs.Text.{low_digits, exponent, written, magnitude, number, unsigned, text}
use Rattle.decimal.specs.declared.digits.Decimal.{Decimal}

-- two pieces, one after the other, are all
pub both : {us bs all : List ℕ} {at : ℕ} {xs ys zs : List ℕ} {r q : ℕ} → Wrote us at xs ys r → Wrote bs r ys zs q → us ++ bs ≡ all → Wrote all at xs zs q
both a b e = writing.as_bytes e (writing.then a b)

pub low-none : (k n at : ℕ) (xs : List ℕ) (r : ℕ) → k ≡ 0 → length xs * 1 < most → r ≡ capped at → Wrote (low_digits k n) at xs xs r
unfolding low_digits
low-none k n at xs r e short is = rw e (writing.nothing r (omega arith) is)

pub low-more : (k n : ℕ) → (k ≡ 0 → ⊥) → low_digits (k - 1) (n / 10) ++ ((48 + n % 10) ∷ []) ≡ low_digits k n
unfolding low_digits
low-more zero n h = absurd (h refl)
low-more (suc k) n h = let e : suc k - 1 ≡ k = omega arith in rw e

module _ (place : ℕ) where
  pub exponent-minus : place < 45 → 45 ∷ low_digits 2 (45 - place) ≡ exponent place
  unfolding exponent
  exponent-minus h = rw (lt-ltb place 45 h)

  pub exponent-plus : 45 ≤ place → 43 ∷ low_digits 2 (place - 45) ≡ exponent place
  unfolding exponent
  exponent-plus h = rw (le-ltb place 45 h)

pub all-written : (d : Decimal) {at p q r s e : ℕ} {xs us vs ws ys zs : List ℕ} → Wrote (low_digits 1 (d.digits / 100000000)) at xs us p → Wrote (46 ∷ []) p us vs q → Wrote (low_digits 8 d.digits) q vs ws r
    → Wrote (101 ∷ []) r ws ys s → Wrote (exponent d.place) s ys zs e → Wrote (written d) at xs zs e
unfolding written
all-written d first point rest mark last = writing.then first (writing.then point (writing.then rest (writing.then mark last)))

module _ (x t : ℕ) where
  pub number-zero : x ≡ 0 → t ≡ 0 → ascii "0.00000000e+00" ≡ number x t
  unfolding number magnitude
  number-zero a b = rw (a, b)

  pub number_small : x ≡ 0 → (t ≡ 0 → ⊥) → (d : Decimal) → d ≡ decimal (t * 2 ^ 0) → written d ≡ number x t
  unfolding number magnitude
  number_small a b d e = let m : t * 1 ≡ t = omega arith in rw (a, e, m, ne_eqb t 0 b)

pub number-large : (x t : ℕ) → (x ≡ 0 → ⊥) → (d : Decimal) → d ≡ decimal ((8388608 + t) * 2 ^ (x - 1)) → written d ≡ number x t
unfolding number magnitude
number-large zero t h d e = absurd (h refl)
number-large (suc x) t h d e =
    let m : suc x - 1 ≡ x = omega arith in
    let p : 0 < (8388608 + t) * 2 ^ x = mul-pos (omega arith) (pow_pos x) in
    rw (e, m, ne_eqb ((8388608 + t) * 2 ^ x) 0 (λ z. never p z))
  where
    never : {a : ℕ} → 0 < a → a ≡ 0 → ⊥
    never h z = omega arith

module _ (x t : ℕ) where
  pub unsigned-inf : x ≡ 255 → t ≡ 0 → ascii "inf" ≡ unsigned x t
  unfolding unsigned
  unsigned-inf a b = rw (a, b)

  pub unsigned-nan : x ≡ 255 → (t ≡ 0 → ⊥) → ascii "nan" ≡ unsigned x t
  unfolding unsigned
  unsigned-nan a b = rw (a, ne_eqb t 0 b)

  pub unsigned-number : (x ≡ 255 → ⊥) → number x t ≡ unsigned x t
  unfolding unsigned
  unsigned-number a = rw (ne_eqb x 255 a)

module _ (n : ℕ) where
  pub text-plus : n < 2147483648 → unsigned (n % 2147483648 / 8388608) (n % 8388608) ≡ text n
  unfolding text
  text-plus h = rw (lt-leb 2147483648 n h)

  pub text-minus : 2147483648 ≤ n → 45 ∷ unsigned (n % 2147483648 / 8388608) (n % 8388608) ≡ text n
  unfolding text
  text-minus h = rw (le-leb 2147483648 n h)
