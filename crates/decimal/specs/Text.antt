-- The text of an f32 of this pattern.
use Rattle.std.specs.Prelude.{ℕ, zero, suc, ◌+◌, ◌-◌, ◌*◌, ◌/◌, ◌%◌, ◌^◌, cond, List, [], ◌∷◌, ◌++◌, ltb, leb, eqb}
use Rattle.meaning.specs.Text.{ascii}
use Rattle.decimal.specs.Decimal.{decimal}
use Rattle.decimal.specs.declared.digits.Decimal.{Decimal}

-- the last k digits of n
unfoldable pub low_digits : ℕ → ℕ → List ℕ
low_digits zero n = []
low_digits (suc k) n = low_digits k (n / 10) ++ ((48 + n % 10) ∷ [])

-- the exponent, of a number whose ninth digit stands at this place: place - 45
unfoldable pub exponent : ℕ → List ℕ
unfolding low_digits
exponent place = cond (ltb place 45) (45 ∷ low_digits 2 (45 - place)) (43 ∷ low_digits 2 (place - 45))

unfoldable pub written : Decimal → List ℕ
unfolding low_digits exponent
written d = low_digits 1 (d.digits / 100000000) ++ (46 ∷ low_digits 8 d.digits) ++ (101 ∷ exponent d.place)

-- the magnitude in units of 2^-149, from the exponent's field and the fraction's
unfoldable pub magnitude : ℕ → ℕ → ℕ
magnitude zero t = t
magnitude (suc x) t = (8388608 + t) * 2 ^ x

unfoldable pub number : ℕ → ℕ → List ℕ
unfolding written magnitude
number x t = cond (eqb (magnitude x t) 0) (ascii "0.00000000e+00") (written (decimal (magnitude x t)))

-- all but the sign
unfoldable pub unsigned : ℕ → ℕ → List ℕ
unfolding number
unsigned x t = cond (eqb x 255) (cond (eqb t 0) (ascii "inf") (ascii "nan")) (number x t)

unfoldable pub text : ℕ → List ℕ
unfolding unsigned
text n = cond (leb 2147483648 n) (45 ∷ []) [] ++ unsigned (n % 2147483648 / 8388608) (n % 8388608)
