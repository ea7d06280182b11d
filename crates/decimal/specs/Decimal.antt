-- Nine significant digits of a number, correctly rounded, ties to even.
use Rattle.std.specs.Prelude.{ℕ, zero, suc, ◌+◌, ◌*◌, ◌/◌, ◌%◌, ◌^◌, cond, ltb, eqb}
use Rattle.decimal.specs.Limbs.{rounded}
use Rattle.decimal.specs.declared.digits.Decimal.{Decimal}

-- the whole number nearest to n / c, of two the even one
unfoldable pub nearest : ℕ → ℕ → ℕ
unfolding rounded
nearest n c = rounded (n / c) (2 * (n % c)) c

-- the first place from k on, of those up to k + f, at which nine digits suffice: n / c < 10^(9 + place)
unfoldable pub place_of : ℕ → ℕ → ℕ → ℕ → ℕ
place_of zero k n c = k
place_of (suc f) k n c = cond (ltb n (10 ^ (9 + k) * c)) k (place_of f (suc k) n c)

-- nine digits of n / c at this place; a tenth comes up only by rounding to 10^9
unfoldable pub digits_at : ℕ → ℕ → ℕ → Decimal
unfolding nearest
digits_at e n c = cond (eqb (nearest n (10 ^ e * c)) (10 ^ 9)) (record { digits = 10 ^ 8; place = e + 1 }) (record { digits = nearest n (10 ^ e * c); place = e })

-- The nine digits of n / c. No f32 asks for a place above 83.
unfoldable pub nine_of : ℕ → ℕ → Decimal
unfolding digits_at place_of
nine_of n c = digits_at (place_of 84 0 n c) n c

-- The nine digits of M / 2^149, and the place of the last: the number is digits * 10^(place - 53). Times 10^53 no f32 but 0 is below 10^8.
unfoldable pub decimal : ℕ → Decimal
unfolding nine_of
decimal M = nine_of (M * 10 ^ 53) (2 ^ 149)
