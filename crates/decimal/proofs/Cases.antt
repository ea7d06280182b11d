-- The definition, computed: the smallest and the largest f32, a half-way case, and the signs.
use mathlib.Core.Path.{◌≡◌, refl}
use Rattle.meaning.specs.Text.{ascii}
use Rattle.decimal.specs.Limbs.{rounded}
use Rattle.decimal.specs.Decimal.{nearest, place_of, digits_at, nine_of, decimal}
use Rattle.decimal.specs.Text.{low_digits, exponent, written, magnitude, number, unsigned, text}

pub smallest : text 1 ≡ ascii "1.40129846e-45"
unfolding rounded nearest place_of digits_at nine_of decimal low_digits exponent written magnitude number unsigned text
smallest = refl

pub largest : text 0xff7f_ffff ≡ ascii "-3.40282347e+38"
unfolding rounded nearest place_of digits_at nine_of decimal low_digits exponent written magnitude number unsigned text
largest = refl

pub one : text 0x3f80_0000 ≡ ascii "1.00000000e+00"
unfolding rounded nearest place_of digits_at nine_of decimal low_digits exponent written magnitude number unsigned text
one = refl

pub minus-zero : text 0x8000_0000 ≡ ascii "-0.00000000e+00"
unfolding rounded nearest place_of digits_at nine_of decimal low_digits exponent written magnitude number unsigned text
minus-zero = refl

-- 2^-13 = 1.220703125e-04 exactly: the tie goes to the even 1.22070312
pub tie : text 0x3900_0000 ≡ ascii "1.22070312e-04"
unfolding rounded nearest place_of digits_at nine_of decimal low_digits exponent written magnitude number unsigned text
tie = refl
