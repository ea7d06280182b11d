-- The measure of `decimal::text::low_digits`: a call within is for one digit fewer.
use Rattle.decimal.proofs.text.+low_digits.Given as goal

abbrev pub decreases-low_digits : goal.decreases-low_digits
decreases-low_digits l = l.k
