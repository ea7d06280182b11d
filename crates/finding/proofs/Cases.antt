-- The definition, computed.
use mathlib.Core.Bool.{true, false}
use mathlib.Core.List.{[], ◌∷◌}
use mathlib.Core.Path.{◌≡◌, refl}
use lib.IntN.{pos, negsuc}
use lib.Ieee.{inf, fin, of_bits, lt, is_nan}
use Rattle.finding.specs.Finding.{finding, values, of_values, of_numbers, nans, numbers, smallest, largest}
use Rattle.finding.specs.declared.Finding.TheVariants.{OnlyNaN, Span}

-- -0 before +0: the first met is kept, as smallest and as largest
pub zeros : finding (0 ∷ 0 ∷ 0 ∷ 128 ∷ 0 ∷ 0 ∷ 0 ∷ 0 ∷ []) ≡ Span (fin true 0 (pos 0)) (fin true 0 (pos 0)) 0
unfolding finding values of_values of_numbers nans numbers smallest largest of_bits lt is_nan
zeros = refl

-- a NaN, 1.5, -inf
pub mixed : finding (1 ∷ 0 ∷ 192 ∷ 127 ∷ 0 ∷ 0 ∷ 192 ∷ 63 ∷ 0 ∷ 0 ∷ 128 ∷ 255 ∷ []) ≡ Span (inf true) (fin false 3 (negsuc 0)) 1
unfolding finding values of_values of_numbers nans numbers smallest largest of_bits lt is_nan
mixed = refl

-- two NaNs
pub only_nan : finding (1 ∷ 0 ∷ 192 ∷ 127 ∷ 0 ∷ 0 ∷ 192 ∷ 255 ∷ []) ≡ OnlyNaN 2
unfolding finding values of_values of_numbers nans numbers smallest largest of_bits lt is_nan
only_nan = refl
