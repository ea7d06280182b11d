-- `types::ratio_of` meets its contract: the digits are computed from the logical types' ratios. Assumes nothing.
use Rattle.meaning.specs.Types.{logicals}
use Rattle.types.proofs.Codes as codes
use Rattle.types.proofs.ratio_of.Goals as goal

pub returns-then-i-lt6 : goal.returns-then-i-lt6
unfolding logicals
returns-then-i-lt6 c = search codes.ratio-by-digit

pub returns : goal.returns
returns c = search codes.ratio-out
