-- `types::type_fits` meets its contract: the digits are computed from what the logical types need. Assumes nothing.
use Rattle.meaning.specs.Types.{logicals, u8, f32, f64}
use Rattle.types.proofs.Codes as codes
use Rattle.types.proofs.type_fits.Goals as goal

pub returns-then-i-lt6 : goal.returns-then-i-lt6
unfolding logicals u8 f32 f64
returns-then-i-lt6 c = search codes.fits-by-digit

pub returns : goal.returns
returns c = search codes.fits_out
