-- `reader::into::fits` meets its contract, which is that of `columns::holds`.
use Rattle.reader.proofs.into.fits.Goals as goal

pub returns : goal.returns
returns c = c.holds.ensures
