-- `formats::sparse_coo` meets its contract: the two roles in order, then the lengths. Assumes nothing.
use Rattle.numbers.proofs.PassedOn.{passed-on}
use Rattle.formats.proofs.Rules as laws
use Rattle.formats.proofs.sparse_coo.Goals as goal

pub returns-in_default : goal.returns-in_default
returns-in_default c = search laws.coo-no-values

pub returns-in_err-coords : goal.returns-in_err-coords
returns-in_err-coords c = let e = passed-on {r = c.from_residual.result} {e = c.in_err-coords.field-0.0} c.from_residual.ensures in search (laws.coo-no-coords, c.in_err-coords.was)

pub returns : goal.returns
returns c = search (laws.coo-all, c.in_ok-coords.was)
