-- `formats::coo_lengths` meets its contract: the tests in order, each with its component. Assumes nothing.
use Rattle.formats.proofs.Rules as laws
use Rattle.formats.proofs.coo_lengths.Goals as goal

pub returns-then-not-values_fit : goal.returns-then-not-values_fit
returns-then-not-values_fit c = search laws.coo-odd

pub returns-then-not-coords_fit : goal.returns-then-not-coords_fit
returns-then-not-coords_fit c = search laws.coo-coords

pub returns : goal.returns
returns c = search laws.coo-right
