-- `formats::csr_lengths` meets its contract: the tests in order, each with its component. Assumes nothing.
use Rattle.formats.proofs.Rules as laws
use Rattle.formats.proofs.csr_lengths.Goals as goal

pub returns-then-not-values_fit : goal.returns-then-not-values_fit
returns-then-not-values_fit c = search laws.csr-odd

pub returns-then-not-indices_fit : goal.returns-then-not-indices_fit
returns-then-not-indices_fit c = search laws.csr-indices

pub returns-then-not-pointer_length : goal.returns-then-not-pointer_length
returns-then-not-pointer_length c = search laws.csr-pointers

pub returns : goal.returns
returns c = search laws.csr-right
