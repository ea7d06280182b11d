-- `formats::sparse_csr` meets its contract: the rank, the three roles in order, then the lengths. Assumes nothing.
use Rattle.numbers.proofs.PassedOn.{passed-on}
use Rattle.formats.proofs.Rules as laws
use Rattle.formats.proofs.sparse_csr.Goals as goal

pub returns-then-shape-ne2 : goal.returns-then-shape-ne2
returns-then-shape-ne2 c = search laws.csr-rank

pub returns-in_default : goal.returns-in_default
returns-in_default c = search laws.csr-no-values

pub returns-in_err-indices : goal.returns-in_err-indices
returns-in_err-indices c = let e = passed-on {r = c.from_residual.result} {e = c.in_err-indices.field-0.0} c.from_residual.ensures in search (laws.csr-no-indices, c.in_err-indices.was)

pub returns-in_err-pointers : goal.returns-in_err-pointers
returns-in_err-pointers c = let e = passed-on {r = c.from_residual-in_err-pointers.result} {e = c.in_err-pointers.field-0.0} c.from_residual-in_err-pointers.ensures in search (laws.csr-no-pointers, c.in_ok-indices.was, c.in_err-pointers.was)

pub returns : goal.returns
returns c = search (laws.csr-all, c.in_ok-indices.was, c.in_ok-pointers.was)
