-- `formats::dense` meets its contract: the role, then its length. Assumes nothing.
use borrow.Author.Tests.{not-true, not-false}
use Rattle.formats.proofs.Rules as laws
use Rattle.formats.proofs.dense.Goals as goal

pub returns-in_default : goal.returns-in_default
returns-in_default c = search laws.dense-absent

pub returns-then-not-dense_fits : goal.returns-then-not-dense_fits
returns-then-not-dense_fits c = search (laws.dense-wrong, not-true)

pub returns : goal.returns
returns c = search (laws.dense-right, not-false)
