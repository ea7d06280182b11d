-- `formats::values_fit` meets its contract: whether elements are counted, then the test. Assumes nothing.
use Rattle.formats.proofs.Rules as laws
use borrow.Author.Rules.{rules}
use Rattle.formats.proofs.values_fit.Goals as goal

pub returns-then-unit-ge256 : goal.returns-then-unit-ge256
returns-then-unit-ge256 c = search (rules, laws.values-free)

pub returns : goal.returns
returns c = search (rules, laws.values-counted)
