-- `table::span::whole` meets its contract: a law for each branch.
use Rattle.table.proofs.TextSpan as spelling
use Rattle.table.proofs.span.whole.Goals as goal

pub returns-then-left-eq0 : goal.returns-then-left-eq0
returns-then-left-eq0 c = search spelling.none-whole

pub returns : goal.returns
returns c = search spelling.some-whole
