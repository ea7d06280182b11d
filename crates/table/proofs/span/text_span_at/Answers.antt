-- `table::span::text_span_at` meets its contract: a law for each branch.
use Rattle.table.proofs.TextSpan as spelling
use Rattle.table.proofs.span.text_span_at.Goals as goal

pub returns-then-left-eq0 : goal.returns-then-left-eq0
returns-then-left-eq0 c = search spelling.no_text

pub returns : goal.returns
returns c = search spelling.text-there
