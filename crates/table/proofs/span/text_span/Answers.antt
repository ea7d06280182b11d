-- `table::span::text_span` meets its contract: a law for each branch.
use Rattle.table.proofs.TextSpan as spelling
use borrow.Author.Rules.{rules}
use Rattle.table.proofs.span.text_span.Goals as goal

pub returns-then-s-h : goal.returns-then-s-h
returns-then-s-h c = search (rules, spelling.short-text)

pub returns : goal.returns
returns c = search spelling.text-after-head
