-- `finding::in_numbers` meets its contract. Assumes nothing.
use borrow.Author.Rules.{rules}
use Rattle.finding.specs.Finding.{shown}
use Rattle.finding.proofs.in_numbers.Goals as goal

pub returns-in-Empty : goal.returns-in-Empty
unfolding shown
returns-in-Empty c = search rules

pub returns-in-OnlyNaN : goal.returns-in-OnlyNaN
unfolding shown
returns-in-OnlyNaN c = search rules

pub returns-in-Span : goal.returns-in-Span
unfolding shown
returns-in-Span c = search rules
