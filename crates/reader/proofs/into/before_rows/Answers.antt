-- `reader::into::before_rows` meets its contract. Assumes nothing.
use Rattle.reader.specs.Answer.{before_rows}
use Rattle.reader.proofs.Answers as answers
use borrow.Author.Rules.{rules}
use Rattle.reader.proofs.into.before_rows.Goals as goal

pub returns-then-last : goal.returns-then-last
unfolding before_rows
returns-then-last c = search answers.before-rows-last

pub returns : goal.returns
unfolding before_rows
returns c = search rules
