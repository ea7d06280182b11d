-- `panel::rows::inside` meets its contract. Assumes nothing.
use borrow.Author.Rules.{rules}
use Rattle.panel.specs.Lines.{range_inside}
use Rattle.panel.proofs.rows.inside.Goals as goal

pub returns : goal.returns
unfolding range_inside
returns c = search rules
