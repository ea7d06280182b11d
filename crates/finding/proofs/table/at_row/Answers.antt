-- `finding::table::at_row` meets its contract: a law for each branch. Assumes nothing.
use Rattle.finding.proofs.Rows as rows
use Rattle.finding.specs.Table.{undue}
use Rattle.finding.proofs.table.at_row.Goals as goal

pub returns-then-due : goal.returns-then-due
returns-then-due c = search rows.is-due

pub returns : goal.returns
unfolding undue
returns c = search rows.not-due
