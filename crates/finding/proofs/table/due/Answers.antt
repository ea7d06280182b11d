-- `finding::table::due` meets its contract. Assumes nothing.
use borrow.Author.Rules.{rules}
use Rattle.meaning.specs.Types.{f32}
use Rattle.finding.specs.Table.{due}
use Rattle.finding.proofs.table.due.Goals as goal

pub returns-then-table-row-eq0-2 : goal.returns-then-table-row-eq0-2
unfolding due f32
returns-then-table-row-eq0-2 c = search rules

pub returns-else-table-row-eq0-2 : goal.returns-else-table-row-eq0-2
unfolding due f32
returns-else-table-row-eq0-2 c = search rules
