use borrow.Author.Tests.{eq-eqb, ne_eqb}
use Rattle.components.proofs.row.plain.Goals as goal

pub returns-then-code-eq8 : goal.returns-then-code-eq8
returns-then-code-eq8 c = search eq-eqb

pub returns-else-code-eq8 : goal.returns-else-code-eq8
returns-else-code-eq8 c = search (eq-eqb, ne_eqb)

pub returns-else-left-eq0 : goal.returns-else-left-eq0
returns-else-left-eq0 c = search ne_eqb
