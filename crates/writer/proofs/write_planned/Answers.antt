-- `writer::write_planned` meets its contract: a law for each branch.
use Rattle.writer.proofs.Checks as checks
use Rattle.writer.proofs.write_planned.Goals as goal

pub fill-requires : goal.fill-requires
fill-requires c = search checks.measured-yes

pub returns-in-No : goal.returns-in-No
returns-in-No c = record { answer = search checks.planned-refused; lent = c.in-No.ensures.lent }

pub returns-in-Yes : goal.returns-in-Yes
returns-in-Yes c = record { answer = search checks.planned-filled; lent = c.in-Yes.ensures.lent }
