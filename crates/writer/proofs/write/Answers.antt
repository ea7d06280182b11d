-- `writer::write` meets its contract: a law for each branch.
use Rattle.writer.proofs.Checks as checks
use Rattle.writer.proofs.write.Goals as goal

pub fill-requires : goal.fill-requires
fill-requires c = search checks.measured-yes

pub returns-in-Err : goal.returns-in-Err
returns-in-Err c = record { answer = search checks.plain-refused; lent = c.in-Err.ensures.lent }

pub returns-in-Ok : goal.returns-in-Ok
returns-in-Ok c = record { answer = search checks.plain-filled; lent = c.in-Ok.ensures.lent }
