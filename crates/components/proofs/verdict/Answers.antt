-- `components::verdict` meets its contract: a law for each branch.
use Rattle.numbers.proofs.PassedOn.{passed-on}
use Rattle.components.proofs.MapEnd as ends
use Rattle.components.proofs.verdict.Goals as goal

pub returns-in_err-judge : goal.returns-in_err-judge
returns-in_err-judge c = let e = passed-on {r = c.from_residual.result} {e = record { refusal = c.in_err-judge.field-0.0; component = 0 }} c.from_residual.ensures in search (ends.names-conclude, c.in_err-judge.was)

pub returns-in_err-first : goal.returns-in_err-first
returns-in_err-first c = let e = passed-on {r = c.from_residual-in_err-first.result} {e = c.in_err-first.field-0.0} c.from_residual-in_err-first.ensures in search (ends.fault-concludes, c.in_ok-judge.was, c.in_err-first.was)

pub returns : goal.returns
returns c = search (ends.fine-concludes, c.in_ok-judge.was, c.in_ok-first.was)
