-- `objects::verdict` meets its contract: a law for each branch.
use Rattle.numbers.proofs.PassedOn.{passed-on}
use Rattle.objects.proofs.MapEnd as ends
use Rattle.objects.proofs.verdict.Goals as goal
use Rattle.objects.proofs.verdict.Goals as goal

pub returns-in_err-judge : goal.returns-in_err-judge
returns-in_err-judge c = let e = passed-on {r = c.from_residual.result} {e = record { refusal = c.in_err-judge.field-0.0; object = 0; component = 0 }} c.from_residual.ensures in search (ends.names-conclude, c.in_err-judge.was)

pub returns-in_err-components : goal.returns-in_err-components
returns-in_err-components c = let e = passed-on {r = c.from_residual-in_err-components.result} {e = c.in_err-components.field-0.0} c.from_residual-in_err-components.ensures in search (ends.fault-concludes, c.in_ok-judge.was, c.in_err-components.was)

pub returns : goal.returns
returns c = search (ends.fine-concludes, c.in_ok-judge.was, c.in_ok-components.was)
