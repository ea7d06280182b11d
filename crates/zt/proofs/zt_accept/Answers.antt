-- `zt::zt_accept` meets its contract: the number of the verdict.
use Rattle.reader.specs.declared.Verdict.{Verdict}
use mathlib.Core.Path.{ap}
use Rattle.zt.proofs.zt_accept.Goals as goal

pub returns : goal.returns
returns c = ap (λ (v : Verdict). v.number) c.accept-v.ensures
