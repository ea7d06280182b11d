use Rattle.walk.proofs.Found as found
use native.Mathlib.Omega.{arith}
use Rattle.walk.proofs.null.Goals as goal

pub returns-then-s-eq0 : goal.returns-then-s-eq0
returns-then-s-eq0 c = found.null-none c.args.s.now (omega arith)

pub returns : goal.returns
returns c = found.null-here c.args.s.now (omega arith) (omega (arith, c.shared_slice_known-1.given 0))
