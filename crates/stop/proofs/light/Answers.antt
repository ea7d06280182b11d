-- `stop::light` meets its contract: where it answers more than there are bytes, nothing is said; else `skip` tells.
use Rattle.stop.proofs.Held as items
use native.Mathlib.Omega.{arith}
use Rattle.stop.proofs.light.Goals as goal

pub returns-then-s-eq0 : goal.returns-then-s-eq0
returns-then-s-eq0 c l = absurd (omega arith)

pub returns-then-b-lt224 : goal.returns-then-b-lt224
returns-then-b-lt224 c l = absurd (omega arith)

pub returns : goal.returns
returns c = search items.skip-passes
