-- `apart::run` meets its contract. The loop's invariant: the bytes before i agree.
use mathlib.Core.Path.{◌≡◌}
use native.Mathlib.Omega.{arith}
use Rattle.apart.proofs.Counts as counting
use Rattle.apart.proofs.run.Goals as goal

pub loop-i-init : goal.loop-i-init
loop-i-init c = c.run_of_blocks-i.ensures

pub returns-then-x-i : goal.returns-then-x-i
returns-then-x-i c = record { passed = c.loop-i.invariant; stops = λ l. c.if-x-i.true }

pub loop-i-preserved : goal.loop-i-preserved
loop-i-preserved c = let l = c.loop-i in let a = c.args in record { most = omega arith; agree = counting.agree-one (a.x.now) (a.y.now) (l.i) (l.invariant.agree) (omega arith) }

pub returns : goal.returns
returns c = let z : c.loop-i.i ≡ c.args.n = omega (arith, c.loop-i.invariant.most) in record { passed = rw z at c.loop-i.invariant; stops = λ l. absurd (omega arith) }
