use Prim.Native.Nat.{◌-◌}
use lib.ListN.{length}
use Rattle.sieve.proofs.ObjectJudged as sieving
use Rattle.sieve.proofs.each.Given as goal

abbrev pub invariant-loop-have : goal.invariant-loop-have
invariant-loop-have l = sieving.Looping l.pass.layout l.pass.start l.pass.end l.mode l.count l.pass.fill l.pass.from l.s l.initial.t l.initial.list l.at l.due l.have l.t l.list

abbrev pub decreases-loop-have : goal.decreases-loop-have
decreases-loop-have l = length l.s - l.at
