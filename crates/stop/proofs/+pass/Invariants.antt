use Rattle.stop.proofs.Held.{Walk}
use lib.ListN.{length}
use Prim.Native.Nat.{◌-◌}
use Rattle.stop.proofs.+pass.Given as goal

abbrev pub decreases-pass : goal.decreases-pass
decreases-pass l = l.left

abbrev pub invariant-loop-due : goal.invariant-loop-due
invariant-loop-due l = Walk l.left l.s l.mode l.due l.at

abbrev pub decreases-loop-due : goal.decreases-loop-due
decreases-loop-due l = length l.s - l.at
