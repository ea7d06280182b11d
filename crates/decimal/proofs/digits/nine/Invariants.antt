use Rattle.decimal.proofs.DigitsCut as cut
use Rattle.decimal.specs.Limbs.{value}
use Prim.Native.Nat.{◌*◌, ◌^◌}
use Rattle.decimal.proofs.digits.nine.Given as goal

abbrev pub invariant-loop-a : goal.invariant-loop-a
invariant-loop-a l = cut.Cut (l.m * 2 ^ l.j * 5 ^ 53) l.a l.place l.left

abbrev pub decreases-loop-a : goal.decreases-loop-a
decreases-loop-a l = value l.a
