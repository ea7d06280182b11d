use Rattle.formats.proofs.Roles as laws
use Rattle.formats.specs.Parts.{role_name}
use lib.ListN.{length}
use Prim.Native.Nat.{◌-◌}
use Rattle.formats.proofs.role_of.Given as goal

abbrev pub invariant-loop-at : goal.invariant-loop-at
invariant-loop-at l = laws.Seeking (role_name l.code) l.parts l.at l.i

abbrev pub decreases-loop-at : goal.decreases-loop-at
decreases-loop-at l = length l.parts - l.at
