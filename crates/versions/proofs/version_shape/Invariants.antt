use Rattle.versions.proofs.VersionSteps as steps
use Rattle.versions.proofs.version_shape.Given as goal

abbrev pub invariant-loop-x : goal.invariant-loop-x
invariant-loop-x l = steps.Says l.v l.x-index l.dots l.room
