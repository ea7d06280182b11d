-- `joint::manifest` meets its contract: a law for each need.
use Rattle.joint.proofs.Frames as frames
use Rattle.joint.proofs.manifest.Goals as goal

pub root-a-requires : goal.root-a-requires
root-a-requires c = search frames.room-root

pub objects_at-b-requires : goal.objects_at-b-requires
objects_at-b-requires c = search frames.room-objects

pub objects_at-requires : goal.objects_at-requires
objects_at-requires c = search frames.room-others

pub returns : goal.returns
returns c = search frames.manifest-is
