-- `joint::front` meets its contract: a law for each need.
use Rattle.joint.proofs.Frames as frames
use Rattle.joint.proofs.front.Goals as goal

pub magic_at-start-requires : goal.magic_at-start-requires
magic_at-start-requires c = search frames.room-magic

pub blobs_at-mid-requires : goal.blobs_at-mid-requires
blobs_at-mid-requires c = search frames.room-firsts

pub blobs_at-requires : goal.blobs_at-requires
blobs_at-requires c = search frames.room-seconds

pub returns : goal.returns
returns c = search frames.front-laid
