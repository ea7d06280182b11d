-- `joint::both` meets its contract: a law for each need.
use Rattle.joint.proofs.Frames as frames
use borrow.Author.Rules.{rules}
use Rattle.joint.proofs.both.Goals as goal

pub front-end-requires : goal.front-end-requires
front-end-requires c = record { n_bound = search rules; rows = search rules; rows_2 = search rules; room = search frames.room-front }

pub manifest-m-requires : goal.manifest-m-requires
manifest-m-requires c = record { room = search frames.whole-room-manifest; within = search rules; object_rows = search rules; object_rows_2 = search rules }

pub size_and_footer_at-requires : goal.size_and_footer_at-requires
size_and_footer_at-requires c = search frames.whole-room-behind

pub returns : goal.returns
returns c = search frames.whole-laid
