-- `layout::components::blob_at` meets its contract: after a gap or into the front.
use Rattle.emit.proofs.LaidPieces as laying
use Rattle.layout.proofs.BlobOver as law
use borrow.Author.Rules.{rules}
use Rattle.layout.proofs.components.blob_at.Goals as goal

pub gap_at-from-requires : goal.gap_at-from-requires
gap_at-from-requires c = search (rules, law.room-for-gap)

pub range_at-requires : goal.range_at-requires
range_at-requires c = search law.room-after-gap

pub returns-then-past-start : goal.returns-then-past-start
returns-then-past-start c = search law.laid-after-gap

pub range_at-end-requires : goal.range_at-end-requires
range_at-end-requires c = search law.room-inside

pub shape_of-out : goal.shape_of-out
shape_of-out c = search laying.same_length

pub returns : goal.returns
returns c = search law.laid-inside
