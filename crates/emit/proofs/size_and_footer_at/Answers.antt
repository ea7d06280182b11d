-- `emit::size_and_footer_at` meets its contract: one after the other. Assumes nothing.
use Rattle.emit.proofs.LaidPieces as laying
use Rattle.emit.proofs.size_and_footer_at.Goals as goal

pub size_at-past-requires : goal.size_at-past-requires
size_at-past-requires c = search laying.room-first

pub magic_at-requires : goal.magic_at-requires
magic_at-requires c = search laying.room_next

pub returns : goal.returns
returns c = search laying.then
