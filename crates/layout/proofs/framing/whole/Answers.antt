-- `layout::framing::whole` meets its contract: a law for each piece.
use Rattle.layout.proofs.Frames as law
use Rattle.layout.proofs.framing.whole.Goals as goal

pub magic_at-start-requires : goal.magic_at-start-requires
magic_at-start-requires c = search law.whole-room-magic

pub blobs_at-end-requires : goal.blobs_at-end-requires
blobs_at-end-requires c = let can = law.blobs-can c.requires.whole_rows c.requires.room c.magic_at-start.ensures c.first_turn-turn.ensures in record { component_rows = can.0; front_room = can.1 }

pub manifest-n-requires : goal.manifest-n-requires
manifest-n-requires c = let can = law.manifest-can c.requires.whole_rows c.requires.room c.magic_at-start.ensures c.first_turn-turn.ensures c.blobs_at-end.ensures in record { within = can.0; object_rows = can.1.0; room = can.1.1 }

pub size_and_footer_at-requires : goal.size_and_footer_at-requires
size_and_footer_at-requires c = search law.whole-room-behind

pub returns : goal.returns
returns c = search law.whole-laid
