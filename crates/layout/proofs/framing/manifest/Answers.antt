-- `layout::framing::manifest` meets its contract: the root, then its objects.
use Rattle.layout.proofs.Frames as law
use Rattle.layout.proofs.framing.manifest.Goals as goal

pub root-past-requires : goal.root-past-requires
root-past-requires c = search law.room-root

pub objects_at-requires : goal.objects_at-requires
objects_at-requires c = let can = law.objects-can c.requires.within c.requires.object_rows c.requires.room c.root-past.ensures c.first_turn-turn.ensures in record { object_rows = can.0; room = can.1 }

pub returns : goal.returns
returns c = search law.manifest-laid
