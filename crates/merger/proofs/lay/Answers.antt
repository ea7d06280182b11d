-- `merger::lay` meets its contract: what joining asks, and the merged file.
use mathlib.Core.Path.{refl}
use Rattle.merger.proofs.MergedLaid as laying
use Rattle.merger.proofs.lay.Goals as goal

pub join-requires : goal.join-requires
join-requires c = let p = c.requires in let h = laying.join-asks p.0 p.1 c.read_as.ensures.1 refl c.read_as-2.ensures.1 in record { within = h.0; rows = h.1.0; room = h.1.1 }

pub returns : goal.returns
returns c = let p = c.requires in let f = c.read_as.ensures.1 in let g = c.read_as-2.ensures.1 in (laying.output-is p.0 p.1 f refl g c.join.ensures, laying.still-long p.0 p.1 f refl g)
