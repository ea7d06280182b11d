-- `listing::printed::escaped` meets its contract: there is room, so the whole text stands where it was put. Assumes nothing.
use Rattle.listing.proofs.Texts as texts
use Rattle.listing.proofs.printed.escaped.Goals as goal

pub returns : goal.returns
returns c = let a = c.args in let s = texts.escaped-stands a.path.now a.text.now c.requires c.text.ensures in record { holds = s.0; within = s.1 }
