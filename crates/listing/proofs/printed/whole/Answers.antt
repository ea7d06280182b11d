-- `listing::printed::whole` meets its contract: there is room, so the whole text stands where it was put. Assumes nothing.
use Rattle.listing.proofs.Texts as texts
use Rattle.listing.proofs.printed.whole.Goals as goal

pub returns : goal.returns
returns c =
    let a = c.args in let p = c.print-listed.ensures in let s = texts.printed-stands a.file.now a.text.now c.requires p.answer p.written in
    record { holds = s.0; within = s.1 }
