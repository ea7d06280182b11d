-- `listing::printed::heading` meets its contract: there is room, so the whole text stands where it was put. Assumes nothing.
use Rattle.listing.proofs.Texts as texts
use Rattle.listing.proofs.printed.heading.Goals as goal

pub returns : goal.returns
returns c =
    let s = texts.heading-stands c.args.path.now c.args.text.now c.requires.path_len_bound c.requires.lent_heading_in_bounds c.text-past.ensures c.word.ensures in
    record { holds = s.0; within = s.1 }
