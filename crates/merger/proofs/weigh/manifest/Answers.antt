-- `merger::weigh::manifest` meets its contract: what an accepted manifest weighs.
use Rattle.merger.proofs.WeighedFile as law
use Rattle.merger.proofs.weigh.manifest.Goals as goal

pub returns : goal.returns
returns c = search (law.weighs, c.in_ok-told.was)
