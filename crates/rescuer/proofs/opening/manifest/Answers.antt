-- `rescuer::opening::manifest` meets its contract: where the parts of a manifest that passes stand.
use Rattle.rescuer.proofs.FoundRoot as finding
use Rattle.rescuer.proofs.opening.manifest.Goals as goal

pub returns : goal.returns
returns c = search (finding.opens_at, c.in_ok-told.was)
