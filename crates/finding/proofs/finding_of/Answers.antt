-- `finding::finding_of` meets its contract: one call after the other. Assumes nothing.
use Rattle.finding.proofs.Sound as sound
use mathlib.Core.Path.{◌∙◌, ap}
use Rattle.finding.specs.Finding.{shown}
use Rattle.finding.proofs.finding_of.Goals as goal

pub in_numbers-requires : goal.in_numbers-requires
in_numbers-requires c = search sound.as-sound

pub returns : goal.returns
returns c = c.in_numbers.ensures ∙ ap shown c.find.ensures
