-- `panel::rows::sound` meets its contract. Assumes nothing.
use borrow.Author.Rules.{rules}
use Rattle.panel.specs.Lines.{sound}
use Rattle.panel.proofs.rows.sound.Goals as goal

pub returns-then-sound_components : goal.returns-then-sound_components
unfolding sound
returns-then-sound_components c = search rules

pub returns-else-sound_components : goal.returns-else-sound_components
unfolding sound
returns-else-sound_components c = search rules
