-- `panel::rows::sound_object` meets its contract. Assumes nothing.
use borrow.Author.Rules.{rules}
use Rattle.panel.specs.Lines.{object_sound}
use Rattle.panel.proofs.rows.sound_object.Goals as goal

pub returns-then-inside : goal.returns-then-inside
unfolding object_sound
returns-then-inside c = search rules

pub returns-else-inside : goal.returns-else-inside
unfolding object_sound
returns-else-inside c = search rules
