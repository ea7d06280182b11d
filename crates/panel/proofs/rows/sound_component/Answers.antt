-- `panel::rows::sound_component` meets its contract. Assumes nothing.
use borrow.Author.Rules.{rules}
use Rattle.panel.specs.Lines.{component_sound}
use Rattle.panel.proofs.rows.sound_component.Goals as goal

pub returns-then-table-row-lt13 : goal.returns-then-table-row-lt13
unfolding component_sound
returns-then-table-row-lt13 c = search rules

pub returns-else-table-row-lt13 : goal.returns-else-table-row-lt13
unfolding component_sound
returns-else-table-row-lt13 c = search rules
