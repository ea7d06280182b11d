-- `rows::judge::component` meets its contract.
use Rattle.std.proofs.Common.{rules}
use Rattle.meaning.specs.Types.{storages}
use Rattle.meaning.specs.Asked.{asked_component}
use Rattle.meaning.specs.Sound.{inside, component_sound}
use Rattle.rows.proofs.judge.component.Goals as goal

pub returns-then-inside-3 : goal.returns-then-inside-3
unfolding component_sound asked_component inside storages
returns-then-inside-3 c = search rules

pub returns-else-inside-3 : goal.returns-else-inside-3
unfolding component_sound asked_component inside storages
returns-else-inside-3 c = search rules
