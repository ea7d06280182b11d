-- `rows::judge::object` meets its contract.
use Rattle.std.proofs.Common.{rules}
use Rattle.meaning.specs.Types.{storages}
use Rattle.meaning.specs.Asked.{asked_object}
use Rattle.meaning.specs.Sound.{inside, object_sound}
use Rattle.rows.proofs.judge.object.Goals as goal

pub returns-then-inside-2 : goal.returns-then-inside-2
unfolding object_sound asked_object inside storages
returns-then-inside-2 c = search rules

pub returns-else-inside-2 : goal.returns-else-inside-2
unfolding object_sound asked_object inside storages
returns-else-inside-2 c = search rules
