-- `rows::judge::attributes` meets its contract.
use Rattle.std.proofs.Common.{rules}
use Rattle.meaning.specs.Asked.{present_at}
use Rattle.meaning.specs.Sound.{inside, absent_or, attributes_sound}
use Rattle.rows.proofs.judge.attributes.Goals as goal

pub returns-then-absent : goal.returns-then-absent
unfolding attributes_sound inside present_at absent_or
returns-then-absent c = search rules

pub returns-else-absent : goal.returns-else-absent
unfolding attributes_sound inside present_at absent_or
returns-else-absent c = search rules

pub returns-else-inside : goal.returns-else-inside
unfolding attributes_sound inside present_at absent_or
returns-else-inside c = search rules
