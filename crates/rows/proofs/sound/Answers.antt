-- `rows::sound` meets its contract.
use mathlib.Core.Path.{sym, ◌∙◌}
use Rattle.std.proofs.Common.{rules}
use Rattle.meaning.specs.Sound.{rows_sound}
use Rattle.rows.proofs.Whole as law
use Rattle.rows.proofs.sound.Goals as goal

pub returns-then-not-holds : goal.returns-then-not-holds
unfolding rows_sound
returns-then-not-holds c = search rules

pub returns-then-objects : goal.returns-then-objects
returns-then-objects c = rw (law.asked-of-held c.args.buffer.now c.args.rows.now c.args.objects c.args.components _ (sym c.holds.ensures ∙ c.if-not-holds.false)) (search rules)

pub returns-else-objects : goal.returns-else-objects
returns-else-objects c = rw (law.asked-of-held c.args.buffer.now c.args.rows.now c.args.objects c.args.components _ (sym c.holds.ensures ∙ c.if-not-holds.false)) (search rules)
