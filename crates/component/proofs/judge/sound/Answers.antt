-- `component::judge::sound` meets its contract: a law for each branch.
use Rattle.numbers.proofs.PassedOn.{passed-on}
use Rattle.component.proofs.Sound as sound
use Rattle.component.proofs.judge.sound.Goals as goal

pub returns-in_err-stored : goal.returns-in_err-stored
returns-in_err-stored c = let e = passed-on {r = c.from_residual.result} {e = c.in_err-stored.field-0.0} c.from_residual.ensures in search (sound.no-storage, c.in_err-stored.was)

pub returns-in_err-stretch : goal.returns-in_err-stretch
returns-in_err-stretch c = let e = passed-on {r = c.from_residual-in_err-stretch.result} {e = c.in_err-stretch.field-0.0} c.from_residual-in_err-stretch.ensures in search (sound.no-extent, c.in_ok-stored.was, c.in_err-stretch.was)

pub returns-in_err-digest : goal.returns-in_err-digest
returns-in_err-digest c = let e = passed-on {r = c.from_residual-in_err-digest.result} {e = c.in_err-digest.field-0.0} c.from_residual-in_err-digest.ensures in search (sound.no-extras, c.in_ok-stored.was, c.in_ok-stretch.was, c.in_err-digest.was)

pub returns : goal.returns
returns c = search (sound.all_placed, c.in_ok-stored.was, c.in_ok-stretch.was, c.in_ok-digest.was)
