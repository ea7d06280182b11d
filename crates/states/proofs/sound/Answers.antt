-- `states::sound` meets its contract: a law for each way out. Assumes nothing.
use mathlib.Core.Bool.{not, true, false}
use mathlib.Core.Path.{◌≡◌, ap}
use lib.Dec.{eqb}
use borrow.Author.Tests.{tests}
use Rattle.std.proofs.Common.{rules}
use Rattle.std.proofs.lemmas.Iterator.{cases_from_all, YieldsList-from_slice}
use Rattle.states.proofs.Tested as states
use Rattle.states.proofs.sound.Goals as goal

pub returns-then-s-gt1 : goal.returns-then-s-gt1
returns-then-s-gt1 c = search states.flag-past

pub returns-then-s-gt1-2 : goal.returns-then-s-gt1-2
returns-then-s-gt1-2 c = search states.layout-past

pub returns-then-not-just : goal.returns-then-not-just
returns-then-not-just c = search states.not-just

pub returns-then-s-eq0 : goal.returns-then-s-eq0
returns-then-s-eq0 c =
    let s = c.args.s.now in
    states.idle-sound s c.if-s-gt1.false c.if-s-gt1-2.false _ c.just.ensures (ap not c.if-not-just.false) c.if-s-eq0.true _
    (states.zeros-asked s c.all.result
    (cases_from_all _ _ _ (λ n. eqb n 0 ≡ true) (λ n. eqb n 0 ≡ false) c.all.ensures.ran (YieldsList-from_slice s c.iter.ensures.rest) (λ x q k. search (rules, tests)) (λ x q k. search (rules, tests))))

pub returns : goal.returns
returns c = search states.loaded-sound
