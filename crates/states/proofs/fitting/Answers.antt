-- `states::fitting` meets its contract: a law for each way out. Assumes nothing.
use mathlib.Core.Bool.{not}
use mathlib.Core.Path.{ap}
use Rattle.states.proofs.Tested as states
use Rattle.states.proofs.fitting.Goals as goal

pub returns-then-not-sound : goal.returns-then-not-sound
returns-then-not-sound c = search states.first-unsound

pub returns-then-not-sound-2 : goal.returns-then-not-sound-2
returns-then-not-sound-2 c = search states.second-unsound

pub returns-then-front-gt-TABLE : goal.returns-then-front-gt-TABLE
returns-then-front-gt-TABLE c = search states.front-past

pub returns-then-front-back : goal.returns-then-front-back
returns-then-front-back c = search states.back-past

pub returns : goal.returns
returns c = let a = c.args in states.both-fit 65536 a.first.now a.second.now _ c.sound.ensures (ap not c.if-not-sound.false) _ c.sound-2.ensures (ap not c.if-not-sound-2.false) c.if-front-gt-TABLE.false c.if-front-back.false
