-- `states::both` meets its contract: a law for each way out. Assumes nothing.
use Rattle.states.proofs.Tested as states
use Rattle.states.proofs.both.Goals as goal

pub returns-then-shared-lt-SHARED : goal.returns-then-shared-lt-SHARED
returns-then-shared-lt-SHARED c = search states.too_short

pub returns-then-shared-gt-SHARED : goal.returns-then-shared-gt-SHARED
returns-then-shared-gt-SHARED c = search states.too_long

pub fitting-requires : goal.fitting-requires
fitting-requires c = states.eights 65536 c.args.shared.now c.if-shared-lt-SHARED.false c.if-shared-gt-SHARED.false

pub returns : goal.returns
returns c = states.both_told 65536 c.args.shared.now c.if-shared-lt-SHARED.false c.if-shared-gt-SHARED.false _ c.fitting.ensures
