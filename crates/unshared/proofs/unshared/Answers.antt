-- `unshared::unshared` meets its contract: a law for each way through the loop.
use Rattle.unshared.proofs.Sought as seeking
use Rattle.unshared.proofs.unshared.Goals as goal

pub returns-then-is_some : goal.returns-then-is_some
returns-then-is_some c =
    seeking.shared-one _ _ _ _ _ _ c.loop-i.invariant c.loop-i-test.true _ c.name.ensures _ (rw c.sort-sorted.ensures at c.find.ensures) c.if-is_some.ensures

pub loop-i-preserved : goal.loop-i-preserved
loop-i-preserved c =
    seeking.one_fewer _ _ _ _ _ _ c.loop-i.invariant c.loop-i-test.true _ c.name.ensures _ (rw c.sort-sorted.ensures at c.find.ensures) c.if-is_some.ensures

pub returns : goal.returns
returns c = search seeking.none_left
