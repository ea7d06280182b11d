-- `text::compare::order` meets its contract: std's comparison of the lengths, then of the bytes. Assumes nothing.
use Rattle.std.proofs.Common.{rules}
use Rattle.text.proofs.OrderByStd as by
use Rattle.text.proofs.compare.order.Goals as goal

pub returns : goal.returns
returns c = by.order-by-std c.args.a.now c.args.b.now _ c.cmp.ensures c.then_with.ensures (λ p. search rules)
