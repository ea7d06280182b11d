-- `pointed::pointed` meets its contract.
use Rattle.pointed.proofs.Spans as spans
use Rattle.pointed.proofs.pointed.Goals as goal

pub returns : goal.returns
returns c = let a' = c.args in let a = a' in λ s k. spans.is-explained a.m.now a.end a.n a.o a.c a.object a.role a.left s k _ _ c.text_span_at-name.ensures c.text_span_at-part.ensures _ _ c.place_of-place.ensures
    c.size-size.ensures
