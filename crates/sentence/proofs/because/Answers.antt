-- `sentence::because` meets its contract: a law for each branch.
use native.Mathlib.Omega.{arith}
use Rattle.sentence.proofs.Reasons as reasons
use Rattle.sentence.proofs.because.Goals as goal

pub offset_bounds-k : goal.offset_bounds-k
offset_bounds-k c = omega (arith, reasons.low-as _ _ c.listed-k.ensures)

pub bounds-k : goal.bounds-k
bounds-k c = omega (arith, reasons.low-as _ _ c.listed-k.ensures)

pub overflow_add-end : goal.overflow_add-end
overflow_add-end c = omega (arith, reasons.low-as _ _ c.listed-k.ensures)

pub offset_bounds-k-2 : goal.offset_bounds-k-2
offset_bounds-k-2 c = omega (arith, reasons.low-as _ _ c.listed-k.ensures)

pub bounds-k-2 : goal.bounds-k-2
bounds-k-2 c = omega (arith, reasons.low-as _ _ c.listed-k.ensures)

pub slice_bounds-word-count : goal.slice_bounds-word-count
slice_bounds-word-count c = search reasons.begins-first

pub slice_bounds-word-start : goal.slice_bounds-word-start
slice_bounds-word-start c = search reasons.begins-first

pub slice_bounds-word-end : goal.slice_bounds-word-end
slice_bounds-word-end c = search reasons.ends-inside

pub returns : goal.returns
returns c = search reasons.reason-written
