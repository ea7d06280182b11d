-- `put::storage` meets its contract: a law for each branch. Assumes nothing.
use Rattle.put.proofs.Names as names
use native.Mathlib.Omega.{arith}
use Rattle.put.proofs.storage.Goals as goal

pub overflow_cast-end : goal.overflow_cast-end
overflow_cast-end c = omega (arith, names.short-name _ c.if-code-lt13.true)

pub overflow_add-end : goal.overflow_add-end
overflow_add-end c = omega (arith, names.short-name _ c.if-code-lt13.true)

pub slice_bounds-word-end : goal.slice_bounds-word-end
slice_bounds-word-end c = omega (arith, names.short-name _ c.if-code-lt13.true)

pub returns-then-code-lt13 : goal.returns-then-code-lt13
returns-then-code-lt13 c = search names.name-written

pub returns : goal.returns
returns c = search names.no-name-written
