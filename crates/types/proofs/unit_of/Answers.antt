-- `types::unit_of` meets its contract: a ratio is 1 or 2, or there is none, and a width is at most 8. Assumes nothing.
use Rattle.types.proofs.Codes as codes
use native.Mathlib.Omega.{arith}
use Rattle.types.proofs.unit_of.Goals as goal

pub overflow_add-result : goal.overflow_add-result
overflow_add-result c = omega (arith, codes.width_small _ c.width_of-w.ensures)

pub returns-then-r-eq0 : goal.returns-then-r-eq0
returns-then-r-eq0 c = search codes.unit-unlisted

pub overflow_mul-result : goal.overflow_mul-result
overflow_mul-result c = let a = c.args in omega (arith, codes.unit-most a.k.now _ _ _ c.ratio_of-r.ensures c.width_of-w.ensures)

pub returns : goal.returns
returns c = search codes.unit-listed
