-- `badroot::version` meets its contract: a law for each branch.
use Rattle.badroot.proofs.Valued as valued
use Rattle.fields.proofs.Texts.{letters-in}
use native.Mathlib.Omega.{arith}
use Rattle.badroot.proofs.version.Goals as goal

pub overflow_add-e : goal.overflow_add-e
overflow_add-e c = omega (arith, letters-in (c.args.s.now) _ (c.text.ensures.0) _ _ (c.in-Some.is))

pub slice_bounds-version_shape-end : goal.slice_bounds-version_shape-end
slice_bounds-version_shape-end c = search letters-in

pub slice_bounds-major_one-end : goal.slice_bounds-major_one-end
slice_bounds-major_one-end c = search letters-in

pub returns-then-major_one : goal.returns-then-major_one
returns-then-major_one c = search valued.major-one

pub returns-then-version_shape : goal.returns-then-version_shape
returns-then-version_shape c = search valued.other-major

pub returns-in-None : goal.returns-in-None
returns-in-None c = search valued.no_text

pub returns-else-version_shape : goal.returns-else-version_shape
returns-else-version_shape c = search valued.no-version
