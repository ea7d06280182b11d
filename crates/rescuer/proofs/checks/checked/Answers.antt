-- `rescuer::checks::checked` meets its contract: a law for each need.
use Rattle.numbers.proofs.PassedOn.{passed-on}
use native.Mathlib.Omega.{arith}
use Rattle.lent.proofs.Bytes as bytes
use Rattle.rescuer.proofs.BeforeRoom as checking
use Rattle.rescuer.proofs.checks.checked.Goals as goal

pub returns-in_err-found : goal.returns-in_err-found
returns-in_err-found c = let e = passed-on {r = c.from_residual.result} {e = c.in_err-found.field-0.0} c.from_residual.ensures in search (checking.refuses, c.in_err-found.was)

pub returns-then-sum-gt-END_MOST : goal.returns-then-sum-gt-END_MOST
returns-then-sum-gt-END_MOST c = let lent = bytes.held _ c.type_inv.file (omega arith) in search (checking.too_far, c.in_ok-found.was)

pub overflow_add-attributes-2 : goal.overflow_add-attributes-2
overflow_add-attributes-2 c = search checking.head-fits

pub overflow_add-attributes-3 : goal.overflow_add-attributes-3
overflow_add-attributes-3 c = search checking.total-fits

pub returns-then-m-gt-MANIFEST_MOST : goal.returns-then-m-gt-MANIFEST_MOST
returns-then-m-gt-MANIFEST_MOST c = let lent = bytes.held _ c.type_inv.file (omega arith) in search (checking.too-big, c.in_ok-found.was)

pub returns : goal.returns
returns c = let lent = bytes.held _ c.type_inv.file (omega arith) in search (checking.ready, c.in_ok-found.was)
