-- `merger::checks::checked` meets its contract: a law for each way out.
use mathlib.Core.Bool.{not}
use mathlib.Core.Path.{refl, ap}
use native.Mathlib.Omega.{arith}
use Rattle.lent.proofs.Bytes as bytes
use Rattle.merger.proofs.BeforeRoom as checking
use Rattle.merger.proofs.checks.checked.Goals as goal

pub returns-in-Err : goal.returns-in-Err
returns-in-Err c = search checking.first-refused

pub overflow_mul-from : goal.overflow_mul-from
overflow_mul-from c = let one = bytes.held _ c.type_inv.first (omega arith) in let two = bytes.held _ c.type_inv.second (omega arith) in search checking.twice-fits

pub returns-in-Err-file : goal.returns-in-Err-file
returns-in-Err-file c = let one = bytes.held _ c.type_inv.first (omega arith) in let two = bytes.held _ c.type_inv.second (omega arith) in search checking.second-refused

pub returns-then-b-gt-END_MOST : goal.returns-then-b-gt-END_MOST
returns-then-b-gt-END_MOST c = let one = bytes.held _ c.type_inv.first (omega arith) in let two = bytes.held _ c.type_inv.second (omega arith) in search checking.too_far

pub overflow_add-n : goal.overflow_add-n
overflow_add-n c = let one = bytes.held _ c.type_inv.first (omega arith) in let two = bytes.held _ c.type_inv.second (omega arith) in search checking.both-fit

pub overflow_add-kept-2 : goal.overflow_add-kept-2
overflow_add-kept-2 c = search checking.head-fits

pub overflow_add-kept-3 : goal.overflow_add-kept-3
overflow_add-kept-3 c = search checking.total-fits

pub returns-then-m-gt-MANIFEST_MOST : goal.returns-then-m-gt-MANIFEST_MOST
returns-then-m-gt-MANIFEST_MOST c = let one = bytes.held _ c.type_inv.first (omega arith) in let two = bytes.held _ c.type_inv.second (omega arith) in search checking.too-big

pub returns-then-n-gt-OBJECTS_MOST_64 : goal.returns-then-n-gt-OBJECTS_MOST_64
returns-then-n-gt-OBJECTS_MOST_64 c = let one = bytes.held _ c.type_inv.first (omega arith) in let two = bytes.held _ c.type_inv.second (omega arith) in search checking.too_many

pub returns-then-not-unshared : goal.returns-then-not-unshared
returns-then-not-unshared c = let a = c.args in checking.shares a.one a.first.now a.two a.second.now c.file.ensures c.in-Ok.is (bytes.held _ c.type_inv.first (omega arith)) (bytes.held _ c.type_inv.second (omega arith)) c.file-2.ensures c.in-Ok-file.is c.if-b-gt-END_MOST.false
    c.attributes-kept.ensures c.head.ensures c.capped-m.ensures c.if-m-gt-MANIFEST_MOST.false c.if-n-gt-OBJECTS_MOST_64.false refl c.unshared.ensures (ap not c.if-not-unshared.true) _ c.from-then-not-unshared.ensures

pub returns : goal.returns
returns c = let a = c.args in checking.ready a.one a.first.now a.two a.second.now c.file.ensures c.in-Ok.is (bytes.held _ c.type_inv.first (omega arith)) (bytes.held _ c.type_inv.second (omega arith)) c.file-2.ensures c.in-Ok-file.is c.if-b-gt-END_MOST.false
    c.attributes-kept.ensures c.head.ensures c.capped-m.ensures c.if-m-gt-MANIFEST_MOST.false c.if-n-gt-OBJECTS_MOST_64.false refl c.unshared.ensures (ap not c.if-not-unshared.false)
