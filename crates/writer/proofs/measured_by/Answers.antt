-- `writer::measured_by` meets its contract: a law for each branch.
use mathlib.Core.Bool.{not}
use mathlib.Core.Path.{ap}
use Rattle.numbers.proofs.PassedOn.{passed-on}
use Rattle.writer.proofs.Checks as checks
use Rattle.writer.proofs.measured_by.Goals as goal

pub returns-then-not-sound : goal.returns-then-not-sound
returns-then-not-sound c = let below = checks.all_there _ c.type_inv.rows in record { sizes = search checks.row_by; lent = search checks.lent }

pub overflow_mul-first : goal.overflow_mul-first
overflow_mul-first c = search checks.objects-fit

pub offset_bounds-rows-first : goal.offset_bounds-rows-first
offset_bounds-rows-first c = search checks.objects-bytes-fit

pub slice_bounds-verdict-count : goal.slice_bounds-verdict-count
slice_bounds-verdict-count c = search checks.objects-lie

pub slice_bounds-verdict-start : goal.slice_bounds-verdict-start
slice_bounds-verdict-start c = search checks.objects-lie

pub verdict-requires : goal.verdict-requires
verdict-requires c = search checks.rows-lent

pub manifest-manifest-requires : goal.manifest-manifest-requires
manifest-manifest-requires c = let room = c.type_inv in checks.can-be-measured _ _ _ _ _ _ _ _ c.sound.ensures (ap not c.if-not-sound.false) c.in_ok-end.was c.verdict.ensures (search)

pub returns-then-manifest-gt-MANIFEST_MOST : goal.returns-then-manifest-gt-MANIFEST_MOST
returns-then-manifest-gt-MANIFEST_MOST c = let sound = c.sound.ensures in let fine = ap not c.if-not-sound.false in let judges = c.verdict.ensures in let below = checks.all_there _ c.type_inv.rows in let room = c.type_inv in record { sizes = search (checks.big-by, c.in_ok-end.was); lent = search checks.lent }

pub returns-in_err-end : goal.returns-in_err-end
returns-in_err-end c = let below = checks.all_there _ c.type_inv.rows in let room = c.type_inv in let e = passed-on {r = c.from_residual.result} {e = c.in_err-end.field-0.0} c.from_residual.ensures in record { sizes = search (checks.refused-by, c.in_err-end.was); lent = search checks.lent }

pub returns : goal.returns
returns c = let sound = c.sound.ensures in let fine = ap not c.if-not-sound.false in let judges = c.verdict.ensures in let below = checks.all_there _ c.type_inv.rows in let room = c.type_inv in record { sizes = (search (checks.fit-by, c.in_ok-end.was), search (checks.settled-by, c.in_ok-end.was)); lent = search checks.lent }
