-- `foresee::verdict` meets its contract.
use Rattle.foresee.proofs.Objects as law
use Rattle.foresee.proofs.verdict.Goals as goal
use Rattle.foresee.proofs.verdict.Goals.{then-deep-via-then-deep, then-deep-via-else-deep+then-any_deep}

pub any_deep-requires : goal.any_deep-requires
any_deep-requires c = search law.objects-lie

pub returns-then-deep : goal.returns-then-deep
returns-then-deep c =
    elim c.then-deep.branch [
      | then-deep-via-then-deep w ↦ law.root-deep _ _ _ _ _ _ c.deep.ensures w.if-deep.true _ c.from.ensures
      | then-deep-via-else-deep+then-any_deep w ↦ law.object-deep _ _ _ _ _ _ c.deep.ensures w.if-deep.false w.any_deep.ensures w.if-any_deep.true _ c.from.ensures
    ]

pub overflow_mul-from : goal.overflow_mul-from
overflow_mul-from c = search law.objects-fit

pub offset_bounds-rows-from : goal.offset_bounds-rows-from
offset_bounds-rows-from c = search law.objects-bytes-fit

pub slice_bounds-judge-count : goal.slice_bounds-judge-count
slice_bounds-judge-count c = search law.objects-lie

pub slice_bounds-judge-start : goal.slice_bounds-judge-start
slice_bounds-judge-start c = search law.objects-lie

pub judge-requires : goal.judge-requires
judge-requires c = search law.rows-count

pub returns : goal.returns
returns c = search law.none-too-deep
