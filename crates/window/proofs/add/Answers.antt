-- `window::add` meets its contract: a law for each need.
use Rattle.window.proofs.Window as law
use Rattle.window.proofs.add.Goals as goal
use Rattle.window.proofs.add.Goals.{then-count-gt16-via-then-count-gt16, then-count-gt16-via-else-count-gt16+then-t-gt8, then-count-gt16-via-else-count-gt16+else-t-gt8+then-have-gt-END_MOST}

pub returns-then-count-gt16-clause-sum : goal.returns-then-count-gt16-clause-sum
returns-then-count-gt16-clause-sum c = elim c.then-count-gt16.branch [ then-count-gt16-via-then-count-gt16 w ↦ search law.too_many | then-count-gt16-via-else-count-gt16+then-t-gt8 w ↦ search law.too-ranked | then-count-gt16-via-else-count-gt16+else-t-gt8+then-have-gt-END_MOST w ↦ search law.past-already ]

pub returns-then-next-gt-END_MOST-clause-sum : goal.returns-then-next-gt-END_MOST-clause-sum
returns-then-next-gt-END_MOST-clause-sum c = search law.passes-limit

pub overflow_add-own : goal.overflow_add-own
overflow_add-own c = search law.own-fits

pub components-parts-requires-clause-rows_bound : goal.components-parts-requires-clause-rows_bound
components-parts-requires-clause-rows_bound c = search law.parts-there

pub overflow_add-have : goal.overflow_add-have
overflow_add-have c = search law.total-fits

pub overflow_add-have-2 : goal.overflow_add-have-2
overflow_add-have-2 c = search law.all-fits

pub returns-clause-sum : goal.returns-clause-sum
returns-clause-sum c = search law.added
