-- `foresee::depth::deep` meets its contract.
use mathlib.Core.Bool.{not}
use mathlib.Core.Path.{ap, ◌∙◌}
use Rattle.foresee.proofs.DeepLaws as law
use Rattle.foresee.proofs.depth.deep.Goals as goal

pub returns-then-not-absent : goal.returns-then-not-absent
returns-then-not-absent c = search law.skipped-deep

pub returns-else-not-absent : goal.returns-else-not-absent
returns-else-not-absent c = ap not c.if-not-absent.false ∙ law.never-deep c.args.buffer.now c.args.place c.args.size c.args.levels c.absent.ensures c.if-not-absent.false
