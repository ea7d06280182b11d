-- `object::pass::waits` meets its contract: a law for each branch.
use Rattle.object.specs.Verdict.{waiting}
use borrow.Author.Tests.{eq-eqb, ne_eqb}
use Rattle.object.proofs.pass.waits.Goals as goal

pub returns-then-layout-eq1 : goal.returns-then-layout-eq1
unfolding waiting
returns-then-layout-eq1 c = search eq-eqb

pub returns-then-k-eq4 : goal.returns-then-k-eq4
unfolding waiting
returns-then-k-eq4 c = search (eq-eqb, ne_eqb)

pub returns : goal.returns
unfolding waiting
returns c = search ne_eqb
