-- `plan::apart_from` meets its contract: what `all` answered of the places is so of the blobs that stand there.
use mathlib.Core.Path.{◌≡◌, refl}
use mathlib.Core.Bool.{true, false}
use native.Mathlib.Omega.{arith}
use borrow.Author.Rules.{rules}
use borrow.Author.Tests as bool
use Rattle.std.proofs.lemmas.Iterator.{cases_from_all, serves_from_Range, YieldsList-from_range}
use Rattle.meaning.specs.Plan.{apart, ranged}
use Rattle.plan.specs.Earlier.{here}
use Rattle.plan.proofs.Tests as tests
use Rattle.plan.proofs.apart_from.Goals as goal

pub all-requires-clause-callable : goal.all-requires-clause-callable
all-requires-clause-callable c =
    serves_from_Range (λ x q k. search rules) (λ x a b. (let z = tests.low-at c.args.plan.now c.args.rows.now c.args.n x c.requires.earlier b in search (rules, z)))

pub returns : goal.returns
returns c =
    tests.all-asked c.args.plan.now c.args.rows.now (apart (ranged c.args.offset c.args.size)) c.args.n c.all.result
    (cases_from_all _ _ _
    (λ i. apart (ranged c.args.offset c.args.size) (here c.args.plan.now c.args.rows.now i) ≡ true)
    (λ i. apart (ranged c.args.offset c.args.size) (here c.args.plan.now c.args.rows.now i) ≡ false)
    c.all.ensures.ran
    (YieldsList-from_range 0 c.args.n c.args.n refl (omega arith))
    (λ x q k. search (rules, bool.tests))
    (λ x q k. search (rules, bool.tests)))
