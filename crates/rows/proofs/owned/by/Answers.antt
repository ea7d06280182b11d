-- `rows::owned::by` meets its contract: what `all` answered of the places is so of the rows that stand there.
use mathlib.Core.Path.{◌≡◌, refl}
use mathlib.Core.Bool.{true, false}
use Prim.Native.Nat.{◌*◌}
use lib.Dec.{eqb}
use native.Mathlib.Omega.{arith}
use borrow.Author.Rules.{rules}
use borrow.Author.Tests.{tests}
use lib.ListN.{drop}
use lib.Seq.{get_or-drop}
use Rattle.std.proofs.lemmas.Iterator.{cases_from_all, YieldsList-from_range}
use Rattle.meaning.specs.Columns.{component_width}
use Rattle.meaning.specs.Asked.{asked_component}
use Rattle.rows.proofs.EachRow as law
use Rattle.rows.proofs.Owners as owners
use Rattle.rows.proofs.owned.by.Goals as goal

pub returns : goal.returns
unfolding asked_component
returns c =
    owners.owned_as-asked c.args.i c.args.n c.args.rows.now c.all.result
    (law.all-asked (λ k. eqb k.owner c.args.i) asked_component component_width c.args.n c.args.rows.now c.all.result
    (cases_from_all _ _ _
    (λ i. eqb (asked_component (drop (component_width * i) c.args.rows.now)).owner c.args.i ≡ true)
    (λ i. eqb (asked_component (drop (component_width * i) c.args.rows.now)).owner c.args.i ≡ false)
    c.all.ensures.ran
    (YieldsList-from_range 0 c.args.n c.args.n refl (omega arith))
    (λ x q k. search (rules, tests, get_or-drop))
    (λ x q k. search (rules, tests, get_or-drop))))
