-- `rows::judge::components` meets its contract: what `all` answered of the places is so of the rows that stand there.
use mathlib.Core.Path.{◌≡◌, refl}
use mathlib.Core.Bool.{true, false}
use Prim.Native.Nat.{◌*◌}
use lib.ListN.{drop}
use native.Mathlib.Omega.{arith}
use borrow.Author.Rules.{rules, part_to_end}
use borrow.Author.Tests.{tests}
use Rattle.std.proofs.lemmas.Iterator.{cases_from_all, YieldsList-from_range}
use Rattle.meaning.specs.Columns.{component_width}
use Rattle.meaning.specs.Asked.{asked_component}
use Rattle.meaning.specs.Sound.{component_sound}
use Rattle.rows.proofs.EachRow as law
use Rattle.rows.proofs.judge.components.Goals as goal

pub returns : goal.returns
returns c =
    law.all-asked (component_sound c.args.buffer.now) asked_component component_width c.args.n c.args.rows.now c.all.result
    (cases_from_all _ _ _
    (λ i. component_sound c.args.buffer.now (asked_component (drop (component_width * i) c.args.rows.now)) ≡ true)
    (λ i. component_sound c.args.buffer.now (asked_component (drop (component_width * i) c.args.rows.now)) ≡ false)
    c.all.ensures.ran
    (YieldsList-from_range 0 c.args.n c.args.n refl (omega arith))
    (λ x q k. search (rules, tests, part_to_end))
    (λ x q k. search (rules, tests, part_to_end)))
