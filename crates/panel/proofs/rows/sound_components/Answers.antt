-- `panel::rows::sound_components` meets its contract: what `all` answered of the places is so of the rows that stand there. Assumes nothing.
use mathlib.Core.Path.{◌≡◌, refl}
use mathlib.Core.Bool.{true, false}
use Prim.Native.Nat.{◌+◌, ◌*◌}
use native.Mathlib.Omega.{arith}
use borrow.Author.Rules.{rules}
use borrow.Author.Tests.{tests}
use Rattle.std.proofs.lemmas.Iterator.{cases_from_all, YieldsList-from_range}
use Rattle.meaning.specs.Columns.{component_width}
use Rattle.panel.specs.Lines.{component_sound}
use Rattle.panel.proofs.Sound as rows
use Rattle.panel.proofs.rows.sound_components.Goals as goal

pub returns : goal.returns
returns c =
    rows.all-asked (component_sound c.args.file.now c.args.table.now) component_width c.args.n c.args.first c.all.result
    (cases_from_all _ _ _
    (λ i. component_sound c.args.file.now c.args.table.now (c.args.first + component_width * i) ≡ true)
    (λ i. component_sound c.args.file.now c.args.table.now (c.args.first + component_width * i) ≡ false)
    c.all.ensures.ran
    (YieldsList-from_range 0 c.args.n c.args.n refl (omega arith))
    (λ x q k. search (rules, tests))
    (λ x q k. search (rules, tests)))
