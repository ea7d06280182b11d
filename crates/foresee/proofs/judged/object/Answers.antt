-- `foresee::judged::object` meets its contract: a law for each branch.
use mathlib.Core.Bool.{not}
use mathlib.Core.Path.{ap}
use Rattle.numbers.proofs.PassedOn.{passed-on}
use Rattle.foresee.proofs.Objects as law
use borrow.Author.Rules.{rules}
use Rattle.foresee.proofs.judged.object.Goals as goal

pub returns-then-not-utf8 : goal.returns-then-not-utf8
returns-then-not-utf8 c = law.odd-format c.args.buffer.now c.args.row.now c.args.rows.now _ c.part-format.ensures c.utf8-2.ensures (ap not c.if-not-utf8.true) _ c.from.ensures

pub returns-in_err-names : goal.returns-in_err-names
returns-in_err-names c = let e = passed-on {r = c.from_residual.result} {e = record { refusal = c.in_err-names.field-0.0; component = 0 }} c.from_residual.ensures in search (law.odd-names, c.in_err-names.was)

pub returns-in_err-components : goal.returns-in_err-components
returns-in_err-components c = let e = passed-on {r = c.from_residual-in_err-components.result} {e = c.in_err-components.field-0.0} c.from_residual-in_err-components.ensures in search (law.odd-component, c.in_ok-names.was, c.in_err-components.was)

pub ruled-requires : goal.ruled-requires
ruled-requires c = (search rules, search rules, search rules, search (law.few-components, c.in_ok-names.was))

pub returns : goal.returns
returns c = search (law.by-format, c.in_ok-names.was, c.in_ok-components.was)
