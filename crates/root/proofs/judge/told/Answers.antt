-- `root::judge::told` meets its contract: a law for each branch.
use Rattle.numbers.proofs.PassedOn.{passed-on}
use mathlib.Core.Path.{◌≡◌, ap}
use mathlib.Core.Bool.{not, false}
use Rattle.root.proofs.Verdicts as verdicts
use Rattle.root.proofs.judge.told.Goals as goal

pub returns-then-not-map : goal.returns-then-not-map
returns-then-not-map c = search verdicts.no-map

pub returns-then-objects-eq0 : goal.returns-then-objects-eq0
returns-then-objects-eq0 c = let m : not c.args.map ≡ false = ap not c.if-not-map.false in search verdicts.no-objects

pub returns-in_err-objects : goal.returns-in_err-objects
returns-in_err-objects c = let m : not c.args.map ≡ false = ap not c.if-not-map.false in let e = passed-on {r = c.from_residual.result} {e = c.in_err-objects.field-0.0} c.from_residual.ensures in search (verdicts.objects-refused, c.in_err-objects.was)

pub returns : goal.returns
returns c = let m : not c.args.map ≡ false = ap not c.if-not-map.false in search (verdicts.objects-passed, c.in_ok-objects.was)
