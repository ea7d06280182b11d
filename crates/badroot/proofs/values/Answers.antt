-- `badroot::values` meets its contract: a law for each branch.
use Rattle.badroot.proofs.Valued as valued
use Rattle.numbers.proofs.PassedOn.{passed-on}
use Rattle.spot.proofs.Told.{odd, sound, the-same}
use Rattle.badroot.proofs.values.Goals as goal

pub returns-then-p-eq0 : goal.returns-then-p-eq0
returns-then-p-eq0 c = search valued.versionless

pub returns-in_err-version : goal.returns-in_err-version
returns-in_err-version c =
    let was = c.in_err-version.was in
    let e = passed-on {r = c.from_residual.result} {e = c.in_err-version.field-0.0} c.from_residual.ensures in
    let o = odd was in
    let s = the-same was e in
    search (valued.version-breaks, o, s)

pub returns : goal.returns
returns c = let s = sound c.in_ok-version.was in search (valued.version-passes, s)
