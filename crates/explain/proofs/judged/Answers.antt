-- `explain::judged` meets its contract: a law for each need.
use mathlib.Core.Path.{subst}
use Rattle.meaning.specs.Layouts.{layout_of}
use Rattle.badroot.specs.Opening.{RootIs}
use Rattle.explain.proofs.OwnCheck as own
use Rattle.explaining.proofs.Answers as answers
use Rattle.spot.proofs.Told.{odd, sound, told-as}
use Rattle.spot.specs.Shown.{told}
use Rattle.explain.proofs.judged.Goals as goal

pub returns-then-beyond : goal.returns-then-beyond
returns-then-beyond c = search own.beyond-the-root

pub returns-in-Ok : goal.returns-in-Ok
returns-in-Ok c =
    let a = c.args in
    let z = sound c.in-Ok.is in
    let h = subst (λ n. RootIs (layout_of a.layout) a.m.now n (told c.root-r.result.spot)) c.from-n.ensures c.root-r.ensures.0 in search (answers.past-the-root, h, z)

pub returns-in-Err : goal.returns-in-Err
returns-in-Err c = let o = odd c.in-Err.is in let s = told-as c.in-Err.is in rw (← c.from-n.ensures) (search (answers.in-the-root, o, s))
