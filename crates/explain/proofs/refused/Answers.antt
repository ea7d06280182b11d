-- `explain::refused` meets its contract: a law for each need.
use Rattle.explain.proofs.OwnCheck as own
use Rattle.explaining.proofs.Answers as answers
use Rattle.frame.proofs.Frames.{size_back_lem}
use Rattle.numbers.specs.declared.refusal.Refusal.TheVariants as refusals
use Rattle.spot.proofs.Told.{apart}
use borrow.Author.Rules.{rules}
use Rattle.explain.proofs.refused.Goals as goal

pub returns-in-Cbor : goal.returns-in-Cbor
returns-in-Cbor c = let l = own.low c.args.fault.refusal c.in-Cbor.is in search (own.by-its-bytes, l)

pub returns-in_default : goal.returns-in_default
returns-in_default c =
    let r = c.args.fault.refusal in
    let a = apart r refusals.Cbor c.in_default.not-Cbor in
    let b = apart r refusals.Deep c.in_default.not-Deep in
    search (rules, answers.by-its-tree, size_back_lem, a, b)
