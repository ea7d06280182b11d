-- `emit::gap_at` meets its contract: a law for each return. Assumes nothing.
use Rattle.emit.proofs.LaidPieces as laying
use borrow.Author.Rules.{rules}
use Rattle.emit.proofs.gap_at.Goals as goal

pub zeros-requires : goal.zeros-requires
zeros-requires c = search (rules, laying.zeros-fit)

pub shape_of-out : goal.shape_of-out
shape_of-out c = search laying.lent-as-long

pub returns : goal.returns
returns c = search laying.lent
