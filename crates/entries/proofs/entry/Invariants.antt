use lib.ListN.{drop}
use Rattle.put.proofs.PiecesInTurn.{Rest}
use Rattle.entries.proofs.entry.Given as goal

abbrev pub invariant-loop-x : goal.invariant-loop-x
invariant-loop-x l = Rest l.x-items l.at l.initial.list (drop l.x-index l.x-items) l.past l.list
