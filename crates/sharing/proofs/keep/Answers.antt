-- `sharing::keep` meets its contract: a law for each way out. Assumes nothing.
use native.Mathlib.Omega.{arith}
use lib.ListN.{length-set}
use Rattle.sharing.proofs.Zeroed as zeroed
use Rattle.sharing.proofs.keep.Goals as goal

pub bounds-s-4 : goal.bounds-s-4
bounds-s-4 c = simp length-set (omega arith)

pub bounds-s-5 : goal.bounds-s-5
bounds-s-5 c = simp length-set (omega arith)

pub bounds-s-6 : goal.bounds-s-6
bounds-s-6 c = simp length-set (omega arith)

pub bounds-s-7 : goal.bounds-s-7
bounds-s-7 c = simp length-set (omega arith)

pub returns : goal.returns
returns c = search zeroed.eight-stored
