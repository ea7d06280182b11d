use borrow.Author.Tests.{lt-ltb, le-ltb}
use lib.ListN.{length-set}
use native.Mathlib.Omega.{arith}
use borrow.Author.Rules.{rules}
use Rattle.components.proofs.row.put_row.Goals as goal

pub bounds-rows-at-then-j-lt16 : goal.bounds-rows-at-then-j-lt16
bounds-rows-at-then-j-lt16 c = simp length-set (omega arith)

pub bounds-rows-at-then-j-lt16-2 : goal.bounds-rows-at-then-j-lt16-2
bounds-rows-at-then-j-lt16-2 c = simp length-set (omega arith)

pub bounds-rows-at-then-j-lt16-3 : goal.bounds-rows-at-then-j-lt16-3
bounds-rows-at-then-j-lt16-3 c = simp length-set (omega arith)

pub returns-then-j-lt16 : goal.returns-then-j-lt16
returns-then-j-lt16 c = search (rules, lt-ltb)

pub returns-else-j-lt16 : goal.returns-else-j-lt16
returns-else-j-lt16 c = search (rules, le-ltb)
