-- `unread::left_at` meets its contract: a law for each branch.
use Rattle.unread.proofs.Stopped as stopped
use borrow.Author.Rules.{rules}
use Rattle.unread.proofs.left_at.Goals as goal

pub overflow_sub-result : goal.overflow_sub-result
overflow_sub-result c = search (rules, stopped.inside)

pub returns-in-Ok : goal.returns-in-Ok
returns-in-Ok c = search stopped.left_over

pub returns-in-Err : goal.returns-in-Err
returns-in-Err c = search stopped.stops
