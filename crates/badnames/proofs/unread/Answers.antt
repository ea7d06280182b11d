-- `badnames::unread` meets its contract: a law for each branch.
use Rattle.badnames.proofs.Untested as untested
use borrow.Author.Rules.{rules}
use Rattle.badnames.proofs.unread.Goals as goal

pub overflow_sub-s : goal.overflow_sub-s
overflow_sub-s c = search (rules, untested.letters-begin)

pub returns-in-None : goal.returns-in-None
returns-in-None c = search untested.unread-odd

pub returns-in-Some : goal.returns-in-Some
returns-in-Some c = search untested.unread-text
