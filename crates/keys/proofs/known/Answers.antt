-- `keys::known` meets its contract: a law for each branch.
use Rattle.keys.proofs.Parts as parts
use borrow.Author.Rules.{rules}
use Rattle.keys.proofs.known.Goals as goal

pub returns-then-level-eq0 : goal.returns-then-level-eq0
returns-then-level-eq0 c = search (rules, parts.three-known)

pub returns-then-level-eq1 : goal.returns-then-level-eq1
returns-then-level-eq1 c = search (rules, parts.five-known)

pub returns : goal.returns
returns c = search (rules, parts.seven-known)
