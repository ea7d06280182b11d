-- `naming::put` meets its contract: a law for each branch.
use Rattle.naming.proofs.NameNoted as noting
use Rattle.naming.proofs.put.Goals as goal

pub returns-then-i-a : goal.returns-then-i-a
returns-then-i-a c = search noting.put-here

pub returns-else-i-a : goal.returns-else-i-a
returns-else-i-a c = search noting.put-nowhere
