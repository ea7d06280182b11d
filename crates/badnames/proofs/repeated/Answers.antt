-- `badnames::repeated` meets its contract: a law for each branch.
use Rattle.badnames.proofs.KeysNoted as noting
use Rattle.badnames.proofs.repeated.Goals as goal

pub returns-then-k-n : goal.returns-then-k-n
returns-then-k-n c = search noting.all-differ

pub returns : goal.returns
returns c = search noting.a_second
