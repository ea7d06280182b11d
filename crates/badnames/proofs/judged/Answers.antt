-- `badnames::judged` meets its contract: a law for each branch.
use Rattle.badnames.proofs.KeysNoted as noting
use Rattle.badnames.proofs.judged.Goals as goal

pub returns-then-keys : goal.returns-then-keys
returns-then-keys c = search noting.odd-judged

pub returns-then-keys-2 : goal.returns-then-keys-2
returns-then-keys-2 c = search noting.bad-judged

pub returns-then-left-count : goal.returns-then-left-count
returns-then-left-count c = search noting.many-judged

pub returns-then-n-ne-TWICE : goal.returns-then-n-ne-TWICE
returns-then-n-ne-TWICE c = search noting.once-judged

pub returns : goal.returns
returns c = search noting.few-judged
