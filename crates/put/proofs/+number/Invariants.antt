-- The measure of `put::number`.
use Rattle.put.proofs.+number.Given as goal

abbrev pub decreases-number : goal.decreases-number
decreases-number l = l.n
