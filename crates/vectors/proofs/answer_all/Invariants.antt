-- `vectors::answer_all` is safe and ends: each turn passes over at least three bytes. Assumes nothing.
use Rattle.std.proofs.Common.{length, ◌-◌}
use Rattle.vectors.proofs.answer_all.Given as goal

abbrev pub decreases-loop-at : goal.decreases-loop-at
decreases-loop-at g l = length l.vectors - l.at
