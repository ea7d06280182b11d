use mathlib.Core.Path.{◌≡◌}
use Rattle.std.specs.Slice.Iter.{chunks_exact_rest, chunks_exact_size}
use Rattle.finding.proofs.Turn as turn
use Rattle.finding.proofs.find.Given as goal

abbrev pub invariant-loop-four : goal.invariant-loop-four
invariant-loop-four l = turn.Ran l.s l.smallest l.largest l.nans l.some (chunks_exact_rest l.four-iterator) × (chunks_exact_size l.four-iterator ≡ 4)
