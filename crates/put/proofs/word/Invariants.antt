use Prim.Native.Nat.{ℕ}
use mathlib.Core.List.{List}
use Rattle.put.proofs.PiecesInTurn as writing
use Rattle.put.proofs.word.Given as goal

abbrev pub invariant-loop-b : goal.invariant-loop-b
invariant-loop-b l = writing.Writing (λ (u : List ℕ). u) l.w l.at l.initial.out l.past l.b-index l.out
