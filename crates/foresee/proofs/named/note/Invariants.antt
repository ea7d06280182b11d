use Prim.Native.Nat.{◌*◌}
use Rattle.foresee.proofs.NamesNoted as law
use Rattle.foresee.proofs.named.note.Given as goal

abbrev pub invariant-loop-i : goal.invariant-loop-i
invariant-loop-i l = law.Noting l.buffer l.rows l.width l.n l.initial.left l.left l.size (l.width * l.i) l.i
