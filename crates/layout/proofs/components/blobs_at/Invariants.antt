use Prim.Native.Nat.{◌+◌, ◌-◌, ◌*◌}
use lib.ListN.{take}
use Rattle.meaning.specs.Columns.{component_width}
use Rattle.layout.specs.Pieces.{blobs_of}
use Rattle.layout.proofs.Turns as turns
use Rattle.layout.proofs.components.blobs_at.Given as goal

abbrev pub invariant-loop-i : goal.invariant-loop-i
invariant-loop-i l =
    turns.BlobsLeft l.buffer l.plan l.rows (blobs_of l.buffer l.plan l.rows (take l.at l.initial.out) l.n l.first l.turn) l.initial.out (l.n - l.i) (l.first + component_width * l.i) l.next l.past l.out
