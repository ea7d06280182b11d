use Prim.Native.Nat.{◌*◌, ◌≤◌}
use mathlib.Core.Path.{◌≡◌}
use lib.ListN.{take}
use Rattle.sizes.specs.Size.{dimensions_size}
use Rattle.sizes.proofs.piece.dimensions.Given as goal

abbrev pub invariant-loop-n : goal.invariant-loop-n
invariant-loop-n l = (l.total ≡ dimensions_size (take l.n-index l.shape)) × (l.total ≤ 9 * l.n-index)
