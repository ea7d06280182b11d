-- `sizes::piece::dimensions` meets its contract.
use Prim.Native.Nat.{ℕ, ◌+◌, ◌-◌, ◌≤◌}
use mathlib.Core.Path.{◌≡◌, refl}
use native.Mathlib.Omega.{arith}
use lib.ListN.{drop, get_or, length-take}
use Rattle.meaning.specs.Columns.{rank_column, shape_column}
use Rattle.sizes.specs.Size.{head_size, dimensions_size}
use Rattle.sizes.proofs.Heads.{head_small}
use Rattle.sizes.proofs.Sums as law
use Rattle.sizes.proofs.piece.dimensions.Goals as goal

head-fits : (n : ℕ) {h : ℕ} → h ≡ head_size n → h ≤ 9
head-fits n e = omega (arith, e, head_small n)

pub loop-n-init : goal.loop-n-init
unfolding dimensions_size
loop-n-init c = (refl, omega arith)

pub overflow_add-total : goal.overflow_add-total
overflow_add-total c =
    omega (arith, c.loop-n.invariant.1, c.loop-n-test.true, head-fits _ c.head-total.ensures, length-take (shape_column + get_or c.args.row.now rank_column 0 - shape_column) (drop shape_column c.args.row.now))

pub loop-n-preserved : goal.loop-n-preserved
loop-n-preserved c =
    let more = law.dimension-more c.loop-n.n-index _ c.loop-n-test.true in
    (omega (arith, more, c.loop-n.invariant.0, c.head-total.ensures), omega (arith, c.loop-n.invariant.1, head-fits _ c.head-total.ensures))
