-- `emit::headed` meets its contract: a law for each return. Assumes nothing.
use native.Mathlib.Omega.{arith}
use lib.ListN.{length-set}
use Rattle.emit.proofs.Numbers as numbers
use borrow.Author.Rules.{rules}
use Rattle.emit.proofs.headed.Goals as goal

pub slice_bounds-big-count : goal.slice_bounds-big-count
slice_bounds-big-count c = simp length-set (omega (arith, c.requires.room.fits))

pub slice_bounds-big-start : goal.slice_bounds-big-start
slice_bounds-big-start c = simp length-set (omega (arith, c.requires.room.fits))

pub big-requires : goal.big-requires
big-requires c = search (rules, numbers.argument-fits)

pub shape_of-out : goal.shape_of-out
shape_of-out c = search numbers.head-as-long

pub returns : goal.returns
returns c = search numbers.head-laid
