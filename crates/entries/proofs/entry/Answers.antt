-- `entries::entry` meets its contract. The loop's invariant: the numbers that are still to be written.
use borrow.Author.Rules.{rules}
use lib.Seq.{drop-cons}
use mathlib.Core.Path.{refl, ◌∙◌}
use native.Mathlib.Numerals.{add-one}
use Rattle.put.proofs.PiecesInTurn.{rest-less}
use Rattle.entries.proofs.entry.Goals as goal

pub loop-x-preserved : goal.loop-x-preserved
loop-x-preserved c = rest-less c.loop-x.invariant (drop-cons c.args.numbers c.loop-x.x-index 0 (search rules) ∙ rw (add-one c.loop-x.x-index) refl) c.number-past.ensures
