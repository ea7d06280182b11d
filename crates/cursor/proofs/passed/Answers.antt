-- `cursor::passed` meets its contract.
use Rattle.cbor.specs.Ending.{code, item_end}
use Rattle.meaning.specs.Limit.{depth_limit}
use borrow.Author.Rules.{part_to_end}
use lib.ListN.{drop}
use mathlib.Core.Path.{◌∙◌, ap}
use Prim.Native.Nat.{ℕ}
use Rattle.cursor.proofs.passed.Goals as goal

pub returns : goal.returns
returns c = let a = c.args in c.skip.ensures ∙ ap (λ u. code (item_end depth_limit u)) (part_to_end (a.s.now) _ ∙ ap (λ (i : ℕ). drop i (a.s.now)) (c.place_of-at.ensures))
