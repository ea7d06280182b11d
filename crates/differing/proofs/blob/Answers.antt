-- `differing::blob` meets its contract.
use mathlib.Core.Path.{sym, ◌∙◌}
use Rattle.differing.proofs.Columns as columns
use Rattle.differing.proofs.blob.Goals as goal

pub returns : goal.returns
returns c = c.part.ensures ∙ sym (columns.blob-at _ _ _)
