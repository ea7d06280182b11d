-- `differing::Object::format` meets its contract.
use Rattle.differing.specs.Rows.{format_at}
use Rattle.differing.proofs.Object.format.Goals as goal

pub returns : goal.returns
returns c = unfold format_at in c.part.ensures
