-- `models::Model::find` meets its contract.
use Rattle.models.proofs.Numbered as objects
use Rattle.models.proofs.Model.find.Goals as goal

pub returns : goal.returns
returns c = objects.object-beside _ _ _ _ _ (rw c.args.self.now.from at c.find.ensures)
