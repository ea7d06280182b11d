-- `component::place::number_at` meets its contract: a law for each branch.
use Rattle.fields.proofs.Places as places
use Rattle.component.proofs.place.number_at.Goals as goal

pub returns : goal.returns
returns c = search places.there
