-- `object::place::format_at` meets its contract: a law for each branch.
use Rattle.fields.proofs.Places as places
use Rattle.object.proofs.place.format_at.Goals as goal

pub returns : goal.returns
returns c = search places.there
