-- `layout::fields::range_at` meets its contract: a part of the buffer as it is.
use Rattle.layout.proofs.Present as law
use Rattle.layout.proofs.fields.range_at.Goals as goal

pub bytes_at-requires : goal.bytes_at-requires
bytes_at-requires c = search (law.room-part (λ bs. bs))

pub returns : goal.returns
returns c = search (law.part-laid (λ bs. bs))
