-- `layout::fields::number_field` meets its contract: the key, then the number.
use Rattle.emit.proofs.LaidPieces as laying
use Rattle.layout.proofs.fields.number_field.Goals as goal

pub text_at-past-requires : goal.text_at-past-requires
text_at-past-requires c = search laying.room-first

pub number_at-requires : goal.number_at-requires
number_at-requires c = search laying.room_next

pub returns : goal.returns
returns c = search laying.then
