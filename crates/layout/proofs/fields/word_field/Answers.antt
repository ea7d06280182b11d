-- `layout::fields::word_field` meets its contract: the key, then the text.
use Rattle.emit.proofs.LaidPieces as laying
use Rattle.layout.proofs.fields.word_field.Goals as goal

pub text_at-past-requires : goal.text_at-past-requires
text_at-past-requires c = search laying.room-first

pub word_at-requires : goal.word_at-requires
word_at-requires c = search laying.room_next

pub returns : goal.returns
returns c = search laying.then
