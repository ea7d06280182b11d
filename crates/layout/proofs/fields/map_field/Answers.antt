-- `layout::fields::map_field` meets its contract: the key, then the head.
use Rattle.emit.proofs.LaidPieces as laying
use borrow.Author.Rules.{rules}
use Rattle.layout.proofs.fields.map_field.Goals as goal

pub text_at-past-requires : goal.text_at-past-requires
text_at-past-requires c = search laying.room-first

pub head_at-requires : goal.head_at-requires
head_at-requires c = search (rules, laying.room_next)

pub returns : goal.returns
returns c = search laying.then
