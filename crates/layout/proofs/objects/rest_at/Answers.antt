-- `layout::objects::rest_at` meets its contract: its three fields in order.
use Rattle.layout.specs.Pieces.{object_rest}
use Rattle.emit.proofs.LaidPieces as laying
use Rattle.layout.proofs.InOrder as order
use Rattle.layout.proofs.objects.rest_at.Goals as goal

pub word_field-a-requires : goal.word_field-a-requires
unfolding object_rest
word_field-a-requires c = search laying.room-first

pub optional_item-b-requires : goal.optional_item-b-requires
unfolding object_rest
optional_item-b-requires c = record { within = c.requires.object_row.attributes; room = order.room-second _ c.word_field-a.ensures c.requires.room }

pub map_field-requires : goal.map_field-requires
unfolding object_rest
map_field-requires c = order.room-last-of-three c.optional_item-b.ensures c.word_field-a.ensures c.requires.room

pub returns : goal.returns
unfolding object_rest
returns c = search order.three-laid
