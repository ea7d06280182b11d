-- `layout::components::component_fields` meets its contract: its five fields in order.
use Rattle.layout.specs.Pieces.{component_fields}
use Rattle.emit.proofs.LaidPieces as laying
use Rattle.layout.proofs.InOrder as order
use Rattle.layout.proofs.components.component_fields.Goals as goal

pub storage_field-a-requires : goal.storage_field-a-requires
unfolding component_fields
storage_field-a-requires c = search laying.room-first

pub optional_word-b-requires : goal.optional_word-b-requires
unfolding component_fields
optional_word-b-requires c = record { within = c.requires.component_row.type; room = order.room-second _ c.storage_field-a.ensures c.requires.room }

pub number_field-c-requires : goal.number_field-c-requires
unfolding component_fields
number_field-c-requires c = order.room-third _ c.optional_word-b.ensures c.storage_field-a.ensures c.requires.room

pub number_field-d-requires : goal.number_field-d-requires
unfolding component_fields
number_field-d-requires c = order.room-fourth _ c.number_field-c.ensures c.optional_word-b.ensures c.storage_field-a.ensures c.requires.room

pub optional_word-requires : goal.optional_word-requires
unfolding component_fields
optional_word-requires c =
    record { within = c.requires.component_row.digest; room = order.room-last-of-five c.number_field-d.ensures c.number_field-c.ensures c.optional_word-b.ensures c.storage_field-a.ensures c.requires.room }

pub returns : goal.returns
unfolding component_fields
returns c = order.five-laid c.storage_field-a.ensures c.optional_word-b.ensures c.number_field-c.ensures c.number_field-d.ensures c.optional_word.ensures
