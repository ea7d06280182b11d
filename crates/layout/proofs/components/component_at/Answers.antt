-- `layout::components::component_at` meets its contract: its name, the head of its map, its fields.
use Rattle.layout.specs.Pieces.{component_at}
use Rattle.emit.proofs.LaidPieces as laying
use Rattle.layout.proofs.Present as law
use borrow.Author.Rules.{rules}
use Rattle.layout.proofs.components.component_at.Goals as goal

pub word_at-a-requires : goal.word_at-a-requires
unfolding component_at
word_at-a-requires c = search laying.room-first

pub head_at-b-requires : goal.head_at-b-requires
head_at-b-requires c = search (rules, law.room-component-head)

pub component_fields-requires : goal.component_fields-requires
component_fields-requires c = record { component_row = c.requires.component_row; room = law.room-component-fields _ _ _ c.requires.room c.word_at-a.ensures c.presence.ensures.0 c.presence-2.ensures.0 c.head_at-b.ensures }

pub returns : goal.returns
returns c = search law.component-laid
