-- `layout::objects::front_at` meets its contract: its name, the head of its map, its shape.
use Rattle.layout.specs.Pieces.{object_front}
use Rattle.emit.proofs.LaidPieces as laying
use Rattle.layout.proofs.Present as law
use borrow.Author.Rules.{rules}
use Rattle.layout.proofs.objects.front_at.Goals as goal

pub word_at-a-requires : goal.word_at-a-requires
unfolding object_front
word_at-a-requires c = search laying.room-first

pub head_at-b-requires : goal.head_at-b-requires
head_at-b-requires c = search (rules, law.room-object-head)

pub shape_field-requires : goal.shape_field-requires
shape_field-requires c = record { rank_column_in_bounds = law.shape-lies c.requires.object_row; room = law.room-object-shape _ _ c.requires.room c.word_at-a.ensures c.presence.ensures.0 c.head_at-b.ensures }

pub returns : goal.returns
returns c = search law.front-laid
