-- `layout::objects::shape_field` meets its contract: the key, then a part of the row.
use Rattle.emit.proofs.LaidPieces as laying
use Rattle.layout.proofs.Present as law
use Rattle.layout.proofs.objects.shape_field.Goals as goal

pub text_at-past-requires : goal.text_at-past-requires
text_at-past-requires c = search laying.room-first

pub list_at-requires : goal.list_at-requires
list_at-requires c = search law.room-shape

pub returns : goal.returns
returns c = search law.shape-laid
