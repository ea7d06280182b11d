-- `layout::objects::object_at` meets its contract: its front, then the rest.
use Rattle.emit.proofs.LaidPieces as laying
use Rattle.layout.proofs.objects.object_at.Goals as goal

pub front_at-front-requires : goal.front_at-front-requires
front_at-front-requires c = search laying.room-first

pub rest_at-requires : goal.rest_at-requires
rest_at-requires c = search laying.room_next

pub returns : goal.returns
returns c = search laying.then
