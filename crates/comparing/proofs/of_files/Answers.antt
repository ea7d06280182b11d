-- `comparing::of_files` meets its contract: a law for each way out, for the answer with the list, and for the room.
use Rattle.comparing.proofs.ComparedFiles as answering
use Rattle.comparing.proofs.of_files.Goals as goal

pub returns-then-a-ne0 : goal.returns-then-a-ne0
returns-then-a-ne0 c = record { answer = search answering.first-told; written = search answering.first-kept; cleared = cc }

pub overflow_mul-room : goal.overflow_mul-room
overflow_mul-room c = search answering.objects-fit

pub overflow_mul-room-2 : goal.overflow_mul-room-2
overflow_mul-room-2 c = search answering.components-fit

pub overflow_add-room : goal.overflow_add-room
overflow_add-room c = search answering.room_small

pub offset_bounds-work-room : goal.offset_bounds-work-room
offset_bounds-work-room c = search answering.room-scaled

pub slice_bounds-read_as-count : goal.slice_bounds-read_as-count
slice_bounds-read_as-count c = search answering.room_within

pub slice_bounds-read_as-start : goal.slice_bounds-read_as-start
slice_bounds-read_as-start c = search answering.room_within

pub returns-then-b-ne0 : goal.returns-then-b-ne0
returns-then-b-ne0 c = record { answer = search answering.second-told; written = search answering.second-kept; cleared = search answering.second-cleared }

pub slice_bounds-ours-end : goal.slice_bounds-ours-end
slice_bounds-ours-end c = search answering.front-long

pub offset_bounds-both-room : goal.offset_bounds-both-room
offset_bounds-both-room c = search answering.room-scaled

pub slice_bounds-theirs-count : goal.slice_bounds-theirs-count
slice_bounds-theirs-count c = search answering.room-inside

pub slice_bounds-theirs-start : goal.slice_bounds-theirs-start
slice_bounds-theirs-start c = search answering.room-inside

pub invariant_of-ours : goal.invariant_of-ours
invariant_of-ours c = record { read = search answering.first-table }

pub invariant_of-theirs : goal.invariant_of-theirs
invariant_of-theirs c = record { read = search answering.second-table }

pub returns : goal.returns
returns c = record { answer = search answering.beside-told; written = search answering.beside-written; cleared = search answering.both-cleared }
