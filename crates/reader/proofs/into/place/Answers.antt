-- `reader::into::place` meets its contract: a law for each branch.
use Rattle.meaning.proofs.Lengths.{place-fits}
use Rattle.reader.proofs.Frames as frames
use Rattle.reader.proofs.Answers as answers
use Rattle.reader.proofs.into.place.Goals as goal

pub overflow_add-end : goal.overflow_add-end
overflow_add-end c = search (place-fits, frames.inside)

pub slice_bounds-fill-end : goal.slice_bounds-fill-end
slice_bounds-fill-end c = search frames.inside

pub fill-requires : goal.fill-requires
fill-requires c = search answers.manifest-short

pub returns-in-Err : goal.returns-in-Err
returns-in-Err c = let a = c.args in answers.no-frame-read a.layout a.last a.file.now a.t.now _ c.frame.ensures _ c.in-Err.is _ c.from.ensures _ c.refused.ensures

pub returns-in-Ok : goal.returns-in-Ok
returns-in-Ok c = let a = c.args in answers.frame-read a.layout a.last a.file.now a.t.now _ c.frame.ensures _ c.in-Ok.is _ _ c.fill.ensures
