-- `reader::judged` meets its contract: the frame, then the manifest.
use Rattle.numbers.proofs.PassedOn.{passed-on}
use Rattle.meaning.proofs.Lengths.{place-fits}
use Rattle.reader.proofs.Frames as frames
use Rattle.reader.proofs.judged.Goals as goal

pub returns-in_err-start : goal.returns-in_err-start
returns-in_err-start c = let e = passed-on {r = c.from_residual.result} {e = record { refusal = c.in_err-start.field-0.0; object = 0; component = 0 }} c.from_residual.ensures in search (frames.no-frame, c.in_err-start.was)

pub overflow_add-end : goal.overflow_add-end
overflow_add-end c = search (place-fits, frames.inside, c.in_ok-start.was)

pub slice_bounds-manifest-end : goal.slice_bounds-manifest-end
slice_bounds-manifest-end c = search (frames.inside, c.in_ok-start.was)

pub returns : goal.returns
returns c = search (frames.manifest-judges, c.in_ok-start.was)
