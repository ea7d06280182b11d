-- `rescuer::opening::file` meets its contract: a law for each need.
use Rattle.numbers.proofs.PassedOn.{passed-on}
use Rattle.meaning.proofs.Lengths.{place-fits}
use Rattle.reader.proofs.Frames as frames
use Rattle.rescuer.proofs.FoundRoot as finding
use Rattle.rescuer.proofs.opening.file.Goals as goal

pub returns-in_err-framed : goal.returns-in_err-framed
returns-in_err-framed c = let e = passed-on {r = c.from_residual.result} {e = record { refusal = c.in_err-framed.field-0.0; object = 0; component = 0 }} c.from_residual.ensures in search (finding.no-frame, c.in_err-framed.was)

pub overflow_add-end : goal.overflow_add-end
overflow_add-end c = search (place-fits, frames.inside, c.in_ok-framed.was)

pub slice_bounds-manifest-end : goal.slice_bounds-manifest-end
slice_bounds-manifest-end c = search (frames.inside, c.in_ok-framed.was)

pub manifest-requires : goal.manifest-requires
manifest-requires c = search (finding.short, c.in_ok-framed.was)

pub returns : goal.returns
returns c = search (finding.whole, c.in_ok-framed.was)
