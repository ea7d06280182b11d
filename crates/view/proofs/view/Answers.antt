-- `view::view` meets its contract: a law for each branch. Assumes nothing.
use Rattle.meaning.proofs.Lengths.{place-fits}
use Rattle.view.proofs.Extents as extents
use Rattle.view.proofs.view.Goals as goal

pub overflow_add-end : goal.overflow_add-end
overflow_add-end c = search (place-fits, extents.viewed-fits)

pub slice_bounds-result-end : goal.slice_bounds-result-end
slice_bounds-result-end c = search extents.viewed-fits

pub returns : goal.returns
returns c = search extents.viewed-is
