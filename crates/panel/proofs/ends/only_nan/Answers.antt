-- `panel::ends::only_nan` meets its contract: one piece after the other. Assumes nothing.
use Rattle.panel.proofs.Pieces as writing
use Rattle.meaning.specs.Listing.{blanked}
use Rattle.panel.specs.Summary.{nan_words}
use Rattle.panel.proofs.ends.only_nan.Goals as goal

pub returns : goal.returns
unfolding blanked nan_words
returns c = search writing.in_two
