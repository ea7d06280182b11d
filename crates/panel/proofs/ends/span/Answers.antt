-- `panel::ends::span` meets its contract: one piece after the other. Assumes nothing.
use Rattle.panel.proofs.Pieces as writing
use Rattle.meaning.specs.Listing.{blanked}
use Rattle.panel.specs.Summary.{blank_float, span_words, nan_words}
use Rattle.panel.proofs.ends.span.Goals as goal

pub returns : goal.returns
unfolding blanked blank_float span_words nan_words
returns c = search writing.in_three
