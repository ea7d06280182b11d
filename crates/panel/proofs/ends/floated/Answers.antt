-- `panel::ends::floated` meets its contract: one piece after the other. Assumes nothing.
use Rattle.panel.proofs.Pieces as writing
use Rattle.panel.specs.Summary.{blank_float}
use Rattle.panel.proofs.ends.floated.Goals as goal

pub word-past-requires : goal.word-past-requires
word-past-requires c = tt

pub byte-from-requires : goal.byte-from-requires
byte-from-requires c = tt

pub float-requires : goal.float-requires
float-requires c = tt

pub returns : goal.returns
unfolding blank_float
returns c = search writing.in_three
