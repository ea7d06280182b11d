-- `panel::ends::numbered` meets its contract: one piece after the other. Assumes nothing.
use Rattle.put.proofs.PiecesInTurn as writing
use Rattle.panel.proofs.ends.numbered.Goals as goal

pub word-past-requires : goal.word-past-requires
word-past-requires c = tt

pub blank_number-requires : goal.blank_number-requires
blank_number-requires c = tt

pub returns : goal.returns
returns c = search writing.then
