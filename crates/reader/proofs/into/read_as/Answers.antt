-- `reader::into::read_as` meets its contract: the rows stand at the beginning.
use Rattle.reader.proofs.Answers as answers
use Rattle.reader.proofs.into.read_as.Goals as goal

pub returns : goal.returns
returns c = answers.read-at-beginning _ _ _ _ c.place.ensures.0 c.place.ensures.1
