-- `reader::into::read` meets its contract: it is `read_as` for 1.2.0.
use Rattle.reader.proofs.Answers as answers
use Rattle.reader.proofs.into.read.Goals as goal

pub returns : goal.returns
returns c = let a = c.args in answers.reads-current _ a.t.now _ a.file.now c.read_as.ensures.0 c.read_as.ensures.1
