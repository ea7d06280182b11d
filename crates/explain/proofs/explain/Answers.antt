-- `explain::explain` meets its contract: a law for each need.
use mathlib.Core.Path.{subst}
use Rattle.unread.specs.Unread.{Unframed}
use Rattle.meaning.proofs.Lengths.{place-fits}
use Rattle.reader.proofs.Frames as frames
use Rattle.explaining.proofs.Answers as answers
use borrow.Author.Rules.{rules}
use Rattle.explain.proofs.explain.Goals as goal

pub overflow_add-end : goal.overflow_add-end
overflow_add-end c = search (place-fits, frames.inside)

pub slice_bounds-manifest-end : goal.slice_bounds-manifest-end
slice_bounds-manifest-end c = search (rules, frames.inside)

pub returns-in-Err : goal.returns-in-Err
returns-in-Err c = let a = c.args in let h = subst (λ n. Unframed a.layout a.file.now n c.framed.result) c.from.ensures c.framed.ensures in search (answers.no-frame, h)

pub returns-in-Ok : goal.returns-in-Ok
returns-in-Ok c = search answers.a-frame
