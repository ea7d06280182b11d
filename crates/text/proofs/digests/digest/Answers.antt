-- `text::digests::digest` meets its contract: by bytes where the text is short, else by words. Assumes nothing.
use borrow.Author.Rules.{rules}
use Rattle.text.proofs.DigestSteps as steps
use Rattle.text.proofs.digests.digest.Goals as goal

pub returns-then-t-lt8 : goal.returns-then-t-lt8
returns-then-t-lt8 c = search (rules, steps.by_bytes)

pub returns : goal.returns
returns c = search (rules, steps.by-words)
