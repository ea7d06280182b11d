-- `panel::words` meets its contract: a law for each branch. Assumes nothing.
use Rattle.panel.proofs.Answers as answers
use borrow.Author.Rules.{rules}
use Rattle.panel.proofs.words.Goals as goal

pub returns-then-text-said : goal.returns-then-text-said
returns-then-text-said c =
    let w = answers.own-too-long c.args.text.now c.args.said.now (search rules) c.if-text-said.true in
    record { answer = w.0; written = w.1 }

pub returns : goal.returns
returns c =
    let w = answers.own-whole c.args.text.now c.args.said.now (search rules) c.word.ensures c.if-text-said.false in
    record { answer = w.0; written = w.1 }
