-- `sentence::say` meets its contract: a law for each branch.
use Rattle.panel.proofs.Answers as answers
use Rattle.sentence.proofs.say.Goals as goal

pub returns-then-text-n : goal.returns-then-text-n
returns-then-text-n c =
    let w = answers.words-too-long c.args.text.now _ c.line-n.ensures c.if-text-n.true in
    record { answer = w.0; written = w.1 }

pub returns : goal.returns
returns c =
    let w = answers.words-whole c.args.text.now _ c.line-n.ensures c.line.ensures c.if-text-n.false in
    record { answer = w.0; written = w.1 }
