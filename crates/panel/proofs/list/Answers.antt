-- `panel::list` meets its contract: a law for each branch. Assumes nothing.
use Rattle.panel.proofs.Answers as answers
use Rattle.panel.proofs.list.Goals as goal

pub whole-n-requires : goal.whole-n-requires
whole-n-requires c = search answers.rows-sound

pub returns-then-text-n : goal.returns-then-text-n
returns-then-text-n c =
    let w = answers.lines-too-long c.args.text.now _ _ _ _ c.sound.ensures c.if-sound.true c.whole-n.ensures c.if-text-n.true in
    record { answer = w.0; written = w.1 }

pub whole-requires : goal.whole-requires
whole-requires c = search answers.rows-sound

pub returns-then-sound : goal.returns-then-sound
returns-then-sound c =
    let w = answers.lines-whole c.args.text.now _ _ _ _ c.sound.ensures c.if-sound.true c.whole-n.ensures c.whole.ensures c.if-text-n.false in
    record { answer = w.0; written = w.1 }

pub returns : goal.returns
returns c =
    let w = answers.not_listed c.args.text.now _ _ _ _ c.sound.ensures c.if-sound.false in
    record { answer = w.0; written = w.1 }
