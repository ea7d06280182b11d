-- `panel::summary` meets its contract: a law for each branch. Assumes nothing.
use Rattle.panel.proofs.Answers as answers
use Rattle.panel.specs.Summary.{bytes_line}
use Rattle.panel.proofs.summary.Goals as goal

pub summed-n-requires : goal.summed-n-requires
summed-n-requires c = search answers.rows-sound

pub returns-then-text-n : goal.returns-then-text-n
returns-then-text-n c =
    let w = answers.summary-too-long c.args.text.now _ _ _ _ c.sound.ensures _ c.if-sound.true c.summed-n.ensures c.if-text-n.true in
    record { answer = w.0; written = w.1 }

pub summed-requires : goal.summed-requires
summed-requires c = search answers.rows-sound

pub returns-then-sound : goal.returns-then-sound
returns-then-sound c =
    let w = answers.summary-whole c.args.text.now _ _ _ _ c.sound.ensures _ c.if-sound.true c.summed-n.ensures c.summed.ensures c.if-text-n.false in
    record { answer = w.0; written = w.1 }

pub returns : goal.returns
returns c =
    let last = bytes_line c.args.frame c.args.manifest c.args.inside c.args.between in
    let w = answers.not-summarised c.args.text.now _ _ _ _ c.sound.ensures last c.if-sound.false in
    record { answer = w.0; written = w.1 }
