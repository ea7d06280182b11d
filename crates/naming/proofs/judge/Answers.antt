-- `naming::judge` meets its contract: a law for each answer.
use Rattle.naming.proofs.NamesJudged as judging
use Rattle.naming.proofs.judge.Goals as goal

pub returns-then-t : goal.returns-then-t
returns-then-t c = search judging.judge-odd

pub returns-then-t-2 : goal.returns-then-t-2
returns-then-t-2 c = search judging.judge-bad

pub returns-then-left-t : goal.returns-then-left-t
returns-then-left-t c = search judging.judge-many

pub returns-then-t-lt2 : goal.returns-then-t-lt2
returns-then-t-lt2 c = search judging.judge-once

pub returns-then-no_twice : goal.returns-then-no_twice
returns-then-no_twice c = search judging.judge-apart

pub returns : goal.returns
returns c = search judging.judge-twice
