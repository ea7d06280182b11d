-- `component::judge::known` meets its contract: a law for each branch.
use Rattle.component.proofs.Verdicts as verdicts
use Rattle.component.proofs.judge.known.Goals as goal

pub returns-then-p-ne0 : goal.returns-then-p-ne0
returns-then-p-ne0 c = search verdicts.odd-key

pub returns-then-p-ne0-2 : goal.returns-then-p-ne0-2
returns-then-p-ne0-2 c = search verdicts.repeated

pub returns-then-lacks_dtype : goal.returns-then-lacks_dtype
returns-then-lacks_dtype c = search verdicts.no-dtype

pub returns-then-p-eq0 : goal.returns-then-p-eq0
returns-then-p-eq0 c = search verdicts.no-offset

pub returns-then-p-eq0-2 : goal.returns-then-p-eq0-2
returns-then-p-eq0-2 c = search verdicts.no_length

pub returns : goal.returns
returns c = search verdicts.all_known
