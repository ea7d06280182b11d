-- `object::judge::known` meets its contract: a law for each branch.
use Rattle.object.proofs.Verdicts as verdicts
use Rattle.object.proofs.judge.known.Goals as goal

pub returns-then-p-ne0 : goal.returns-then-p-ne0
returns-then-p-ne0 c = search verdicts.odd-key

pub returns-then-p-ne0-2 : goal.returns-then-p-ne0-2
returns-then-p-ne0-2 c = search verdicts.repeated

pub returns-then-lacks_dtype : goal.returns-then-lacks_dtype
returns-then-lacks_dtype c = search verdicts.no-dtype

pub returns-then-p-eq0 : goal.returns-then-p-eq0
returns-then-p-eq0 c = search verdicts.no-shape

pub returns-then-p-eq0-2 : goal.returns-then-p-eq0-2
returns-then-p-eq0-2 c = search verdicts.no-format

pub returns-then-p-eq0-3 : goal.returns-then-p-eq0-3
returns-then-p-eq0-3 c = search verdicts.no-components

pub returns : goal.returns
returns c = search verdicts.all_known
