-- `text::version::major_one` meets its contract: the first two bytes say the first run. Assumes nothing.
use Rattle.versions.proofs.VersionSteps as steps
use Rattle.versions.proofs.major_one.Goals as goal

pub returns-then-v-eq0 : goal.returns-then-v-eq0
returns-then-v-eq0 c = search steps.major-none

pub returns-then-v-ne49 : goal.returns-then-v-ne49
returns-then-v-ne49 c = search steps.major-other

pub returns-then-v-eq1 : goal.returns-then-v-eq1
returns-then-v-eq1 c = search steps.major-alone

pub returns : goal.returns
returns c = search steps.major-long
