-- `comparing::refusal` meets its contract: a law for each way out. Assumes nothing.
use Rattle.comparing.proofs.ComparedFiles as answering
use Rattle.frame.proofs.Frames.{size_back_lem}
use Rattle.comparing.proofs.refusal.Goals as goal

pub returns-then-v-ne0 : goal.returns-then-v-ne0
returns-then-v-ne0 c = search answering.says_first

pub returns-then-w-ne0 : goal.returns-then-w-ne0
returns-then-w-ne0 c = search (answering.says_second, size_back_lem)

pub returns : goal.returns
returns c = search (answering.says-room, size_back_lem)
