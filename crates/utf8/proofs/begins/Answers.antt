-- `text::utf::begins` meets its contract: each return is one line of the table `follow`. Assumes nothing.
use Rattle.utf8.proofs.Utf8Steps as steps
use Rattle.utf8.proofs.begins.Goals as goal

pub returns-then-b-lt128 : goal.returns-then-b-lt128
returns-then-b-lt128 c = search steps.lead-0

pub returns-then-b-lt194 : goal.returns-then-b-lt194
returns-then-b-lt194 c = search steps.lead-bad

pub returns-then-b-lt224 : goal.returns-then-b-lt224
returns-then-b-lt224 c = search steps.lead-1

pub returns-then-b-eq224 : goal.returns-then-b-eq224
returns-then-b-eq224 c = search steps.lead-224

pub returns-then-b-eq237 : goal.returns-then-b-eq237
returns-then-b-eq237 c = search steps.lead-237

pub returns-then-b-lt240 : goal.returns-then-b-lt240
returns-then-b-lt240 c = search steps.lead-2

pub returns-then-b-eq240 : goal.returns-then-b-eq240
returns-then-b-eq240 c = search steps.lead-240

pub returns-then-b-lt244 : goal.returns-then-b-lt244
returns-then-b-lt244 c = search steps.lead-3

pub returns-then-b-eq244 : goal.returns-then-b-eq244
returns-then-b-eq244 c = search steps.lead-244

pub returns : goal.returns
returns c = search steps.lead_high
