-- `panel::rows::shared_out` meets its contract: the invariant says which rows are left. Assumes nothing.
use Rattle.panel.proofs.Sound as rows
use Rattle.panel.proofs.rows.shared_out.Goals as goal

pub returns-then-due-count : goal.returns-then-due-count
returns-then-due-count c = search rows.too_many

pub loop-i-preserved : goal.loop-i-preserved
loop-i-preserved c = search rows.one-more-given

pub returns : goal.returns
returns c = search rows.all-given
