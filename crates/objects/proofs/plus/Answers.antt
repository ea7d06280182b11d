-- `objects::plus` meets its contract: a law for each branch.
use Rattle.objects.proofs.FirstFault as totals
use Rattle.objects.proofs.plus.Goals as goal

pub returns-then-total-le16368 : goal.returns-then-total-le16368
returns-then-total-le16368 c = search totals.added

pub returns-else-total-le16368 : goal.returns-else-total-le16368
returns-else-total-le16368 c = search totals.total-past

pub returns-else-m-le16 : goal.returns-else-m-le16
returns-else-m-le16 c = search totals.more-past
