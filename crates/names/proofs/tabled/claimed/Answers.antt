-- `names::tabled::claimed` meets its contract. The loop's invariant: the digests of the names before number i stand in the table. Assumes nothing.
use Rattle.names.proofs.TabledNames as tabled
use Rattle.names.proofs.tabled.claimed.Goals as goal

pub loop-i-preserved : goal.loop-i-preserved
loop-i-preserved c = search tabled.tabled-more
