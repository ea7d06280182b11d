-- `reader::manifest` meets its contract: a law for each branch.
use Rattle.numbers.proofs.PassedOn.{passed-on}
use Rattle.reader.proofs.Manifests as manifests
use Rattle.reader.proofs.manifest.Goals as goal

pub returns-then-m-e : goal.returns-then-m-e
returns-then-m-e c = search manifests.faulty

pub returns-then-e-m : goal.returns-then-e-m
returns-then-e-m c = search manifests.left_over

pub returns-in_err-v : goal.returns-in_err-v
returns-in_err-v c = let e = passed-on {r = c.from_residual.result} {e = c.in_err-v.field-0.0} c.from_residual.ensures in search (manifests.root-refuses, c.in_err-v.was)

pub returns : goal.returns
returns c = search (manifests.root-accepts, c.in_ok-v.was)
