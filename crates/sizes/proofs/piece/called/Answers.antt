-- `sizes::piece::called` meets its contract: a law for each branch.
use mathlib.Core.Path.{refl}
use native.Mathlib.Omega.{arith}
use lib.ListN.{length}
use Rattle.meaning.specs.Types.{storages, storage_of}
use Rattle.types.proofs.Codes.{digits}
use Rattle.sizes.proofs.Sums as law
use Rattle.sizes.proofs.piece.called.Goals as goal

pub returns-then-dtype-lt13 : goal.returns-then-dtype-lt13
returns-then-dtype-lt13 c = unfold storages storage_of in (digits (λ i. length (storage_of i).called) _ 13 refl (c.args.dtype) (c.if-dtype-lt13.true), omega arith)

pub returns : goal.returns
returns c = (search law.called-none, omega arith)
