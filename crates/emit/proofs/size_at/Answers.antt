-- `emit::size_at` meets its contract: a law for each return. Assumes nothing.
use Rattle.emit.proofs.LaidPieces as laying
use Rattle.emit.proofs.Numbers as numbers
use Rattle.emit.proofs.size_at.Goals as goal

pub little-requires : goal.little-requires
little-requires c = search numbers.little-fits

pub returns : goal.returns
returns c = search laying.lent
