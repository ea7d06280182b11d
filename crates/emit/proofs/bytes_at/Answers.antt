-- `emit::bytes_at` meets its contract: a law for each return. Assumes nothing.
use Rattle.emit.proofs.LaidPieces as laying
use Rattle.emit.proofs.bytes_at.Goals as goal

pub returns : goal.returns
returns c = search laying.lent
