-- `parts::beside` meets its contract.
use Rattle.parts.proofs.MatchedRows as match
use Rattle.parts.proofs.beside.Goals as goal

pub returns : goal.returns
returns c = match.matched _ _ _ _ _ _ _ c.name.ensures _ c.find.ensures
