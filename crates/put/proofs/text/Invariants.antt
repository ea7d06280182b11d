use Rattle.meaning.specs.Listing.{shown_text}
use Rattle.put.proofs.PiecesInTurn as writing
use Rattle.put.proofs.text.Given as goal

abbrev pub invariant-loop-b : goal.invariant-loop-b
invariant-loop-b l = writing.Writing shown_text l.t l.at l.initial.out l.past l.b-index l.out
