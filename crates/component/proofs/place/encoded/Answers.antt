-- `component::place::encoded` meets its contract: a law for each branch.
use Rattle.meaning.specs.Judge.{raw}
use Rattle.meaning.specs.Check.{optional}
use Rattle.component.specs.Value.{passes}
use Rattle.fields.proofs.Places as places
use Rattle.component.proofs.place.encoded.Goals as goal

pub returns-then-left-eq0 : goal.returns-then-left-eq0
returns-then-left-eq0 c = search (places.nothing-there (λ o. passes (optional raw o)))

pub returns : goal.returns
returns c = search (places.something-there (λ o. passes (optional raw o)))
