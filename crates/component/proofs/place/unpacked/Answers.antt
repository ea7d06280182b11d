-- `component::place::unpacked` meets its contract: a law for each branch.
use Rattle.meaning.specs.Kind.{a_number}
use Rattle.meaning.specs.Check.{optional}
use Rattle.component.specs.Value.{passes}
use Rattle.fields.proofs.Places as places
use Rattle.component.proofs.Values as values
use Rattle.component.proofs.place.unpacked.Goals as goal

pub returns-then-left-eq0 : goal.returns-then-left-eq0
returns-then-left-eq0 c = search (places.none-there (λ o. passes (optional a_number o)))

pub returns-then-null : goal.returns-then-null
returns-then-null c = search (places.null-there (λ o. passes (optional a_number o)))

pub returns-in-None : goal.returns-in-None
returns-in-None c = search (places.item-there (λ o. passes (optional a_number o)), values.number-none)

pub returns-in-Some : goal.returns-in-Some
returns-in-Some c = search (places.item-there (λ o. passes (optional a_number o)), values.number-some)
