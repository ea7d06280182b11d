-- `component::place::digested` meets its contract: a law for each branch.
use Rattle.meaning.specs.Kind.{a_text}
use Rattle.meaning.specs.Check.{optional}
use Rattle.component.specs.Value.{place_of}
use Rattle.fields.proofs.Places as places
use Rattle.component.proofs.place.digested.Goals as goal

pub returns-then-left-eq0 : goal.returns-then-left-eq0
returns-then-left-eq0 c = search (places.none-there (λ o. place_of (optional a_text o)))

pub returns-then-null : goal.returns-then-null
returns-then-null c = search (places.null-there (λ o. place_of (optional a_text o)))

pub returns : goal.returns
returns c = search (places.item-there (λ o. place_of (optional a_text o)))
