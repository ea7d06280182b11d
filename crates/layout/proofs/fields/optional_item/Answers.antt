-- `layout::fields::optional_item` meets its contract: left out or put in.
use Rattle.layout.proofs.Present as law
use Rattle.layout.proofs.fields.optional_item.Goals as goal

pub returns-then-absent : goal.returns-then-absent
returns-then-absent c = search law.nothing-laid

pub text_at-past-requires : goal.text_at-past-requires
text_at-past-requires c = search (law.room-key (λ bs. bs))

pub range_at-requires : goal.range_at-requires
range_at-requires c = search (law.room-value (λ bs. bs))

pub returns : goal.returns
returns c = search (law.value-laid (λ bs. bs))
