-- `layout::fields::optional_word` meets its contract: left out or put in.
use Rattle.meaning.specs.Manifest.{text_bytes}
use Rattle.layout.proofs.Present as law
use Rattle.layout.proofs.fields.optional_word.Goals as goal

pub returns-then-absent : goal.returns-then-absent
returns-then-absent c = search law.nothing-laid

pub word_field-requires : goal.word_field-requires
word_field-requires c = search (law.room-field text_bytes)

pub returns : goal.returns
returns c = search (law.field-laid text_bytes)
