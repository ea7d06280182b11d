-- `layout::fields::word_at` meets its contract: a part of the buffer as a text.
use Rattle.meaning.specs.Manifest.{text_bytes}
use Rattle.layout.proofs.Present as law
use Rattle.layout.proofs.fields.word_at.Goals as goal

pub text_at-requires : goal.text_at-requires
text_at-requires c = search (law.room-part text_bytes)

pub returns : goal.returns
returns c = search (law.part-laid text_bytes)
