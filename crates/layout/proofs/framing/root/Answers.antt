-- `layout::framing::root` meets its contract: the head, and the root's fields in order.
use Rattle.layout.proofs.Present as law
use borrow.Author.Rules.{rules}
use Rattle.layout.proofs.framing.root.Goals as goal

pub head_at-a-requires : goal.head_at-a-requires
head_at-a-requires c = search (rules, law.room-root-head)

pub text_at-b-requires : goal.text_at-b-requires
text_at-b-requires c = search law.room-version-key

pub text_at-c-requires : goal.text_at-c-requires
text_at-c-requires c = search law.room-version

pub optional_item-d-requires-clause-room : goal.optional_item-d-requires-clause-room
optional_item-d-requires-clause-room c = law.room-attributes _ _ _ _ c.requires.room c.presence.ensures.0 c.head_at-a.ensures c.text_at-b.ensures c.text_at-c.ensures

pub map_field-requires : goal.map_field-requires
map_field-requires c = search law.room-objects-head

pub returns : goal.returns
returns c = search law.root-laid
