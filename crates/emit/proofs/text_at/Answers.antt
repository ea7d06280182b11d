-- `emit::text_at` meets its contract: a law for each return. Assumes nothing.
use Rattle.meaning.specs.Manifest.{text_bytes}
use Rattle.emit.proofs.LaidPieces as laying
use borrow.Author.Rules.{rules}
use Rattle.emit.proofs.text_at.Goals as goal

pub head_at-past-requires : goal.head_at-past-requires
unfolding text_bytes
head_at-past-requires c = search (rules, laying.room-first)

pub bytes_at-requires : goal.bytes_at-requires
unfolding text_bytes
bytes_at-requires c = search laying.room_next

pub returns : goal.returns
unfolding text_bytes
returns c = search laying.then
