-- `emit::list_at` meets its contract: a law for each return. Assumes nothing.
use Rattle.meaning.specs.Manifest.{list_bytes}
use Rattle.emit.proofs.LaidPieces as laying
use borrow.Author.Rules.{rules}
use Rattle.emit.proofs.list_at.Goals as goal

pub head_at-past-requires : goal.head_at-past-requires
unfolding list_bytes
head_at-past-requires c = search (rules, laying.room-first)

pub numbers_at-requires : goal.numbers_at-requires
unfolding list_bytes
numbers_at-requires c = search laying.room_next

pub returns : goal.returns
unfolding list_bytes
returns c = search laying.then
