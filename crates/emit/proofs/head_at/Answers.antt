-- `emit::head_at` meets its contract: a law for each test. Assumes nothing.
use Rattle.emit.proofs.Numbers as numbers
use Rattle.emit.proofs.LaidPieces as laying
use borrow.Author.Rules.{rules}
use Rattle.emit.proofs.head_at.Goals as goal

pub headed-requires : goal.headed-requires
headed-requires c = search (rules, laying.room_back, numbers.tiny)

pub returns-then-n-lt24 : goal.returns-then-n-lt24
returns-then-n-lt24 c = search (laying.as_bytes, numbers.tiny)

pub headed-requires-then-n-lt256 : goal.headed-requires-then-n-lt256
headed-requires-then-n-lt256 c = search (rules, laying.room_back, numbers.one)

pub returns-then-n-lt256 : goal.returns-then-n-lt256
returns-then-n-lt256 c = search (laying.as_bytes, numbers.one)

pub headed-requires-then-n-lt65536 : goal.headed-requires-then-n-lt65536
headed-requires-then-n-lt65536 c = search (rules, laying.room_back, numbers.two)

pub returns-then-n-lt65536 : goal.returns-then-n-lt65536
returns-then-n-lt65536 c = search (laying.as_bytes, numbers.two)

pub headed-requires-then-n-lt4294967296 : goal.headed-requires-then-n-lt4294967296
headed-requires-then-n-lt4294967296 c = search (rules, laying.room_back, numbers.four)

pub returns-then-n-lt4294967296 : goal.returns-then-n-lt4294967296
returns-then-n-lt4294967296 c = search (laying.as_bytes, numbers.four)

pub headed-requires-2 : goal.headed-requires-2
headed-requires-2 c = search (rules, laying.room_back, numbers.eight)

pub returns : goal.returns
returns c = search (laying.as_bytes, numbers.eight)
