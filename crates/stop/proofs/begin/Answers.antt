-- `stop::begin` meets its contract: a law for each way in which an item begins.
use Rattle.stop.proofs.Held as items
use borrow.Author.Rules.{rules}
use Rattle.stop.proofs.begin.Goals as goal

pub returns-then-s-eq0 : goal.returns-then-s-eq0
returns-then-s-eq0 c = search items.nothing-there

pub returns-then-left-eq0 : goal.returns-then-left-eq0
returns-then-left-eq0 c = search items.too-deep

pub plain-requires : goal.plain-requires
plain-requires c = search (rules, items.low-holds-none)

pub returns-then-b-lt128 : goal.returns-then-b-lt128
returns-then-b-lt128 c = search items.plain-ends

pub plain-requires-then-b-ge224 : goal.plain-requires-then-b-ge224
plain-requires-then-b-ge224 c = search (rules, items.high-holds-none)

pub returns-then-b-ge224 : goal.returns-then-b-ge224
returns-then-b-ge224 c = search items.plain-ends

pub returns-then-s-h : goal.returns-then-s-h
returns-then-s-h c = search items.bad-head

pub returns-then-b : goal.returns-then-b
returns-then-b c = search items.open-tag

pub returns : goal.returns
returns c = search items.holder-opens
