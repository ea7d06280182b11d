-- `keys::slot` meets its contract: a law for each branch.
use Rattle.keys.proofs.Parts as parts
use native.Mathlib.Omega.{arith}
use Rattle.fields.proofs.Texts as texts
use borrow.Author.Rules.{rules}
use Rattle.keys.proofs.slot.Goals as goal

pub overflow_add-e : goal.overflow_add-e
overflow_add-e c = omega (arith, texts.letters-in c.args.s.now _ c.text.ensures.0 _ _ c.in-Some.is)

pub slice_bounds-named-end : goal.slice_bounds-named-end
slice_bounds-named-end c = search (rules, texts.letters-in)

pub returns-in-None : goal.returns-in-None
returns-in-None c = search (parts.odd-within, parts.slot-odd)

pub returns-in-Some : goal.returns-in-Some
returns-in-Some c = search (parts.known-within, parts.slot-known)
