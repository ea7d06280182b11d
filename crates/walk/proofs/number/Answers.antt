use Rattle.meaning.specs.Check.{pass}
use Rattle.walk.proofs.Found as found
use Rattle.cbor.specs.Ending.{head_of}
use borrow.Author.Rules.{part_to_end}
use mathlib.Core.Path.{ap, sym, ◌∙◌}
use mathlib.Core.Logic.{inl, inr}
use native.Mathlib.Omega.{arith}
use Rattle.walk.proofs.number.Goals as goal

pub returns-then-s-eq0 : goal.returns-then-s-eq0
returns-then-s-eq0 c = found.number-other (c.args.s.now) (inl (omega arith))

pub returns-then-s-ge28 : goal.returns-then-s-ge28
returns-then-s-ge28 c = found.number-other (c.args.s.now) (inr (omega arith, omega arith))

pub returns : goal.returns
returns c = let s = c.args.s.now in λ d t r e. found.number-here s (omega arith) (omega arith) d t r e ∙ ap (λ a. pass a.value) (sym (c.head-h.ensures ∙ ap head_of (part_to_end s 0)))
