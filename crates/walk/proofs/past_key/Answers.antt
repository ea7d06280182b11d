use Rattle.walk.proofs.Turns as turns
use Rattle.cbor.specs.Ending.{code, item_end}
use borrow.Author.Rules.{part_to_end}
use mathlib.Core.Path.{ap, ◌∙◌}
use native.Mathlib.Omega.{arith}
use Rattle.walk.proofs.past_key.Goals as goal

pub returns-then-due-eq0 : goal.returns-then-due-eq0
returns-then-due-eq0 c = let a = c.args in turns.end_none (a.left) (a.mode) (a.due) (a.s.now) (c.requires) (omega arith)

pub returns-then-s-eq0 : goal.returns-then-s-eq0
returns-then-s-eq0 c = let a = c.args in turns.end-missing (a.left) (a.mode) (a.due) (a.s.now) (omega arith) (omega arith)

pub returns-then-s : goal.returns-then-s
returns-then-s c = let a = c.args in turns.end-breaks (a.left) (a.mode) (a.due) (a.s.now) (c.broken.result) (omega arith) (omega arith) (omega arith) (c.broken.ensures)

pub returns-then-s-k : goal.returns-then-s-k
returns-then-s-k c = let a = c.args in let s = a.s.now in turns.end-faulty (a.left) (a.mode) (a.due) s (omega arith) (omega arith) (omega arith) (λ e. omega arith) (c.skip-k.result)
    (c.skip-k.ensures ∙ ap (λ p. code (item_end (a.left) p)) (part_to_end s 0)) (omega arith)

pub returns : goal.returns
returns c = let a = c.args in let s = a.s.now in turns.a-value (a.left) (a.mode) (a.due) s (omega arith) (omega arith) (omega arith) (λ e. omega arith) (c.skip-k.result)
    (c.skip-k.ensures ∙ ap (λ p. code (item_end (a.left) p)) (part_to_end s 0)) (omega arith)
