use native.Mathlib.Omega.{arith}
use Rattle.walk.proofs.Lists as lists
use Rattle.walk.proofs.more.Goals as goal

pub returns-then-mode-eq0 : goal.returns-then-mode-eq0
returns-then-mode-eq0 c = lists.more-counted (c.args.s.now) (c.args.mode) (c.args.count) (c.args.done) (omega arith)

pub returns-then-s-eq0 : goal.returns-then-s-eq0
returns-then-s-eq0 c = lists.more-missing (c.args.s.now) (c.args.mode) _ (omega arith)

pub returns-then-s : goal.returns-then-s
returns-then-s c = let a = c.args in lists.more-broken (a.s.now) (a.mode) _ (omega arith) (omega arith)

pub returns : goal.returns
returns c = let a = c.args in lists.more-here (a.s.now) (a.mode) _ (omega arith) (λ e. omega arith)
