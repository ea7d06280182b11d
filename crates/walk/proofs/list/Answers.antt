use native.Mathlib.Omega.{arith}
use mathlib.Core.Path.{◌≡◌, ap, sym, ◌∙◌, subst}
use borrow.Author.Rules.{part_to_end}
use Rattle.cbor.specs.Ending.{head_of}
use Rattle.walk.specs.Places.{OpenList}
use Rattle.walk.proofs.Maps.{no-head}
use Rattle.walk.proofs.Lists as lists
use Rattle.walk.proofs.list.Goals as goal

pub returns-then-s-eq0 : goal.returns-then-s-eq0
returns-then-s-eq0 c = lists.no-list (c.args.s.now) (λ l x y. omega arith)

pub returns-then-b-lt128 : goal.returns-then-b-lt128
returns-then-b-lt128 c = lists.no-list (c.args.s.now) (λ l x y. omega arith)

pub returns-then-b-ge160 : goal.returns-then-b-ge160
returns-then-b-ge160 c = lists.no-list (c.args.s.now) (λ l x y. omega arith)

pub returns-then-s-h : goal.returns-then-s-h
returns-then-s-h c = let s = c.args.s.now in let h = c.head-h.ensures ∙ ap head_of (part_to_end s 0) in let z : c.head-h.result.size ≡ (head_of s).size = ap (λ a. a.size) h in λ d t r e. absurd (no-head s (omega arith) (omega arith) d t r e)

pub returns-then-b : goal.returns-then-b
returns-then-b c = let s = c.args.s.now in let h = c.head-h.ensures ∙ ap head_of (part_to_end s 0) in let z : c.head-h.result.size ≡ (head_of s).size = ap (λ a. a.size) h in subst (λ a. OpenList s 1 a.value a.size) (sym h) (lists.list-broken s (omega arith) (omega arith) (omega arith))

pub returns : goal.returns
returns c = let s = c.args.s.now in let h = c.head-h.ensures ∙ ap head_of (part_to_end s 0) in let z : c.head-h.result.size ≡ (head_of s).size = ap (λ a. a.size) h in subst (λ a. OpenList s 0 a.value a.size) (sym h) (lists.list_counted s (omega arith) (omega arith) (omega arith) (λ e. omega arith) (omega arith))
