use Rattle.walk.proofs.Maps as maps
use Rattle.walk.specs.Places.{OpenMap}
use Rattle.cbor.specs.Ending.{head_of, doubled}
use borrow.Author.Rules.{part_to_end}
use mathlib.Core.Path.{◌≡◌, ap, sym, ◌∙◌, subst}
use native.Mathlib.Omega.{arith}
use Rattle.walk.proofs.any_map.Goals as goal

pub returns-then-s-eq0 : goal.returns-then-s-eq0
returns-then-s-eq0 c = maps.no-map (c.args.s.now) (λ l x y. omega arith)

pub returns-then-b-lt160 : goal.returns-then-b-lt160
returns-then-b-lt160 c = maps.no-map (c.args.s.now) (λ l x y. omega arith)

pub returns-then-b-ge192 : goal.returns-then-b-ge192
returns-then-b-ge192 c = maps.no-map (c.args.s.now) (λ l x y. omega arith)

pub returns-then-s-h : goal.returns-then-s-h
returns-then-s-h c = let s = c.args.s.now in let z : c.head-h.result.size ≡ (head_of s).size = ap (λ a. a.size) (c.head-h.ensures ∙ ap head_of (part_to_end s 0)) in λ d t r e. absurd (maps.no-head s (omega arith) (omega arith) d t r e)

pub returns-then-b : goal.returns-then-b
returns-then-b c = let s = c.args.s.now in let z : c.head-h.result.size ≡ (head_of s).size = ap (λ a. a.size)
    (c.head-h.ensures ∙ ap head_of (part_to_end s 0)) in subst (λ a. OpenMap s 2 a.value a.size) (sym (c.head-h.ensures ∙ ap head_of (part_to_end s 0)))
    (maps.map-broken s (omega arith) (omega arith) (omega arith) (omega arith))

pub returns : goal.returns
returns c = let s = c.args.s.now in let z : c.head-h.result.size ≡ (head_of s).size = ap
    (λ a. a.size) (c.head-h.ensures ∙ ap head_of (part_to_end s 0)) in subst (λ n. OpenMap s 0 n (c.head-h.result.size)) (sym (c.doubled.ensures))
    (subst (λ a. OpenMap s 0 (doubled a.value) a.size) (sym (c.head-h.ensures ∙ ap head_of (part_to_end s 0)))
    (maps.map-counted s (omega arith) (omega arith) (omega arith) (omega arith) (λ e. omega arith) (omega arith)))
