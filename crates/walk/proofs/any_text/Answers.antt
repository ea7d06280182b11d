use Rattle.walk.specs.Reading.{ends}
use Rattle.meaning.specs.Check.{pass}
use lib.ListN.{take, drop}
use Rattle.walk.proofs.Found as found
use Rattle.cbor.specs.Ending.{head_of}
use borrow.Author.Rules.{part_to_end}
use mathlib.Core.Path.{◌≡◌, ap, sym, ◌∙◌}
use native.Mathlib.Omega.{arith}
use Rattle.walk.proofs.any_text.Goals as goal

pub returns-then-s-eq0 : goal.returns-then-s-eq0
returns-then-s-eq0 c = (tt, found.text-none (c.args.s.now) (omega arith))

pub returns-then-b-lt96 : goal.returns-then-b-lt96
returns-then-b-lt96 c = (tt, found.text-other (c.args.s.now) (omega arith) (λ x y. omega arith))

pub returns-then-b-ge124 : goal.returns-then-b-ge124
returns-then-b-ge124 c = (tt, found.text-other (c.args.s.now) (omega arith) (λ x y. omega arith))

pub returns-then-s-h : goal.returns-then-s-h
returns-then-s-h c = let s = c.args.s.now in let z : c.head-h.result.size ≡ (head_of s).size = ap (λ a. a.size) (c.head-h.ensures ∙ ap head_of (part_to_end s 0)) in (tt, found.text-short s (omega arith) (omega arith) (omega arith) (omega arith))

pub returns-then-s-h-2 : goal.returns-then-s-h-2
returns-then-s-h-2 c = let s = c.args.s.now in let z : c.head-h.result.size ≡ (head_of
    s).size = ap (λ a. a.size) (c.head-h.ensures ∙ ap head_of (part_to_end s 0)) in let y : c.head-h.result.value ≡ (head_of s).value = ap
    (λ a. a.value) (c.head-h.ensures ∙ ap head_of (part_to_end s 0)) in (tt, found.text-short s (omega arith) (omega arith) (omega arith) (omega arith))

pub returns : goal.returns
returns c = let s = c.args.s.now in (omega arith, λ d t r e. found.text-here s (omega arith) (omega arith) (omega arith) d t r e ∙ ap (λ a. pass (record { note = ends s r; letters = take a.value (drop a.size s) })) (sym (c.head-h.ensures ∙ ap head_of (part_to_end s 0))))
