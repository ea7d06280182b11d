-- `walk::text` meets its contract: short text by its first byte, anything else by `any_text`.
use Rattle.walk.proofs.Found as found
use Rattle.walk.specs.Places.{Inside, TextIs}
use Rattle.walk.specs.Reading.{ends}
use Rattle.cbor.proofs.Heads as heads
use Rattle.meaning.specs.Check.{pass}
use borrow.Author.Rules.{part_to_end}
use lib.ListN.{get_or, take, drop}
use Prim.Native.Nat.{◌-◌}
use mathlib.Core.Path.{ap, sym, ◌∙◌, subst}
use native.Mathlib.Omega.{arith}
use Rattle.walk.proofs.text.Goals as goal

pub returns-then-s-eq0 : goal.returns-then-s-eq0
returns-then-s-eq0 c = subst (λ x. Inside x (c.any_text.result) × TextIs x (c.any_text.result)) (part_to_end (c.args.s.now) 0) (c.any_text.ensures)

pub returns-then-n-s : goal.returns-then-n-s
returns-then-n-s c = let s = (c.args.s.now) in let h = heads.head_small s (get_or s 0 0 - 96) (omega arith) (omega arith) (omega arith) in (omega arith, λ d t r e. found.text-here s (omega arith) (omega arith) (omega arith) d t r e ∙ ap (λ a. pass (record { note = ends s r; letters = take a.value (drop a.size s) })) (sym h))

pub returns : goal.returns
returns c = subst (λ x. Inside x (c.any_text-2.result) × TextIs x (c.any_text-2.result)) (part_to_end (c.args.s.now) 0) (c.any_text-2.ensures)
