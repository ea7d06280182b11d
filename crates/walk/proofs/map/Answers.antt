-- `walk::map` meets its contract: a short map by its first byte, anything else by `any_map`.
use Rattle.walk.proofs.Maps as maps
use Rattle.walk.specs.Places.{OpenMap, MapIs}
use Rattle.cbor.proofs.Heads as heads
use Rattle.cbor.specs.Ending.{head_of, doubled}
use borrow.Author.Rules.{part_to_end}
use lib.ListN.{get_or}
use Prim.Native.Nat.{◌-◌}
use mathlib.Core.Path.{◌≡◌, ap, sym, subst}
use native.Mathlib.Omega.{arith}
use Rattle.walk.proofs.map.Goals as goal

pub returns-then-s-eq0 : goal.returns-then-s-eq0
returns-then-s-eq0 c = subst (λ x. MapIs x (c.any_map.result)) (part_to_end (c.args.s.now) 0) (c.any_map.ensures)

pub returns-then-b-lt184 : goal.returns-then-b-lt184
returns-then-b-lt184 c = let s = (c.args.s.now) in let h = heads.head_small s (get_or s 0 0 - 160) (omega arith) (omega arith) (omega arith) in let z : (head_of s).size ≡ 1 = sym (ap (λ a. a.size) h) in subst (λ n. OpenMap s 0 n 1) (sym (c.doubled.ensures)) (subst (λ a. OpenMap s 0 (doubled a.value) a.size) (sym h) (maps.map-counted s (omega arith) (omega arith) (omega arith) (omega arith) (λ e. omega arith) (omega arith)))

pub returns : goal.returns
returns c = subst (λ x. MapIs x (c.any_map-2.result)) (part_to_end (c.args.s.now) 0) (c.any_map-2.ensures)
