-- A value that was lent whole to `walk::map`, which answered x: how the whole ends if its entries end so. For every map walker.
use Prim.Native.Nat.{ℕ, suc, ◌+◌, ◌-◌, ◌*◌, ◌^◌, ◌≤◌, ◌<◌}
use native.Mathlib.Omega.{arith}
use mathlib.Core.List.{List}
use mathlib.Core.Path.{◌≡◌, sym, ap, ◌∙◌, subst}
use lib.ListN.{length, drop}
use borrow.Author.Rules.{part_to_end}
use Rattle.cbor.specs.Ending.{FAULT, code, item_end, rest}
use Rattle.cbor.proofs.Rest.{rest-fine}
use Rattle.cbor.proofs.Loops.{later-ends, later-fails}
use Rattle.walk.specs.Places.{MapIs, OpenMap, Modes}
use Rattle.walk.specs.declared.Opening.{Opening}
use Rattle.walk.proofs.Passed.{Here}
use Rattle.std.specs.Prelude.{Some, Option}

-- an item that was passed over, where c was lent whole
pub whole-ends : (c : List ℕ) (d e : ℕ) → e ≡ code (item_end d (Here c 0)) → e ≡ code (item_end d c)
whole-ends c d e skipped = skipped ∙ ap (λ u. code (item_end d u)) (part_to_end c 0)

module _ (c : List ℕ) (x : Option Opening) (h : MapIs (Here c 0) x) where
  pub opening : (y : Option Opening) → x ≡ y → MapIs c y
  opening y e = subst (λ u. MapIs u y) (part_to_end c 0) (rw e at h)

  module _ (op : Opening) (is : x ≡ Some op) where
    pub opened : OpenMap c op.mode op.count op.size
    opened = opening (Some op) is

    pub size-inside : op.size ≤ length c
    size-inside = opened.within

    pub modes : Modes op.mode op.count
    modes = opened.modes

    -- what ends among the entries ends inside
    pub entries-inside : (e : ℕ) → e ≤ length c - op.size → op.size + e ≤ length c
    entries-inside e l = let h = size-inside in omega arith

    module _ (d : ℕ) (lent : length c * 1 < 2 ^ 63) (e : ℕ) (passed : e ≡ code (rest op.mode op.count d (Here c op.size))) where
      room : length c < FAULT
      room = omega arith

      passed-there : e ≡ code (rest op.mode op.count d (drop op.size c))
      passed-there = passed ∙ ap (λ u. code (rest op.mode op.count d u)) (part_to_end c op.size)

      pub ends-inside : e ≤ length c - op.size → op.size + e ≡ code (item_end (suc d) c)
      ends-inside l = later-ends c room op.size size-inside (rest op.mode op.count d (drop op.size c)) (rest-fine d op.mode op.count (drop op.size c)) e passed-there l ∙ ap code (sym (opened.ending-is d))

      pub ends-faulty : length c - op.size < e → e ≡ code (item_end (suc d) c)
      ends-faulty l = later-fails c room op.size size-inside (rest op.mode op.count d (drop op.size c)) (rest-fine d op.mode op.count (drop op.size c)) e passed-there l ∙ ap code (sym (opened.ending-is d))
