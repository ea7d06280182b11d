-- The whole value: a map's head, its entries and the verdict on them, or no map. The value c is lent whole to `walk::map`, which answered x.
use mathlib.Core.Path.{◌≡◌, refl, subst}
use mathlib.Core.List.{List}
use mathlib.Core.Option.{Option}
use Prim.Native.Nat.{ℕ, ◌+◌, ◌-◌, ◌*◌, ◌^◌, ◌≤◌, ◌<◌}
use lib.ListN.{length, replicate}
use borrow.Author.Rules.{part_to_end}
use Rattle.meaning.specs.Layouts.{Layout}
use Rattle.meaning.specs.Field.{component_fields, fields}
use Rattle.meaning.specs.Judge as judge
use Rattle.cbor.specs.Ending.{code, item_end, rest}
use Rattle.walk.specs.Places.{MapIs}
use Rattle.walk.specs.declared.Opening.{Opening}
use Rattle.walk.proofs.Passed.{Here}
use Rattle.walk.proofs.Opens as opens
use Rattle.component.specs.declared.Judged.{Judged}
use Rattle.component.specs.Verdict.{Placed, VerdictIs, ComponentIs}
use Rattle.std.specs.Prelude.{Some, None, Err, Result, Option as Optional}
use Rattle.numbers.specs.declared.refusal.Refusal.{Refusal}
use Rattle.numbers.specs.declared.refusal.Refusal.TheVariants as refusals

-- where the whole ends, if its entries end so
module _ (c : List ℕ) (lent : length c * 1 < 2 ^ 63) (x : Optional Opening) (h : MapIs (Here c 0) x) (op : Opening) (is : x ≡ Some op)
    (e : ℕ) (passed : e ≡ code (rest op.mode op.count 27 (Here c op.size))) where
  pub ends-inside : e ≤ length c - op.size → op.size + e ≡ code (item_end 28 c)
  ends-inside = opens.ends-inside c x h op is 27 lent e passed

  pub ends-faulty : length c - op.size < e → e ≡ code (item_end 28 c)
  ends-faulty = opens.ends-faulty c x h op is 27 lent e passed

module _ (L : Layout) (above : Option ℕ) (c : List ℕ) (start : ℕ) (x : Optional Opening) (h : MapIs (Here c 0) x) where
  pub no-map : x ≡ None → ComponentIs L above c start (Err refusals.Kind)
  unfolding judge.component component_fields fields
  no-map e t q r n = rw (opens.opening c x h None e 27 t q r) refl

  pub entries-judged : (op : Opening) → x ≡ Some op → (p : List ℕ) → Placed L op.mode op.count (Here c op.size) (replicate 10 0) p → (v : Result Judged Refusal) → VerdictIs L above (Here c op.size) start p v → ComponentIs L above c start v
  entries-judged op is p slots v judged t q r n =
      let m = (opens.opened c x h op is).trees 27 t q r in
      let pl = subst (λ u. Placed L op.mode op.count u (replicate 10 0) p) (part_to_end c op.size) slots in
      subst (λ u. VerdictIs L above u start p v) (part_to_end c op.size) judged 26 m.pairs m.last m.due.chain (pl m.pairs m.last m.due) t m.kind-is n
