-- The whole value: a map's head, its entries and what they come to, or no map. The value c is lent whole to `walk::map`, which answered x.
use Prim.Native.Nat.{ℕ, ◌+◌, ◌-◌, ◌*◌, ◌^◌, ◌≤◌, ◌<◌}
use mathlib.Core.List.{List}
use mathlib.Core.Path.{◌≡◌, refl, subst}
use lib.ListN.{length}
use borrow.Author.Rules.{part_to_end}
use Rattle.meaning.specs.Field.{names}
use Rattle.meaning.specs.Judge.{components_of}
use Rattle.cbor.specs.Ending.{code, item_end, rest}
use Rattle.walk.specs.Places.{MapIs}
use Rattle.walk.specs.declared.Opening.{Opening}
use Rattle.walk.proofs.Passed.{Here}
use Rattle.walk.proofs.Opens as opens
use Rattle.naming.specs.declared.Tally.{Tally}
use Rattle.table.specs.Given.{Given}
use Rattle.table.specs.Rows.{AllRowed, RowsPut}
use Rattle.table.proofs.RowLoop as rowing
use Rattle.components.specs.Firsts.{Walked, Concluded, ComponentsAre}
use Rattle.std.specs.Prelude.{Some, None, Err, Result, Option}
use Rattle.numbers.specs.declared.fault.ObjectFault.{ObjectFault}
use Rattle.numbers.specs.declared.refusal.Refusal.TheVariants as refusals

module _ (g : Given) (c : List ℕ) (start : ℕ) (x : Option Opening) (h : MapIs (Here c 0) x) where
  pub no-map : (rows : List ℕ) → x ≡ None → (k : ObjectFault) → k ≡ record { refusal = refusals.Kind; component = 0 } → ComponentsAre g c start (Err k) rows
  unfolding components_of names
  no-map rows e k is-k t q r f is has = rw is-k (0, rw (opens.opening c x h None e 28 t q r) refl)

  entries-judged : (op : Opening) → x ≡ Some op → (n : Tally) (left spans : List ℕ) (first : Result (Unit {0}) ObjectFault) (rows : List ℕ) → Walked g start op.mode op.count (Here c op.size) n left spans first rows
      → (found : Result ℕ ObjectFault) → Concluded (Here c op.size) n first left spans found → ComponentsAre g c start found rows
  entries-judged op is n left spans first rows walked found concluded t q r =
      let m = (opens.opened c x h op is).trees 28 t q r in
      let w = subst (λ u. Walked g start op.mode op.count u n left spans first rows) (part_to_end c op.size) walked m.pairs m.last m.due in
      subst (λ u. Concluded u n first left spans found) (part_to_end c op.size) concluded g start rows m.pairs w t m.kind-is

-- the map's head, its entries passed over, and what they come to
module _ (c : List ℕ) (lent : length c * 1 < 2 ^ 63) {x : Option Opening} (h : MapIs (Here c 0) x) {op : Opening} (is : x ≡ Some op)
    {g : Given} {start end owner from e : ℕ} {n : Tally} {left spans : List ℕ} {first : Result (Unit {0}) ObjectFault} {rows before t : List ℕ}
    (run : (e ≡ code (rest op.mode op.count 28 (Here c op.size))) × (length left ≡ 16) × (length rows ≡ 64) × Walked g start op.mode op.count (Here c op.size) n left spans first rows
    × AllRowed g start end owner from op.mode op.count (Here c op.size) before t) (found : Result ℕ ObjectFault) (concluded : Concluded (Here c op.size) n first left spans found) where
  said : (length rows ≡ 64) × ComponentsAre g c start found rows × RowsPut g c start end owner from before t
  said = (
    run.2,
    entries-judged g c start x h op is n left spans first rows run.3 found concluded,
    rowing.map-rowed g c start end owner from before x h op is t run.4,
  )

  pub whole-inside : e ≤ length c - op.size → (op.size + e ≡ code (item_end 29 c)) × (length rows ≡ 64) × ComponentsAre g c start found rows × RowsPut g c start end owner from before t
  whole-inside l = (opens.ends-inside c x h op is 28 lent e run.0 l, said.0, said.1, said.2)

  pub whole-faulty : length c - op.size < e → (e ≡ code (item_end 29 c)) × (length rows ≡ 64) × ComponentsAre g c start found rows × RowsPut g c start end owner from before t
  whole-faulty l = (opens.ends-faulty c x h op is 28 lent e run.0 l, said.0, said.1, said.2)
