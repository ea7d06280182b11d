-- The whole value: a map's head, its entries and what they come to, or no map. The value c is lent whole to `walk::map`, which answered x.
use Prim.Native.Nat.{ℕ}
use mathlib.Core.List.{List}
use mathlib.Core.Bool.{Bool}
use mathlib.Core.Path.{◌≡◌, refl, ap, ◌∙◌, subst}
use borrow.Author.Rules.{part_to_end}
use Rattle.meaning.specs.Field.{names}
use Rattle.meaning.specs.Layouts.{Layout}
use Rattle.cbor.specs.Ending.{code, item_end}
use Rattle.walk.specs.Places.{MapIs}
use Rattle.walk.specs.declared.Opening.{Opening}
use Rattle.walk.proofs.Passed.{Here}
use Rattle.walk.proofs.Opens as opens
use Rattle.naming.specs.declared.Tally.{Tally}
use Rattle.objects.specs.declared.Found.{Found}
use Rattle.objects.specs.Found.{objects_by, ObjectsIs}
use Rattle.objects.specs.Firsts.{Walked, Concluded}
use Rattle.std.specs.Prelude.{Some, None, Err, Result, Option}
use Rattle.numbers.specs.declared.fault.FileFault.{FileFault}
use Rattle.numbers.specs.declared.refusal.Refusal.TheVariants as refusals

module _ (deep : Bool) (L : Layout) (c : List ℕ) (start : ℕ) (x : Option Opening) (h : MapIs (Here c 0) x) where
  pub no-map : x ≡ None → (k : FileFault) → k ≡ record { refusal = refusals.Kind; object = 0; component = 0 } → ObjectsIs deep L c start (Err k)
  unfolding objects_by names
  no-map e k is-k t q r = rw is-k (rw (opens.opening c x h None e 30 t q r) refl)

  pub entries-judged : (op : Opening) → x ≡ Some op → (n : Tally) (left spans : List ℕ) (first : Result ℕ FileFault) → Walked deep L start op.mode op.count (Here c op.size) n left spans first
      → (found : Result Found FileFault) → Concluded (Here c op.size) n first left spans found → ObjectsIs deep L c start found
  entries-judged op is n left spans first walked found concluded t q r =
      let m = (opens.opened c x h op is).trees 30 t q r in
      let w = subst (λ u. Walked deep L start op.mode op.count u n left spans first) (part_to_end c op.size) walked m.pairs m.last m.due in
      subst (λ u. Concluded u n first left spans found) (part_to_end c op.size) concluded deep L start m.pairs w t m.kind-is

-- where a value that is lent whole ends
pub ends_so : (c : List ℕ) (e : ℕ) → e ≡ code (item_end 31 (Here c 0)) → e ≡ code (item_end 31 c)
ends_so c e h = h ∙ ap (λ (s : List ℕ). code (item_end 31 s)) (part_to_end c 0)
