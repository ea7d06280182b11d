-- The whole value: a map's head, its entries and the verdict on them, or no map. The value c is lent whole to `walk::map`, which answered x.
use Prim.Native.Nat.{ℕ}
use native.Mathlib.Omega.{arith}
use lib.ListN.{length}
use mathlib.Core.List.{List}
use mathlib.Core.Path.{◌≡◌, refl, ap, ◌∙◌, subst}
use borrow.Author.Rules.{part_to_end}
use Rattle.meaning.specs.Tree.{Node}
use Rattle.meaning.specs.Check.{Check, pass, refuse}
use Rattle.meaning.specs.Model.{Word, Object}
use Rattle.meaning.specs.Field.{object_fields, fields}
use Rattle.meaning.specs.Layouts.{layout_of}
use Rattle.meaning.specs.Judge as judge
use Rattle.walk.specs.Reading.{Ends, Reads}
use Rattle.walk.specs.Places.{MapIs}
use Rattle.walk.specs.declared.Opening.{Opening}
use Rattle.walk.proofs.Passed.{Here}
use Rattle.walk.proofs.Opens as opens
use Rattle.table.specs.declared.Place.{Place}
use Rattle.object.specs.declared.judge.Measured.{Measured}
use Rattle.object.specs.Verdict.{judged, measured, counted, VerdictIs, ObjectIs}
use Rattle.object.specs.Laying.{Walked}
use Rattle.std.specs.Prelude.{Some, None, Ok, Err, Result, Option}
use Rattle.numbers.specs.declared.fault.ObjectFault.{ObjectFault}
use Rattle.numbers.specs.declared.refusal.Refusal.TheVariants as refusals
use Rattle.numbers.specs.Numbered.{number_of}
use Rattle.numbers.specs.Answered.{in_object}

counted-judged : (k : Check (Object Ends)) (v : Result Measured ObjectFault) → in_object v ≡ measured k → in_object (counted v) ≡ judged k
counted-judged (pass o) (Ok m) e = let z : m ≡ record { count = length o.components; rank = length o.shape } = cc in ap (λ (m : Measured). pass m.count) z
counted-judged (pass o) (Err f) e = absurd (let z : ◌≡◌ {A = ℕ} 0 1 = cc in omega arith)
counted-judged (refuse n i j) (Ok m) e = absurd (let z : ◌≡◌ {A = ℕ} 0 1 = cc in omega arith)
counted-judged (refuse n i j) (Err f) e = let x : number_of f.refusal ≡ n = cc in let y : f.component ≡ j = cc in rw (x, y) refl

module _ (layout : ℕ) (c : List ℕ) (start : ℕ) (x : Option Opening) (h : MapIs (Here c 0) x) where
  pub no-map : x ≡ None → (k : ObjectFault) → k ≡ record { refusal = refusals.Kind; component = 0 } → ObjectIs (layout_of layout) c start (Err k)
  unfolding judge.object object_fields fields
  no-map e k is-k t q r n = rw is-k (rw (opens.opening c x h None e 29 t q r) refl)

  module _ (op : Opening) (is : x ≡ Some op) (to : Place) (before p : List ℕ) (found : Result ℕ ObjectFault) (rows table : List ℕ) (walked : Walked layout start to op.mode op.count (Here c op.size) before p found rows table)
      (v : Result Measured ObjectFault) (judged-so : VerdictIs layout (Here c op.size) start p found rows v) where
    pub entries-measured : (t : Node Ends) (q : List ℕ) → Reads 30 c t q → (n : Word Ends) → in_object v ≡ measured (judge.object (layout_of layout) start (record { name = n; value = t }))
    entries-measured t q r n =
        let m = (opens.opened c x h op is).trees 29 t q r in
        let w = (subst (λ u. Walked layout start to op.mode op.count u before p found rows table) (part_to_end c op.size) walked).notes m.pairs m.last m.due in
        subst (λ u. VerdictIs layout u start p found rows v) (part_to_end c op.size) judged-so m.pairs m.last m.due.chain (w.0, λ x e. (w.1 x e).0) t m.kind-is n

    pub entries-judged : (r : Result ℕ ObjectFault) → r ≡ counted v → ObjectIs (layout_of layout) c start r
    entries-judged r e t q reads n = ap in_object e ∙ counted-judged (judge.object (layout_of layout) start (record { name = n; value = t })) v (entries-measured t q reads n)
