-- A whole object, whose value c was lent whole to `walk::map`, which answered x: its entries passed over, then in layout 1.0 its components' rows put, then its own.
use Prim.Native.Nat.{ℕ, ◌+◌, ◌-◌, ◌*◌, ◌^◌, ◌≤◌, ◌<◌}
use native.Mathlib.Omega.{arith}
use mathlib.Core.List.{List}
use mathlib.Core.Logic.{⊎_elim}
use mathlib.Core.Option.{Option, none}
use mathlib.Core.Path.{◌≡◌, refl, ap, sym, ◌∙◌, subst}
use lib.ListN.{length, get_or, drop}
use lib.Seq.{sets}
use borrow.Author.Tests.{eq-eqb, ne_eqb}
use borrow.Author.Rules.{part_to_end}
use Rattle.meaning.specs.Tree.{Pair}
use Rattle.meaning.specs.Check.{Check, pass, refuse, optional}
use Rattle.meaning.specs.Model.{Word, Object}
use Rattle.meaning.specs.Notes.{map_object}
use Rattle.meaning.specs.Rows.{dimensions}
use Rattle.meaning.specs.Layouts.{slot, layout_of}
use Rattle.meaning.specs.Field.{object_fields, fields, field}
use Rattle.meaning.specs.Judge.{inherited, object}
use Rattle.endian.proofs.Which.{eq-or}
use Rattle.cbor.specs.Ending.{code, item_end, rest}
use Rattle.walk.specs.Reading.{Ends}
use Rattle.walk.specs.Places.{MapIs}
use Rattle.walk.specs.declared.Opening.{Opening}
use Rattle.walk.proofs.Passed.{Here}
use Rattle.walk.proofs.Opens as opens
use Rattle.table.specs.Spans.{span_of}
use Rattle.table.specs.Rows.{rows_in, Put}
use Rattle.table.specs.Object.{eight, object_in, ObjectPut}
use Rattle.table.specs.Late.{Gives, LatePut}
use Rattle.table.specs.Objects.{WholePut}
use Rattle.table.specs.declared.Place.{Place}
use Rattle.meaning.proofs.Checks.{pass_same}
use Rattle.table.proofs.Runs as laying
use Rattle.table.proofs.ComponentRow.{named-pair}
use Rattle.meaning.proofs.Lengths.{object-length}
use Rattle.table.proofs.ObjectPasses.{Made, fields_of, made, shape-stands, described, gives}
use Rattle.object.specs.declared.judge.Measured.{Measured}
use Rattle.object.specs.Place.{DimensionsAt}
use Rattle.object.specs.Verdict.{measured, counted, VerdictIs, ObjectIs}
use Rattle.object.specs.Laying.{Lays, Walked, Once, OwnPut}
use Rattle.object.proofs.Walks as walks
use Rattle.object.proofs.Verdicts.{tensor-dtype, lacked}
use Rattle.std.specs.Prelude.{Some, None, Ok, Err, Result, Option as Optional}
use Rattle.numbers.specs.declared.fault.ObjectFault.{ObjectFault}
use Rattle.numbers.proofs.Passes.{object-passes}

-- ---------------------------------------------------------------- its own row

pub refused-still : (v : Result Measured ObjectFault) (f : ObjectFault) → v ≡ Err f → (r : Result ℕ ObjectFault) → r ≡ Err f → r ≡ counted v
refused-still v f e r is = is ∙ ap counted (sym e)

pub passed-still : (v : Result Measured ObjectFault) (m : Measured) → v ≡ Ok m → Ok m.count ≡ counted v
passed-still v m e = ap counted (sym e)

module _ (s m p dims : List ℕ) (v : Result Measured ObjectFault) (to : Place) (before : List ℕ) where
  pub own-not : (f : ObjectFault) → v ≡ Err f → OwnPut s m p dims v to before before
  own-not f e k is = absurd (let y : Err f ≡ Ok k = sym e ∙ is in let z : ◌≡◌ {A = ℕ} 0 1 = cc in omega arith)

  pub own_put : (k : Measured) → v ≡ Ok k → (after : List ℕ) → ObjectPut (Here s 0) (Here m 0) (Here p 0) k.rank (Here dims 0) k.count to.end to.row before after
      → OwnPut s m p dims v to before after
  own_put k e after h i f =
      let same : k ≡ i = same_measure (sym e ∙ f) in
      subst (λ (k : Measured). ObjectPut s m p k.rank dims k.count to.end to.row before after) same
      (subst (λ u. ObjectPut u m p k.rank dims k.count to.end to.row before after) (part_to_end s 0)
      (subst (λ u. ObjectPut (Here s 0) u p k.rank dims k.count to.end to.row before after) (part_to_end m 0)
      (subst (λ u. ObjectPut (Here s 0) (Here m 0) u k.rank dims k.count to.end to.row before after) (part_to_end p 0)
      (subst (λ u. ObjectPut (Here s 0) (Here m 0) (Here p 0) k.rank u k.count to.end to.row before after) (part_to_end dims 0) h))))
    where
      same_measure : {i j : Measured} → ◌≡◌ {A = Result Measured ObjectFault} (Ok i) (Ok j) → i ≡ j
      same_measure h = cc

-- ---------------------------------------------------------------- its components' rows

none_passed : {A : Type 0} (F : A → Check ℕ) (o : Option A) (code : Option ℕ) → optional F o ≡ pass code → o ≡ none → none ≡ code
none_passed F o code e n = pass_same (sym (ap (optional F) n) ∙ e)

module _ (layout start : ℕ) (to : Place) (before : List ℕ) (w : Word Ends) (ps : List (Pair Ends)) (o : Object Ends) (f : Made (layout_of layout) start w (fields_of (layout_of layout).object ps) o)
    (m p t t' : List ℕ) (late : LatePut layout m p start to.end to.owner to.from t t') where
  -- put while the map was passed over
  earlier : (layout ≡ 1 → ⊥) → Lays layout start to before f.components t → Put to.end to.owner to.from before o.components t'
  unfolding inherited
  earlier e says =
      let plain : none ≡ f.code = none_passed _ (field (slot 0 (layout_of layout).object) ps) f.code f.code_is (lacked (slot 0 (layout_of layout).object) ps (tensor-dtype layout ∙ ne_eqb layout 1 e)) in
      subst (Put to.end to.owner to.from before o.components) (sym (late.other e)) (says e o.components (rw (← plain) at f.components-are))

  -- put now
  now-put : (e : layout ≡ 1) → Gives (layout_of layout) start m p o → t ≡ before → Put to.end to.owner to.from before o.components t'
  now-put e g same = subst (λ u. Put to.end to.owner to.from u o.components t') same (late.late e o g)

-- ---------------------------------------------------------------- the whole object

module _ (layout : ℕ) (s c : List ℕ) (start : ℕ) (to : Place) (before : List ℕ) (x : Optional Opening) (h : MapIs (Here c 0) x) where
  pub no-map : (after : List ℕ) → x ≡ None → WholePut layout s c start to.end to.owner to.row to.from before after
  unfolding object object_fields fields
  no-map after e p d q r key value n name o is low room =
      let so = named-pair p n name in
      let z = opens.opening c x h None e 29 p.value r value in
      let y : object (layout_of layout) start (record { name = n.name; value = p.value }) ≡ refuse 8 0 0 = rw z refl in
      let w : pass o ≡ refuse 8 0 0 = sym is ∙ ap (object (layout_of layout) start) so.is ∙ y in
      absurd (let v : ◌≡◌ {A = ℕ} 0 1 = cc in omega arith)

  pub whole-put : (op : Opening) → x ≡ Some op → (slots : List ℕ) (found : Result ℕ ObjectFault) (rows t : List ℕ) → Walked layout start to op.mode op.count (Here c op.size) before slots found rows t
      → (v : Result Measured ObjectFault) → VerdictIs layout (Here c op.size) start slots found rows v → (t' : List ℕ) → Once v (LatePut layout (Here c op.size) slots start to.end to.owner to.from t t')
      → (dims : List ℕ) → Once v (DimensionsAt (Here c op.size) (get_or slots 1 0) dims)
      → (after : List ℕ) → OwnPut (Here s 0) (Here c op.size) slots dims v to t' after → WholePut layout s c start to.end to.owner to.row to.from before after
  whole-put op e slots found rows t all v verdict t' late dims shape after put p d q r key value n name o is low room =
      let L = layout_of layout in
      let m = (opens.opened c x h op e).trees 29 p.value r value in
      let w = subst (λ u. Walked layout start to op.mode op.count u before slots found rows t) (part_to_end c op.size) all in
      let so = named-pair p n name in
      let passes : object L start (record { name = n.name; value = p.value }) ≡ pass o = ap (object L start) (sym so.is) ∙ is in
      let yes : v ≡ Ok (record { count = length o.components; rank = length o.shape }) =
      object-passes v _ (walks.entries-measured layout c start x h op e to before slots found rows t all v verdict p.value r value n.name ∙ ap measured passes) in
      let l = subst (λ u. LatePut layout u slots start to.end to.owner to.from t t') (part_to_end c op.size) (late _ yes) in
      let a = w.notes m.pairs m.last m.due in
      let f = made L start n.name p.value m.pairs m.kind-is o passes in
      let says : Put to.end to.owner to.from before o.components t' =
      ⊎_elim
      (λ e. now-put layout start to before n.name m.pairs o f (drop op.size c) slots t t' l e
      (gives L (drop op.size c) m.pairs m.last m.due.chain slots a.0 start n.name o f (tensor-dtype layout ∙ eq-eqb layout 1 e)) (w.untouched e))
      (λ e. earlier layout start to before n.name m.pairs o f (drop op.size c) slots t t' l e (a.1 f.components f.components-got).1)
      (eq-or layout 1) in
      let own : OwnPut s (drop op.size c) slots dims v to t' after =
      subst (λ u. OwnPut u (drop op.size c) slots dims v to t' after) (part_to_end s 0) (subst (λ u. OwnPut (Here s 0) u slots dims v to t' after) (part_to_end c op.size) put) in
      let eight_are : eight dims ≡ dimensions o.shape =
      (subst (λ u. DimensionsAt u (get_or slots 1 0) dims) (part_to_end c op.size) (shape _ yes)).are f.shape
      (shape-stands L (drop op.size c) m.pairs m.last m.due.chain slots a.0 start n.name o f) o.shape f.shape_is in
      let row : after ≡ sets t' to.row (object_in to.end o) =
      own _ yes d p.key q key o (so.word ∙ ap pass f.named) (described L (drop op.size c) m.pairs m.last m.due.chain slots a.0 start n.name o f) refl eight_are refl in
      let short : to.row + length (object_in to.end o) ≤ to.from = omega (arith, object-length (map_object (span_of to.end) o)) in
      row ∙ ap (λ t. sets t to.row (object_in to.end o)) (says room) ∙ laying.sets-commute (object_in to.end o) (rows_in to.end to.owner o.components) before to.row to.from short

-- the map's head, its entries passed over, the verdict on them and what was put
module _ (layout : ℕ) (s c : List ℕ) (start : ℕ) (to : Place) (before : List ℕ) (lent : length c * 1 < 2 ^ 63) (x : Optional Opening) (h : MapIs (Here c 0) x) (op : Opening) (is : x ≡ Some op)
    (e : ℕ) (slots : List ℕ) (found : Result ℕ ObjectFault) (rows t : List ℕ) (run : (e ≡ code (rest op.mode op.count 29 (Here c op.size))) × Walked layout start to op.mode op.count (Here c op.size) before slots found rows t)
    (v : Result Measured ObjectFault) (t' dims : List ℕ) (told : VerdictIs layout (Here c op.size) start slots found rows v × Once v (LatePut layout (Here c op.size) slots start to.end to.owner to.from t t') × Once v (DimensionsAt (Here c op.size) (get_or slots 1 0) dims))
    (r : Result ℕ ObjectFault) (after : List ℕ) (own : (r ≡ counted v) × OwnPut (Here s 0) (Here c op.size) slots dims v to t' after) where
  said : ObjectIs (layout_of layout) c start r
  said = walks.entries-judged layout c start x h op is to before slots found rows t run.1 v told.0 r own.0

  put-so : WholePut layout s c start to.end to.owner to.row to.from before after
  put-so = whole-put layout s c start to before x h op is slots found rows t run.1 v told.0 t' told.1 dims told.2 after own.1

  pub whole-inside : e ≤ length c - op.size → (op.size + e ≡ code (item_end 30 c)) × ObjectIs (layout_of layout) c start r × WholePut layout s c start to.end to.owner to.row to.from before after
  whole-inside l = (opens.ends-inside c x h op is 29 lent e run.0 l, said, put-so)

  pub whole-faulty : length c - op.size < e → (e ≡ code (item_end 30 c)) × ObjectIs (layout_of layout) c start r × WholePut layout s c start to.end to.owner to.row to.from before after
  whole-faulty l = (opens.ends-faulty c x h op is 29 lent e run.0 l, said, put-so)
