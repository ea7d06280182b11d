-- A turn of the loop over the entries of the `objects` map: the rows put so far, and one more object's; and the table in the end.
use Prim.Native.Nat.{ℕ, suc, ◌+◌, ◌*◌, ◌≤◌}
use native.Mathlib.Nat.{zero-add}
use native.Mathlib.Omega.{arith}
use mathlib.Core.List.{List, [], ◌∷◌, ◌++◌, map, append-nil, append_assoc}
use mathlib.Core.Bool.{true}
use mathlib.Core.Path.{◌≡◌, refl, ap, ap₂, sym, ◌∙◌, subst}
use lib.ListN.{length, drop, length-append, length-map}
use lib.Seq.{sets, sets-eq}
use borrow.Author.Rules.{part_to_end}
use Rattle.meaning.specs.Columns.{object_width, component_width}
use Rattle.meaning.specs.Tree.{Pair}
use Rattle.meaning.specs.Check.{pass, refuse}
use Rattle.meaning.specs.Read.{Span}
use Rattle.meaning.specs.Limit.{object_limit}
use Rattle.meaning.specs.Model.{Object}
use Rattle.meaning.specs.Notes.{map_object, map_component}
use Rattle.meaning.specs.Field.{names}
use Rattle.meaning.specs.Judge.{object, objects_of}
use Rattle.meaning.specs.Rows.{object_row, object_rows, rows_of, component_rows, component_count, rows, room_for}
use Rattle.meaning.specs.Layouts.{layout_of}
use Rattle.meaning.proofs.Checks.{in-object}
use Rattle.meaning.proofs.Lengths.{object-length, objects-length, components-length, count-snoc}
use Rattle.walk.specs.Reading.{Ends, Reads}
use Rattle.walk.specs.Places.{MapIs}
use Rattle.walk.specs.declared.Opening.{Opening}
use Rattle.walk.proofs.Passed.{Here}
use Rattle.walk.proofs.Opens as opens
use Rattle.naming.proofs.NameNoted.{map_snoc}
use Rattle.table.specs.Spans.{span_of}
use Rattle.table.specs.Rows.{rows_in}
use Rattle.table.specs.Object.{object_in}
use Rattle.table.specs.Objects.{WholePut, Onward, entry, objects_in, components_in, Laid, ObjectsLaid, AllLaid, Written}
use Rattle.table.proofs.Runs as laying
use Rattle.table.proofs.MapEntries as entering
use Rattle.table.proofs.ComponentRow.{named-pair}
use Rattle.std.specs.Prelude.{Some, None, Option}

-- ---------------------------------------------------------------- rows

objects-append : (os ps : List (Object Span)) → object_rows (os ++ ps) ≡ object_rows os ++ object_rows ps
unfolding object_rows
objects-append [] ps = refl
objects-append (o ∷ os) ps = ap (λ r. object_row o ++ r) (objects-append os ps) ∙ sym (append_assoc (object_row o) (object_rows os) (object_rows ps))

objects-one : (o : Object Span) → object_rows (o ∷ []) ≡ object_row o
unfolding object_rows
objects-one o = append-nil (object_row o)

components-append : (i : ℕ) (os ps : List (Object Span)) → component_rows i (os ++ ps) ≡ component_rows i os ++ component_rows (i + length os) ps
unfolding component_rows
components-append i [] ps = let z : i ≡ i + 0 = omega arith in ap (λ i. component_rows i ps) z
components-append i (o ∷ os) ps =
    let z : suc i + length os ≡ i + suc (length os) = omega arith in
    ap (λ r. rows_of i o.components ++ r) (components-append (suc i) os ps ∙ ap (λ i'. component_rows (suc i) os ++ component_rows i' ps) z)
    ∙ sym (append_assoc (rows_of i o.components) (component_rows (suc i) os) (component_rows (i + suc (length os)) ps))

components_one : (i : ℕ) (o : Object Span) → component_rows i (o ∷ []) ≡ rows_of i o.components
unfolding component_rows
components_one i o = append-nil (rows_of i o.components)

module _ (end : ℕ) where
  abbrev at : Object Ends → Object Span
  at = map_object (span_of end)

  pub count-mapped : (os : List (Object Ends)) → component_count (map at os) ≡ component_count os
  unfolding component_count
  count-mapped [] = refl
  count-mapped (o ∷ os) = ap₂ (λ a b. a + b) (length-map o.components (map_component (span_of end))) (count-mapped os)

  objects-in-length : (os : List (Object Ends)) → length (objects_in end os) ≡ object_width * length os
  objects-in-length os = objects-length (map at os) ∙ ap (λ n. object_width * n) (length-map os at)

  components-in-length : (os : List (Object Ends)) → length (components_in end os) ≡ component_width * component_count os
  components-in-length os = components-length 0 (map at os) ∙ ap (λ n. component_width * n) (count-mapped os)

  objects-snoc : (os : List (Object Ends)) (o : Object Ends) → objects_in end (os ++ o ∷ []) ≡ objects_in end os ++ object_in end o
  objects-snoc os o = ap object_rows (map_snoc at os o) ∙ objects-append (map at os) (at o ∷ []) ∙ ap (λ r. objects_in end os ++ r) (objects-one (at o))

  components-snoc : (os : List (Object Ends)) (o : Object Ends) → components_in end (os ++ o ∷ []) ≡ components_in end os ++ rows_in end (length os) o.components
  components-snoc os o =
      let y : length (map at os) ≡ length os = length-map os at in
      let z : 0 + length (map at os) ≡ length os = omega arith in
      ap (component_rows 0) (map_snoc at os o) ∙ components-append 0 (map at os) (at o ∷ [])
      ∙ ap (λ r. components_in end os ++ r) (components_one (0 + length (map at os)) (at o) ∙ ap (λ i. rows_of i (at o).components) z)

-- ---------------------------------------------------------------- one more object

pub none-laid : (layout start end from : ℕ) (before : List ℕ) → ObjectsLaid layout start end from before 0 from before []
unfolding object_rows component_rows component_count
none-laid layout start end from before os h low room =
    let z = entering.none-entered (entry layout start) os h in subst (Laid end from before 0 from before) (sym z) (record { row_is = refl; next-is = omega arith; after_is = refl })

-- the key begins s and the value begins c
module _ (layout start : ℕ) (s c : List ℕ) {end from n row row' next next' : ℕ} {before after after' : List ℕ} (same : length after ≡ length before)
    (put : WholePut layout s c start end n row next after after') (same' : length after' ≡ length after)
    (further : row + object_width ≤ length after' → row' ≡ row + object_width) (onward : Onward layout start c next (length after') next') where
  pub one-more-laid : {done : List (Pair Ends)} (p : Pair Ends) {q r : List ℕ} → Reads 30 s p.key q → Reads 30 c p.value r
      → n ≡ length done → ObjectsLaid layout start end from before row next after done → ObjectsLaid layout start end from before row' next' after' (done ++ p ∷ [])
  one-more-laid {done} p {q} {r} key value counted laid os h low fits =
      let l = entering.last-entered (entry layout start) done p os h in
      let size : length os ≡ length l.front + 1 = ap length l.are ∙ length-append l.front (l.last ∷ []) in
      let many : component_count os ≡ component_count l.front + length l.last.components = ap component_count l.are ∙ count-snoc l.front l.last in
      let as_many : length l.front ≡ length done = entering.as_many (entry layout start) done l.front l.before in
      let owner : n ≡ length l.front = counted ∙ sym as_many in
      let old = laid l.front l.before (omega arith) (omega arith) in
      let there = old.row_is in
      let then = old.next-is in
      let passes = in-object (length done) (object (layout_of layout) start l.name) l.last l.last-is in
      let whole = put p 29 q r key value l.name l.name-is l.last passes (omega arith) (omega arith) in
      let on : row' ≡ row + object_width = further (omega arith) in
      let next-so : next' ≡ next + component_width * length l.last.components =
      onward p.value r value l.name.name l.last (ap (object (layout_of layout) start) (sym (named-pair p l.name l.name-is).is) ∙ passes) (omega arith) in
      let O = object_in end l.last in
      let A = objects_in end l.front in
      let B = components_in end l.front in
      let row-there : row ≡ 0 + length A = there ∙ sym (objects-in-length end l.front) ∙ sym (zero-add (length A)) in
      let next-there : next ≡ from + length B = then ∙ ap (λ i. from + i) (sym (components-in-length end l.front)) in
      let short : row + length O ≤ from = omega (arith, object-length (map_object (span_of end) l.last)) in
      record {
        row_is = omega arith;
        next-is = omega arith;
        after_is =
            whole
            ∙ ap₂ (λ t w. sets (sets t row O) next (rows_in end w l.last.components)) old.after_is owner
            ∙ ap (λ t. sets t next (rows_in end (length l.front) l.last.components)) (laying.sets-commute O B (sets before 0 A) row from short)
            ∙ ap₂ (λ i j. sets (sets (sets (sets before 0 A) i O) from B) j (rows_in end (length l.front) l.last.components)) row-there next-there
            ∙ sym (laying.sets-append B (rows_in end (length l.front) l.last.components) (sets (sets before 0 A) (0 + length A) O) from)
            ∙ ap (λ t. sets t from (B ++ rows_in end (length l.front) l.last.components)) (sym (laying.sets-append A O before 0))
            ∙ ap₂ (λ x y. sets (sets before 0 x) from y) (sym (ap (objects_in end) l.are ∙ objects-snoc end l.front l.last)) (sym (ap (components_in end) l.are ∙ components-snoc end l.front l.last));
      }

-- ---------------------------------------------------------------- the whole map, lent whole to `walk::map`, which answered x

module _ (layout : ℕ) (s : List ℕ) (start end from : ℕ) (before after : List ℕ) (x : Option Opening) (h : MapIs (Here s 0) x) where
  pub no-map : x ≡ None → Written layout s start end from before after
  unfolding objects_of names
  no-map e t q r m is low room =
      let z = opens.opening s x h None e 30 t q r in
      let y : objects_of (layout_of layout) start t ≡ refuse 8 0 0 = rw z refl in
      let w : pass m.objects ≡ refuse 8 0 0 = sym is ∙ y in absurd (let v : ◌≡◌ {A = ℕ} 0 1 = cc in omega arith)

  pub map-written : (op : Opening) → x ≡ Some op → (true ≡ true → AllLaid layout start end from op.mode op.count (Here s op.size) before after)
      → Written layout s start end from before after
  unfolding objects_of rows room_for
  map-written op e all t q r m is low room =
      let o = (opens.opened s x h op e).trees 30 t q r in
      let w = (subst (λ u. AllLaid layout start end from op.mode op.count u before after) (part_to_end s op.size) (all refl)).are o.pairs o.last o.due in
      let g = entering.all-entered (entry layout start) object_limit t o.pairs o.kind-is m.objects is in
      let laid = w m.objects g (omega arith) (omega arith) in
      let A = objects_in end m.objects in
      let B = components_in end m.objects in
      let seam : from ≡ 0 + length A = low ∙ sym (objects-in-length end m.objects) ∙ sym (zero-add (length A)) in
      let many : length (A ++ B) ≡ object_width * length (map (map_object (span_of end)) m.objects) + component_width * component_count (map (map_object (span_of end)) m.objects) =
      length-append A B ∙ ap₂ (λ a b. a + b) (objects-length (map (map_object (span_of end)) m.objects)) (components-length 0 (map (map_object (span_of end)) m.objects)) in
      let fits : 0 + length (A ++ B) ≤ length before = omega (arith, length-append A B, objects-in-length end m.objects, components-in-length end m.objects) in
      laid.after_is ∙ ap (λ i. sets (sets before 0 A) i B) seam ∙ sym (laying.sets-append A B before 0) ∙ sets-eq (A ++ B) before 0 fits
      ∙ ap (λ i. A ++ B ++ drop i before) (zero-add (length (A ++ B)) ∙ many)
