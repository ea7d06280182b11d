-- A turn of the loop over the entries of a `components` map: the rows put so far, and one more.
use Prim.Native.Nat.{ℕ, suc, ◌+◌, ◌*◌, ◌≤◌}
use native.Mathlib.Omega.{arith}
use mathlib.Core.List.{List, [], ◌∷◌, ◌++◌, map, append-nil, append_assoc}
use mathlib.Core.Path.{◌≡◌, refl, ap, ap₂, sym, ◌∙◌, subst}
use lib.ListN.{length, length-append}
use lib.Seq.{sets}
use borrow.Author.Rules.{part_to_end}
use Rattle.meaning.specs.Columns.{component_width}
use Rattle.meaning.specs.Tree.{Pair}
use Rattle.meaning.specs.Check.{pass, refuse}
use Rattle.meaning.specs.Read.{Span}
use Rattle.meaning.specs.Model.{Component}
use Rattle.meaning.specs.Notes.{map_component}
use Rattle.meaning.specs.Judge.{inherited, component, components_of}
use Rattle.meaning.specs.Rows.{component_row, rows_of}
use Rattle.meaning.specs.Field.{names}
use Rattle.meaning.specs.Limit.{component_limit}
use Rattle.meaning.specs.Layouts.{layout_of}
use Rattle.meaning.proofs.Checks.{in-component}
use Rattle.meaning.proofs.Lengths.{parts-length}
use Rattle.cbor.specs.Ending.{code, item_end}
use Rattle.walk.specs.Reading.{Ends, Reads}
use Rattle.walk.specs.Places.{MapIs}
use Rattle.walk.specs.declared.Opening.{Opening}
use Rattle.walk.proofs.Passed.{Here}
use Rattle.walk.proofs.Opens as opens
use Rattle.component.specs.Value.{given}
use Rattle.component.specs.Verdict.{ComponentIs}
use Rattle.component.specs.declared.Judged.{Judged}
use Rattle.naming.proofs.NameNoted.{map_snoc}
use Rattle.table.specs.Given.{Given, entry}
use Rattle.table.specs.Spans.{span_of, SizeIs}
use Rattle.table.specs.Row.{row_in, RowPut}
use Rattle.table.specs.Rows.{rows_in, Laid, Rowed, AllRowed, RowsPut}
use Rattle.table.proofs.Runs as laying
use Rattle.table.proofs.Whole.{item-size}
use Rattle.table.proofs.MapEntries as entering
use Rattle.std.specs.Prelude.{Some, None, Option}
use Rattle.numbers.specs.declared.refusal.Refusal.{Refusal}
use Rattle.std.specs.Prelude.{Result}

-- ---------------------------------------------------------------- rows

rows_append : (owner : ℕ) (cs ds : List (Component Span)) → rows_of owner (cs ++ ds) ≡ rows_of owner cs ++ rows_of owner ds
unfolding rows_of
rows_append owner [] ds = refl
rows_append owner (c ∷ cs) ds = ap (λ r. component_row owner c ++ r) (rows_append owner cs ds) ∙ sym (append_assoc (component_row owner c) (rows_of owner cs) (rows_of owner ds))

rows-of-one : (owner : ℕ) (c : Component Span) → rows_of owner (c ∷ []) ≡ component_row owner c
unfolding rows_of
rows-of-one owner c = append-nil (component_row owner c)

module _ (end owner : ℕ) (cs : List (Component Ends)) where
  pub rows-in-length : length (rows_in end owner cs) ≡ component_width * length cs
  rows-in-length = parts-length owner (map (map_component (span_of end)) cs) ∙ ap (λ n. component_width * n) (map-length cs)
    where
      map-length : (cs : List (Component Ends)) → length (map (map_component (span_of end)) cs) ≡ length cs
      map-length [] = refl
      map-length (c ∷ cs) = ap suc (map-length cs)

  rows_snoc : (c : Component Ends) → rows_in end owner (cs ++ c ∷ []) ≡ rows_in end owner cs ++ row_in end owner c
  rows_snoc c =
      ap (rows_of owner) (map_snoc (map_component (span_of end)) cs c) ∙ rows_append owner (map (map_component (span_of end)) cs) (map_component (span_of end) c ∷ [])
      ∙ ap (λ r. rows_in end owner cs ++ r) (rows-of-one owner (map_component (span_of end) c))

-- ---------------------------------------------------------------- one more entry

pub none-rowed : (g : Given) (start end owner from : ℕ) (before : List ℕ) → Rowed g start end owner from before from before []
unfolding rows_of
none-rowed g start end owner from before f fm has cs h room =
    let z = entering.none-entered (entry (layout_of g.layout) (inherited f (given g.code)) start) cs h in subst (Laid end owner from before from before) (sym z) (record { next-is = omega arith; after_is = refl })

-- the key begins s and the value, judged as v, begins c
module _ (g : Given) (start : ℕ) (s c : List ℕ) {end owner from next next' : ℕ} {before after after' : List ℕ} (same : length after ≡ length before) (v : Result Judged Refusal) (judged : ComponentIs (layout_of g.layout) (given g.code) c start v)
    {size : ℕ} (took : size ≡ code (item_end 28 c)) (put : RowPut g.layout g.format s c v size end owner next after after') (same' : length after' ≡ length after)
    (further : next + component_width ≤ length after' → next' ≡ next + component_width) where
  pub one-more-rowed : {done : List (Pair Ends)} (p : Pair Ends) {q r : List ℕ} → Reads 28 s p.key q → Reads 28 c p.value r
      → Rowed g start end owner from before next after done → Rowed g start end owner from before next' after' (done ++ p ∷ [])
  unfolding entry
  one-more-rowed {done} p {q} {r} key value rowed f fm has cs h fits =
      let above = inherited f (given g.code) in
      let l = entering.last-entered (entry (layout_of g.layout) above start) done p cs h in
      let size : length cs ≡ length l.front + 1 = ap length l.are ∙ length-append l.front (l.last ∷ []) in
      let old = rowed f fm has l.front l.before (omega arith) in
      let there = old.next-is in
      let row : after' ≡ sets after next (row_in end owner l.last) =
      put g.code start judged p 27 q r key value (subst (SizeIs p.value) (sym took) (item-size 28 c p.value r value)) l.name l.name-is f fm has l.last
      (in-component (length done) (component (layout_of g.layout) start (above l.name.name.letters) l.name) l.last l.last-is) in
      let on : next' ≡ next + component_width = further (omega arith) in
      record {
        next-is = omega arith;
        after_is =
            row ∙ ap₂ (λ t i. sets t i (row_in end owner l.last)) old.after_is (there ∙ ap (λ i. from + i) (sym (rows-in-length end owner l.front)))
            ∙ sym (laying.sets-append (rows_in end owner l.front) (row_in end owner l.last) before from)
            ∙ ap (sets before from) (sym (ap (rows_in end owner) l.are ∙ rows_snoc end owner l.front l.last));
      }

-- ---------------------------------------------------------------- the whole map, lent whole to `walk::map`, which answered x

module _ (g : Given) (c : List ℕ) (start end owner from : ℕ) (before : List ℕ) (x : Option Opening) (h : MapIs (Here c 0) x) where
  pub no-map : (after : List ℕ) → x ≡ None → RowsPut g c start end owner from before after
  unfolding components_of names
  no-map after e t q r f fm has cs is =
      absurd (let z = opens.opening c x h None e 28 t q r in let y : components_of (layout_of g.layout) start (inherited f (given g.code)) t ≡ refuse 8 0 0 = rw z refl in let w : pass cs ≡ refuse 8 0 0 = sym is ∙ y in let v : ◌≡◌ {A = ℕ} 0 1 = cc in omega arith)

  pub map-rowed : (op : Opening) → x ≡ Some op → (after : List ℕ) → AllRowed g start end owner from op.mode op.count (Here c op.size) before after
      → RowsPut g c start end owner from before after
  unfolding components_of entry
  map-rowed op e after all t q r f fm has cs is room =
      let E = entry (layout_of g.layout) (inherited f (given g.code)) start in
      let m = (opens.opened c x h op e).trees 28 t q r in
      let w = (subst (λ u. AllRowed g start end owner from op.mode op.count u before after) (part_to_end c op.size) all).are m.pairs m.last m.due in
      (w f fm has cs (entering.all-entered E component_limit t m.pairs m.kind-is cs is) room).after_is
