-- A turn of the loop over the entries of the `objects` map: the sums so far, and one more object's; and the sums in the end.
use Prim.Native.Nat.{ℕ, suc, ◌+◌, ◌-◌, ◌*◌, ◌^◌, ◌≤◌, ◌<◌}
use native.Mathlib.Nat.{zero-add}
use native.Mathlib.Omega.{arith}
use mathlib.Core.List.{List, [], ◌∷◌, ◌++◌, append_assoc}
use mathlib.Core.Path.{◌≡◌, refl, ap, ap₂, sym, ◌∙◌, subst}
use lib.ListN.{length, drop, get_or, replicate, length-append, length-map}
use lib.Seq.{sets, sets-eq}
use borrow.Author.Rules.{part_to_end}
use Rattle.meaning.specs.Columns.{object_width}
use Rattle.meaning.specs.Tree.{Pair}
use Rattle.meaning.specs.Check.{pass, refuse}
use Rattle.meaning.specs.Read.{Span}
use Rattle.meaning.specs.Limit.{manifest_limit, end_limit, object_limit}
use Rattle.meaning.specs.Model.{Object}
use Rattle.meaning.specs.Notes.{map_object, map_component}
use Rattle.meaning.specs.Field.{names}
use Rattle.meaning.specs.Judge.{object, objects_of}
use Rattle.meaning.specs.Layouts.{layout_of}
use Rattle.meaning.proofs.Checks.{in-object}
use Rattle.meaning.proofs.Lengths.{object-length}
use Rattle.meaning.specs.Every.{Every}
use Rattle.cbor.specs.Ending.{code, item_end}
use Rattle.walk.specs.Reading.{Ends, Reads}
use Rattle.walk.specs.Places.{MapIs, EntryIs, Modes}
use Rattle.walk.specs.declared.Opening.{Opening}
use Rattle.walk.specs.declared.Entry.{Entry}
use Rattle.walk.specs.declared.Entry.TheVariants.{End, Value}
use Rattle.walk.proofs.Passed as walked
use Rattle.walk.proofs.Passed.{Here, Passed}
use Rattle.walk.proofs.Opens as opens
use Rattle.naming.proofs.NameNoted.{map_snoc}
use Rattle.table.specs.Spans.{span_of}
use Rattle.table.specs.Rows.{rows_in}
use Rattle.table.specs.Object.{object_in}
use Rattle.table.specs.Objects.{WholePut, entry}
use Rattle.table.proofs.Runs as laying
use Rattle.table.proofs.MapEntries as entering
use Rattle.table.proofs.RowLoop.{rows-in-length}
use Rattle.window.specs.Sums.{name_pairs}
use Rattle.window.specs.Summed.{InWindow, Holds, Added, Sum, spans, SumOf, Summed, AllSummed, Measured}
use Rattle.window.proofs.Window.{Small, name-is}
use Rattle.window.proofs.Snoc as snoc
use Rattle.std.specs.Prelude.{Some, None, Option}

pub mapped-in-window : (end : ℕ) (o : Object Ends) → InWindow o → InWindow (map_object (span_of end) o)
mapped-in-window end o w = record { rank = w.rank; count = let a = w.count in omega (arith, a, length-map o.components (map_component (span_of end))) }

none-summed : (layout start end p n from : ℕ) (before : List ℕ) → p ≤ suc end_limit → n ≤ suc manifest_limit → Summed layout start end p n from before p n from before []
unfolding name_pairs
none-summed layout start end p n from before h k os e w =
    let z = entering.none-entered (entry layout start) os e in
    subst (SumOf end p n from before p n from before) (sym z) (record { sum = snoc.no-sum p n h k; names = λ room. (omega arith, refl) })

-- what `object` leaves in a window that is long enough
pub window-holds : (end : ℕ) (o : Object Ends) (t t' : List ℕ) → 208 ≤ length t → InWindow o
    → t' ≡ sets (sets t 0 (object_in end o)) object_width (rows_in end 0 o.components) → Holds t' (map_object (span_of end) o)
window-holds end o t t' long w is =
    let A : List ℕ = object_in end o in
    let B : List ℕ = rows_in end 0 o.components in
    let a : length A ≡ object_width = object-length (map_object (span_of end) o) in
    let b = rows-in-length end 0 o.components in
    let c = w.count in
    let seam : object_width ≡ 0 + length A = sym (zero-add (length A) ∙ a) in
    let fits : 0 + length (A ++ B) ≤ length t = omega (arith, long, length-append A B, a, b, c) in
    record {
      rest = drop (0 + length (A ++ B)) t;
      is = is ∙ ap (λ (i : ℕ). sets (sets t 0 A) i B) seam ∙ sym (laying.sets-append A B t 0) ∙ sets-eq (A ++ B) t 0 fits ∙ append_assoc A B (drop (0 + length (A ++ B)) t);
    }

-- one more object, whose key begins s and whose value begins c
module _ (layout start : ℕ) (s c t : List ℕ) {end p n from q j next : ℕ} {before after t' : List ℕ} (long : 208 ≤ length t) (put : WholePut layout s c start end 0 0 object_width t t')
    {q' j' : ℕ} (sum : Added t' q j q' j') {after' : List ℕ} (named : after' ≡ sets after next (get_or t' 0 0 ∷ get_or t' 1 0 ∷ []))
    {next' : ℕ} (further : next + 2 ≤ length before → next' ≡ next + 2) where
  one-more-summed : {done : List (Pair Ends)} (x : Pair Ends) {u r : List ℕ} → Reads 30 s x.key u → Reads 30 c x.value r
      → Summed layout start end p n from before q j next after done → Summed layout start end p n from before q' j' next' after' (done ++ x ∷ [])
  unfolding name_pairs
  one-more-summed {done} x {u} {r} key value summed os e w =
      let l = entering.last-entered (entry layout start) done x os e in
      let w' : Every InWindow (l.front ++ l.last ∷ []) = subst (Every InWindow) l.are w in
      let own : InWindow l.last = snoc.every-last InWindow l.front l.last w' in
      let old = summed l.front l.before (snoc.every_front InWindow l.front l.last w') in
      let few = own.count in
      let whole = put x 29 u r key value l.name l.name-is l.last (in-object (length done) (object (layout_of layout) start l.name) l.last l.last-is) (omega arith) (omega (arith, long, few)) in
      let O : Object Span = map_object (span_of end) l.last in
      let held : Holds t' O = window-holds end l.last t t' long own whole in
      let seen : InWindow O = mapped-in-window end l.last own in
      let size : length (l.front ++ l.last ∷ []) ≡ length l.front + 1 = length-append l.front (l.last ∷ []) in
      let these : spans end (l.front ++ l.last ∷ []) ≡ spans end l.front ++ O ∷ [] = map_snoc (map_object (span_of end)) l.front l.last in
      subst (SumOf end p n from before q' j' next' after') (sym l.are)
      (record {
        sum = subst (λ (os : List (Object Span)). Sum p n os q' j') (sym these) (snoc.one_more (spans end l.front) O old.sum (sum O held seen));
        names = λ room.
            let there = old.names (omega (arith, room, size)) in
            let at : next ≡ from + length (name_pairs (spans end l.front)) = there.0 ∙ ap (λ (i : ℕ). from + i) (sym (snoc.names-length (spans end l.front) ∙ ap (λ (i : ℕ). 2 * i) (length-map l.front (map_object (span_of end))))) in (
              further (omega (arith, room, size, there.0)) ∙ omega (arith, size, there.0),
              named
                  ∙ ap (sets after next) (name-is held seen)
                  ∙ ap₂ (λ (t : List ℕ) (i : ℕ). sets t i (name_pairs (O ∷ []))) there.1 at
                  ∙ sym (laying.sets-append (name_pairs (spans end l.front)) (name_pairs (O ∷ [])) before from)
                  ∙ ap (sets before from) (sym (snoc.names-snoc (spans end l.front) O) ∙ ap name_pairs (sym these)),
            );
      })

-- ---------------------------------------------------------------- the loop

-- up to `at`, with `due` items due
pub record Looping (layout start end mode count p n from : ℕ) (s before : List ℕ) (at due place total next : ℕ) (names rows t : List ℕ) : Type 0 where
  pub walking : Passed 30 mode count s at due (Summed layout start end p n from before place total next names)
  pub long : length names ≡ length before
  pub small : Small place total
  pub window : length t ≡ 208
  pub room : length rows ≡ 64

pub loop-starts : (layout start end mode count p n from : ℕ) (s before : List ℕ) → Modes mode count → length s * 1 < 2 ^ 63 → Small p n
    → Looping layout start end mode count p n from s before 0 count p n from before (replicate 64 0) (replicate 208 0)
loop-starts layout start end mode count p n from s before modes lent small = record {
  walking = walked.passed-starts modes (omega arith) (none-summed layout start end p n from before small.0 small.1);
  long = refl;
  small = small;
  window = refl;
  room = refl;
}

module _ {layout start end mode count p n from : ℕ} {s before : List ℕ} {at due place total next : ℕ} {names rows t : List ℕ}
    (w : Looping layout start end mode count p n from s before at due place total next names rows t) where
  module _ {x : Entry} (h : EntryIs 30 mode due (Here s at) x) where
    pub all-summed : {e : ℕ} → x ≡ End e → AllSummed layout start end mode count p n from s before place total names
    all-summed is = record { next = next; are = walked.holds-of-all w.walking h is }

    module _ {k : ℕ} (is : x ≡ Value k) {e : ℕ} (ended : e ≡ code (item_end 30 (Here s (at + k)))) where
      -- where a value is faulty there are no pairs
      pub none_read : length s - (at + k) < e → AllSummed layout start end mode count p n from s before place total names
      none_read l = record { next = next; are = walked.no_pairs w.walking h is ended l _ }

      module _ (l : e ≤ length s - (at + k)) where
        pub turn-less : length s - (at + k + e) < length s - at
        turn-less = omega (arith, walked.value-inside w.walking h is, walked.goes_on w.walking h is ended l, l)

-- a turn, in the code's terms: the value at `at + k` takes e bytes, and its rows are left in t'
module _ {layout start end mode count p n from : ℕ} {s before : List ℕ} {at due place total next : ℕ} {names rows t : List ℕ}
    (w : Looping layout start end mode count p n from s before at due place total next names rows t) {x : Entry} (h : EntryIs 30 mode due (Here s at) x) {k : ℕ} (is : x ≡ Value k)
    {e : ℕ} (ended : e ≡ code (item_end 30 (Here s (at + k)))) (l : e ≤ length s - (at + k)) where
  pub loops-on : {t' : List ℕ} → WholePut layout (Here s at) (Here s (at + k)) start end 0 0 object_width t t' → length t' ≡ length t → {rows' : List ℕ} → length rows' ≡ length rows
      → {place' total' : ℕ} → Added t' place total place' total' × Small place' total'
      → {names' : List ℕ} → names' ≡ sets names next (get_or t' 0 0 ∷ get_or t' 1 0 ∷ []) → length names' ≡ length names → {next' : ℕ} → (next + 2 ≤ length names' → next' ≡ next + 2)
      → Looping layout start end mode count p n from s before (at + k + e) (due - 2) place' total' next' names' rows' t'
  loops-on put window room sum {names'} named long further =
      let long-so : length names' ≡ length before = long ∙ w.long in
      let wide = w.window in
      record {
        walking = walked.one-more-lent w.walking h is ended l (λ done x key value so.
            one-more-summed layout start (Here s at) (Here s (at + k)) t (omega (arith, wide)) put sum.0 named (λ h. further (omega (arith, h, long-so))) x key value so);
        long = long-so;
        small = sum.1;
        window = window ∙ w.window;
        room = room ∙ w.room;
      }

-- ---------------------------------------------------------------- the whole map, lent whole to `walk::map`, which answered x

module _ (layout : ℕ) (s : List ℕ) (start end p n from : ℕ) (before : List ℕ) (q j : ℕ) (after : List ℕ) (x : Option Opening) (h : MapIs (Here s 0) x) where
  pub no-map : x ≡ None → Measured layout start end p n from s before q j after
  unfolding objects_of names
  no-map e t u r os is w =
      let z = opens.opening s x h None e 30 t u r in
      let y : objects_of (layout_of layout) start t ≡ refuse 8 0 0 = rw z refl in
      let v : pass os ≡ refuse 8 0 0 = sym is ∙ y in absurd (let o : ◌≡◌ {A = ℕ} 0 1 = cc in omega arith)

  pub map-measured : (op : Opening) → x ≡ Some op → AllSummed layout start end op.mode op.count p n from (Here s op.size) before q j after
      → Measured layout start end p n from s before q j after
  unfolding objects_of
  map-measured op e all t u r os is w =
      let o = (opens.opened s x h op e).trees 30 t u r in
      let a = subst (λ v. AllSummed layout start end op.mode op.count p n from v before q j after) (part_to_end s op.size) all in
      let g = entering.all-entered (entry layout start) object_limit t o.pairs o.kind-is os is in
      let sum = a.are o.pairs o.last o.due os g w in
      (sum.sum, λ room. (sum.names room).1)
