-- One object more, judged for itself: what is kept and dropped, the sums, the table and the list are those of one verdict more.
use Prim.Native.Nat.{ℕ, suc, ◌+◌, ◌-◌, ◌*◌, ◌^◌, ◌≤◌, ◌<◌}
use native.Mathlib.Nat.{zero-add}
use native.Mathlib.Omega.{arith}
use mathlib.Core.List.{List, [], ◌∷◌, ◌++◌, map, append-nil, append_assoc}
use mathlib.Core.Bool.{Bool, true}
use mathlib.Core.Path.{◌≡◌, refl, sym, ap, ap₂, ◌∙◌, subst}
use lib.ListN.{length, length-append, length-map}
use lib.Seq.{sets}
use borrow.Author.Tests.{le-leb}
use borrow.Author.Rules.{part_to_end}
use Rattle.meaning.specs.Columns.{object_width, component_width}
use Rattle.meaning.specs.Limit.{object_limit}
use Rattle.meaning.specs.Tree.{Pair}
use Rattle.meaning.specs.Check.{Check, pass, refuse, ◌>>=◌, each}
use Rattle.meaning.specs.Read.{Span}
use Rattle.meaning.specs.Model.{Named, Object}
use Rattle.meaning.specs.Notes.{map_object}
use Rattle.meaning.specs.Field.{name_of, names}
use Rattle.meaning.specs.Judge.{object}
use Rattle.meaning.specs.Layouts.{layout_of}
use Rattle.meaning.specs.Rows.{object_row, object_rows, rows_of, component_rows, component_count}
use Rattle.meaning.proofs.Checks.{pass_same}
use Rattle.meaning.proofs.Lengths.{object-length, objects-length, components-length, count-snoc}
use Rattle.meaning.specs.Every.{Every}
use Rattle.cbor.specs.Ending.{code, item_end}
use Rattle.walk.specs.Reading.{Ends, Reads}
use Rattle.walk.specs.Places.{Modes, MapIs, EntryIs}
use Rattle.walk.specs.declared.Opening.{Opening}
use Rattle.walk.specs.declared.Entry.{Entry}
use Rattle.walk.specs.declared.Entry.TheVariants.{End, Value}
use Rattle.walk.proofs.Opens as opens
use Rattle.walk.proofs.Passed as walked
use Rattle.walk.proofs.Passed.{Here, Passed}
use Rattle.naming.proofs.NameNoted.{map_snoc}
use Rattle.object.specs.Verdict.{ObjectIs, judged}
use Rattle.objects.specs.Found.{judging}
use Rattle.objects.proofs.Few.{few-in-judging}
use Rattle.table.specs.Spans.{span_of}
use Rattle.table.specs.Object.{object_in}
use Rattle.table.specs.Rows.{rows_in}
use Rattle.table.specs.Objects.{objects_in, components_in}
use Rattle.table.proofs.Runs as laying
use Rattle.table.proofs.MapEntries as entering
use Rattle.table.proofs.ObjectLoop.{count-mapped}
use Rattle.table.proofs.ComponentRow.{named-pair}
use Rattle.window.specs.Summed.{InWindow, spans}
use Rattle.window.proofs.Snoc as snoc
use Rattle.rescuing.specs.Sift.{Dropped, kept, dropped, verdicts}
use Rattle.rescuing.specs.Rescue.{entry_width, entries}
use Rattle.rescuing.proofs.Parted.{all-counted}
use Rattle.sieve.specs.declared.Sieve.{Sieve}
use Rattle.sieve.specs.Sieved.{Bounded, Keeps, Omits, SieveOf, Steps, own, Sieved, AllSieved, Sifted}
use Rattle.sieve.proofs.ObjectPut.{one_more, none-bounded}
use Rattle.std.specs.Prelude.{Some, None, Ok, Err, Result, Option}
use Rattle.numbers.specs.declared.fault.ObjectFault.{ObjectFault}
use Rattle.numbers.specs.Answered.{in_object}
use Rattle.numbers.specs.Numbered.{number_of}

-- ---- one verdict more

module _ {P : Type 0} where
  kept-pass : (ks : List (Check (Object P))) (o : Object P) → kept (ks ++ pass o ∷ []) ≡ kept ks ++ o ∷ []
  unfolding kept
  kept-pass [] o = refl
  kept-pass (pass x ∷ ks) o = ap (λ (r : List (Object P)). x ∷ r) (kept-pass ks o)
  kept-pass (refuse n i c ∷ ks) o = kept-pass ks o

  kept-refuse : (ks : List (Check (Object P))) (n i c : ℕ) → kept (ks ++ refuse n i c ∷ []) ≡ kept ks
  unfolding kept
  kept-refuse [] n i c = refl
  kept-refuse (pass x ∷ ks) n i c = ap (λ (r : List (Object P)). x ∷ r) (kept-refuse ks n i c)
  kept-refuse (refuse m j d ∷ ks) n i c = kept-refuse ks n i c

  dropped-pass : (i : ℕ) (ks : List (Check (Object P))) (o : Object P) → dropped i (ks ++ pass o ∷ []) ≡ dropped i ks
  unfolding dropped
  dropped-pass i [] o = refl
  dropped-pass i (pass x ∷ ks) o = dropped-pass (suc i) ks o
  dropped-pass i (refuse n j c ∷ ks) o = ap (λ (r : List Dropped). record { index = i; number = n; component = c } ∷ r) (dropped-pass (suc i) ks o)

  dropped-refuse : (i : ℕ) (ks : List (Check (Object P))) (n j c : ℕ) → dropped i (ks ++ refuse n j c ∷ []) ≡ dropped i ks ++ record { index = i + length ks; number = n; component = c } ∷ []
  unfolding dropped
  dropped-refuse i [] n j c = let e : i ≡ i + 0 = omega arith in ap (λ (i : ℕ). record { index = i; number = n; component = c } ∷ []) e
  dropped-refuse i (pass x ∷ ks) n j c =
      let e : suc i + length ks ≡ i + suc (length ks) = omega arith in
      dropped-refuse (suc i) ks n j c ∙ ap (λ (k : ℕ). dropped (suc i) ks ++ record { index = k; number = n; component = c } ∷ []) e
  dropped-refuse i (refuse m l d ∷ ks) n j c =
      let e : suc i + length ks ≡ i + suc (length ks) = omega arith in
      ap (λ (r : List Dropped). record { index = i; number = m; component = d } ∷ r) (dropped-refuse (suc i) ks n j c ∙ ap (λ (k : ℕ). dropped (suc i) ks ++ record { index = k; number = n; component = c } ∷ []) e)

entries-snoc : (ds : List Dropped) (d : Dropped) → entries (ds ++ d ∷ []) ≡ entries ds ++ d.index ∷ d.number ∷ d.component ∷ []
unfolding entries
entries-snoc [] d = refl
entries-snoc (x ∷ ds) d = ap (λ (r : List ℕ). x.index ∷ x.number ∷ x.component ∷ r) (entries-snoc ds d)

pub entries-length : (ds : List Dropped) → length (entries ds) ≡ entry_width * length ds
unfolding entries
entries-length [] = refl
entries-length (d ∷ ds) = let e = entries-length ds in omega (arith, e)

-- ---- rows of one object more

objects-snoc : (os : List (Object Span)) (o : Object Span) → object_rows (os ++ o ∷ []) ≡ object_rows os ++ object_row o
unfolding object_rows
objects-snoc [] o = append-nil (object_row o)
objects-snoc (x ∷ os) o = ap (λ (r : List ℕ). object_row x ++ r) (objects-snoc os o) ∙ sym (append_assoc (object_row x) (object_rows os) (object_row o))

components-snoc : (i : ℕ) (os : List (Object Span)) (o : Object Span) → component_rows i (os ++ o ∷ []) ≡ component_rows i os ++ rows_of (i + length os) o.components
unfolding component_rows
components-snoc i [] o = let e : i ≡ i + 0 = omega arith in append-nil (rows_of i o.components) ∙ ap (λ (i : ℕ). rows_of i o.components) e
components-snoc i (x ∷ os) o =
    let e : suc i + length os ≡ i + suc (length os) = omega arith in
    ap (λ (r : List ℕ). rows_of i x.components ++ r) (components-snoc (suc i) os o ∙ ap (λ (k : ℕ). component_rows (suc i) os ++ rows_of k o.components) e)
    ∙ sym (append_assoc (rows_of i x.components) (component_rows (suc i) os) (rows_of (i + suc (length os)) o.components))

module _ (end from : ℕ) (before : List ℕ) (os : List (Object Ends)) (o : Object Ends) where
  -- rows of `os` in the table, and then those of o behind each of both parts
  laid_more : (t : List ℕ) → t ≡ sets (sets before 0 (objects_in end os)) from (components_in end os) → object_width * length os + object_width ≤ from
      → sets (sets t (object_width * length os) (object_in end o)) (from + component_width * component_count os) (rows_in end (length os) o.components)
      ≡ sets (sets before 0 (objects_in end (os ++ o ∷ []))) from (components_in end (os ++ o ∷ []))
  laid_more t is low =
      let O : List ℕ = object_in end o in let A : List ℕ = objects_in end os in let B : List ℕ = components_in end os in let R : List ℕ = rows_in end (length os) o.components in
      let na : length A ≡ object_width * length os = objects-length (map (map_object (span_of end)) os) ∙ ap (λ (n : ℕ). object_width * n) (length-map os (map_object (span_of end))) in
      let nb : length B ≡ component_width * component_count os = components-length 0 (map (map_object (span_of end)) os) ∙ ap (λ (n : ℕ). component_width * n) (count-mapped end os) in
      let row : object_width * length os ≡ 0 + length A = sym (zero-add (length A) ∙ na) in
      let next : from + component_width * component_count os ≡ from + length B = ap (λ (n : ℕ). from + n) (sym nb) in
      let no : length O ≡ object_width = object-length (map_object (span_of end) o) in
      let short : object_width * length os + length O ≤ from = omega (arith, low, no) in
      let n-is : 0 + length (map (map_object (span_of end)) os) ≡ length os = zero-add (length (map (map_object (span_of end)) os)) ∙ length-map os (map_object (span_of end)) in
      let rows-so : objects_in end (os ++ o ∷ []) ≡ A ++ O = ap object_rows (map_snoc (map_object (span_of end)) os o) ∙ objects-snoc (map (map_object (span_of end)) os) (map_object (span_of end) o) in
      let parts-so : components_in end (os ++ o ∷ []) ≡ B ++ R =
      ap (component_rows 0) (map_snoc (map_object (span_of end)) os o) ∙ components-snoc 0 (map (map_object (span_of end)) os) (map_object (span_of end) o)
      ∙ ap (λ (i : ℕ). B ++ rows_of i (map_object (span_of end) o).components) n-is in
      ap (λ (t : List ℕ). sets (sets t (object_width * length os) O) (from + component_width * component_count os) R) is
      ∙ ap (λ (t : List ℕ). sets t (from + component_width * component_count os) R) (laying.sets-commute O B (sets before 0 A) (object_width * length os) from short)
      ∙ ap₂ (λ (i j : ℕ). sets (sets (sets (sets before 0 A) i O) from B) j R) row next
      ∙ sym (laying.sets-append B R (sets (sets before 0 A) (0 + length A) O) from)
      ∙ ap (λ (t : List ℕ). sets t from (B ++ R)) (sym (laying.sets-append A O before 0))
      ∙ ap₂ (λ (x y : List ℕ). sets (sets before 0 x) from y) (sym rows-so) (sym parts-so)

-- ---- an object that is refused

module _ (layout : ℕ) (s c : List ℕ) (start end : ℕ) (fill : Bool) (from : ℕ) (have : Sieve) (t list : List ℕ) (z : Sieve) where
  -- the verdict that was answered is the object's own
  judged-own : (v : Result ℕ ObjectFault) → ObjectIs (layout_of layout) (Here c 0) start v → (x : Pair Ends) (r : List ℕ) → Reads 30 c x.value r → (m : Named Ends) → name_of x ≡ pass m → in_object v ≡ judged (object (layout_of layout) start m)
  judged-own v is x r value m named =
      let b : Reads 30 (Here c 0) x.value r = subst (λ u. Reads 30 u x.value r) (sym (part_to_end c 0)) value in
      is x.value r b m.name ∙ ap (λ (m : Named Ends). judged (object (layout_of layout) start m)) (sym (named-pair x m named).is)

  pub steps-omit : (list' : List ℕ) (v : Result ℕ ObjectFault) → ObjectIs (layout_of layout) (Here c 0) start v → (f : ObjectFault) → v ≡ Err f → Omits fill (number_of f.refusal) f.component have list z list' → Steps layout s c start end fill from have t list z t list'
  steps-omit list' v is f e om x d u r key value m named before list₀ ks same-t same-list few h = go (object (layout_of layout) start m) (ap in_object (sym e) ∙ judged-own v is x r value m named)
    where
      go : (q : Check (Object Ends)) → refuse (number_of f.refusal) 0 f.component ≡ judged q → SieveOf end fill from before list₀ z t list' (ks ++ q ∷ [])
      go (pass o) w = absurd (let y : ◌≡◌ {A = ℕ} 0 1 = cc in omega (arith, y))
      go (refuse n' j k') w =
          let n-is : number_of f.refusal ≡ n' = cc in let k-is : f.component ≡ k' = cc in
          let same : kept (ks ++ refuse n' j k' ∷ []) ≡ kept ks = kept-refuse ks n' j k' in
          let one : Dropped = record { index = 0 + length ks; number = n'; component = k' } in
          let more-dropped : dropped 0 (ks ++ refuse n' j k' ∷ []) ≡ dropped 0 ks ++ one ∷ [] = dropped-refuse 0 ks n' j k' in
          let all = all-counted 0 ks in let kept-now = h.keeps in let drops-now = h.drops in
          let below : have.dropped < 1024 = omega (arith, all, few, drops-now) in
          let size : length (dropped 0 ks ++ one ∷ []) ≡ length (dropped 0 ks) + 1 = length-append (dropped 0 ks) (one ∷ []) in
          let counted = om.dropped in let up = one_more have.dropped below in
          let d-is : z.dropped ≡ length (dropped 0 ks ++ one ∷ []) = omega (arith, counted, up, size, drops-now) in
          record {
            keeps = om.kept ∙ h.keeps ∙ sym (ap length same);
            drops = d-is ∙ sym (ap length more-dropped);
            holds = om.components ∙ h.holds ∙ sym (ap component_count same);
            few = rw same h.few;
            weighs = λ f w. rw (om.place, om.total, same) (h.weighs f (rw same at w));
            lays = λ f low room. rw same (h.lays f (rw same at low) (rw same at room));
            lists = λ f room.
                let wide = ap (λ (ds : List Dropped). entry_width * length ds) more-dropped in
                let old = h.lists f (omega (arith, room, wide, size)) in
                let place : entry_width * have.dropped ≡ 0 + length (entries (dropped 0 ks)) = (let y = entries-length (dropped 0 ks) in omega (arith, y, drops-now)) in
                let index : have.kept + have.dropped ≡ 0 + length ks = omega (arith, all, kept-now, drops-now) in
                om.lists f ∙ rw (n-is, k-is, old, place, index)
                (sym (laying.sets-append (entries (dropped 0 ks)) ((0 + length ks) ∷ n' ∷ k' ∷ []) list₀ 0) ∙ ap (sets list₀ 0) (sym (entries-snoc (dropped 0 ks) one) ∙ ap entries (sym more-dropped)));
          }

  -- ---- an object that passes

  pub steps-keep : (t' : List ℕ) (v : Result ℕ ObjectFault) → ObjectIs (layout_of layout) (Here c 0) start v → (m : ℕ) → v ≡ Ok m → Keeps layout (Here s 0) (Here c 0) start end fill from m have t z t' → Steps layout s c start end fill from have t list z t' list
  unfolding judging
  steps-keep t' v is m e kp x d u r key value nm named before list₀ ks same-t same-list few h = go (object (layout_of layout) start nm) refl (ap in_object (sym e) ∙ judged-own v is x r value nm named)
    where
      go : (q : Check (Object Ends)) → object (layout_of layout) start nm ≡ q → pass m ≡ judged q → SieveOf end fill from before list₀ z t' list (ks ++ q ∷ [])
      go (refuse n j k) p w = absurd (let y : ◌≡◌ {A = ℕ} 0 1 = cc in omega (arith, y))
      go (pass o) p w =
          let m-is : m ≡ length o.components = cc in
          let same : kept (ks ++ pass o ∷ []) ≡ kept ks ++ o ∷ [] = kept-pass ks o in
          let still : dropped 0 (ks ++ pass o ∷ []) ≡ dropped 0 ks = dropped-pass 0 ks o in
          let all = all-counted 0 ks in let kept-now = h.keeps in let held-now = h.holds in let f = h.few in
          let within = few-in-judging true (layout_of layout) start nm o p in
          let below : have.kept < 1024 = omega (arith, all, few, kept-now) in
          let size : length (kept ks ++ o ∷ []) ≡ length (kept ks) + 1 = length-append (kept ks) (o ∷ []) in
          let total : component_count (kept ks ++ o ∷ []) ≡ component_count (kept ks) + length o.components = count-snoc (kept ks) o in
          let up = one_more have.kept below in let counted = kp.kept in
          let room : have.components ≤ 16368 = omega (arith, held-now, f, all, few) in
          let summed : z.components ≡ have.components + m = kp.components ∙ rw (le-leb m 16 (omega (arith, m-is, within)), le-leb have.components 16368 room) refl in
          let one = kp.one x d u r (subst (λ v. Reads (suc d) v x.key u) (sym (part_to_end s 0)) key) (subst (λ v. Reads 30 v x.value r) (sym (part_to_end c 0)) value) nm named o p in
          let k-is : z.kept ≡ length (kept ks ++ o ∷ []) = omega (arith, counted, up, size, kept-now) in
          let h-is : z.components ≡ component_count (kept ks ++ o ∷ []) = omega (arith, summed, total, held-now, m-is) in
          record {
            keeps = k-is ∙ sym (ap length same);
            drops = kp.dropped ∙ h.drops ∙ sym (ap length still);
            holds = h-is ∙ sym (ap component_count same);
            few = rw same (omega (arith, f, total, size, within));
            weighs = λ no w.
                let w' : Every InWindow (kept ks ++ o ∷ []) = rw same at w in
                let these : spans end (kept ks ++ o ∷ []) ≡ spans end (kept ks) ++ map_object (span_of end) o ∷ [] = map_snoc (map_object (span_of end)) (kept ks) o in
                rw (same, these) (snoc.one_more (spans end (kept ks)) (map_object (span_of end) o) (h.weighs no (snoc.every_front InWindow (kept ks) o w')) (one.weighs no (snoc.every-last InWindow (kept ks) o w')));
            lays = λ yes low fits.
                let wide = ap (λ (os : List (Object Ends)). object_width * length os) same in let long = ap (λ (os : List (Object Ends)). component_width * component_count os) same in
                let old = h.lays yes (omega (arith, low, wide, size)) (omega (arith, fits, long, total)) in
                let put = one.lays yes (omega (arith, low, wide, size, kept-now)) (omega (arith, fits, long, total, held-now, same-t)) in
                put ∙ (rw (same, kept-now, held-now) (laid_more end from before (kept ks) o t old (omega (arith, low, wide, size))));
            lists = λ yes fits. rw still (h.lists yes (rw still at fits));
          }

-- ---------------------------------------------------------------- a turn of the loop over the entries of the `objects` map

none-sieved : (layout start end : ℕ) (fill : Bool) (from : ℕ) (t list : List ℕ) → Sieved layout start end fill from t list (record { kept = 0; dropped = 0; components = 0; place = 8; total = 0 }) t list []
unfolding kept dropped component_count entries object_rows component_rows
none-sieved layout start end fill from t list ks e few =
    let z = entering.none-entered (own layout start) ks e in
    subst (SieveOf end fill from t list (record { kept = 0; dropped = 0; components = 0; place = 8; total = 0 }) t list) (sym z) (record {
      keeps = refl;
      drops = refl;
      holds = refl;
      few = omega arith;
      weighs = λ f w. snoc.no-sum 8 0 (omega arith) (omega arith);
      lays = λ f low room. refl;
      lists = λ f room. refl;
    })

-- one more object, whose key begins s and whose value begins c
module _ (layout start : ℕ) (s c : List ℕ) {end : ℕ} {fill : Bool} {from : ℕ} {before list₀ : List ℕ} {have : Sieve} {t list : List ℕ} {z : Sieve} {t' list' : List ℕ} (same-t : length t ≡ length before) (same-list : length list ≡ length list₀)
    (steps : Steps layout s c start end fill from have t list z t' list') where
  one-more-sieved : {done : List (Pair Ends)} (x : Pair Ends) {u r : List ℕ} → Reads 30 s x.key u → Reads 30 c x.value r
      → Sieved layout start end fill from before list₀ have t list done → Sieved layout start end fill from before list₀ z t' list' (done ++ x ∷ [])
  one-more-sieved {done} x {u} {r} key value sieved ks e few =
      let l = entering.last-entered (own layout start) done x ks e in
      let size : length ks ≡ length l.front + 1 = ap length l.are ∙ length-append l.front (l.last ∷ []) in
      let own_is : object (layout_of layout) start l.name ≡ l.last = pass_same l.last-is in
      let old = sieved l.front l.before (omega (arith, few, size)) in
      let new = steps x 29 u r key value l.name l.name-is before list₀ l.front same-t same-list (omega (arith, few, size)) old in
      subst (SieveOf end fill from before list₀ z t' list') (ap (λ (q : Check (Object Ends)). l.front ++ q ∷ []) own_is ∙ sym l.are) new

-- ---- the loop

-- up to `at`, with `due` items due
pub record Looping (layout start end mode count : ℕ) (fill : Bool) (from : ℕ) (s before list₀ : List ℕ) (at due : ℕ) (have : Sieve) (t list : List ℕ) : Type 0 where
  pub walking : Passed 30 mode count s at due (Sieved layout start end fill from before list₀ have t list)
  pub long : length t ≡ length before
  pub listed : length list ≡ length list₀
  pub bounded : Bounded have

pub loop-starts : (layout start end mode count : ℕ) (fill : Bool) (from : ℕ) (s before list₀ : List ℕ) → Modes mode count → length s * 1 < 2 ^ 63
    → Looping layout start end mode count fill from s before list₀ 0 count (record { kept = 0; dropped = 0; components = 0; place = 8; total = 0 }) before list₀
loop-starts layout start end mode count fill from s before list₀ modes lent =
    record { walking = walked.passed-starts modes (omega arith) (none-sieved layout start end fill from before list₀); long = refl; listed = refl; bounded = none-bounded }

module _ {layout start end mode count : ℕ} {fill : Bool} {from : ℕ} {s before list₀ : List ℕ} {at due : ℕ} {have : Sieve} {t list : List ℕ} (w : Looping layout start end mode count fill from s before list₀ at due have t list)
    {x : Entry} (h : EntryIs 30 mode due (Here s at) x) where
  pub all-sieved : {e : ℕ} → x ≡ End e → AllSieved layout start end mode count fill from s before list₀ have t list
  all-sieved is = walked.holds-of-all w.walking h is

  -- a turn, in the code's terms: the value at `at + k` takes e bytes
  module _ {k : ℕ} (is : x ≡ Value k) {e : ℕ} (ended : e ≡ code (item_end 30 (Here s (at + k)))) where
    pub none-there : length s - (at + k) < e → (z : Sieve) (t' list' : List ℕ) → AllSieved layout start end mode count fill from s before list₀ z t' list'
    none-there l z t' list' = walked.no_pairs w.walking h is ended l _

    pub loops-on : e ≤ length s - (at + k) → {z : Sieve} {t' list' : List ℕ} → Steps layout (Here s at) (Here s (at + k)) start end fill from have t list z t' list' → Bounded z → length t' ≡ length t → length list' ≡ length list
        → Looping layout start end mode count fill from s before list₀ (at + k + e) (due - 2) z t' list'
    loops-on l steps bounded long listed = record {
      walking = walked.one-more-lent w.walking h is ended l (λ done x key value so. one-more-sieved layout start (Here s at) (Here s (at + k)) w.long w.listed steps x key value so);
      long = long ∙ w.long;
      listed = listed ∙ w.listed;
      bounded = bounded;
    }

-- ---------------------------------------------------------------- the whole map, lent whole to `walk::map`, which answered x

module _ (layout : ℕ) (s : List ℕ) (start end : ℕ) (fill : Bool) (from : ℕ) (before list₀ : List ℕ) (z : Sieve) (after list : List ℕ) (x : Option Opening) (h : MapIs (Here s 0) x) where
  pub no-map : x ≡ None → Sifted layout s start end fill from before list₀ z after list
  unfolding names
  no-map e t u r ns is few =
      let w = opens.opening s x h None e 30 t u r in
      let y : names object_limit t ≡ refuse 8 0 0 = rw w refl in
      let v : pass ns ≡ refuse 8 0 0 = sym is ∙ y in
      absurd (let o : ◌≡◌ {A = ℕ} 0 1 = cc in omega (arith, o))

  each-own : (i : ℕ) (ns : List (Named Ends)) → each (own layout start) i ns ≡ pass (verdicts (layout_of layout) start ns)
  unfolding verdicts
  each-own i [] = refl
  each-own i (n ∷ ns) = rw (each-own (suc i) ns) refl

  pub map-sifted : (op : Opening) → x ≡ Some op → AllSieved layout start end op.mode op.count fill from (Here s op.size) before list₀ z after list → Sifted layout s start end fill from before list₀ z after list
  unfolding verdicts
  map-sifted op e all t u r ns is few =
      let o = (opens.opened s x h op e).trees 30 t u r in
      let a = subst (λ v. AllSieved layout start end op.mode op.count fill from v before list₀ z after list) (part_to_end s op.size) all in
      let ks : List (Check (Object Ends)) = verdicts (layout_of layout) start ns in
      let both : (names object_limit t >>= each (own layout start) 0) ≡ pass ks = rw is (each-own 0 ns) in
      let g = entering.all-entered (own layout start) object_limit t o.pairs o.kind-is ks both in
      let size_is : length ks ≡ length ns = length-map ns (object (layout_of layout) start) in
      a o.pairs o.last o.due ks g (omega (arith, few, size_is))
