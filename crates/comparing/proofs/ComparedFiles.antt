-- What comparing answers: of the list that two tables have, of a refusal, and of two files that were read one after the other into one room.
use Prim.Native.Nat.{ℕ, ◌+◌, ◌-◌, ◌*◌, ◌/◌, ◌^◌, ◌≤◌, ◌<◌}
use native.Mathlib.Nat.{zero-add}
use native.Mathlib.Omega.{arith}
use mathlib.Core.List.{List, [], ◌∷◌, ◌++◌, append_assoc, append-nil}
use mathlib.Core.Bool.{Bool, true, false}
use mathlib.Core.Path.{◌≡◌, refl, sym, ap, ap₂, ◌∙◌, subst₂}
use lib.ListN.{length, take, drop, replicate, length-append, length-drop}
use lib.Seq.{length-take-le, sets, sets-eq, take_at, drop_at}
use lib.Dec.{leb}
use mir.Syntax.{w64}
use mir.Val.{Fits}
use borrow.Author.Rules.{part_to_end}
use borrow.Author.Tests.{le-leb, lt-leb, leb-true, leb-false}
use Rattle.meaning.specs.Columns.{object_width, component_width}
use Rattle.meaning.specs.Check.{Check, pass, refuse}
use Rattle.meaning.specs.Refusal.{ROOM}
use Rattle.meaning.specs.Layouts.{Layout, layout_of}
use Rattle.meaning.specs.Frame.{Reading, reading}
use Rattle.meaning.specs.Rows.{rows, room_for, roomy, component_count, answer, table_after, read_into}
use Rattle.meaning.specs.Described.{DescribedObject, described_by}
use Rattle.meaning.proofs.Lengths.{rows_fill}
use Rattle.reader.specs.declared.into.Answer.{Answer}
use Rattle.reader.specs.Answer.{answered}
use Rattle.frame.proofs.Frames.{size_back_lem}
use Rattle.shown.specs.Accepted.{Framing}
use Rattle.reader.specs.declared.Verdict.{Verdict}
use Rattle.reader.specs.Verdict.{verdict}
use Rattle.shown.proofs.AcceptedFile.{refusals-of-reading}
use Rattle.shown.proofs.AfterReading.{read-accepts, read-zero}
use Rattle.put.specs.Wrote.{capped, Wrote}
use Rattle.put.proofs.PiecesInTurn.{capped-low}
use Rattle.changes.specs.Changes.{Entry, flat, entry, changes, change_numbers, across, object, of_object, if_absent}
use Rattle.parts.proofs.Turns.{across-same}
use Rattle.models.specs.Tables.{Table, objects_from, changes_of}
use Rattle.comparing.specs.declared.Changes.{Changes}
use Rattle.comparing.specs.Comparison as is
use Rattle.comparing.proofs.Bound.{numbers-few}
use Rattle.comparing.proofs.OfModel.{table_of, objects-are}

-- ---- the list, as far as it fits

abbrev pub Answered : List ℕ → Changes → List ℕ → List ℕ → Type 0
Answered ns r xs ys = (r ≡ is.fitting ns (length xs)) × (ys ≡ is.list_after ns xs)

abbrev listing : ℕ → Changes
listing k = record { number = 0; file = 0; object = 0; component = 0; entries = k / 8 }

-- by the tables of both: a list of one number told how many there are
module _ (first a : List ℕ) (m : ℕ) (second b : List ℕ) (n : ℕ) (s : Table a m) (t : Table b n) {scrap scrap' : List ℕ} {k : ℕ}
    (counted : Wrote (is.numbers_of first a m second b n) 0 scrap scrap' k) (xs : List ℕ) where
  abbrev ns : List ℕ
  ns = is.numbers_of first a m second b n

  exact : k ≡ length ns
  exact = counted.past ∙ ap capped (zero-add (length ns)) ∙ capped-low (length ns) (numbers-few first a m second b n s t)

  module _ (h : length xs < k) where
    over : leb (length ns) (length xs) ≡ false
    over = lt-leb (length ns) (length xs) (let e = exact in omega (arith, h, e))

    pub too-long-told : is.no_room (k / 8) ≡ is.fitting ns (length xs)
    unfolding is.fitting
    too-long-told = rw (over, exact) refl

    pub too-long-kept : xs ≡ is.list_after ns xs
    unfolding is.list_after
    too-long-kept = rw over refl

  fitted : k ≤ length xs → leb (length ns) (length xs) ≡ true
  fitted h = le-leb (length ns) (length xs) (let e = exact in omega (arith, h, e))

  pub whole-told : k ≤ length xs → listing k ≡ is.fitting ns (length xs)
  unfolding is.fitting
  whole-told h = rw (fitted h, exact) refl

  stored : k ≤ length xs → {ys : List ℕ} → ys ≡ sets xs 0 ns → ys ≡ is.list_after ns xs
  unfolding is.list_after
  stored h w = rw (fitted h) (w ∙ sets-eq ns xs 0 (let e = exact in omega (arith, h, e)) ∙ ap (λ (j : ℕ). ns ++ drop j xs) (zero-add (length ns)))

  pub whole-written : k ≤ length xs → {ys : List ℕ} {j : ℕ} → Wrote ns 0 xs ys j → ys ≡ is.list_after ns xs
  whole-written h w = stored h w.stored

  -- where there are none, the list is as if they were written
  pub none_written : k ≤ 0 → xs ≡ is.list_after ns xs
  none_written h = stored (omega arith) (by ns (let e = exact in omega (arith, h, e)))
    where
      by : (ms : List ℕ) → length ms ≤ 0 → xs ≡ sets xs 0 ms
      by [] l = refl
      by (a ∷ ms) l = absurd (omega arith)

-- ---- a refusal

module _ (first second : List ℕ) (work : ℕ) where
  -- two files that are accepted have too many rows
  abbrev pub NotBoth : Check Reading → Check Reading → Type 0
  NotBoth x y = (r s : Reading) → x ≡ pass r → y ≡ pass s → work < room_for r.model + room_for s.model

  pub refused-so : (x y : Check Reading) → NotBoth x y → (list : List ℕ)
      → (is.refused_by x y ≡ is.told (is.compared_by first second work x y) (length list)) × (list ≡ is.after (is.compared_by first second work x y) list)
  unfolding is.told is.compared_by is.after
  refused-so (refuse n o c) y h list = (refl, refl)
  refused-so (pass r) (refuse n o c) h list = (refl, refl)
  refused-so (pass r) (pass s) h list = let e = lt-leb (room_for r.model + room_for s.model) work (h r s refl refl) in (rw e refl, rw e refl)

module _ (x y : Check Reading) {v : Verdict} (e : v ≡ verdict x) where
  pub says_first : (v.number ≡ 0 → ⊥) → ◌≡◌ {A = Changes} (record { number = v.number; file = 1; object = v.object; component = v.component; entries = 0 }) (is.refused_by x y)
  says_first h = by x e
    where
      by : (x : Check Reading) → v ≡ verdict x → ◌≡◌ {A = Changes} (record { number = v.number; file = 1; object = v.object; component = v.component; entries = 0 }) (is.refused_by x y)
      by (pass r) f = absurd (h (ap (λ (u : Verdict). u.number) f))
      by (refuse n o c) f = rw f refl

accepted-zero : (L : Layout) → Framing L → (file : List ℕ) {v : Verdict} → v ≡ verdict (reading L file) → v.number ≡ 0 → (r : Reading) × (reading L file ≡ pass r)
accepted-zero L framing file {v} e z = by (reading L file) refl e
  where
    by : (k : Check Reading) → reading L file ≡ k → v ≡ verdict k → (r : Reading) × (k ≡ pass r)
    by (pass r) f g = (r, refl)
    by (refuse n o c) f g = absurd (let h = (refusals-of-reading L framing file n o c f).0 in let y : v.number ≡ n = ap (λ (u : Verdict). u.number) g in omega (arith, h, y, z))

module _ (L M : Layout) (framing : Framing L) (framed : Framing M) (first second : List ℕ) {v w : Verdict} (e : v ≡ verdict (reading L first)) (z : v.number ≡ 0) (f : w ≡ verdict (reading M second)) where
  pub says_second : (w.number ≡ 0 → ⊥)
      → ◌≡◌ {A = Changes} (record { number = w.number; file = 2; object = w.object; component = w.component; entries = 0 }) (is.refused_by (reading L first) (reading M second))
  says_second h = let q = accepted-zero L framing first e z in rw q.1 (by q.0 (reading M second) f)
    where
      by : (r : Reading) (y : Check Reading) → w ≡ verdict y
          → ◌≡◌ {A = Changes} (record { number = w.number; file = 2; object = w.object; component = w.component; entries = 0 }) (is.refused_by (pass r) y)
      by r (pass s) g = absurd (h (ap (λ (u : Verdict). u.number) g))
      by r (refuse n o c) g = rw g refl

  pub says-room : w.number ≡ 0 → is.no_room 0 ≡ is.refused_by (reading L first) (reading M second)
  says-room y = rw ((accepted-zero L framing first e z).1, (accepted-zero M framed second f y).1) refl

-- a file that isn't read is refused, or has too many rows
pub not-read : (L : Layout) (file : List ℕ) (room : ℕ) {a : Answer} → a ≡ answered (read_into L file room) → (a.number ≡ 0 → ⊥) → (r : Reading) → reading L file ≡ pass r → room < room_for r.model
unfolding read_into roomy
not-read L file room {a} e h r accepts = by (leb (room_for r.model) room) refl
  where
    by : (b : Bool) → leb (room_for r.model) room ≡ b → room < room_for r.model
    by false z = leb-false (room_for r.model) room z
    by true z = absurd (h (unfold answer in rw (e, accepts, z) refl))

-- ---- both are read

pub record Held (L : Layout) (file before after : List ℕ) (a : Answer) : Type 0 where
  pub reading-is : Reading
  pub accepts : reading L file ≡ pass reading-is
  pub objects : a.objects ≡ length reading-is.model.objects
  pub components : a.components ≡ component_count reading-is.model.objects
  pub fits : room_for reading-is.model ≤ length before
  pub holds : after ≡ rows reading-is.model ++ drop (room_for reading-is.model) before

room_fits : (L : Layout) (file : List ℕ) (room : ℕ) (r : Reading) → reading L file ≡ pass r → read_into L file room ≡ pass r → room_for r.model ≤ room
unfolding read_into roomy
room_fits L file room r accepts reads = by (leb (room_for r.model) room) refl
  where
    by : (b : Bool) → leb (room_for r.model) room ≡ b → room_for r.model ≤ room
    by true z = leb-true (room_for r.model) room z
    by false z = absurd (let q : refuse ROOM 0 0 ≡ pass r = rw (accepts, z) at reads in let y : ◌≡◌ {A = ℕ} 0 1 = cc in omega arith)

pub held : (L : Layout) → Framing L → (file before after : List ℕ) (a : Answer) → a ≡ answered (read_into L file (length before)) → after ≡ table_after before (read_into L file (length before))
    → a.number ≡ 0 → Held L file before after a
unfolding answer table_after
held L framing file before after a e t z =
    let y = read-zero L file (length before) framing (ap (λ (x : Answer). x.number) (sym e) ∙ z) in
    let r = y.0 in
    let q = y.1 in
    let p = read-accepts L file (length before) r q in
    let f : a ≡ answered (pass r) = e ∙ ap answered q in
    record {
      reading-is = r;
      accepts = p;
      objects = ap (λ (x : Answer). x.objects) f;
      components = ap (λ (x : Answer). x.components) f;
      fits = room_fits L file (length before) r p q;
      holds = t ∙ ap (table_after before) q;
    }

-- what two lists of objects give
same-changes : (first second : List ℕ) (r s : Reading) {os ps : List DescribedObject} → os ≡ (described_by first r.model).objects → ps ≡ (described_by second s.model).objects
    → flat (changes_of os ps) ≡ change_numbers (described_by first r.model) (described_by second s.model)
unfolding changes change_numbers
same-changes first second r s {os} {ps} e f =
    ap₂ {A = List Entry} {B = List Entry} (λ x y. flat (x ++ y))
    (across-same (λ x o. of_object (0 + x) o (object o.name ps)) (λ x o. of_object x o (object o.name ps)) (λ x o. ap (λ (i : ℕ). of_object i o (object o.name ps)) (zero-add x)) os)
    (across-same (λ x p. if_absent (entry 2 0 (0 + x) 0 0 0 0 0) (object p.name os)) (λ x p. if_absent (entry 2 0 x 0 0 0 0 0) (object p.name os))
    (λ x p. ap (λ (i : ℕ). if_absent (entry 2 0 i 0 0 0 0 0) (object p.name os)) (zero-add x)) ps)
    ∙ ap₂ {A = List DescribedObject} {B = List DescribedObject} (λ os ps. flat (across (λ x o. of_object x o (object o.name ps)) os ++ across (λ x p. if_absent (entry 2 0 x 0 0 0 0 0) (object p.name os)) ps)) e f

module _ {L : Layout} {file before after : List ℕ} {a : Answer} (h : Held L file before after a) where
  pub room-is : object_width * a.objects + component_width * a.components ≡ room_for h.reading-is.model
  unfolding room_for
  room-is = ap₂ {A = ℕ} {B = ℕ} (λ x y. object_width * x + component_width * y) h.objects h.components

  pub as_long : length after ≡ length before
  as_long =
      let f = h.fits in
      ap length h.holds
      ∙ (let l = length-append (rows h.reading-is.model) (drop (room_for h.reading-is.model) before) in
      let k = rows_fill h.reading-is.model in
      let d = length-drop (room_for h.reading-is.model) before in
      let z : length (rows h.reading-is.model ++ drop (room_for h.reading-is.model) before) ≡ length before = omega (arith, l, k, d, f) in z)

  pub room-lies : object_width * a.objects + component_width * a.components ≤ length after
  room-lies = let f = h.fits in let l = as_long in let e = room-is in omega (arith, f, l, e)

  front-rows : take (room_for h.reading-is.model) after ≡ rows h.reading-is.model
  front-rows =
      ap (take (room_for h.reading-is.model)) h.holds
      ∙ take_at (rows h.reading-is.model) (drop (room_for h.reading-is.model) before) (room_for h.reading-is.model) (rows_fill h.reading-is.model)

-- the first stands before `room`, the second from there on
module _ {L M : Layout} (framing : Framing L) (framed : Framing M) {first second work whole part left : List ℕ} {a b : Answer} {room : ℕ} (h : Held L first work whole a)
    (at : room ≡ object_width * a.objects + component_width * a.components) (k : Held M second part left b) (long : length part ≡ length whole - room) (rest : List ℕ) where
  abbrev both : List ℕ
  both = take room whole ++ (left ++ rest)

  abbrev r : Reading
  r = h.reading-is

  abbrev s : Reading
  s = k.reading-is

  room-so : room ≡ room_for r.model
  room-so = at ∙ room-is h

  begins : both ≡ rows r.model ++ (left ++ rest)
  begins = ap (λ (x : List ℕ). x ++ (left ++ rest)) (ap (λ (i : ℕ). take i whole) room-so ∙ front-rows h)

  sized : length (rows r.model) ≡ room
  sized = rows_fill r.model ∙ sym room-so

  front : take room both ≡ rows r.model ++ []
  front = ap (take room) begins ∙ take_at (rows r.model) (left ++ rest) room sized ∙ sym (append-nil (rows r.model))

  back : drop room both ≡ rows s.model ++ (drop (room_for s.model) part ++ rest)
  back =
      ap (drop room) begins ∙ drop_at (rows r.model) (left ++ rest) room sized ∙ ap (λ (x : List ℕ). x ++ rest) k.holds
      ∙ append_assoc (rows s.model) (drop (room_for s.model) part) rest

  pub both-asked : (room ≤ length both) × Table (take room both) a.objects × Table (drop room both) b.objects
  both-asked = (
    (let l = ap length begins ∙ length-append (rows r.model) (left ++ rest) in let z = sized in omega (arith, l, z)),
    subst₂ Table (sym front) (sym h.objects) (table_of L framing first r h.accepts []),
    subst₂ Table (sym back) (sym k.objects) (table_of M framed second s k.accepts (drop (room_for s.model) part ++ rest)),
  )

  numbers-are : is.numbers_of first (take room both) a.objects second (drop room both) b.objects ≡ change_numbers (described_by first r.model) (described_by second s.model)
  numbers-are =
      same-changes first second r s
      (ap₂ {A = List ℕ} {B = ℕ} (λ t n. objects_from first t n 0 n) front h.objects ∙ objects-are L framing first r h.accepts [])
      (ap₂ {A = List ℕ} {B = ℕ} (λ t n. objects_from second t n 0 n) back k.objects ∙ objects-are M framed second s k.accepts (drop (room_for s.model) part ++ rest))

  compared_is : is.compared L first M second (length work) ≡ is.listed (change_numbers (described_by first r.model) (described_by second s.model))
  unfolding is.compared is.compared_by
  compared_is =
      let f = k.fits in
      let l = as_long h in
      let z = room-so in
      let g = room-lies h in
      rw (h.accepts, k.accepts, le-leb (room_for r.model + room_for s.model) (length work) (omega (arith, f, l, z, long, g, at))) refl

  pub both_told : {c : Changes} (list : List ℕ) {list' : List ℕ}
      → Answered (is.numbers_of first (take room both) a.objects second (drop room both) b.objects) c list list'
      → (c ≡ is.told (is.compared L first M second (length work)) (length list)) × (list' ≡ is.after (is.compared L first M second (length work)) list)
  unfolding is.told is.after
  both_told list w = rw compared_is (rw numbers-are at w)

-- ---- the first or the second isn't read
module _ (L M : Layout) (first second work list : List ℕ) where
  abbrev pub Refuses : Changes → Type 0
  Refuses c = (c ≡ is.told (is.compared L first M second (length work)) (length list)) × (list ≡ is.after (is.compared L first M second (length work)) list)

  refuses : {c : Changes} → c ≡ is.refused_by (reading L first) (reading M second) → NotBoth first second (length work) (reading L first) (reading M second) → Refuses c
  unfolding is.compared
  refuses e h = let w = refused-so first second (length work) (reading L first) (reading M second) h list in (e ∙ w.0, w.1)

  pub first-refused : {c : Changes} {a : Answer} → a ≡ answered (read_into L first (length work)) → (a.number ≡ 0 → ⊥) → c ≡ is.refused_by (reading L first) (reading M second) → Refuses c
  first-refused e h g = refuses g (λ r s p q. let z = not-read L first (length work) e h r p in omega (arith, z))

  pub second-refused : {c : Changes} {table : List ℕ} (part : List ℕ) {a b : Answer} {room : ℕ} → (h : Held L first work table a) → room ≡ object_width * a.objects + component_width * a.components
      → length part ≡ length table - room → b ≡ answered (read_into M second (length part)) → (b.number ≡ 0 → ⊥) → c ≡ is.refused_by (reading L first) (reading M second) → Refuses c
  second-refused part h at long e n g =
      refuses g
      (λ x y p q.
      let z = not-read M second (length part) e n y q in
      let o : room_for x.model ≡ room_for h.reading-is.model = ap (λ (k : Reading). room_for k.model) (same x h.reading-is (sym p ∙ h.accepts)) in
      let f = h.fits in
      let l = as_long h in
      let w = room-is h in
      omega (arith, z, o, f, l, w, at, long))
    where
      same : (x y : Reading) → pass x ≡ pass y → x ≡ y
      same x y e = cc

-- a refusal leaves the table
refused-keeps : (before : List ℕ) (k : Check Reading) {after : List ℕ} {a : Answer} → a ≡ answered k → after ≡ table_after before k → (a.number ≡ 0 → ⊥) → length after ≡ length before
unfolding answer table_after
refused-keeps before (refuse n o c) e t h = ap length t
refused-keeps before (pass r) e t h = absurd (h (ap (λ (x : Answer). x.number) e))

zeros : {z : List ℕ} (m n : ℕ) → z ≡ replicate m 0 → m ≡ n → z ≡ replicate n 0
zeros m n e f = e ∙ ap (λ (k : ℕ). replicate k 0) f

-- the first is refused
module _ (L : Layout) (first work : List ℕ) {a : Answer} (e : a ≡ answered (read_into L first (length work))) (n : a.number ≡ 0 → ⊥) where
  pub first-told : (M : Layout) (second list : List ℕ) {c : Changes} → c ≡ is.refused_by (reading L first) (reading M second)
      → c ≡ is.told (is.compared L first M second (length work)) (length list)
  first-told M second list g = (first-refused L M first second work list e n g).0

  pub first-kept : (M : Layout) (second list : List ℕ) → list ≡ is.after (is.compared L first M second (length work)) list
  first-kept M second list = (first-refused L M first second work list e n refl).1

-- ---- the call: what the first's reading left is `table`, of whose end the second's left `left`
module _ (layout : ℕ) (first work : List ℕ) (a : Answer) (e : a ≡ answered (read_into (layout_of layout) first (length work))) (z : a.number ≡ 0)
    (table : List ℕ) (t : table ≡ table_after work (read_into (layout_of layout) first (length work))) where
  abbrev first-held : Held (layout_of layout) first work table a
  first-held = held (layout_of layout) (size_back_lem layout) first work table a e t z

  abbrev room : ℕ
  room = object_width * a.objects + component_width * a.components

  abbrev part : List ℕ
  part = take (length table - room) (drop room table)

  pub room_within : object_width * a.objects + component_width * a.components ≤ length table
  room_within = room-lies first-held

  module _ (lent : length work * 8 < 2 ^ 63) where
    pub objects-fit : Fits w64 (object_width * a.objects)
    objects-fit = record { fits = omega (arith, room_within, as_long first-held, lent) }

    pub components-fit : Fits w64 (component_width * a.components)
    components-fit = record { fits = omega (arith, room_within, as_long first-held, lent) }

    pub room_small : Fits w64 (object_width * a.objects + component_width * a.components)
    room_small = record { fits = omega (arith, room_within, as_long first-held, lent) }

    pub room-scaled : Fits w64 ((object_width * a.objects + component_width * a.components) * 8)
    room-scaled = record { fits = omega (arith, room_within, as_long first-held, lent) }

  part-long : length part ≡ length table - room
  part-long = ap length (part_to_end table room) ∙ length-drop room table

  module _ (other : ℕ) (second : List ℕ) (b : Answer) (f : b ≡ answered (read_into (layout_of other) second (length part))) where
    abbrev now : List ℕ → List ℕ
    now left = take room table ++ (left ++ drop (length table - room) (drop room table))

    now-long : (left : List ℕ) → length left ≡ length part → length (now left) ≡ length work
    now-long left g =
        let r = room_within in
        let p = part-long in
        let l = as_long first-held in
        let d = length-drop room table in
        let q = length-drop (length table - room) (drop room table) in
        let c = length-take-le room table r in
        let x = length-append (take room table) (left ++ drop (length table - room) (drop room table)) in
        let y = length-append left (drop (length table - room) (drop room table)) in
        omega (arith, g, r, p, l, d, q, c, x, y)

    -- the second is refused
    module _ (n : b.number ≡ 0 → ⊥) where
      pub second-told : {c : Changes} (list : List ℕ) → c ≡ is.refused_by (reading (layout_of layout) first) (reading (layout_of other) second)
          → c ≡ is.told (is.compared (layout_of layout) first (layout_of other) second (length work)) (length list)
      second-told list g = (second-refused (layout_of layout) (layout_of other) first second work list part first-held refl part-long f n g).0

      pub second-kept : (list : List ℕ) → list ≡ is.after (is.compared (layout_of layout) first (layout_of other) second (length work)) list
      second-kept list = (second-refused (layout_of layout) (layout_of other) first second work list part first-held refl part-long f n refl).1

      pub second-cleared : (left : List ℕ) → left ≡ table_after part (read_into (layout_of other) second (length part)) → {z : List ℕ} → z ≡ replicate (length (now left)) 0 → z ≡ replicate (length work) 0
      second-cleared left u w = zeros (length (now left)) (length work) w (now-long left (refused-keeps part (read_into (layout_of other) second (length part)) f u n))

    -- both are read
    module _ (y : b.number ≡ 0) (left : List ℕ) (u : left ≡ table_after part (read_into (layout_of other) second (length part))) where
      abbrev second-held : Held (layout_of other) second part left b
      second-held = held (layout_of other) (size_back_lem other) second part left b f u y

      -- the rows of the second, as they are lent
      abbrev rest-part : List ℕ
      rest-part = take (length (now left) - room) (drop room (now left))

      both-lie : (room ≤ length (now left)) × Table (take room (now left)) a.objects × Table (drop room (now left)) b.objects
      both-lie = both-asked (size_back_lem layout) (size_back_lem other) first-held refl second-held part-long (drop (length table - room) (drop room table))

      pub room-inside : room ≤ length (now left)
      room-inside = both-lie.0

      pub front-long : room ≡ length (take room (now left))
      front-long = sym (length-take-le room (now left) room-inside)

      pub first-table : Table (take room (now left)) a.objects
      first-table = both-lie.1

      pub second-table : Table rest-part b.objects
      second-table = rw (part_to_end (now left) room) both-lie.2

      beside-tells : {c : Changes} (list : List ℕ) {list' : List ℕ} → Answered (is.numbers_of first (take room (now left)) a.objects second rest-part b.objects) c list list'
          → (c ≡ is.told (is.compared (layout_of layout) first (layout_of other) second (length work)) (length list)) × (list' ≡ is.after (is.compared (layout_of layout) first (layout_of other) second (length work)) list)
      beside-tells list w = both_told (size_back_lem layout) (size_back_lem other) first-held refl second-held part-long (drop (length table - room) (drop room table)) list (rw (part_to_end (now left) room) at w)

      pub beside-told : {c : Changes} (list : List ℕ) → c ≡ is.fitting (is.numbers_of first (take room (now left)) a.objects second rest-part b.objects) (length list)
          → c ≡ is.told (is.compared (layout_of layout) first (layout_of other) second (length work)) (length list)
      beside-told list w = (beside-tells list (w, refl)).0

      pub beside-written : {list' : List ℕ} (list : List ℕ) → list' ≡ is.list_after (is.numbers_of first (take room (now left)) a.objects second rest-part b.objects) list
          → list' ≡ is.after (is.compared (layout_of layout) first (layout_of other) second (length work)) list
      beside-written list w = (beside-tells list (refl, w)).1

      pub both-cleared : {z : List ℕ} → z ≡ replicate (length (now left)) 0 → z ≡ replicate (length work) 0
      both-cleared w = zeros (length (now left)) (length work) w (now-long left (as_long second-held))
