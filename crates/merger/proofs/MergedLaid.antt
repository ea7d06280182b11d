-- From what is known before ROOM to the merged file: both files' rows in the lent ones, the bytes that are laid by them, and the tests of room.
use Prim.Native.Nat.{ℕ, ◌+◌, ◌*◌, ◌≤◌}
use native.Mathlib.Omega.{arith}
use native.Mathlib.Nat.{zero-add}
use mathlib.Core.List.{List, [], ◌∷◌, ◌++◌, map}
use mathlib.Core.Bool.{Bool, true, false, not, ◌&&◌}
use mathlib.Core.Path.{◌≡◌, refl, sym, ap, ap₂, ◌∙◌, subst}
use lib.ListN.{length, take, drop, length-append, length-drop, length-map, replicate}
use lib.Seq.{take_at, drop_at}
use lib.Dec.{eqb, leb}
use borrow.Author.Tests.{le-leb, leb-true, not-true, not-false}
use borrow.Author.Rules.{part_to_end}
use mir.Val.{Fits}
use mir.Syntax.{w64}
use Rattle.meaning.specs.Limit.{end_limit, component_limit}
use Rattle.meaning.specs.Columns.{object_width, component_width}
use Rattle.meaning.specs.Check.{pass}
use Rattle.meaning.specs.Read.{Span}
use Rattle.meaning.specs.Model.{Object, Model}
use Rattle.meaning.specs.Layouts.{Layout, layout_of}
use Rattle.meaning.specs.Frame.{Reading, reading}
use Rattle.meaning.specs.Rows.{rows, component_count, room_for, roomy, attributes_span, table_after, read_into}
use Rattle.meaning.specs.Asked.{asked, present_at}
use Rattle.meaning.specs.Sound.{rows_sound}
use Rattle.meaning.specs.Described.{Described, blobs, described, described_by}
use Rattle.meaning.proofs.Tests.{both_true}
use Rattle.meaning.proofs.Lengths.{rows-length}
use Rattle.meaning.specs.Every.{Every}
use Rattle.frame.proofs.Frames.{size_back_lem}
use Rattle.rows.specs.Turns.{turn_limit, reached}
use Rattle.rows.proofs.Turns.{reached-above, reached-joined, last-is-reached}
use Rattle.emit.specs.Laid.{Room, Laid}
use Rattle.shown.specs.Accepted.{Framing}
use Rattle.emit.proofs.LaidPieces.{part, back, part_length, back_is}
use Rattle.layout.specs.Rows.{Within}
use Rattle.layout.proofs.Fit as fit_of
use Rattle.roundtrip.specs.Again.{plain_file}
use Rattle.roundtrip.proofs.WrittenAgain as again
use Rattle.merging.specs.Merge.{or_else, merged, rows_room, Merge, done, refused, short, merge_answer, merge_output, merge_rows, merge}
use Rattle.joint.specs.Joint.{Rows, whole_of}
use Rattle.joint.proofs.Meant as meant
use Rattle.window.specs.Sums.{all_blobs}
use Rattle.window.specs.Summed.{InWindow}
use Rattle.merger.proofs.SumsOfFile as of-file
use Rattle.merger.specs.Checked.{span, Ready, Cases, CheckedIs}
use Rattle.merger.specs.declared.checks.Verdict.{Verdict}
use Rattle.merger.specs.declared.checks.MergeFault.{MergeFault}
use Rattle.numbers.specs.Numbered.{number_of}
use Rattle.merger.specs.declared.Merged.{Merged}
use Rattle.merger.specs.MergedFile.{answer, answered, joined_of, Enough}
use Rattle.std.specs.Prelude.{Ok, Err}
use Rattle.std.specs.Prelude.{Result}

-- ---- which case it was

refused-so : {l : ℕ} {first : List ℕ} {l' : ℕ} {second : List ℕ} {w : Result Verdict MergeFault} → CheckedIs l first l' second w → {f : MergeFault} → w ≡ Err f → (lent room : ℕ)
    → merge (layout_of l) first (layout_of l') second lent room ≡ refused f.file (number_of f.refusal) f.object f.component
refused-so {l} {first} {l'} {second} h e = subst (λ v. Cases l first l' second v) e h.case

pub ready-so : {l : ℕ} {first : List ℕ} {l' : ℕ} {second : List ℕ} {w : Result Verdict MergeFault} → CheckedIs l first l' second w → {v : Verdict} → w ≡ Ok v → Ready l first l' second v
ready-so {l} {first} {l'} {second} h e = subst (λ v. Cases l first l' second v) e h.case

-- ---- what a caller sees

module _ {w : Merge} where
  refused-told : {f x o j : ℕ} → w ≡ refused f x o j → answer x f o j 0 ≡ answered w
  unfolding merge_answer
  refused-told e = rw e refl

  refused-leaves : {f x o j : ℕ} → w ≡ refused f x o j → {out : List ℕ} → out ≡ merge_output out w
  unfolding merge_output
  refused-leaves e = rw e refl

  short-told : {long : ℕ} → w ≡ short long → answer 24 0 0 0 long ≡ answered w
  unfolding merge_answer
  short-told e = rw e refl

  short-leaves : {long : ℕ} → w ≡ short long → {out : List ℕ} → out ≡ merge_output out w
  unfolding merge_output
  short-leaves e = rw e refl

  done-told : {f : List ℕ} {long : ℕ} → w ≡ done f → long ≡ length f → answer 0 0 0 0 long ≡ answered w
  unfolding merge_answer
  done-told e l = rw (e, l) refl

pub cleared : (table t : List ℕ) {x : List ℕ} → x ≡ replicate (length t) 0 → length t ≡ length table → x ≡ merge_rows table
unfolding merge_rows
cleared table t f e = f ∙ ap (λ (n : ℕ). replicate n 0) e

-- ---- the tests of room

pub enough-so : {v : Verdict} {rows out : List ℕ} {t : Bool} → t ≡ leb v.long (length out) && leb (object_width * (v.objects + v.others) + component_width * (v.components + v.parts)) (length rows) → not t ≡ false → Enough v rows out
enough-so {v} {rows} {out} {t} e f =
    let p : ℕ = object_width * (v.objects + v.others) + component_width * (v.components + v.parts) in
    let h = both_true (leb v.long (length out)) (leb p (length rows)) (sym e ∙ not-false t f) in
    record { numbers = leb-true p (length rows) h.1; bytes = leb-true v.long (length out) h.0 }

-- ---- rows of an accepted file, with its counts and attributes by other names

module _ (L : Layout) (framing : Framing L) (file : List ℕ) (r : Reading) (accepts : reading L file ≡ pass r) (R : List ℕ) {n c place size : ℕ}
    (o : n ≡ length r.model.objects) (k : c ≡ component_count r.model.objects) (s : span place size ≡ attributes_span r.model.attributes) where
  read-sound : rows_sound file (rows r.model ++ R) n c (span place size) ≡ true
  read-sound = rw (s, o, k) (again.rows-sound L framing file r accepts R)

  read-says : described file (asked (rows r.model ++ R) n c (span place size)) ≡ described_by file r.model
  read-says = rw (s, o, k) (again.rows-described L framing file r accepts R)

-- ---- a part that is lent to its list's end

at_front : (bs xs : List ℕ) → take 0 xs ++ (bs ++ drop (0 + length bs) xs) ≡ bs ++ drop (length bs) xs
at_front bs xs = rw (zero-add (length bs)) refl

-- ---- counts

all-counted : (os : List (Object Span)) → length (all_blobs os) ≡ component_count os
unfolding all_blobs component_count
all-counted [] = refl
all-counted (o ∷ os) = omega (arith, length-append (map (λ c. c.length) o.components) (all_blobs os), length-map o.components (λ c. c.length), all-counted os)

few-components : (os : List (Object Span)) → Every InWindow os → component_count os ≤ component_limit * length os
unfolding component_count
few-components [] h = omega arith
few-components (o ∷ os) (h, hs) = let z = h.count in omega (arith, z, few-components os hs)

module _ {l : ℕ} {first : List ℕ} {l' : ℕ} {second : List ℕ} {v : Verdict} (y : Ready l first l' second v) where
  abbrev n : ℕ
  n = v.objects

  abbrev c : ℕ
  c = v.components

  abbrev place : ℕ
  place = v.place

  abbrev size : ℕ
  size = v.size

  abbrev turn : ℕ
  turn = v.turn

  abbrev k : ℕ
  k = v.others

  abbrev d : ℕ
  d = v.parts

  abbrev other : ℕ
  other = v.other

  abbrev rest : ℕ
  rest = v.rest

  abbrev long : ℕ
  long = v.long

  abbrev m : Model Span
  m = y.read.model

  abbrev m' : Model Span
  m' = y.read'.model

  abbrev a : Described
  a = described_by first m

  abbrev b : Described
  b = described_by second m'

  -- no sum wraps
  few-objects : n + k ≤ 1024
  few-objects = y.few

  few-first : n ≤ 1024
  few-first = let h = y.few in omega (arith, h)

  few-second : k ≤ 1024
  few-second = let h = y.few in omega (arith, h)

  few-all : c + d ≤ 16384
  few-all =
      let e = y.components in
      let e' = y.components' in
      let o = y.objects in
      let o' = y.objects' in
      let f = y.few in
      omega (
        arith,
        e,
        e',
        o,
        o',
        f,
        few-components m.objects (of-file.in_window (layout_of l) (size_back_lem l) first y.held y.read y.is),
        few-components m'.objects (of-file.in_window (layout_of l') (size_back_lem l') second y.held' y.read' y.is'),
      )

  blobs-counted : length (blobs a) ≡ c
  blobs-counted =
      sym (length-map (blobs a) length) ∙ ap length (of-file.lengths-are (layout_of l) (size_back_lem l) first y.held y.read y.is) ∙ all-counted m.objects ∙ sym y.components

  blobs-counted' : length (blobs b) ≡ d
  blobs-counted' =
      sym (length-map (blobs b) length) ∙ ap length (of-file.lengths-are (layout_of l') (size_back_lem l') second y.held' y.read' y.is') ∙ all-counted m'.objects ∙ sym y.components'

  pub rows-room : rows_room (merged a b) ≡ object_width * (n + k) + component_width * (c + d)
  unfolding rows_room merged
  rows-room =
      let o : length a.objects ≡ n = of-file.objects-counted (layout_of l) (size_back_lem l) first y.held y.read y.is ∙ sym y.objects in
      let o' : length b.objects ≡ k = of-file.objects-counted (layout_of l') (size_back_lem l') second y.held' y.read' y.is' ∙ sym y.objects' in
      ap₂ (λ (u v : ℕ). object_width * u + component_width * v) (length-append a.objects b.objects ∙ ap₂ (λ (u v : ℕ). u + v) o o')
      (ap length (meant.blobs-both a.objects b.objects) ∙ length-append (blobs a) (blobs b) ∙ ap₂ (λ (u v : ℕ). u + v) blobs-counted blobs-counted')

  -- ---- the tests of room

  module _ (lent room : ℕ) where
    short-of : {t : Bool} → t ≡ leb long room && leb (object_width * (n + k) + component_width * (c + d)) lent → t ≡ false → merge (layout_of l) first (layout_of l') second lent room ≡ short long
    short-of e f = y.left lent room ∙ rw (sym y.long-is, rows-room, sym e, f) refl

    pub goes-well : long ≤ room → object_width * (n + k) + component_width * (c + d) ≤ lent → merge (layout_of l) first (layout_of l') second lent room ≡ done (plain_file (merged a b))
    goes-well g h = y.left lent room ∙ rw (sym y.long-is, rows-room, le-leb long room g, le-leb (object_width * (n + k) + component_width * (c + d)) lent h) refl

  well-told : (table out : List ℕ) → Enough v table out
      → answer 0 0 0 0 long ≡ answered (merge (layout_of l) first (layout_of l') second (length table) (length out))
  well-told table out h = done-told (goes-well (length table) (length out) h.bytes h.numbers) y.long-is

  -- ---- both files' rows

  module _ {table out : List ℕ} (room : Enough v table out) where
    needs-first : room_for m ≡ object_width * n + component_width * c
    unfolding room_for
    needs-first = ap₂ (λ (u v : ℕ). object_width * u + component_width * v) (sym y.objects) (sym y.components)

    needs-second : room_for m' ≡ object_width * k + component_width * d
    unfolding room_for
    needs-second = ap₂ (λ (u v : ℕ). object_width * u + component_width * v) (sym y.objects') (sym y.components')

    long-first : length (rows m) ≡ object_width * n + component_width * c
    unfolding room_for
    long-first = rows-length m ∙ needs-first

    read-into : (L : Layout) (file : List ℕ) (r : Reading) (lent : ℕ) → reading L file ≡ pass r → room_for r.model ≤ lent → read_into L file lent ≡ pass r
    unfolding read_into roomy
    read-into L file r lent e h = rw (e, le-leb (room_for r.model) lent h) refl

    module _ {t : List ℕ} (e : t ≡ table_after table (read_into (layout_of l) first (length table))) where
      begins : t ≡ rows m ++ drop (room_for m) table
      unfolding table_after
      begins = e ∙ rw (read-into (layout_of l) first y.read (length table) y.is (let r = room.numbers in omega (arith, r, needs-first))) refl

      pub as_long : length t ≡ length table
      as_long =
          let r = room.numbers in
          let p = length-append (rows m) (drop (room_for m) table) in
          omega (arith, ap length begins, p, long-first, needs-first, length-drop (room_for m) table, r)

      -- the second's from `cut` on
      module _ {cut : ℕ} (at : cut ≡ object_width * n + component_width * c) {u : List ℕ} (f : u ≡ table_after (part cut t) (read_into (layout_of l') second (length (part cut t)))) where
        front : take cut t ≡ rows m
        front = ap (take cut) begins ∙ take_at (rows m) (drop (room_for m) table) cut (long-first ∙ sym at)

        abbrev R : List ℕ
        R = drop (room_for m') (part cut t)

        abbrev T : List ℕ
        T = rows m ++ (rows m' ++ R)

        others : u ≡ rows m' ++ drop (room_for m') (part cut t)
        unfolding table_after
        others =
            let r = room.numbers in
            f ∙ rw (read-into (layout_of l') second y.read' (length (part cut t)) y.is' (omega (arith, r, needs-second, at, as_long, part_length cut t))) refl

        filled : back cut t u ≡ T
        filled =
            back_is cut t u ∙ ap₂ (λ (x z : List ℕ). x ++ z) front others

        pub still-long : length (back cut t u) ≡ length table
        still-long =
            let r = room.numbers in
            omega (
              arith,
              ap length filled,
              length-append (rows m) (rows m' ++ drop (room_for m') (part cut t)),
              length-append (rows m') (drop (room_for m') (part cut t)),
              long-first,
              rows-length m',
              needs-second,
              at,
              as_long,
              part_length cut t,
              length-drop (room_for m') (part cut t),
              r,
            )

        -- as they are handed on
        whole : part 0 (back cut t u) ≡ T
        whole = part_to_end (back cut t u) 0 ∙ filled

        behind : part cut (back cut t u) ≡ rows m' ++ R
        behind = part_to_end (back cut t u) cut ∙ ap (drop cut) filled ∙ drop_at (rows m) (rows m' ++ R) cut (long-first ∙ sym at)

        sound : rows_sound first T n c (span place size) ≡ true
        sound = read-sound (layout_of l) (size_back_lem l) first y.read y.is (rows m' ++ R) y.objects y.components y.attributes

        says : described first (asked T n c (span place size)) ≡ a
        says = read-says (layout_of l) (size_back_lem l) first y.read y.is (rows m' ++ R) y.objects y.components y.attributes

        sound' : rows_sound second (rows m' ++ R) k d (span other rest) ≡ true
        sound' = read-sound (layout_of l') (size_back_lem l') second y.read' y.is' R y.objects' y.components' y.attributes'

        says' : described second (asked (rows m' ++ R) k d (span other rest)) ≡ b
        says' = read-says (layout_of l') (size_back_lem l') second y.read' y.is' R y.objects' y.components' y.attributes'

        -- the second's turn is in time, and so is the first's
        low' : reached [] turn (map length (blobs b)) ≤ end_limit
        unfolding merged
        low' =
            let ls : List ℕ = map length (blobs (merged a b)) in
            let e : reached [] 8 ls ≡ reached [] turn (map length (blobs b)) =
            ap (reached [] 8) (meant.lengths-both a.objects b.objects) ∙ reached-joined [] 8 (map length (blobs a)) (map length (blobs b))
            ∙ ap (λ (x : ℕ). reached [] x (map length (blobs b))) (sym y.turn_is) in
            let i = y.in-time in
            omega (arith, e, i, last-is-reached ls)

        low : reached [] 8 (map length (blobs a)) ≤ end_limit
        low = let i = y.turn_is in omega (arith, i, low', reached-above [] turn (map length (blobs b)))

        fit : Rows first T n c 8
        unfolding turn_limit
        fit =
            let h : reached [] 8 (map length (blobs (described first (asked T n c (span place size))))) ≤ end_limit = subst (λ (x : Described). reached [] 8 (map length (blobs x)) ≤ end_limit) (sym says) low in
            record { objects = fit_of.object-rows first [] T n c (span place size) sound h; blobs = fit_of.blob-rows first [] T n c (span place size) sound h }

        fit' : Rows second (rows m' ++ R) k d turn
        unfolding turn_limit
        fit' =
            let h : reached [] turn (map length (blobs (described second (asked (rows m' ++ R) k d (span other rest))))) ≤ end_limit =
            subst (λ (x : Described). reached [] turn (map length (blobs x)) ≤ end_limit) (sym says') low' in
            record {
              objects = fit_of.object-rows second [] (rows m' ++ R) k d (span other rest) sound' h;
              blobs = fit_of.blob-rows second [] (rows m' ++ R) k d (span other rest) sound' h;
            }

        rows-first : Rows first (part 0 (back cut t u)) n c 8
        rows-first = subst (λ (x : List ℕ). Rows first x n c 8) (sym whole) fit

        rows-second : Rows second (part cut (back cut t u)) k d turn
        rows-second = subst (λ (x : List ℕ). Rows second x k d turn) (sym behind) fit'

        -- which file's attributes are kept
        within_first : Within first place size
        within_first = fit_of.attributes-fit first [] T n c (span place size) sound

        within-second : Within second other rest
        within-second = fit_of.attributes-fit second [] (rows m' ++ R) k d (span other rest) sound'

        there : a.attributes ≡ present_at first (span place size)
        there = (of-file.attributes-there (layout_of l) (size_back_lem l) first y.held y.read y.is).0 ∙ ap (present_at first) (sym y.attributes)

        there' : b.attributes ≡ present_at second (span other rest)
        there' = (of-file.attributes-there (layout_of l') (size_back_lem l') second y.held' y.read' y.is').0 ∙ ap (present_at second) (sym y.attributes')

        kept_second : eqb place 0 && eqb size 0 ≡ true → present_at second (span other rest) ≡ or_else a.attributes b.attributes
        unfolding present_at or_else
        kept_second e = sym there' ∙ sym (rw (there, e) refl)

        kept-first : eqb place 0 && eqb size 0 ≡ false → present_at first (span place size) ≡ or_else a.attributes b.attributes
        unfolding present_at or_else
        kept-first e = rw (there, e) refl

        is-file : (from : List ℕ) (p q : ℕ) → present_at from (span p q) ≡ or_else a.attributes b.attributes
            → whole_of from p q first (part 0 (back cut t u)) n c second (part cut (back cut t u)) k d turn ≡ plain_file (merged a b)
        is-file from p q kept =
            ap₂ (λ (x z : List ℕ). whole_of from p q first x n c second z k d turn) whole behind
            ∙ meant.whole-meant from p q first T n c (span place size) second (rows m' ++ R) k d turn (span other rest) sound sound' fit fit'
            (y.turn_is ∙ ap (λ (x : Described). reached [] 8 (map length (blobs x))) (sym says))
            (kept ∙ ap₂ (λ (x z : Described). or_else x.attributes z.attributes) (sym says) (sym says'))
            ∙ ap₂ (λ (x z : Described). plain_file (merged x z)) says says'

        abbrev laid : List ℕ
        laid = joined_of first (part 0 (back cut t u)) v second (part cut (back cut t u))

        joined_is : laid ≡ plain_file (merged a b)
        joined_is = by (eqb place 0 && eqb size 0) refl
          where
            by : (x : Bool) → eqb place 0 && eqb size 0 ≡ x → laid ≡ plain_file (merged a b)
            by true e = rw e (is-file second other rest (kept_second e))
            by false e = rw e (is-file first place size (kept-first e))

        -- what joining them asks
        pub join-asks : (Within first place size × Within second other rest × (n ≤ 1024) × (k ≤ 1024))
            × ((Rows first (part 0 (back cut t u)) n c 8 × Rows second (part cut (back cut t u)) k d turn) × Room laid 0 out)
        join-asks =
            let e = y.long-is in
            let h = room.bytes in
            ((within_first, within-second, few-first, few-second), ((rows-first, rows-second), record { fits = omega (arith, e, h, ap length joined_is) }))

        pub output-is : {after : List ℕ} {r : ℕ} → Laid laid 0 out after r → after ≡ merge_output out (merge (layout_of l) first (layout_of l') second (length table) (length out))
        unfolding merge_output
        output-is w =
            w.is ∙ at_front laid out ∙ ap (λ (x : List ℕ). x ++ drop (length x) out) joined_is
            ∙ rw (goes-well (length table) (length out) room.bytes room.numbers) refl

-- ---- each way out of the call

module _ {l : ℕ} {first : List ℕ} {l' : ℕ} {second : List ℕ} {w : Result Verdict MergeFault} (known : CheckedIs l first l' second w) where
  module _ {f : MergeFault} (is-no : w ≡ Err f) (lent room : ℕ) where
    pub refused-answer : (x : ℕ) → x ≡ number_of f.refusal → {r : Merged} → r ≡ answer x f.file f.object f.component 0 → r ≡ answered (merge (layout_of l) first (layout_of l') second lent room)
    refused-answer x is e = e ∙ ap (λ (x : ℕ). answer x f.file f.object f.component 0) is ∙ refused-told (refused-so known is-no lent room)

    pub refused-output : {out : List ℕ} → out ≡ merge_output out (merge (layout_of l) first (layout_of l') second lent room)
    refused-output = refused-leaves (refused-so known is-no lent room)

  module _ {v : Verdict} (is-yes : w ≡ Ok v) where
    pub components-fit : Fits w64 (v.components + v.parts)
    components-fit = let h = few-all (ready-so known is-yes) in record { fits = omega arith }

    module _ (lent room : ℕ) {t : Bool} (tested : t ≡ leb v.long room && leb (object_width * (v.objects + v.others) + component_width * (v.components + v.parts)) lent) (is-short : not t ≡ true) where
      pub short-answer : {r : Merged} → r ≡ answer 24 0 0 0 v.long → r ≡ answered (merge (layout_of l) first (layout_of l') second lent room)
      short-answer {r} e = e ∙ short-told (short-of (ready-so known is-yes) lent room tested (not-true t is-short))

      pub short-output : {out : List ℕ} → out ≡ merge_output out (merge (layout_of l) first (layout_of l') second lent room)
      short-output = short-leaves (short-of (ready-so known is-yes) lent room tested (not-true t is-short))

    module _ (table out : List ℕ) {t : Bool} (tested : t ≡ leb v.long (length out) && leb (object_width * (v.objects + v.others) + component_width * (v.components + v.parts)) (length table)) (is-enough : not t ≡ false) where
      pub merged-answer : {r : Merged} → r ≡ answer 0 0 0 0 v.long → r ≡ answered (merge (layout_of l) first (layout_of l') second (length table) (length out))
      merged-answer e = e ∙ well-told (ready-so known is-yes) table out (enough-so tested is-enough)
