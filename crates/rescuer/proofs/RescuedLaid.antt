-- From what is known before ROOM to the rescued file: the kept objects' rows and the dropped ones' entries, the file that the writer makes of the rows, and the tests of room.
use Prim.Native.Nat.{ℕ, ◌+◌, ◌*◌, ◌≤◌}
use native.Mathlib.Omega.{arith}
use native.Mathlib.Nat.{zero-add}
use mathlib.Core.List.{List, ◌++◌}
use mathlib.Core.Bool.{Bool, true, false, not, ◌&&◌}
use mathlib.Core.Path.{◌≡◌, refl, sym, ap, ap₂, ◌∙◌, subst}
use lib.ListN.{length, drop, length-map, replicate}
use lib.Seq.{sets, sets-eq}
use lib.Dec.{leb}
use borrow.Author.Tests.{le-leb, leb-true, not-true, not-false}
use Rattle.meaning.specs.Limit.{object_limit}
use Rattle.meaning.specs.Columns.{object_width, component_width}
use Rattle.meaning.specs.Check.{Check, pass}
use Rattle.meaning.specs.Read.{Span}
use Rattle.meaning.specs.Model.{Object, Model}
use Rattle.meaning.specs.Layouts.{layout_of}
use Rattle.meaning.specs.Rows.{rows, object_rows, component_rows, component_count, room_for}
use Rattle.meaning.specs.Described.{Described, described_by}
use Rattle.meaning.specs.Write.{written, output_after}
use Rattle.walk.specs.Reading.{Ends}
use Rattle.naming.proofs.NamesJudged.{few-names}
use Rattle.frame.proofs.Frames.{size_back_lem}
use Rattle.table.proofs.Runs.{sets-append}
use Rattle.table.proofs.ObjectLoop.{count-mapped}
use Rattle.table.specs.Spans.{span_of}
use Rattle.meaning.specs.Notes.{map_object}
use Rattle.meaning.proofs.Lengths.{objects-length, rows-length}
use Rattle.roundtrip.specs.Again.{plain_file}
use Rattle.writer.specs.WriterAnswer.{Answered}
use Rattle.writer.specs.declared.Written.{Written}
use Rattle.rescuing.specs.Sift.{Dropped, kept, dropped, verdicts}
use Rattle.rescuing.specs.Rescue.{done, refused, short, entry_width, entries, rescue, rescue_answer, rescue_list, rescue_output, rescue_rows}
use Rattle.rescuing.proofs.RescueAnswers.{kept-rows}
use Rattle.sieve.specs.declared.Sieve.{Sieve}
use Rattle.sieve.specs.Sieved.{SieveOf, Sifted}
use Rattle.sieve.proofs.ObjectJudged.{entries-length}
use Rattle.rescuer.specs.Opened.{between}
use Rattle.rescuer.specs.Checked.{Ready, Cases, CheckedIs}
use Rattle.rescuer.specs.declared.checks.Verdict.{Verdict}
use Rattle.rescuer.specs.declared.Rescued.{Rescued}
use Rattle.rescuer.specs.RescuedFile.{answer, answered, Enough}
use Rattle.std.specs.Prelude.{Ok, Err}
use Rattle.numbers.specs.declared.fault.FileFault.{FileFault}
use Rattle.numbers.specs.Numbered.{number_of}
use Rattle.std.specs.Prelude.{Result}

-- ---- the tests of room

module _ (needs rows listed list long out : ℕ) where
  -- rows, list and output are enough
  abbrev pub roomy : Bool
  roomy = leb needs rows && leb listed list && leb long out

three-true : (x y z : Bool) → x && y && z ≡ true → (x ≡ true) × (y ≡ true) × (z ≡ true)
three-true true true z h = (refl, refl, h)
three-true true false true h = (refl, h, refl)
three-true true false false h = (refl, h, h)
three-true false true true h = (h, refl, refl)
three-true false true false h = (h, refl, h)
three-true false false true h = (h, h, refl)
three-true false false false h = (h, h, h)

pub enough-so : {t : Bool} → not t ≡ false → (v : Verdict) (rows list out : List ℕ) → t ≡ roomy (object_width * v.kept + component_width * v.components) (length rows) (entry_width * v.dropped) (length list) v.long (length out)
    → Enough v rows list out
enough-so {t} f v rows list out e =
    let p : ℕ = object_width * v.kept + component_width * v.components in
    let h = three-true (leb p (length rows)) (leb (entry_width * v.dropped) (length list)) (leb v.long (length out)) (sym e ∙ not-false t f) in
    record { numbers = leb-true p (length rows) h.0; entries = leb-true (entry_width * v.dropped) (length list) h.1; bytes = leb-true v.long (length out) h.2 }

-- ---- rows of a model over a table's beginning

rows-laid : (m : Model Span) (t : List ℕ) (from : ℕ) → from ≡ object_width * length m.objects → room_for m ≤ length t
    → sets (sets t 0 (object_rows m.objects)) from (component_rows 0 m.objects) ≡ rows m ++ drop (room_for m) t
unfolding rows room_for
rows-laid m t from e fits =
    let A : List ℕ = object_rows m.objects in
    let B : List ℕ = component_rows 0 m.objects in
    let long : length (A ++ B) ≡ room_for m = rows-length m in
    let seam : from ≡ 0 + length A = e ∙ sym (objects-length m.objects) ∙ sym (zero-add (length A)) in
    ap (λ (i : ℕ). sets (sets t 0 A) i B) seam ∙ sym (sets-append A B t 0) ∙ sets-eq (A ++ B) t 0 (omega (arith, long, fits))
    ∙ ap (λ (i : ℕ). (A ++ B) ++ drop i t) (zero-add (length (A ++ B)) ∙ long)

-- ---- a file that is ready

module _ {layout : ℕ} {file : List ℕ} {v : Verdict} (y : Ready layout file v) where
  abbrev start : ℕ
  start = v.start

  abbrev end : ℕ
  end = v.end

  abbrev first : ℕ
  first = v.first

  abbrev place : ℕ
  place = v.place

  abbrev size : ℕ
  size = v.size

  abbrev k : ℕ
  k = v.kept

  abbrev j : ℕ
  j = v.dropped

  abbrev c : ℕ
  c = v.components

  abbrev long : ℕ
  long = v.long

  abbrev m : Model Span
  m = y.opens.sift.model

  abbrev d : Described
  d = described_by file m

  abbrev ks : List (Check (Object Ends))
  ks = verdicts (layout_of layout) start y.opens.named

  needs : room_for m ≡ object_width * k + component_width * c
  unfolding room_for
  needs = ap₂ (λ (u v : ℕ). object_width * u + component_width * v) (sym y.kept-are) (sym y.components-are)

  module _ (lent list room : ℕ) where
    short-of : {t : Bool} → t ≡ roomy (object_width * k + component_width * c) lent (entry_width * j) list long room → t ≡ false → rescue (layout_of layout) file lent list room ≡ short k j long
    short-of e f = y.left lent list room ∙ rw (needs, ← y.dropped-are, ← y.kept-are, ← y.long-is, ← e, f) refl

    goes-well : object_width * k + component_width * c ≤ lent → entry_width * j ≤ list → long ≤ room
        → rescue (layout_of layout) file lent list room ≡ done (plain_file d) k y.opens.sift.dropped
    goes-well p q r =
        y.left lent list room
        ∙ rw (needs, ← y.dropped-are, ← y.kept-are, ← y.long-is, le-leb (object_width * k + component_width * c) lent p, le-leb (entry_width * j) list q, le-leb long room r) refl

  module _ {table list out : List ℕ} (room : Enough v table list out) where
    well : rescue (layout_of layout) file (length table) (length list) (length out) ≡ done (plain_file d) k y.opens.sift.dropped
    well = goes-well (length table) (length list) (length out) room.numbers room.entries room.bytes

    told-well : answer 0 0 0 k j long ≡ answered (rescue (layout_of layout) file (length table) (length list) (length out))
    unfolding rescue_answer
    told-well = ap₂ (λ (u v : ℕ). answer 0 0 0 k u v) y.dropped-are y.long-is ∙ rw well refl

    -- ---- what the second pass left

    module _ {z : Sieve} {t l : List ℕ} (h : Sifted layout (between file first end) start end true (object_width * k) table list z t l) where
      abbrev from : ℕ
      from = object_width * k

      of : SieveOf end true from table list z t l ks
      of = h y.opens.objects y.opens.rest y.opens.reads y.opens.named y.opens.names-are (few-names object_limit y.opens.objects y.opens.named y.opens.names-are)

      kept-count : length (kept ks) ≡ k
      kept-count = sym (length-map (kept ks) (map_object (span_of end))) ∙ ap length (sym y.opens.kept-are) ∙ sym y.kept-are

      component-count : component_count (kept ks) ≡ c
      component-count = sym (count-mapped end (kept ks)) ∙ ap component_count (sym y.opens.kept-are) ∙ sym y.components-are

      table-so : t ≡ sets (sets table 0 (object_rows m.objects)) from (component_rows 0 m.objects)
      table-so =
          let n = room.numbers in
          of.lays refl (omega (arith, kept-count)) (omega (arith, component-count, n))
          ∙ ap (λ (os : List (Object Span)). sets (sets table 0 (object_rows os)) from (component_rows 0 os)) (sym y.opens.kept-are)

      table_is : t ≡ rows m ++ drop (room_for m) table
      table_is = let n = room.numbers in table-so ∙ rows-laid m table from (ap (λ (n : ℕ). object_width * n) y.kept-are) (omega (arith, n, needs))

      pub list-is : l ≡ rescue_list list (rescue (layout_of layout) file (length table) (length list) (length out))
      unfolding rescue_list
      list-is =
          let ds : List Dropped = y.opens.sift.dropped in
          let same : dropped 0 ks ≡ ds = sym y.opens.dropped-are in
          let count : length (dropped 0 ks) ≡ j = ap length same ∙ sym y.dropped-are in
          let n = room.entries in
          let width = entries-length ds in
          let drops = y.dropped-are in
          of.lists refl (omega (arith, count, n)) ∙ ap (λ (ds : List Dropped). sets list 0 (entries ds)) same
          ∙ sets-eq (entries ds) list 0 (omega (arith, width, drops, n)) ∙ ap (λ (i : ℕ). entries ds ++ drop i list) (zero-add (length (entries ds)) ∙ width) ∙ rw well refl

      -- the writer's answer is the rescued file
      pub output-is : {r : Written} {after : List ℕ} → Answered (written t k c (record { place = place; size = size }) file (length out)) r out after
          → after ≡ rescue_output out (rescue (layout_of layout) file (length table) (length list) (length out))
      unfolding rescue_output output_after
      output-is w =
          let T : List ℕ = rows m ++ drop (room_for m) table in
          let wrote : written t k c (record { place = place; size = size }) file (length out) ≡ pass (plain_file d) =
          ap (λ (u : List ℕ). written u k c (record { place = place; size = size }) file (length out)) table_is
          ∙ ap₂ (λ (u v : ℕ). written T u v (record { place = place; size = size }) file (length out)) y.kept-are y.components-are
          ∙ ap (λ (s : Span). written T (length m.objects) (component_count m.objects) s file (length out)) y.opens.attributes-are
          ∙ kept-rows (layout_of layout) (size_back_lem layout) file y.held y.opens.sift y.opens.is (drop (room_for m) table) (length out) ∙ y.writes (length out) room.bytes in
          w.1 ∙ rw (wrote, well) refl

-- ---- the lent rows, cleared

pub cleared : (table : List ℕ) {x : List ℕ} → x ≡ replicate (length table) 0 → x ≡ rescue_rows table
unfolding rescue_rows
cleared table e = e

pub cleared-after : (table t : List ℕ) {x : List ℕ} → length t ≡ length table → x ≡ replicate (length t) 0 → x ≡ rescue_rows table
unfolding rescue_rows
cleared-after table t e f = f ∙ ap (λ (n : ℕ). replicate n 0) e

-- ---- what a caller sees, from the verdict before ROOM

module _ {layout : ℕ} {file : List ℕ} {w : Result Verdict FileFault} (says : CheckedIs layout file w) where
  module _ {f : FileFault} (is : w ≡ Err f) where
    refused-so : (lent list room : ℕ) → rescue (layout_of layout) file lent list room ≡ refused (number_of f.refusal) f.object f.component
    refused-so = subst (λ w. Cases layout file w) is says.case

    pub refused-told : (lent list room x : ℕ) → x ≡ number_of f.refusal → {r : Rescued} → r ≡ answer x f.object f.component 0 0 0 → r ≡ answered (rescue (layout_of layout) file lent list room)
    unfolding rescue_answer
    refused-told lent list room x same e = e ∙ ap (λ (x : ℕ). answer x f.object f.component 0 0 0) same ∙ rw (refused-so lent list room) refl

    pub refused-list : (lent room : ℕ) (list : List ℕ) → list ≡ rescue_list list (rescue (layout_of layout) file lent (length list) room)
    unfolding rescue_list
    refused-list lent room list = rw (refused-so lent (length list) room) refl

    pub refused-output : (lent list : ℕ) (out : List ℕ) → out ≡ rescue_output out (rescue (layout_of layout) file lent list (length out))
    unfolding rescue_output
    refused-output lent list out = rw (refused-so lent list (length out)) refl

  module _ {v : Verdict} (is : w ≡ Ok v) where
    pub ready-so : Ready layout file v
    ready-so = subst (λ w. Cases layout file w) is says.case

    module _ (rows list out : List ℕ) {t : Bool} (tested : t ≡ roomy (object_width * v.kept + component_width * v.components) (length rows) (entry_width * v.dropped) (length list) v.long (length out)) where
      module _ (lacks : not t ≡ true) where
        short-so : rescue (layout_of layout) file (length rows) (length list) (length out) ≡ short v.kept v.dropped v.long
        short-so = short-of ready-so (length rows) (length list) (length out) tested (not-true t lacks)

        pub short-told : {r : Rescued} → r ≡ answer 24 0 0 v.kept v.dropped v.long → r ≡ answered (rescue (layout_of layout) file (length rows) (length list) (length out))
        unfolding rescue_answer
        short-told e = e ∙ rw short-so refl

        pub short-list : list ≡ rescue_list list (rescue (layout_of layout) file (length rows) (length list) (length out))
        unfolding rescue_list
        short-list = rw short-so refl

        pub short-output : out ≡ rescue_output out (rescue (layout_of layout) file (length rows) (length list) (length out))
        unfolding rescue_output
        short-output = rw short-so refl

      pub well-told : not t ≡ false → {r : Rescued} → r ≡ answer 0 0 0 v.kept v.dropped v.long → r ≡ answered (rescue (layout_of layout) file (length rows) (length list) (length out))
      well-told f e = e ∙ told-well ready-so (enough-so f v rows list out tested)
