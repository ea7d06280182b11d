-- From an accepted manifest to the answer and the table: its room, where its attributes and its objects stand, and the rows.
use Prim.Native.Nat.{ℕ, ◌+◌, ◌-◌, ◌*◌, ◌^◌, ◌≤◌, ◌<◌}
use native.Mathlib.Omega.{arith}
use mathlib.Core.List.{List, ◌++◌, append-nil}
use mathlib.Core.Bool.{Bool, true, false, not}
use mathlib.Core.Option.{some}
use mathlib.Core.Path.{◌≡◌, refl, sym, ap, ◌∙◌, subst}
use lib.ListN.{length, take, drop, length-map, length-drop, drop_of_length-le}
use lib.Seq.{length-take-le}
use lib.Dec.{leb}
use borrow.Author.Tests.{leb-true, not-true, not-false}
use borrow.Author.Rules.{part_to_end}
use mir.Syntax.{w64}
use mir.Val.{Fits}
use Rattle.meaning.specs.Columns.{object_width, component_width}
use Rattle.meaning.specs.Tree.{Node, Pair, map_p}
use Rattle.meaning.specs.Read as spans
use Rattle.meaning.specs.Check.{Check, pass, refuse, ◌>>=◌}
use Rattle.meaning.specs.Model.{Model}
use Rattle.meaning.specs.Notes.{map_option, map_model, map_object}
use Rattle.meaning.specs.Kind.{kind, mapping}
use Rattle.meaning.specs.Field as field
use Rattle.meaning.specs.Layouts.{Layout, slot, objects_at, current, layout_of}
use Rattle.meaning.specs.Judge.{judge, objects_of}
use Rattle.meaning.specs.Frame.{Reading, frame, reading}
use Rattle.meaning.specs.Rows.{attributes_span, rows, room_for, roomy, answer, table_after, read_into}
use Rattle.meaning.proofs.Checks.{pass_same, passed}
use Rattle.cbor.specs.Ending.{FAULT}
use Rattle.walk.specs.Reading.{Ends, Reads}
use Rattle.walk.proofs.Passed.{Here}
use Rattle.fields.specs.Slots.{Holds}
use Rattle.table.specs.Spans.{span_of}
use Rattle.table.specs.Objects.{Written}
use Rattle.table.specs.declared.span.Span.{Span}
use Rattle.table.proofs.ObjectLoop.{count-mapped}
use Rattle.frame.specs.FrameAnswer.{told as framed-told}
use Rattle.frame.specs.declared.Framed.{Framed}
use Rattle.reader.specs.declared.Told.{Told}
use Rattle.reader.specs.declared.into.Answer.{Answer}
use Rattle.reader.specs.Verdict.{manifest_reading, Accepted, ManifestIs}
use Rattle.reader.specs.Answer.{refused, read, answered, AttributesIs, before_rows, laid_over, placed, Filled}
use Rattle.reader.proofs.Frames.{at_zero, framed, inside, manifest-read}
use Rattle.reader.proofs.RootParts.{attributes_at, rooted, field-holds}
use Rattle.std.specs.Prelude.{Ok, Err, Result}
use Rattle.numbers.specs.declared.refusal.Refusal.{Refusal}
use Rattle.numbers.specs.declared.fault.FileFault.{FileFault}
use Rattle.numbers.specs.Numbered.{number_of}
use Rattle.numbers.specs.declared.refusal.Refusal.TheVariants as refusals

-- ---------------------------------------------------------------- what an accepted root is made of

pub record Parts (L : Layout) (start : ℕ) (t : Node Ends) (m : Model Ends) : Type 0 where
  pub pairs : List (Pair Ends)
  pub kind-is : kind t ≡ mapping pairs
  pub objects : Node Ends
  pub objects-there : field.field (slot objects_at L.root) pairs ≡ some objects
  pub objects-judged : objects_of L start objects ≡ pass m.objects
  pub attributes-are : m.attributes ≡ field.field (slot attributes_at L.root) pairs

parts-of : (L : Layout) (start : ℕ) (t : Node Ends) (m : Model Ends) → judge L start t ≡ pass m → Parts L start t m
unfolding judge
parts-of L start t m e =
    let root = rooted L t (λ a objects. objects_of L start objects >>= λ os. pass (record { attributes = a; objects = os })) m e in
    let found = passed (objects_of L start root.objects) _ m root.then in
    let whole = pass_same found.then in
    record {
      pairs = root.pairs;
      kind-is = root.kind-is;
      objects = root.objects;
      objects-there = root.objects-there;
      objects-judged = found.is ∙ ap pass (ap (λ (m : Model Ends). m.objects) whole);
      attributes-are = sym (ap (λ (m : Model Ends). m.attributes) whole);
    }

-- ---------------------------------------------------------------- the part that is lent to the rows

-- the part of a table from a number on, and the table with what that then holds
abbrev lent_part : ℕ → List ℕ → List ℕ
lent_part first t = take (length t - first) (drop first t)

abbrev lent_back : ℕ → List ℕ → List ℕ → List ℕ
lent_back first t l = take first t ++ (l ++ drop (length t - first) (drop first t))

part_length : (first : ℕ) (t : List ℕ) → length (lent_part first t) ≡ length t - first
part_length first t = ap length (part_to_end t first) ∙ length-drop first t

back_is : (first : ℕ) (t l : List ℕ) → lent_back first t l ≡ take first t ++ l
back_is first t l =
    let h : length (drop first t) ≤ length t - first = omega (arith, length-drop first t) in
    ap (λ (z : List ℕ). take first t ++ (l ++ z)) (drop_of_length-le (drop first t) h) ∙ ap (λ (z : List ℕ). take first t ++ z) (append-nil l)

part_room : (last : Bool) (t : List ℕ) (needed first : ℕ) → needed ≤ length t → first ≡ before_rows last (length t) needed → needed ≤ length (lent_part first t)
unfolding before_rows
part_room false t needed first h e = omega (arith, part_length first t, e, h)
part_room true t needed first h e = omega (arith, part_length first t, e, h)

-- the first number of the part
pub before-rows-last : (last : Bool) (room needed : ℕ) → last ≡ true → room - needed ≡ before_rows last room needed
unfolding before_rows
before-rows-last last room needed e = rw e refl

module _ (last : Bool) (room needed : ℕ) {first : ℕ} (e : first ≡ before_rows last room needed) where
  pub before-rows-inside : first ≤ room
  unfolding before_rows
  before-rows-inside = by last e
    where
      by : (b : Bool) → first ≡ before_rows b room needed → first ≤ room
      by false e = omega (arith, e)
      by true e = omega (arith, e)

  -- and how many bytes into the table it stands
  pub before-rows-fit : room * 8 < 2 ^ 63 → Fits w64 (first * 8)
  before-rows-fit l = let i = before-rows-inside in record { fits = omega (arith, i, l) }

rows-laid : (last : Bool) (t l : List ℕ) (needed first : ℕ) → needed ≤ length t → first ≡ before_rows last (length t) needed
    → lent_back first t (l ++ drop needed (lent_part first t)) ≡ laid_over last t needed l
unfolding before_rows laid_over
rows-laid false t l needed first h e =
    back_is first t (l ++ drop needed (lent_part first t))
    ∙ (rw e refl) ∙ ap (λ (z : List ℕ). l ++ drop needed z) (part_to_end t 0)
rows-laid true t l needed first h e =
    let d : length (lent_part first t) ≤ needed = omega (arith, part_length first t, e, h) in
    back_is first t (l ++ drop needed (lent_part first t))
    ∙ ap (λ (z : List ℕ). take first t ++ (l ++ z)) (drop_of_length-le (lent_part first t) d)
    ∙ ap (λ (z : List ℕ). take first t ++ z) (append-nil l) ∙ ap (λ (i : ℕ). take i t ++ l) e

-- ---------------------------------------------------------------- the answer

module _ (layout start : ℕ) (m : List ℕ) (before : List ℕ) where
  pub manifest-refuses : (last : Bool) (n o c : ℕ) → manifest_reading (layout_of layout) (start + length m) start m ≡ refuse n o c → Filled (layout_of layout) last start m before (refused n o c) before
  unfolding answer placed
  manifest-refuses last n o c e = (rw e refl, rw e refl)

  module _ (objects components left at : ℕ) (a : Accepted (layout_of layout) (start + length m) start m objects components left at) where
    room-is : room_for (map_model (span_of (start + length m)) a.model) ≡ object_width * objects + component_width * components
    unfolding room_for
    room-is =
        let x = length-map a.model.objects (map_object (span_of (start + length m))) in
        let y = count-mapped (start + length m) a.model.objects in
        let z = a.objects-are in let w = a.components-are in
        omega arith

    pub no_room : (last : Bool) → false ≡ leb (object_width * objects + component_width * components) (length before) → Filled (layout_of layout) last start m before (refused 24 0 0) before
    unfolding answer roomy placed
    no_room last e = let r = a.is in let i = room-is in (rw (r, i, ← e) refl, rw (r, i, ← e) refl)

    module _ (room : length m < FAULT) where
      pub parts : Parts (layout_of layout) start a.tree a.model
      parts = parts-of (layout_of layout) start a.tree a.model a.judged

      -- where the objects and the attributes stand
      pub objects-read : (place : ℕ) → place ≡ length m - at → (rest : List ℕ) × Reads 31 (Here m place) parts.objects rest
      objects-read place here =
          let h : Holds 31 m at (some parts.objects) = subst (Holds 31 m at) parts.objects-there (a.objects-at a.tree a.rest a.reads parts.pairs parts.kind-is) in
          (h.1.rest, subst (λ u. Reads 31 u parts.objects h.1.rest) (sym (part_to_end m place ∙ ap (λ i. drop i m) here)) h.1.reads)

      pub attributes-hold : Holds 31 m left a.model.attributes
      attributes-hold =
          subst (λ l. Holds 31 m l a.model.attributes) (sym a.attributes-left)
          (field-holds m room a.tree a.rest a.reads parts.pairs parts.kind-is (slot attributes_at (layout_of layout).root) a.model.attributes (sym parts.attributes-are))

      module _ (fits : true ≡ leb (object_width * objects + component_width * components) (length before)) where
        reading-is : (manifest_reading (layout_of layout) (start + length m) start m >>= roomy (length before)) ≡ pass (record { start = start; model = map_model (span_of (start + length m)) a.model })
        unfolding roomy
        reading-is = let r = a.is in let i = room-is in rw (r, i, ← fits) refl

        answer-is : (s : Span) → AttributesIs m left (start + length m) s → read objects components start s ≡ answered (pass (record { start = start; model = map_model (span_of (start + length m)) a.model }))
        unfolding answer
        answer-is s h =
            let x = a.objects-are ∙ sym (length-map a.model.objects (map_object (span_of (start + length m)))) in
            let y = a.components-are ∙ sym (count-mapped (start + length m) a.model.objects) in
            let z = h a.model.attributes attributes-hold in
            let u : s.place ≡ (attributes_span (map_option (map_p (span_of (start + length m))) a.model.attributes)).place = ap (λ (s : spans.Span). s.place) z in
            let v : s.size ≡ (attributes_span (map_option (map_p (span_of (start + length m))) a.model.attributes)).size = ap (λ (s : spans.Span). s.size) z in
            rw (x, y, u, v) refl

        module _ (last : Bool) (first : ℕ) (before-rows : first ≡ before_rows last (length before) (object_width * objects + component_width * components)) where
          rows_before : first ≡ before_rows last (length before) (room_for (map_model (span_of (start + length m)) a.model))
          rows_before = before-rows ∙ ap (before_rows last (length before)) (sym room-is)

          enough-mapped : room_for (map_model (span_of (start + length m)) a.model) ≤ length before
          enough-mapped = let x = leb-true (object_width * objects + component_width * components) (length before) (sym fits) in omega (arith, x, room-is)

          part-enough : room_for a.model ≤ length (lent_part first before)
          unfolding room_for
          part-enough =
              let z = a.objects-are in let w = a.components-are in
              let y = part_room last before (object_width * objects + component_width * components) first (leb-true _ _ (sym fits)) before-rows in
              omega (arith, y, z, w)

          pub written : (place : ℕ) → place ≡ length m - at → (after : List ℕ) → Written layout (Here m place) start (start + length m) (object_width * objects) (lent_part first before) after
              → (s : Span) → AttributesIs m left (start + length m) s → Filled (layout_of layout) last start m before (read objects components start s) (lent_back first before after)
          unfolding placed
          written place here after w s h =
              let o = objects-read place here in
              let M = map_model (span_of (start + length m)) a.model in
              let from : object_width * objects ≡ object_width * length a.model.objects = ap (λ n. object_width * n) a.objects-are in (
                answer-is s h ∙ ap answered (sym reading-is),
                ap (lent_back first before) (w parts.objects o.0 o.1 a.model parts.objects-judged from part-enough)
                    ∙ rows-laid last before (rows M) (room_for M) first enough-mapped rows_before ∙ ap (placed last before) (sym reading-is),
              )

-- ---------------------------------------------------------------- as the code has it

module _ (layout : ℕ) (last : Bool) (start : ℕ) (m before : List ℕ) (x : Result Told FileFault) (h : (end : ℕ) → ManifestIs (layout_of layout) end start m x) where
  told-there : (y : Result Told FileFault) → x ≡ y → ManifestIs (layout_of layout) (start + length m) start m y
  told-there y e = subst (ManifestIs (layout_of layout) (start + length m) start m) e (h (start + length m))

  pub filled-not : (k : FileFault) → x ≡ Err k → (r : Answer) → r ≡ refused (number_of k.refusal) k.object k.component → Filled (layout_of layout) last start m before r before
  filled-not k e r is =
      subst (λ r. Filled (layout_of layout) last start m before r before) (sym is) (manifest-refuses layout start m before last (number_of k.refusal) k.object k.component (told-there (Err k) e))

  module _ (v : Told) (e : x ≡ Ok v) where
    module _ (roomy-so : Bool) (by : roomy-so ≡ leb (object_width * v.objects + component_width * v.components) (length before)) where
      pub filled-no-room : not roomy-so ≡ true → (k : FileFault) → k ≡ record { refusal = refusals.Room; object = 0; component = 0 } → (r : Answer) → r ≡ refused (number_of k.refusal) k.object k.component → Filled (layout_of layout) last start m before r before
      filled-no-room f k room r is =
          subst (λ r. Filled (layout_of layout) last start m before r before) (sym (is ∙ ap (λ (k : FileFault). refused (number_of k.refusal) k.object k.component) room))
          (no_room layout start m before v.objects v.components v.attributes v.place (told-there (Ok v) e) last (sym (not-true roomy-so f) ∙ by))

      pub filled-so : start + length m < FAULT → not roomy-so ≡ false
          → (first : ℕ) → first ≡ before_rows last (length before) (object_width * v.objects + component_width * v.components) → (place : ℕ) → place ≡ length m - v.place → (after : List ℕ)
          → Written layout (Here m place) start (start + length m) (object_width * v.objects) (lent_part first before) after → (s : Span) → AttributesIs m v.attributes (start + length m) s
          → Filled (layout_of layout) last start m before (read v.objects v.components start s) (lent_back first before after)
      filled-so room f first before-rows-are place here after w s a =
          written layout start m before v.objects v.components v.attributes v.place (told-there (Ok v) e) (omega arith) (sym (not-false roomy-so f) ∙ by) last first before-rows-are place here after w s a

-- the room for the rows
pub room-enough : {needed room : ℕ} {fits : Bool} → not fits ≡ false → fits ≡ leb needed room → needed ≤ room
room-enough {needed} {room} {fits} f by = leb-true needed room (sym by ∙ not-false fits f)

pub object-rows-fit : (objects more room : ℕ) {fits : Bool} → not fits ≡ false → fits ≡ leb (object_width * objects + more) room → room * 8 < 2 ^ 63 → Fits w64 (object_width * objects)
object-rows-fit objects more room f by l = let r : object_width * objects + more ≤ room = room-enough f by in record { fits = omega (arith, r, l) }

-- from the frame on
module _ (layout : ℕ) (last : Bool) (file before : List ℕ) (r : Result Framed Refusal) (asked : frame (layout_of layout) file ≡ framed-told r) where
  pub no-frame-read : (n : Refusal) → r ≡ Err n → (k : FileFault) → k ≡ record { refusal = n; object = 0; component = 0 } → (a : Answer) → a ≡ refused (number_of k.refusal) k.object k.component → (a ≡ answered (read_into (layout_of layout) file (length before))) × (before ≡ placed last before (read_into (layout_of layout) file (length before)))
  unfolding read_into reading answer placed
  no-frame-read n e k is-k a is =
      let z = framed layout file r asked (Err n) e in (is ∙ ap (λ (k : FileFault). refused (number_of k.refusal) k.object k.component) is-k ∙ (rw z refl), rw z refl)

  module _ (fr : Framed) (e : r ≡ Ok fr) where
    manifest-length : length (take (fr.start + fr.size - fr.start) (drop fr.start file)) ≡ fr.size
    manifest-length = let i = inside layout file r asked fr e in length-take-le (fr.start + fr.size - fr.start) (drop fr.start file) (omega (arith, length-drop fr.start file)) ∙ (omega arith)

    pub manifest-short : length file * 1 < 2 ^ 63 → fr.start + length (take (fr.start + fr.size - fr.start) (drop fr.start file)) < FAULT
    manifest-short l = let i = inside layout file r asked fr e in let n = manifest-length in omega arith

    pub frame-read : (a : Answer) (after : List ℕ) → Filled (layout_of layout) last fr.start (take (fr.start + fr.size - fr.start) (drop fr.start file)) before a after
        → (a ≡ answered (read_into (layout_of layout) file (length before))) × (after ≡ placed last before (read_into (layout_of layout) file (length before)))
    unfolding read_into
    frame-read a after f =
        let m = take (fr.start + fr.size - fr.start) (drop fr.start file) in
        let z : reading (layout_of layout) file ≡ manifest_reading (layout_of layout) (fr.start + length m) fr.start m =
        manifest-read layout file r asked fr e ∙ ap (λ (i : ℕ). manifest_reading (layout_of layout) (fr.start + i) fr.start m) (sym manifest-length) in
        (f.0 ∙ ap (λ k. answered (k >>= roomy (length before))) (sym z), f.1 ∙ ap (λ k. placed last before (k >>= roomy (length before))) (sym z))

-- at the beginning it is meaning's own table
at-beginning : (t : List ℕ) (k : Check Reading) → placed false t k ≡ table_after t k
unfolding table_after placed laid_over
at-beginning t (pass r) = refl
at-beginning t (refuse n o c) = refl

module _ (a : Answer) (t after : List ℕ) where
  pub read-at-beginning : (k : Check Reading) → a ≡ answered k → after ≡ placed false t k → (a ≡ answered k) × (after ≡ table_after t k)
  read-at-beginning k x y = (x, y ∙ at-beginning t k)

  -- for 1.2.0
  pub reads-current : (file : List ℕ) → a ≡ answered (read_into (layout_of 0) file (length t)) → after ≡ table_after t (read_into (layout_of 0) file (length t))
      → (a ≡ answered (read_into current file (length t))) × (after ≡ table_after t (read_into current file (length t)))
  reads-current file x y =
      (x ∙ ap (λ (L : Layout). answered (read_into L file (length t))) at_zero, y ∙ ap (λ (L : Layout). table_after t (read_into L file (length t))) at_zero)
