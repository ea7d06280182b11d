-- From a manifest's reading to the explanation of every file that has it.
use Prim.Native.Nat.{ℕ, ◌+◌, ◌*◌, ◌≤◌}
use native.Mathlib.Omega.{arith}
use mathlib.Core.List.{List, [], ◌∷◌, map}
use mathlib.Core.Bool.{Bool, true, false, cond}
use mathlib.Core.Option.{none, some}
use mathlib.Core.Path.{◌≡◌, refl, sym, ap, ◌∙◌, subst}
use lib.ListN.{length, take, drop, length-map}
use lib.Dec.{leb}
use borrow.Author.Tests.{leb-true}
use Rattle.meaning.specs.Tree.{Node, map_p}
use Rattle.meaning.specs.Check.{Check, pass, refuse, fault, ◌>>=◌}
use Rattle.meaning.specs.Refusal.{CBOR, DEEP, KIND, ROOM}
use Rattle.meaning.specs.Limit.{object_limit, component_limit}
use Rattle.meaning.specs.Columns.{object_width, component_width}
use Rattle.meaning.specs.Model.{Model, Object}
use Rattle.meaning.specs.Notes.{map_check, map_model, map_object}
use Rattle.meaning.specs.Read.{Outcome, got, refused, after, Span, span_to, item, closed, manifest}
use Rattle.meaning.specs.Layouts.{Layout}
use Rattle.meaning.specs.Judge.{judge}
use Rattle.meaning.specs.Frame.{Frame, checked, Reading, reading}
use Rattle.meaning.specs.Rows.{room_for, component_count}
use Rattle.meaning.proofs.ReadNatural.{map_out, item-follows}
use Rattle.meaning.proofs.JudgeNatural.{judge-map}
use Rattle.meaning.proofs.AcceptedModel.{Ensures, passed, ModelSound, ObjectSound, accepted-sound}
use Rattle.meaning.specs.Every.{Every}
use Rattle.walk.specs.Reading.{Ends, ends, Reads}
use Rattle.table.specs.Spans.{span_of}
use Rattle.table.proofs.ObjectLoop.{count-mapped}
use Rattle.reader.specs.Verdict.{manifest_reading, Accepted}
use Rattle.explained.specs.Explain as explain
use Rattle.explained.specs.Explain.{span, head_span, root, alone}
use Rattle.explained.proofs.Natural.{first-steps-map}
use Rattle.explained.proofs.Stages as stages
use Rattle.shown.specs.Accepted.{Framing}
use Rattle.shown.proofs.Judged.{between, passed-so, refused-so}
use Rattle.shown.proofs.ReadingJudged as shown
use Rattle.shown.proofs.ReadingJudged.{frame-so, tree-so, manifest-refusals}
use Rattle.shown.proofs.Judgement.{judge-so}
use Rattle.explaining.specs.Judged.{told, sound, Framed}

-- the rest of a manifest's reading, once its item is judged, and once it is read
abbrev modelling : ℕ → Check (Model Span) → Check Reading
modelling start k = k >>= λ m. pass (record { start = start; model = m })

abbrev judging : Layout → ℕ → Check (Node Span) → Check Reading
judging L start k = k >>= λ t. modelling start (judge L start t)

module _ (L : Layout) (m : List ℕ) (start end : ℕ) where
  abbrev spans : Ends → Span
  spans = span_of end

  read-so : (o : Outcome (Node Ends)) → item ends 32 m ≡ o → manifest (span_to end) m ≡ after (map_out (map_p spans) o) closed
  unfolding manifest
  read-so o h = ap (λ x. after x closed) (item-follows spans ends 32 m ∙ ap (map_out (map_p spans)) h)

  -- a file that has it
  module _ (file : List ℕ) (f : Framed L file m start end) where
    abbrev at : Frame
    at = record { start = start; size = f.size }

    root_is : root file at ≡ manifest (span_to end) m
    unfolding root
    root_is = ap (λ (i : ℕ). manifest (span_to i) (take f.size (drop start file))) f.ends ∙ ap (manifest (span_to end)) (sym f.is)

    pub reading-is : reading L file ≡ manifest_reading L end start m
    unfolding reading
    reading-is =
        (rw f.frames refl)
        ∙ ap (λ (i : ℕ). manifest_reading L i start (take f.size (drop start file))) f.ends ∙ ap (manifest_reading L end start) (sym f.is)

  -- the tree that fills it, with spans
  module _ (t : Node Ends) where
    in-spans : Reads 32 m t [] → manifest (span_to end) m ≡ got (map_p spans t) []
    unfolding closed
    in-spans = read-so (got t [])

    judged-in-spans : (k : Check (Model Ends)) → judge L start t ≡ k → judge L start (map_p spans t) ≡ map_check (map_model spans) k
    judged-in-spans k h = judge-map spans L start t ∙ ap (map_check (map_model spans)) h

  module _ (n o c : ℕ) where
    -- why it is refused: its reading stops, or the tree that fills it is refused
    pub data Cause : Type 0 where
      stops : (q : List ℕ) → manifest (span_to end) m ≡ refused n q → Cause
      fills : (t : Node Ends) → Reads 32 m t [] → judge L start t ≡ refuse n o c → Cause

    pub cause : manifest_reading L end start m ≡ refuse n o c → Cause
    unfolding checked closed
    cause says = go (item ends 32 m) refl
      where
        stopped : (k : ℕ) (q : List ℕ) → manifest (span_to end) m ≡ refused k q → Cause
        stopped k q h =
            let z : fault k ≡ refuse n o c = sym (ap (λ x. judging L start (checked x)) h) ∙ says in
            let y : k ≡ n = cc in
            stops q (h ∙ ap (λ (i : ℕ). refused i q) y)

        filled : (t : Node Ends) → Reads 32 m t [] → (k : Check (Model Ends)) → judge L start t ≡ k → modelling start (map_check (map_model spans) k) ≡ refuse n o c → Cause
        filled t r (pass x) h w = absurd (let y : ◌≡◌ {A = ℕ} 0 1 = cc in omega arith)
        filled t r (refuse x y z) h w = fills t r (h ∙ (let a : x ≡ n = cc in let b : y ≡ o = cc in let d : z ≡ c = cc in rw (a, b, d) refl))

        go : (x : Outcome (Node Ends)) → item ends 32 m ≡ x → Cause
        go (got t []) h = filled t h (judge L start t) refl (sym (ap (λ x. judging L start (checked x)) (in-spans t h) ∙ ap (modelling start) (judged-in-spans t (judge L start t) refl)) ∙ says)
        go (got t (b ∷ r)) h = stopped CBOR (b ∷ r) (read-so (got t (b ∷ r)) h)
        go (refused k q) h = stopped k q (read-so (refused k q) h)

    -- of a file that has it
    module _ (file : List ℕ) (f : Framed L file m start end) where
      so : Framing L → shown.Framed L file (at file f)
      so framing = passed-so (frame-so L framing file) f.frames

      module _ (q : List ℕ) (e : manifest (span_to end) m ≡ refused n q) where
        pub stop-number : Framing L → (CBOR ≤ n) × (n ≤ DEEP)
        unfolding root
        stop-number framing = manifest-refusals L file (at file f) (so framing) (root_is file f ∙ e)

        pub explained-stop : (room : ℕ) → explain.explain L file room ≡ explain.explanation (some (alone n (head_span end q))) 0
        explained-stop room =
            stages.unread L file room (at file f) f.frames n q (root_is file f ∙ e) ∙ ap (λ (i : ℕ). explain.explanation (some (alone n (head_span i q))) 0) f.ends

      module _ (t : Node Ends) (reads : Reads 32 m t []) (w : judge L start t ≡ refuse n o c) where
        pub tree-number : Framing L → KIND ≤ n
        unfolding root checked
        tree-number framing =
            let placed = passed-so (tree-so L file (at file f) (so framing)) (ap checked (root_is file f ∙ in-spans t reads)) in
            (between n (refused-so (judge-so L file start (map_p spans t) placed) (judged-in-spans t (refuse n o c) w))).0

        pub explained-tree : (room : ℕ) → explain.explain L file room ≡ told L start end t
        explained-tree room =
            stages.in_tree L file room (at file f) f.frames (map_p spans t) [] (root_is file f ∙ in-spans t reads) n o c (judged-in-spans t (refuse n o c) w)
            ∙ ap (λ s. explain.explanation s 0) (first-steps-map spans L start t)

  -- it is accepted
  module _ (objects components left place : ℕ) (a : Accepted L end start m objects components left place) where
    room-is : room_for (map_model spans a.model) ≡ object_width * objects + component_width * components
    unfolding room_for
    room-is =
        let x = length-map a.model.objects (map_object spans) in
        let y = count-mapped end a.model.objects in
        rw (a.objects-are, a.components-are, x, y) refl

    pub explained-sound : (file : List ℕ) → Framed L file m start end → (room : ℕ) → sound objects components room ≡ explain.explain L file room
    unfolding sound
    explained-sound file f room = go (leb (object_width * objects + component_width * components) room) refl
      where
        passes : reading L file ≡ pass (record { start = start; model = map_model spans a.model })
        passes = reading-is file f ∙ a.is

        go : (b : Bool) → leb (object_width * objects + component_width * components) room ≡ b
            → cond b (explain.explanation none 0) (explain.explanation (some (alone ROOM (span 0 0))) (object_width * objects + component_width * components)) ≡ explain.explain L file room
        go true h = sym (stages.room-enough L file room (record { start = start; model = map_model spans a.model }) passes (ap (λ (i : ℕ). leb i room) room-is ∙ h))
        go false h =
            sym (stages.no_room L file room (record { start = start; model = map_model spans a.model }) passes (ap (λ (i : ℕ). leb i room) room-is ∙ h)
            ∙ ap (explain.explanation (some (alone ROOM (span 0 0)))) room-is)

    model-sound : ModelSound start a.model
    model-sound = go (judge L start a.tree) a.judged (accepted-sound L start a.tree)
      where
        go : (k : Check (Model Ends)) → k ≡ pass a.model → Ensures (ModelSound start) k → ModelSound start a.model
        go (pass x) e (passed h) = let z : x ≡ a.model = cc in subst (ModelSound start) z h
        go (refuse x y z) e h = absurd (let w : ◌≡◌ {A = ℕ} 0 1 = cc in omega arith)

    pub few-objects : objects ≤ 1024
    few-objects =
        let l : length (map (λ o. o.name.letters) a.model.objects) ≤ object_limit = leb-true _ object_limit model-sound.names.few in
        let x = length-map a.model.objects (λ o. o.name.letters) in
        let y = a.objects-are in
        omega (arith, l, x, y)

    few-each : (os : List (Object Ends)) → Every (ObjectSound start) os → component_count os ≤ 16 * length os
    unfolding component_count
    few-each [] h = omega arith
    few-each (o ∷ os) h =
        let l : length (map (λ c. c.name.letters) o.components) ≤ component_limit = leb-true _ component_limit h.0.names.few in
        let x = length-map o.components (λ c. c.name.letters) in
        let y = few-each os h.1 in
        omega (arith, l, x, y)

    pub few-components : components ≤ 16384
    few-components =
        let x = few-each a.model.objects model-sound.objects in
        let y = few-objects in
        let z = a.components-are in
        let w = a.objects-are in
        omega (arith, x, y, z, w)
