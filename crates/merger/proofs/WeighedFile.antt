-- From what the manifest was told to be and what its objects were measured as to what is answered of the file.
use Prim.Native.Nat.{ℕ, suc, ◌+◌, ◌-◌, ◌*◌, ◌^◌, ◌≤◌, ◌<◌}
use native.Mathlib.Omega.{arith}
use mathlib.Core.List.{List, [], ◌∷◌}
use mathlib.Core.Path.{◌≡◌, refl, sym, ap, ◌∙◌, subst}
use lib.ListN.{length, take, drop, length-map, length-drop}
use lib.Seq.{length-take-le}
use Rattle.meaning.specs.Limit.{manifest_limit, end_limit}
use Rattle.meaning.specs.Model.{Object}
use Rattle.meaning.specs.Notes.{map_object, map_component, map_model}
use Rattle.meaning.specs.Frame.{frame, reading}
use Rattle.meaning.specs.Layouts.{layout_of}
use Rattle.meaning.specs.Every.{Every}
use Rattle.cbor.specs.Ending.{FAULT}
use Rattle.walk.specs.Reading.{Ends}
use Rattle.walk.proofs.Passed.{Here}
use Rattle.frame.specs.FrameAnswer.{told}
use Rattle.frame.specs.declared.Framed.{Framed}
use Rattle.table.specs.Spans.{span_of}
use Rattle.table.specs.declared.span.Span.{Span}
use Rattle.table.proofs.ObjectLoop.{count-mapped}
use Rattle.reader.specs.Verdict.{manifest_reading, Accepted, ManifestIs}
use Rattle.reader.specs.Answer.{AttributesIs}
use Rattle.reader.specs.declared.Told.{Told}
use Rattle.reader.proofs.Frames.{framed, inside, manifest-read}
use Rattle.reader.proofs.Answers.{parts, objects-read, attributes-hold}
use Rattle.window.specs.Summed.{InWindow, spans, Measured}
use Rattle.merger.specs.declared.weigh.Weighed.{Weighed}
use Rattle.merger.specs.Weighed.{WeighedIs}
use Rattle.std.specs.Prelude.{Ok, Err, Result}
use Rattle.numbers.specs.declared.refusal.Refusal.{Refusal}
use Rattle.numbers.specs.declared.fault.FileFault.{FileFault}

unmapped-in-window : (end : ℕ) (os : List (Object Ends)) → Every InWindow (spans end os) → Every InWindow os
unmapped-in-window end [] w = tt
unmapped-in-window end (o ∷ os) (w, ws) =
    (record { rank = w.rank; count = let a = w.count in omega (arith, a, length-map o.components (map_component (span_of end))) }, unmapped-in-window end os ws)

-- ---- the manifest, lent whole

module _ (layout start : ℕ) (m : List ℕ) (p n from : ℕ) (before : List ℕ) (x : Result Told FileFault) (h : (end : ℕ) → ManifestIs (layout_of layout) end start m x) where
  there : (y : Result Told FileFault) → x ≡ y → ManifestIs (layout_of layout) (start + length m) start m y
  there y e = subst (ManifestIs (layout_of layout) (start + length m) start m) e (h (start + length m))

  module _ (v : Told) (e : x ≡ Ok v) (short : start + length m < FAULT) (place : ℕ) (here : place ≡ length m - v.place)
      (q k : ℕ) (after : List ℕ) (measured : Measured layout start (start + length m) p n from (Here m place) before q k after) (small : (q ≤ suc end_limit) × (k ≤ suc manifest_limit))
      (s : Span) (attributes : AttributesIs m v.attributes (start + length m) s) where
    abbrev a : Accepted (layout_of layout) (start + length m) start m v.objects v.components v.attributes v.place
    a = there (Ok v) e

    abbrev end : ℕ
    end = start + length m

    room : length m < FAULT
    room = omega arith

    pub weighs : WeighedIs (manifest_reading (layout_of layout) end start m) p n from before (Ok (record { objects = v.objects; components = v.components; place = s.place; size = s.size; end = q; total = k })) after
    weighs = record {
      case = record {
        read = record { start = start; model = map_model (span_of end) a.model };
        is = a.is;
        objects-are = a.objects-are ∙ sym (length-map a.model.objects (map_object (span_of end)));
        components-are = a.components-are ∙ sym (count-mapped end a.model.objects);
        attributes-are = attributes a.model.attributes (attributes-hold layout start m [] v.objects v.components v.attributes v.place a room);
        sums = λ w.
            let o = objects-read layout start m [] v.objects v.components v.attributes v.place a room place here in
            let sum = measured (parts layout start m [] v.objects v.components v.attributes v.place a room).objects o.0 o.1 a.model.objects (parts layout start m [] v.objects v.components v.attributes v.place a room).objects-judged
            (unmapped-in-window end a.model.objects w) in
            let z : length (spans end a.model.objects) ≡ length a.model.objects = length-map a.model.objects (map_object (span_of end)) in
            record { sum = sum.0; names = λ fits. sum.1 (omega (arith, fits, z)) };
        small = small;
      };
    }

-- ---- from the frame on

module _ (layout : ℕ) (file : List ℕ) (r : Result Framed Refusal) (asked : frame (layout_of layout) file ≡ told r) where
  pub no-frame : (k : Refusal) → r ≡ Err k → (p n from : ℕ) (before after : List ℕ) → (q : Result Weighed FileFault) → q ≡ Err (record { refusal = k; object = 0; component = 0 }) → WeighedIs (reading (layout_of layout) file) p n from before q after
  unfolding reading
  no-frame k e p n from before after q is = record { case = rw is (rw (framed layout file r asked (Err k) e) refl) }

  module _ (fr : Framed) (e : r ≡ Ok fr) where
    abbrev start : ℕ
    start = fr.start

    abbrev size : ℕ
    size = fr.size

    sized : length (take (start + size - start) (drop start file)) ≡ size
    sized = let i = inside layout file r asked fr e in length-take-le (start + size - start) (drop start file) (omega (arith, length-drop start file)) ∙ (omega arith)

    pub short : length file * 1 < 2 ^ 63 → start + length (take (start + size - start) (drop start file)) < FAULT
    short l = let i = inside layout file r asked fr e in let n = sized in omega arith

    pub whole : (p n from : ℕ) (before : List ℕ) (w : Result Weighed FileFault) (after : List ℕ)
        → WeighedIs (manifest_reading (layout_of layout) (start + length (take (start + size - start) (drop start file))) start (take (start + size - start) (drop start file))) p n from before w after
        → WeighedIs (reading (layout_of layout) file) p n from before w after
    whole p n from before w after =
        subst (λ c. WeighedIs c p n from before w after)
        (sym (manifest-read layout file r asked fr e ∙ ap (λ (i : ℕ). manifest_reading (layout_of layout) i start (take (start + size - start) (drop start file))) (ap (λ (n : ℕ). start + n) (sym sized))))
