-- What each function answers, from what those that it calls answered.
use Prim.Native.Nat.{ℕ, ◌+◌, ◌-◌, ◌*◌, ◌≤◌, ◌<◌}
use native.Mathlib.Omega.{arith}
use mathlib.Core.List.{List, []}
use mathlib.Core.Option.{some}
use mathlib.Core.Path.{◌≡◌, refl, sym, ap, ◌∙◌, subst}
use lib.ListN.{length, take, drop}
use borrow.Author.Tests.{le-leb, lt-leb}
use Rattle.meaning.specs.Refusal.{CBOR, DEEP, ROOM}
use Rattle.meaning.specs.Columns.{object_width, component_width}
use Rattle.meaning.specs.Notes.{map_option}
use Rattle.meaning.specs.Layouts.{Layout, layout_of}
use Rattle.meaning.specs.Frame.{frame}
use Rattle.meaning.specs.Rows.{optional_span}
use Rattle.fields.proofs.Texts.{Here}
use Rattle.frame.specs.FrameAnswer as framing
use Rattle.frame.specs.declared.Framed.{Framed}
use Rattle.table.specs.Spans.{span_of}
use Rattle.reader.specs.Verdict as reader
use Rattle.reader.specs.declared.Told.{Told}
use Rattle.explained.specs.Fields.{Sided}
use Rattle.explained.specs.Notes.{map_step}
use Rattle.explained.specs.Explain as explain
use Rattle.explained.specs.Explain.{span, alone}
use Rattle.spot.specs.Shown.{Spot}
use Rattle.entry.specs.declared.Places.{Places}
use Rattle.entry.specs.Nth.{EntryIs}
use Rattle.unread.specs.Unread.{Unframed, Unread}
use Rattle.badroot.specs.Opening.{RootIs, ObjectsAt}
use Rattle.pointed.specs.Pointed.{Pointed}
use Rattle.sentence.specs.declared.Explanation.{Explanation}
use Rattle.shown.specs.Accepted.{Framing}
use Rattle.explaining.specs.Judged as is
use Rattle.explaining.proofs.Within as within
use Rattle.explaining.proofs.Words as words
use Rattle.explaining.proofs.FromReading as reading
use Rattle.explaining.proofs.FromReading.{Cause, stops, fills}
use Rattle.std.specs.Prelude.{Ok, Err, Result}
use Rattle.numbers.specs.declared.refusal.Refusal.{Refusal}
use Rattle.numbers.specs.declared.fault.FileFault.{FileFault}
use Rattle.numbers.specs.Numbered.{number_of}

module _ (L : Layout) (m : List ℕ) (start end n o c : ℕ) (r : Explanation) where
  pub of-object : Sided L → (objects from : ℕ) → from ≡ length m - objects → (e : Places) → EntryIs 30 (Here m from) o e → (v : ℕ) → v ≡ length m - e.value
      → (sp : Spot) (key : ℕ) → is.OwnedIs L (Here m v) start n c sp key → Pointed m end n o c e.key key sp.left r → is.InsideIs L m start end n o c objects r
  of-object sided objects from from_is e found v v-is sp key owned point t q reads refused op stand =
      let b = within.owner L m start t q reads n o c refused op in
      let y = within.own L m start t q reads n o c refused op in
      let s = within.value-stands L m start t q reads n o c refused op objects stand from from_is e found v v-is in
      let x = within.value_read L m start t q reads n o c refused op objects stand from from_is e found v v-is in
      let w = owned b.it s.rest b.of_it x b.refuses y.step y.is in
      let k = within.met-inside L m start t q reads n o c refused op objects stand from from_is e found v v-is key sp.left (words.component-word L m t q reads start n o c sided refused) w.0 w.1 in
      let z = within.why L m start t q reads n o c refused in
      point z.this k ∙ ap (λ f. explain.explanation (map_option (map_step (span_of end)) f) 0) (sym z.shown)

  pub beyond-the-root : 0 < o + c → (objects : ℕ) → ObjectsAt L m objects → is.InsideIs L m start end n o c objects r → is.JudgedIs L m start end n o c r
  beyond-the-root l objects stand inside t q reads refused = inside t q reads refused (within.beyond-opening L m start t q reads n o c refused l) stand

  module _ (sp : Spot) (root : RootIs L m n sp) where
    pub past-the-root : sp.number ≡ 0 → (objects : ℕ) → ObjectsAt L m objects → is.InsideIs L m start end n o c objects r → is.JudgedIs L m start end n o c r
    past-the-root z objects stand inside t q reads refused =
        inside t q reads refused (within.past-opening L m start t q reads n o c refused sp (root t q reads (within.opening-by-number L m start t q reads n o c refused)) z) stand

    pub in-the-root : (sp.number ≡ 0 → ⊥) → {z : Spot} → z ≡ sp → Pointed m end n o c 0 0 z.left r → is.JudgedIs L m start end n o c r
    in-the-root nz same point t q reads refused =
        let z = within.why L m start t q reads n o c refused in
        subst (λ (u : Spot). Pointed m end n o c 0 0 u.left r) same point z.this (within.met-opening L m start t q reads n o c refused sp (root t q reads (within.opening-by-number L m start t q reads n o c refused)) nz) ∙ ap (λ f. explain.explanation (map_option (map_step (span_of end)) f) 0) (sym z.shown)

  module _ (framing : Framing L) where
    pub by-its-bytes : n ≤ DEEP → Unread m end n r → is.RefusedIs L m start end n o c r
    by-its-bytes low unread told file f room = go (reading.cause L m start end n o c told)
      where
        go : Cause L m start end n o c → is.explanation r ≡ explain.explain L file room
        go (stops q e) = unread q e ∙ sym (reading.explained-stop L m start end n o c file f q e room)
        go (fills t h w) = absurd (let z = reading.tree-number L m start end n o c file f t h w framing in omega (arith, low, z))

    pub by-its-tree : (n ≡ CBOR → ⊥) → (n ≡ DEEP → ⊥) → is.JudgedIs L m start end n o c r → is.RefusedIs L m start end n o c r
    by-its-tree nc nd judged told file f room = go (reading.cause L m start end n o c told)
      where
        go : Cause L m start end n o c → is.explanation r ≡ explain.explain L file room
        go (stops q e) = absurd (let z = reading.stop-number L m start end n o c file f q e framing in omega (arith, z.0, z.1, nc, nd))
        go (fills t h w) = judged t [] h w ∙ sym (reading.explained-tree L m start end n o c file f t h w room)

module _ (L : Layout) (m : List ℕ) (start end room : ℕ) (x : Result Told FileFault) (asked : (end : ℕ) → reader.ManifestIs L end start m x) where
  pub no-manifest : (r : Explanation) (n : FileFault) → x ≡ Err n → is.RefusedIs L m start end (number_of n.refusal) n.object n.component r → is.ManifestIs L m start end room r
  no-manifest r n e refused file f = refused (subst (reader.ManifestIs L end start m) e (asked end)) file f room

  module _ (v : Told) (e : x ≡ Ok v) where
    accepted : reader.Accepted L end start m v.objects v.components v.attributes v.place
    accepted = subst (reader.ManifestIs L end start m) e (asked end)

    pub counted : (v.objects ≤ 1024) × (v.components ≤ 16384)
    counted = (reading.few-objects L m start end v.objects v.components v.attributes v.place accepted, reading.few-components L m start end v.objects v.components v.attributes v.place accepted)

    pub a-manifest : (r : Explanation) → is.explanation r ≡ is.sound v.objects v.components room → is.ManifestIs L m start end room r
    a-manifest r h file f = h ∙ reading.explained-sound L m start end v.objects v.components v.attributes v.place accepted file f room

module _ (objects components room : ℕ) where
  abbrev needed : ℕ
  needed = object_width * objects + component_width * components

  pub too-little : room < needed → explain.explanation (some (alone ROOM (span 0 0))) needed ≡ is.sound objects components room
  unfolding is.sound
  too-little l = rw (lt-leb needed room l) refl

  pub enough : needed ≤ room → (x : explain.Explanation) → x ≡ explain.explanation (some (alone 0 (span 0 0))) 0 → x ≡ is.sound objects components room
  unfolding is.sound explain.explanation optional_span
  enough l x h = h ∙ (rw (le-leb needed room l) refl)

module _ (layout : ℕ) (file : List ℕ) (room : ℕ) (x : Result Framed Refusal) (asked : frame (layout_of layout) file ≡ framing.told x) (r : Explanation) where
  pub no-frame : (n : Refusal) → x ≡ Err n → Unframed layout file (number_of n) r → is.ExplainedIs layout file room r
  no-frame n e h = h (asked ∙ ap framing.told e) room

  pub a-frame : (v : Framed) → x ≡ Ok v → is.ManifestIs (layout_of layout) (take (v.start + v.size - v.start) (drop v.start file)) v.start (v.start + v.size) room r → is.ExplainedIs layout file room r
  a-frame v e h =
      let z : v.start + v.size - v.start ≡ v.size = omega arith in
      h file (record { size = v.size; frames = asked ∙ ap framing.told e; ends = refl; is = ap (λ (i : ℕ). take i (drop v.start file)) z })
