-- What each function is told, in the terms of the laws.
use Prim.Native.Nat.{ℕ, ◌+◌, ◌-◌, ◌*◌, ◌^◌, ◌≤◌, ◌<◌}
use native.Mathlib.Omega.{arith}
use mathlib.Core.List.{List}
use mathlib.Core.Bool.{Bool, true, not}
use mathlib.Core.Logic.{◌⊎◌, inl, inr}
use mathlib.Core.Option.{some}
use mathlib.Core.Path.{◌≡◌, sym, ap, subst, ◌∙◌}
use lib.ListN.{length}
use lib.Dec.{eqb, ltb}
use borrow.Author.Tests.{ne_eqb, lt-ltb, ltb-true}
use Rattle.meaning.specs.Check.{pass}
use Rattle.meaning.specs.Refusal.{DEEP, ROOM}
use Rattle.meaning.specs.Columns.{object_width, component_width}
use Rattle.meaning.specs.Layouts.{Layout, layout_of}
use Rattle.fields.proofs.Texts.{Here}
use Rattle.frame.proofs.Frames.{size_back_lem}
use Rattle.panel.specs.declared.Listed.{Listed}
use Rattle.panel.specs.ListedText.{told, text_after}
use Rattle.reader.specs.Verdict as reader
use Rattle.reader.specs.declared.Told.{Told}
use Rattle.explained.specs.Explain as explain
use Rattle.explained.specs.Explain.{explanation, alone, span}
use Rattle.explained.specs.Sentence.{said, sentence}
use Rattle.explained.proofs.Promise.{sided}
use Rattle.entry.specs.declared.Places.{Places}
use Rattle.entry.specs.Nth.{EntryIs}
use Rattle.sentence.specs.declared.Explanation.{Explanation}
use Rattle.unread.specs.Unread.{Unread}
use Rattle.badroot.specs.Opening.{ObjectsAt}
use Rattle.badparts.specs.Parts.{owned_by}
use Rattle.badparts.specs.Parts.{Owned}
use Rattle.badobject.specs.Owner.{owned_of, ObjectIs}
use Rattle.pointed.specs.Pointed.{Pointed}
use Rattle.explaining.specs.Judged as is
use Rattle.explaining.specs.Judged.{OwnedIs}
use Rattle.explaining.proofs.Answers as answers
use Rattle.explaining.proofs.Sentence as saying
use Rattle.std.specs.Prelude.{Ok}
use Rattle.numbers.specs.declared.fault.FileFault.{FileFault}
use Rattle.std.specs.Prelude.{Result}
use Rattle.numbers.specs.Numbered.{number_of}
use Rattle.numbers.specs.declared.refusal.Refusal.{Refusal}
use Rattle.numbers.specs.declared.refusal.Refusal.TheVariants as refusals

-- does the check belong to an object or a component?
pub an-object : (o c : ℕ) → (o ≡ 0 → ⊥) → not (eqb o 0) ≡ ltb 0 (o + c)
an-object o c h = ap not (ne_eqb o 0 h) ∙ sym (lt-ltb 0 (o + c) (omega arith))

-- the reading refuses with one of two
pub low : (r : Refusal) → (r ≡ refusals.Cbor) ⊎ (r ≡ refusals.Deep) → number_of r ≤ DEEP
low r (inl e) = rw e (omega arith)
low r (inr e) = rw e (omega arith)

pub no-object : (o c : ℕ) → o ≡ 0 → ltb 0 c ≡ ltb 0 (o + c)
no-object o c h = let z : c ≡ o + c = omega arith in ap (ltb 0) z

owned-so : (layout : ℕ) (s : List ℕ) (start n c : ℕ) (r : Owned) → ObjectIs layout s start n c r → OwnedIs (layout_of layout) s start n c r.spot r.key
unfolding owned_by owned_of
owned-so layout s start n c r h it q o reads says y e =
    let w : r ≡ owned_by y = h it.value q reads it.name o says ∙ ap owned_of e in
    (sym (ap (λ x. x.key) w), ap (λ x. x.spot.left) w)

module _ (layout : ℕ) (m : List ℕ) (start end n o c : ℕ) (r : Explanation) where
  pub of-object : (objects from : ℕ) → from ≡ length m - objects → (e : Places) → EntryIs 30 (Here m from) o e → (v : ℕ) → v ≡ length m - e.value → (w : Owned) → ObjectIs layout (Here m v) start n c w
      → {left : ℕ} → left ≡ w.spot.left → Pointed m end n o c e.key w.key left r → is.InsideIs (layout_of layout) m start end n o c objects r
  of-object objects from from_is e found v v-is w owned same point =
      answers.of-object (layout_of layout) m start end n o c r (sided layout) objects from from_is e found v v-is w.spot w.key (owned-so layout (Here m v) start n c w owned) (subst (λ (i : ℕ). Pointed m end n o c e.key w.key i r) same point)

  pub beyond-the-root : {b : Bool} → b ≡ ltb 0 (o + c) → b ≡ true → (objects : ℕ) → ObjectsAt (layout_of layout) m objects → is.InsideIs (layout_of layout) m start end n o c objects r
      → is.JudgedIs (layout_of layout) m start end n o c r
  beyond-the-root e f objects stand inside = answers.beyond-the-root (layout_of layout) m start end n o c r (ltb-true 0 (o + c) (sym e ∙ f)) objects stand inside

  pub by-its-bytes : {k : ℕ} → k ≡ n → n ≤ DEEP → Unread m end k r → is.RefusedIs (layout_of layout) m start end n o c r
  by-its-bytes e low unread = answers.by-its-bytes (layout_of layout) m start end n o c r (size_back_lem layout) low (subst (λ k. Unread m end k r) e unread)

-- a manifest that is accepted has so few
pub counted : (L : Layout) (m : List ℕ) (start : ℕ) {x : Result Told FileFault} → ((end : ℕ) → reader.ManifestIs L end start m x) → {v : Told} → x ≡ Ok v → (v.objects ≤ 1024) × (v.components ≤ 16384)
counted L m start {x} asked {v} e = answers.counted L m start 0 0 x asked v e

-- the table is too small
pub too-little : (objects components room : ℕ) → room < object_width * objects + component_width * components
    → {n needed : ℕ} → n ≡ ROOM → needed ≡ object_width * objects + component_width * components
    → {x : explain.Explanation} → x ≡ explanation (some (alone n (span 0 0))) needed → x ≡ is.sound objects components room
too-little objects components room l {n} {needed} n-is needed-is h =
    h ∙ ap (λ (n : ℕ). explanation (some (alone n (span 0 0))) needed) n-is ∙ ap (explanation (some (alone ROOM (span 0 0)))) needed-is ∙ answers.too-little objects components room l

-- what is said is the sentence
module _ (layout : ℕ) (file : List ℕ) (room : ℕ) (e : Explanation) (explained : is.ExplainedIs layout file room e) where
  pub place-small : length file * 1 < 2 ^ 63 → e.place + e.length < 18446744073709551616
  place-small lent = omega (arith, saying.in-range layout file room e explained)

  pub sentence-told : (text : List ℕ) {r : Listed} → r ≡ told (pass (said (layout_of layout) file (is.explanation e))) (length text) → r ≡ told (pass (sentence (layout_of layout) file room)) (length text)
  sentence-told text h = h ∙ ap (λ t. told (pass t) (length text)) (saying.said-is layout file room e explained)

  pub sentence-written : (text : List ℕ) {t : List ℕ} → t ≡ text_after (pass (said (layout_of layout) file (is.explanation e))) text → t ≡ text_after (pass (sentence (layout_of layout) file room)) text
  sentence-written text h = h ∙ ap (λ t. text_after (pass t) text) (saying.said-is layout file room e explained)
