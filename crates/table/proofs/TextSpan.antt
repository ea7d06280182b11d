-- A text as it was read: its letters follow its head and end where its item ends; so their span in the file, a branch each.
use Prim.Native.Nat.{ℕ, suc, ◌+◌, ◌-◌, ◌≤◌, ◌<◌}
use native.Mathlib.Omega.{arith}
use mathlib.Core.List.{List, [], ◌∷◌}
use mathlib.Core.Logic.{⊎_elim}
use mathlib.Core.Option.{none, some}
use mathlib.Core.Path.{◌≡◌, refl, ap, ap₂, sym, ◌∙◌, subst}
use lib.ListN.{length, drop, length-drop}
use lib.Seq.{length-take-le}
use borrow.Author.Rules.{part_to_end}
use Rattle.meaning.specs.Tree as tree
use Rattle.meaning.specs.Tree.{Node, note_of, map_p}
use Rattle.meaning.specs.Check.{pass, fault}
use Rattle.meaning.specs.Refusal.{KIND}
use Rattle.meaning.specs.Model.{Word}
use Rattle.meaning.specs.Kind as kinds
use Rattle.meaning.specs.Kind.{kind}
use Rattle.meaning.specs.Read as read
use Rattle.meaning.specs.Read.{known, span_to}
use Rattle.meaning.specs.Rows.{word_span, optional_span, attributes_span}
use Rattle.meaning.proofs.Checks.{pass_same}
use Rattle.cbor.specs.Ending.{head_of}
use Rattle.cbor.specs.declared.Argued.{Argued}
use Rattle.endian.proofs.Which.{lt-or}
use Rattle.walk.specs.Reading.{Ends, ends, Reads}
use Rattle.walk.proofs.ReadSays.{Says, Stood, sized, loose, stood, nothing_read}
use Rattle.walk.proofs.Found.{major-is, text-other, Run, run-got}
use Rattle.component.specs.Value.{left_word}
use Rattle.table.specs.WordAt.{bare, lettered}
use Rattle.fields.proofs.Places as places
use Rattle.fields.proofs.Texts.{Here}
use Rattle.table.specs.declared.span.Span.{Span}
use Rattle.table.specs.Spans.{span_of, spanned, span_of_word, TextSpanIs, TextSpanAt, WholeIs}

pub record Lettered (s r : List ℕ) (w : Word Ends) : Type 0 where
  pub note-is : w.note ≡ ends s r
  pub sized : length w.letters ≡ (head_of s).value
  pub fits : (head_of s).size + (head_of s).value + length r ≡ length s

module _ (d b : ℕ) (s : List ℕ) (t : Node Ends) (r : List ℕ) (e : Reads (suc d) (b ∷ s) t r) (w : Word Ends) (is : kinds.a_word t ≡ pass w) where
  read-so : 96 ≤ b → b < 124 → Lettered (b ∷ s) r w
  unfolding kinds.a_word kinds.as_word kind
  read-so low high = go (stood d b s t r e)
    where
      go : Stood d b s t r → Lettered (b ∷ s) r w
      go (sized k n f h i y) =
          let z = subst (λ m. Says (b ∷ s) d m (known k n) (drop k s) t r) (major-is b 3 (omega arith)) y in
          let g : Run n (drop k s) z.value r = run-got n (drop k s) z.value r z.is in
          let u : record { note = ends (b ∷ s) r; letters = z.value } ≡ w = pass_same (sym (ap kinds.as_word (ap kind z.node)) ∙ is) in
          let l : length z.value ≡ n = ap length g.taken ∙ length-take-le n (drop k s) g.fits in
          let a : (head_of (b ∷ s)).value ≡ n = ap (λ a. a.value) h in
          let c : (head_of (b ∷ s)).size ≡ k + 1 = ap (λ a. a.size) h in
          let v : length r ≡ length (drop k s) - n = ap length g.left ∙ length-drop n (drop k s) in
          record {
            note-is = ap (λ (w : Word Ends). w.note) (sym u);
            sized = ap (λ (w : Word Ends). length w.letters) (sym u) ∙ l ∙ sym a;
            fits = omega (arith, g.fits, length-drop k s);
          }
      go (loose k h y) = absurd (omega arith)

pub lettered-so : (d : ℕ) (s : List ℕ) (t : Node Ends) (r : List ℕ) → Reads (suc d) s t r → (w : Word Ends) → kinds.a_word t ≡ pass w → Lettered s r w
lettered-so d [] t r e w is = absurd (nothing_read d [] t r refl e)
lettered-so d (b ∷ s) t r e w is = ⊎_elim (λ x. absurd (not-text (λ y z. omega arith))) (λ x. ⊎_elim (λ y. read-so d b s t r e w is x y) (λ y. absurd (not-text (λ x z. omega arith))) (lt-or b 124)) (lt-or b 96)
  where
    not-text : (96 ≤ b → b < 124 → ⊥) → ⊥
    not-text n = let z : pass w ≡ fault KIND = sym is ∙ text-other (b ∷ s) (omega arith) n d t r e in let y : ◌≡◌ {A = ℕ} 0 1 = cc in omega arith

abbrev span : ℕ → ℕ → Span
span place size = record { place = place; size = size }

module _ (s : List ℕ) (end : ℕ) (h : Argued) (is : h ≡ head_of (Here s 0)) where
  head-is : h ≡ head_of s
  head-is = is ∙ ap head_of (part_to_end s 0)

  pub short-text : length s < h.size → (r : Span) → TextSpanIs s end r
  short-text l r d t q e w k =
      let z = (lettered-so d s t q e w k).fits in
      let y : h.size ≡ (head_of s).size = ap (λ (a : Argued). a.size) head-is in absurd (omega arith)

  pub text-after-head : (at : ℕ) → at ≡ end - length s → TextSpanIs s end (span (at + h.size) h.value)
  unfolding word_span span_to
  text-after-head at there d t q e w k =
      let z = lettered-so d s t q e w k in
      let f = z.fits in
      let start_is : length w.note.start ≡ length s = ap (λ (p : Ends). length p.start) z.note-is in
      let rest-is : length w.note.rest ≡ length q = ap (λ (p : Ends). length p.rest) z.note-is in
      let head-size : h.size ≡ (head_of s).size = ap (λ (a : Argued). a.size) head-is in
      let head-value : h.value ≡ (head_of s).value = ap (λ (a : Argued). a.value) head-is in
      let size_is = z.sized in
      let place_is : at + h.size ≡ end - length w.note.start + (length w.note.start - length w.note.rest) - length w.letters = omega arith in
      let value-is : h.value ≡ length w.letters = omega arith in
      ap₂ (λ a b. record { place = a; size = b }) place_is value-is

module _ (c : List ℕ) (left end : ℕ) where
  pub no_text : left ≡ 0 → TextSpanAt c left end (span 0 0)
  unfolding optional_span
  no_text z o (bare b) e = rw b refl
  no_text z o (lettered w b d t x a) e = let y = x.0 in let v : length w.note.start ≡ left = sym (ap left_word b) ∙ e in absurd (omega arith)

  pub text-there : (left ≡ 0 → ⊥) → (at : ℕ) → at ≡ length c - left → (r : Span) → TextSpanIs (Here c at) end r → TextSpanAt c left end r
  unfolding optional_span
  text-there n at is r h o (bare b) e = absurd (n (sym e ∙ ap left_word b))
  text-there n at is r h o (lettered w b d t x a) e =
      let v : length w.note.start ≡ left = sym (ap left_word b) ∙ e in
      let z = places.there c (length w.note.start) at (is ∙ ap (λ i. length c - i) (sym v)) (λ t. (w : Word Ends) → kinds.a_word t ≡ pass w → spanned r ≡ span_of_word end w) h d t x.1 w a in
      rw b z

-- ---------------------------------------------------------------- whole items

note-mapped : (f : Ends → read.Span) (t : Node Ends) → note_of (map_p f t) ≡ f (note_of t)
note-mapped f (tree.uint p n) = refl
note-mapped f (tree.nint p n) = refl
note-mapped f (tree.bytes p b) = refl
note-mapped f (tree.text p b) = refl
note-mapped f (tree.chunked_bytes p b) = refl
note-mapped f (tree.chunked_text p b) = refl
note-mapped f (tree.array p n) = refl
note-mapped f (tree.dict p n) = refl
note-mapped f (tree.tag p n t) = refl
note-mapped f (tree.simple p n) = refl
note-mapped f (tree.float p w b) = refl

module _ (left size end : ℕ) where
  pub none-whole : left ≡ 0 → WholeIs left size end (span 0 0)
  unfolding attributes_span
  none-whole z none e h = refl
  none-whole z (some t) e h = let y = (h t refl).0 in absurd (omega arith)

  pub some-whole : (left ≡ 0 → ⊥) → (at : ℕ) → at ≡ end - left → WholeIs left size end (span at size)
  unfolding attributes_span span_to
  some-whole n at is none e h = absurd (n (sym e))
  some-whole n at is (some t) e h = ap₂ (λ a b. record { place = a; size = b }) (is ∙ ap (λ i. end - i) (sym e)) (h t refl).1 ∙ sym (note-mapped (span_of end) t)
