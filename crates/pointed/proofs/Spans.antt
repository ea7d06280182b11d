-- What the code answers of a check is its explanation.
use Prim.Native.Nat.{ℕ, ◌+◌, ◌-◌}
use native.Mathlib.Omega.{arith}
use mathlib.Core.List.{List}
use mathlib.Core.Option.{Option, some}
use mathlib.Core.Path.{◌≡◌, refl, sym, ap, ◌∙◌, subst}
use lib.ListN.{length, drop, length-append}
use lib.Seq.{drop_at}
use borrow.Author.Rules.{part_to_end}
use Rattle.meaning.specs.Limit.{depth_limit}
use Rattle.meaning.specs.Model.{Word}
use Rattle.meaning.specs.Read.{span_to}
use Rattle.cbor.specs.Ending.{code, ending, item_end}
use Rattle.walk.specs.Reading.{Ends}
use Rattle.fields.proofs.Texts.{Here}
use Rattle.component.specs.Value.{left_word}
use Rattle.table.specs.WordAt.{WordAt}
use Rattle.table.specs.declared.span.Span as found
use Rattle.table.specs.Spans.{span_of, spanned, span_of_option, TextSpanAt}
use Rattle.explained.specs.Step.{Step}
use Rattle.explained.specs.Notes.{map_step}
use Rattle.explained.specs.Explain.{span, explanation}
use Rattle.explained.specs.Explain as explain
use Rattle.cursor.specs.Item.{passed}
use Rattle.met.specs.Met as met
use Rattle.met.specs.Met.{Tail}
use Rattle.pointed.specs.Pointed.{Met}

module _ (m : List ℕ) (end : ℕ) where
  -- a tail begins where its length is left
  from-there : (s : List ℕ) → Tail m s → drop (length m - length s) m ≡ s
  from-there s t =
      let l : length m ≡ length t.front + length s = ap length t.split ∙ length-append t.front s in
      let z : length t.front ≡ length m - length s = omega arith in
      ap (drop (length m - length s)) t.split ∙ drop_at t.front s (length m - length s) z

  size_is : (p : met.Met m) → passed m (length p.at.start) ≡ length p.at.start - length p.at.rest
  size_is p = ap (λ u. code (item_end depth_limit u)) (from-there p.at.start p.tail) ∙ ap (λ o. code (ending p.at.start o)) p.passed.is

  place_is : (p : met.Met m) (place size left : ℕ) → length p.at.start ≡ left → place ≡ end - left → size ≡ passed (Here m 0) left → span place size ≡ span_of end p.at
  unfolding span_to
  place_is p place size left l a b =
      let x : place ≡ end - length p.at.start = a ∙ ap (λ (i : ℕ). end - i) (sym l) in
      let y : size ≡ length p.at.start - length p.at.rest = b ∙ ap (λ u. passed u left) (part_to_end m 0) ∙ ap (passed m) (sym l) ∙ size_is p in
      rw (x, y) refl

  name-span : (left : ℕ) (r : found.Span) → TextSpanAt (Here m 0) left end r → (o : Option (Word Ends)) → WordAt m o → left_word o ≡ left → spanned r ≡ span_of_option end o
  name-span left r told o w = told o (subst (λ u. WordAt u o) (sym (part_to_end m 0)) w)

  pub is-explained : (n o c object role left : ℕ) (s : Step Ends) → Met m n o c object role left s
      → (a b : found.Span) → TextSpanAt (Here m 0) object end a → TextSpanAt (Here m 0) role end b → (place size : ℕ) → place ≡ end - left → size ≡ passed (Here m 0) left
      → ◌≡◌ {A = explain.Explanation} (record { number = n; object = o; component = c; object_name = spanned a; component_name = spanned b; place = span place size; room = 0 })
      (explanation (some (map_step (span_of end) s)) 0)
  unfolding explanation
  is-explained n o c object role left s k a b ha hb place size hp hs =
      let x : spanned a ≡ span_of_option end s.object_name = name-span object a ha s.object_name k.name k.name-left in
      let y : spanned b ≡ span_of_option end s.component_name = name-span role b hb s.component_name k.part k.part_left in
      let w : s.place ≡ k.stands.it.place.at = ap (λ t. t.place) k.stands.is in
      let z : span place size ≡ span_of end s.place = place_is k.stands.it.place place size left (sym (ap (λ e. length e.start) w) ∙ k.place-left) hp hs ∙ ap (span_of end) (sym w) in
      rw (x, y, z, ← k.number, ← k.of_object, ← k.of_component) refl
