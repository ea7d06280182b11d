-- A manifest whose reading stops: where, and the byte that is shown.
use Prim.Native.Nat.{ℕ, ◌-◌, ◌≤◌, ◌<◌}
use native.Mathlib.Omega.{arith}
use mathlib.Core.List.{List, [], ◌∷◌}
use mathlib.Core.Option.{some}
use mathlib.Core.Path.{◌≡◌, refl, sym, ap, ◌∙◌, subst}
use lib.ListN.{length}
use borrow.Author.Rules.{part_to_end}
use Rattle.meaning.specs.Tree.{Node, map_p, nothing}
use Rattle.meaning.specs.Refusal.{CBOR}
use Rattle.meaning.specs.Read.{Outcome, got, refused, after, Span, span_to, item, no_note, closed, manifest}
use Rattle.meaning.proofs.ReadNatural.{map_out, item-follows}
use Rattle.meaning.proofs.ReadPrefix.{item-hungry, item-exact}
use Rattle.cbor.specs.Ending.{took, fault, ending, item_end}
use Rattle.cbor.proofs.Ends.{got-what}
use Rattle.fields.proofs.Texts.{Here}
use Rattle.stop.specs.Stop.{Refuses, Reaches}
use Rattle.stop.proofs.Held.{told}
use Rattle.sentence.specs.Given as goal
use Rattle.sentence.specs.declared.Explanation.{Explanation}
use Rattle.explained.specs.Explain.{span, head_span, explanation, alone}
use Rattle.unread.specs.Unread.{lone, StopsAt, Unread}
use Rattle.std.specs.Prelude.{Result, Ok, Err}

abbrev Item : Type 0
Item = Node (Unit {0})

-- what is met where the item ends
still-left : (t : Item) (r : List ℕ) (n : ℕ) (q : List ℕ) → closed t r ≡ refused n q → r ≡ q
unfolding closed
still-left t [] n q e = absurd (let z : ◌≡◌ {A = ℕ} 0 1 = cc in omega arith)
still-left t (b ∷ r) n q e = cc

-- m is lent whole to `stop::pass`, which answered x
module _ (m : List ℕ) (x : Result ℕ ℕ) (h : Reaches 32 (Here m 0) x) where
  module _ (e : ℕ) (past : x ≡ Ok e) where
    ends : item_end 32 m ≡ took e
    ends = told (Reaches 32) m 0 h past

    pub inside : e ≤ length m
    inside = (got-what (item no_note 32) (item-exact 32) m e ends).within

    -- bytes are left over
    pub left_over : StopsAt m (length m - e)
    unfolding manifest
    left_over n q = go (item no_note 32 m) refl
      where
        go : (o : Outcome Item) → item no_note 32 m ≡ o → after o closed ≡ refused n q → length m - e ≡ length q
        go (got t r) h z =
            let y : took (length m - length r) ≡ took e = sym (ap (ending m) h) ∙ ends in
            let v : length m - length r ≡ e = cc in
            let x : length r ≡ length q = ap length (still-left t r n q z) in
            let w : length r < length m = item-hungry 32 [] m t r h in
            omega (arith, v, x, w)
        go (refused k p) h z = absurd (let y : fault k ≡ took e = sym (ap (ending m) h) ∙ ends in let u : ◌≡◌ {A = ℕ} 0 1 = cc in omega (arith, u))

  pub stops : (k : ℕ) → x ≡ Err k → StopsAt m k
  unfolding manifest
  stops k at n q e =
      let r : Refuses (item no_note 32) m k = told (Reaches 32) m 0 h at in
      let y : ◌≡◌ {A = Outcome Item} (refused r.number r.at) (refused n q) = sym (ap (λ o. after o closed) r.is) ∙ e in
      let x : r.at ≡ q = cc in
      r.left ∙ ap length x

-- the same for spans
module _ (m : List ℕ) (end left : ℕ) (stopped : StopsAt (Here m 0) left) (n : ℕ) (q : List ℕ) (e : manifest (span_to end) m ≡ refused n q) where
  forgotten : (o : Outcome (Node Span)) → after o closed ≡ refused n q → after (map_out (map_p nothing) o) closed ≡ refused n q
  unfolding closed
  forgotten (got t []) z = absurd (let y : ◌≡◌ {A = ℕ} 0 1 = cc in omega arith)
  forgotten (got t (b ∷ r)) z = let x : CBOR ≡ n = cc in let y : b ∷ r ≡ q = cc in rw (x, y) refl
  forgotten (refused k p) z = let x : k ≡ n = cc in let y : p ≡ q = cc in rw (x, y) refl

  left_is : left ≡ length q
  unfolding manifest no_note
  left_is = subst (λ u. StopsAt u left) (part_to_end m 0) stopped n q (ap (λ o. after o closed) (item-follows nothing (span_to end) 32 m) ∙ forgotten (item (span_to end) 32 m) e)

  none_left : (q : List ℕ) → length q ≡ 0 → head_span end q ≡ span end 0
  unfolding head_span
  none_left [] z = refl
  none_left (b ∷ q) z = absurd (omega arith)

  some_left : (q : List ℕ) → left ≡ length q → (left ≡ 0 → ⊥) → head_span end q ≡ span (end - left) 1
  unfolding head_span
  some_left [] z l = absurd (l z)
  some_left (b ∷ q) z l = ap (λ (i : ℕ). span (end - i) 1) (sym z)

  shown-end : left ≡ 0 → lone n end 0 ≡ explanation (some (alone n (head_span end q))) 0
  shown-end z = ap (λ w. explanation (some (alone n w)) 0) (sym (none_left q (sym left_is ∙ z)))

  shown-head : (left ≡ 0 → ⊥) → lone n (end - left) 1 ≡ explanation (some (alone n (head_span end q))) 0
  shown-head z = ap (λ w. explanation (some (alone n w)) 0) (sym (some_left q left_is z))

module _ (m : List ℕ) (end left : ℕ) (stopped : StopsAt (Here m 0) left) (n : ℕ) (r : Explanation) where
  pub at-the-end : left ≡ 0 → goal.explanation r ≡ lone n end 0 → Unread m end n r
  at-the-end z is q e = is ∙ shown-end m end left stopped n q e z

  pub at-a-head : (left ≡ 0 → ⊥) → (p : ℕ) → p ≡ end - left → goal.explanation r ≡ lone n p 1 → Unread m end n r
  at-a-head z p at is q e = is ∙ ap (λ (i : ℕ). lone n i 1) at ∙ shown-head m end left stopped n q e z
