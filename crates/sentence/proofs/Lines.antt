-- The parts of a sentence, as they are put, are the definition's.
use Prim.Native.Nat.{ℕ, ◌+◌, ◌-◌, ◌*◌, ◌^◌, ◌<◌}
use native.Mathlib.Omega.{arith}
use mathlib.Core.List.{List, [], ◌∷◌, ◌++◌}
use mathlib.Core.Bool.{Bool, true, false, cond, not, ◌&&◌}
use mathlib.Core.Path.{◌≡◌, refl, ap, sym, ◌∙◌}
use lib.ListN.{length, take, drop}
use lib.Dec.{eqb}
use borrow.Author.Tests.{eq-eqb, ne_eqb}
use Rattle.meaning.specs.Text.{ascii}
use Rattle.meaning.specs.Layouts.{Layout}
use Rattle.meaning.specs.Listing.{decimal, shown_text}
use Rattle.put.specs.Wrote.{capped, Wrote}
use Rattle.put.proofs.PiecesInTurn as writing
use Rattle.explained.specs.Sentence.{reason, belongs, where', refused_line, said}
use Rattle.sentence.specs.Given.{explanation, given, named, bounds, refused}
use Rattle.sentence.specs.declared.Explanation.{Explanation}

module _ (place size : ℕ) where
  pub at-start : {b : Bool} → place ≡ 0 → b ≡ not (eqb size 0) → b ≡ given place size
  unfolding given
  at-start e f = f ∙ ap (λ x. not (x && eqb size 0)) (sym (eq-eqb place 0 e))

  pub placed-later : (place ≡ 0 → ⊥) → true ≡ given place size
  unfolding given
  placed-later e = ap (λ x. not (x && eqb size 0)) (sym (ne_eqb place 0 e))

  module _ (what name : List ℕ) {b : Bool} (told : b ≡ given place size) {at r : ℕ} {xs : List ℕ} where
    pub is-given : b ≡ true → {p : ℕ} {ys zs : List ℕ} → Wrote what at xs ys p → Wrote (32 ∷ shown_text name) p ys zs r → Wrote (named what name place size) at xs zs r
    unfolding named
    is-given e v w = writing.as_bytes (ap (λ x. cond x (what ++ 32 ∷ shown_text name) []) (sym e ∙ told)) (writing.then v w)

    pub not-given : b ≡ false → length xs * 1 < 2 ^ 63 → r ≡ capped at → Wrote (named what name place size) at xs xs r
    unfolding named
    not-given e lent w = writing.as_bytes (ap (λ x. cond x (what ++ 32 ∷ shown_text name) []) (sym e ∙ told)) (writing.nothing r (omega arith) w)

module _ (n place size room : ℕ) {at p r : ℕ} {xs ys zs : List ℕ} where
  pub needs-room : n ≡ 24 → {q : ℕ} {vs : List ℕ} → Wrote (ascii ";") at xs ys p → Wrote (32 ∷ decimal room) p ys vs q → Wrote (ascii " numbers needed") q vs zs r → Wrote (bounds n place size room) at xs zs r
  unfolding where'
  needs-room e u v w = writing.as_bytes (rw (eq-eqb n 24 e) refl) (writing.then u (writing.then v w))

  module _ (e : n ≡ 24 → ⊥) where
    pub at_byte : size ≡ 0 → Wrote (ascii "; at byte") at xs ys p → Wrote (32 ∷ decimal place) p ys zs r → Wrote (bounds n place size room) at xs zs r
    unfolding where'
    at_byte f u v = writing.as_bytes (rw (ne_eqb n 24 e, eq-eqb size 0 f) refl) (writing.then u v)

    pub from-to : (size ≡ 0 → ⊥) → {q t : ℕ} {vs ws : List ℕ} → Wrote (ascii "; bytes") at xs ys p → Wrote (32 ∷ decimal place) p ys vs q → Wrote (ascii " to") q vs ws t
        → Wrote (32 ∷ decimal (place + size - 1)) t ws zs r → Wrote (bounds n place size room) at xs zs r
    unfolding where'
    from-to f u v w x = writing.as_bytes (rw (ne_eqb n 24 e, ne_eqb size 0 f) refl) (writing.then u (writing.then v (writing.then w x)))

module _ (L : Layout) (file : List ℕ) (e : Explanation) where
  belongs-named : (what : _) (p s : ℕ) → named (ascii what) (take s (drop p file)) p s ≡ belongs what file (record { place = p; size = s })
  unfolding named given belongs
  belongs-named what p s = go (eqb p 0 && eqb s 0)
    where
      go : (b : Bool) → cond (not b) (ascii what ++ 32 ∷ shown_text (take s (drop p file))) [] ≡ cond b [] (ascii what ++ 32 ∷ shown_text (take s (drop p file)))
      go true = refl
      go false = refl

  whole-line :
      ascii "refused" ++ ((32 ∷ decimal e.number) ++ ((32 ∷ []) ++ (reason L e.number
      ++ (named (ascii "; object") (take e.objectsize (drop e.objectname file)) e.objectname e.objectsize
      ++ (named (ascii "; component") (take e.componentsize (drop e.componentname file)) e.componentname e.componentsize
      ++ (bounds e.number e.place e.length e.room ++ 10 ∷ []))))))
      ≡ refused L file e
  unfolding refused_line where'
  whole-line = rw (belongs-named "; object" e.objectname e.objectsize, belongs-named "; component" e.componentname e.componentsize)

  module _ {at r : ℕ} {xs ys : List ℕ} where
    pub is-accepted : e.number ≡ 0 → Wrote (ascii "accepted" ++ 10 ∷ []) at xs ys r → Wrote (said L file (explanation e)) at xs ys r
    unfolding said
    is-accepted h w = writing.as_bytes (rw (eq-eqb e.number 0 h) refl) w

    pub is-refused : (e.number ≡ 0 → ⊥) → Wrote (refused L file e) at xs ys r → Wrote (said L file (explanation e)) at xs ys r
    unfolding said
    is-refused h w = writing.as_bytes (rw (ne_eqb e.number 0 h) refl) w

  -- the line's pieces, with the names that were looked up
  module _ {p₀ p₁ p₂ p₃ p₄ p₅ p₆ p₇ p₈ : ℕ} {x₀ x₁ x₂ x₃ x₄ x₅ x₆ x₇ x₈ o c : List ℕ} (w₁ : Wrote (ascii "refused") p₀ x₀ x₁ p₁) (w₂ : Wrote (32 ∷ decimal e.number) p₁ x₁ x₂ p₂)
      (w₃ : Wrote (32 ∷ []) p₂ x₂ x₃ p₃) (w₄ : Wrote (reason L e.number) p₃ x₃ x₄ p₄) (object : o ≡ take e.objectsize (drop e.objectname file))
      (w₅ : Wrote (named (ascii "; object") o e.objectname e.objectsize) p₄ x₄ x₅ p₅) (component : c ≡ take e.componentsize (drop e.componentname file))
      (w₆ : Wrote (named (ascii "; component") c e.componentname e.componentsize) p₅ x₅ x₆ p₆) (w₇ : Wrote (bounds e.number e.place e.length e.room) p₆ x₆ x₇ p₇)
      (w₈ : Wrote (10 ∷ []) p₇ x₇ x₈ p₈) where
    pub line-written : Wrote (refused L file e) p₀ x₀ x₈ p₈
    line-written = writing.as_bytes whole-line (writing.then w₁ (writing.then w₂ (writing.then w₃ (writing.then w₄
        (writing.then (writing.as_bytes (ap (λ (x : List ℕ). named (ascii "; object") x e.objectname e.objectsize) object) w₅)
        (writing.then (writing.as_bytes (ap (λ (x : List ℕ). named (ascii "; component") x e.componentname e.componentsize) component) w₆) (writing.then w₇ w₈)))))))

    pub line-length : length x₈ ≡ length x₀
    line-length = writing.same_length line-written
