-- The answer of a listing: from what its rows are, how many bytes were counted, and what was written.
use Prim.Native.Nat.{ℕ, ◌+◌, ◌*◌, ◌^◌, ◌≤◌, ◌<◌}
use native.Mathlib.Nat.{zero-add}
use native.Mathlib.Omega.{arith}
use mathlib.Core.List.{List, ◌++◌}
use mathlib.Core.Bool.{Bool, true, false}
use mathlib.Core.Path.{◌≡◌, refl, sym, ap, ◌∙◌}
use lib.ListN.{length, drop}
use lib.Seq.{sets, sets-eq}
use borrow.Author.Tests.{le-leb, lt-leb}
use Rattle.meaning.specs.Check.{Check, pass, refuse}
use Rattle.put.specs.Wrote.{most, capped, Wrote}
use Rattle.panel.specs.Lines.{plain, text, sound, listed}
use Rattle.panel.specs.Summary.{summary_text, summarised}
use Rattle.panel.specs.ListedText.{told, text_after}
use Rattle.panel.specs.declared.Listed.{Listed}
use Rattle.put.proofs.PiecesInTurn.{by_place, capped-low, capped-high}

module _ (file table : List ℕ) (objects components : ℕ) where
  pub all_listed : true ≡ sound file table objects components → listed file table objects components ≡ pass (text file table plain objects components)
  unfolding listed
  all_listed e = rw (← e) refl

  pub all-summarised : (last : List ℕ) → true ≡ sound file table objects components → summarised file table objects components last ≡ pass (summary_text file table objects components last)
  unfolding summarised
  all-summarised last e = rw (← e) refl

  -- `b`: whether the rows are sound
  module _ {b : Bool} (e : b ≡ sound file table objects components) where
    pub rows-sound : b ≡ true → sound file table objects components ≡ true
    rows-sound t = sym e ∙ t

-- what is said, and what is then held
abbrev pub Answered : Check (List ℕ) → Listed → List ℕ → List ℕ → Type 0
Answered l r xs ys = (r ≡ told l (length xs)) × (ys ≡ text_after l xs)

refused : (l : Check (List ℕ)) (xs : List ℕ) → l ≡ refuse 26 0 0 → Answered l (record { number = 26; length = 0 }) xs xs
unfolding told text_after
refused l xs e = (sym (ap (λ (k : Check (List ℕ)). told k (length xs)) e), sym (ap (λ (k : Check (List ℕ)). text_after k xs) e))

-- words that are as long as a text can be are counted exactly
pub length-counted : (t : List ℕ) → length t < most → length t ≡ capped (0 + length t)
length-counted t h = sym (ap capped (zero-add (length t)) ∙ capped-low (length t) h)

capped-most : (t : List ℕ) → capped (0 + length t) ≤ length t
capped-most t =
    by_place (length t) (λ p. let z : capped (0 + length t) ≡ length t = ap capped (zero-add (length t)) ∙ capped-low (length t) p in omega (arith, z))
    (λ p. let z : capped (0 + length t) ≡ most = ap capped (zero-add (length t)) ∙ capped-high (length t) p in omega (arith, z, p))

module _ (l : Check (List ℕ)) (t xs : List ℕ) (e : l ≡ pass t) (n : ℕ) (counted : n ≡ capped (0 + length t)) where
  pub too_long : length xs < n → Answered l (record { number = 24; length = 0 }) xs xs
  unfolding told text_after
  too_long h = let over = lt-leb (length t) (length xs) (omega (arith, h, counted, capped-most t)) in (rw (e, over) refl, rw (e, over) refl)

  module _ (fits : n ≤ length xs) (ys : List ℕ) (r : ℕ) (w : Wrote t 0 xs ys r) where
    exact : n ≡ length t
    exact = by_place (length t) (λ p. counted ∙ ap capped (zero-add (length t)) ∙ capped-low (length t) p)
        (λ p. absurd (let z : n ≡ most = counted ∙ ap capped (zero-add (length t)) ∙ capped-high (length t) p in omega (arith, z, fits, w.short)))

    whole : sets xs 0 t ≡ t ++ drop (length t) xs
    whole = sets-eq t xs 0 (omega (arith, fits, exact)) ∙ ap (λ (k : ℕ). t ++ drop k xs) (zero-add (length t))

    pub listed-whole : Answered l (record { number = 0; length = n }) xs ys
    unfolding told text_after
    listed-whole = (
      rw (e, le-leb (length t) (length xs) (omega (arith, fits, exact))) (ap (λ (k : ℕ). record { number = 0; length = k }) exact),
      rw (e, le-leb (length t) (length xs) (omega (arith, fits, exact))) (w.stored ∙ whole),
    )

-- words that are always put, and were counted in another text
module _ (xs t : List ℕ) where
  pub words-too-long : {n : ℕ} {us vs : List ℕ} → Wrote t 0 us vs n → length xs < n → Answered (pass t) (record { number = 24; length = 0 }) xs xs
  words-too-long {n} w h = too_long (pass t) t xs refl n w.past h

  pub words-whole : {n : ℕ} {us vs ys : List ℕ} {r : ℕ} → Wrote t 0 us vs n → Wrote t 0 xs ys r → n ≤ length xs → Answered (pass t) (record { number = 0; length = n }) xs ys
  words-whole {n} w v h = listed-whole (pass t) t xs refl n w.past h _ _ v

  -- that are put as they stand
  module _ (room : length t * 1 < 2 ^ 63) where
    counted : length t ≡ capped (0 + length t)
    counted = length-counted t (omega (arith, room))

    pub own-too-long : length xs < length t → Answered (pass t) (record { number = 24; length = 0 }) xs xs
    own-too-long h = too_long (pass t) t xs refl (length t) counted h

    pub own-whole : {ys : List ℕ} {r : ℕ} → Wrote t 0 xs ys r → length t ≤ length xs → Answered (pass t) (record { number = 0; length = length t }) xs ys
    own-whole w h = listed-whole (pass t) t xs refl (length t) counted h _ _ w

-- a table's lines, where `b` says whether its rows are sound
module _ (xs file table : List ℕ) (objects components : ℕ) {b : Bool} (e : b ≡ sound file table objects components) where
  pub not_listed : b ≡ false → Answered (listed file table objects components) (record { number = 26; length = 0 }) xs xs
  unfolding listed
  not_listed f = refused (listed file table objects components) xs (rw (← e, f) refl)

  module _ (t : b ≡ true) {n : ℕ} {us vs : List ℕ} (w : Wrote (text file table plain objects components) 0 us vs n) where
    pub lines-too-long : length xs < n → Answered (listed file table objects components) (record { number = 24; length = 0 }) xs xs
    lines-too-long h = too_long _ (text file table plain objects components) xs (all_listed file table objects components (sym t ∙ e)) n w.past h

    pub lines-whole : {ys : List ℕ} {r : ℕ} → Wrote (text file table plain objects components) 0 xs ys r → n ≤ length xs → Answered (listed file table objects components) (record { number = 0; length = n }) xs ys
    lines-whole v h = listed-whole _ (text file table plain objects components) xs (all_listed file table objects components (sym t ∙ e)) n w.past h _ _ v

  module _ (last : List ℕ) where
    pub not-summarised : b ≡ false → Answered (summarised file table objects components last) (record { number = 26; length = 0 }) xs xs
    unfolding summarised
    not-summarised f = refused (summarised file table objects components last) xs (rw (← e, f) refl)

    module _ (t : b ≡ true) {n : ℕ} {us vs : List ℕ} (w : Wrote (summary_text file table objects components last) 0 us vs n) where
      pub summary-too-long : length xs < n → Answered (summarised file table objects components last) (record { number = 24; length = 0 }) xs xs
      summary-too-long h = too_long _ (summary_text file table objects components last) xs (all-summarised file table objects components last (sym t ∙ e)) n w.past h

      pub summary-whole : {ys : List ℕ} {r : ℕ} → Wrote (summary_text file table objects components last) 0 xs ys r → n ≤ length xs → Answered (summarised file table objects components last) (record { number = 0; length = n }) xs ys
      summary-whole v h = listed-whole _ (summary_text file table objects components last) xs (all-summarised file table objects components last (sym t ∙ e)) n w.past h _ _ v
