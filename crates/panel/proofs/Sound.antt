-- Rows that are sound, one after the other.
use Prim.Native.Nat.{ℕ, zero, suc, ◌+◌, ◌-◌, ◌*◌, ◌^◌, ◌≤◌, ◌<◌}
use native.Mathlib.Omega.{arith}
use mathlib.Core.List.{List}
use mathlib.Core.Bool.{Bool, true, false, ◌&&◌}
use mathlib.Core.Path.{◌≡◌, refl, sym, ap, ◌∙◌}
use lib.ListN.{length, get_or}
use lib.Dec.{leb, eqb}
use mir.Syntax.{w64}
use mir.Val.{Fits}
use borrow.Author.Tests.{eq-eqb, ne_eqb, leb-true, eqb-true, eqb-false}
use Rattle.std.specs.Bool.{MatchBool}
use Rattle.std.specs.List.{range_with_len, AllWithin, HoldsAt}
use Rattle.std.proofs.lemmas.List.FromFn.{length-range_with_len, get_or-range_with_len}
use Rattle.meaning.specs.Columns.{object_width, component_width}
use Rattle.meaning.proofs.Tests.{both_left, both_right}
use Rattle.panel.specs.Lines.{count_at, counted, component_sound, object_sound, every, sound}

-- ---- every row

module _ (p : ℕ → Bool) (width : ℕ) where
  each-holds : (n row : ℕ) → ((k : ℕ) → k < n → p (row + width * k) ≡ true) → every p width n row ≡ true
  unfolding every
  each-holds zero row h = refl
  each-holds (suc n) row h =
      let z : row ≡ row + width * 0 = omega arith in
      rw (ap p z ∙ h 0 (omega arith))
      (each-holds n (row + width) (λ k l. (let e : row + width + width * k ≡ row + width * suc k = omega arith in ap p e ∙ h (suc k) (omega (arith, l)))))

  one-fails : (n k row : ℕ) → k < n → p (row + width * k) ≡ false → every p width n row ≡ false
  unfolding every
  one-fails zero k row l e = absurd (omega (arith, l))
  one-fails (suc n) zero row l e = (let z : row ≡ row + width * 0 = omega arith in rw (ap p z ∙ e) refl)
  one-fails (suc n) (suc k) row l e =
      by (p row)
      (one-fails n k (row + width) (omega (arith, l)) (let z : row + width + width * k ≡ row + width * suc k = omega arith in ap p z ∙ e))
    where
      by : (b : Bool) → every p width n (row + width) ≡ false → b && every p width n (row + width) ≡ false
      by true q = q
      by false q = refl

  -- what `all` answered over the places of n rows, the first at `first`
  module _ (n first : ℕ) where
    pub all-asked : (r : Bool)
        → MatchBool r (AllWithin (λ k. p (first + width * k) ≡ true) (range_with_len 0 n) 0 (length (range_with_len 0 n)))
        ((k : ℕ) × (k < length (range_with_len 0 n)) × HoldsAt (λ k. p (first + width * k) ≡ false) (range_with_len 0 n) k)
        → r ≡ every p width n first
    all-asked true h =
        sym (each-holds n first (λ k l. (let e : get_or (range_with_len 0 n) k 0 ≡ k = omega (arith, get_or-range_with_len 0 n k 0 l) in
        rw e at (h k 0 (omega arith) (omega (arith, l, length-range_with_len 0 n))))))
    all-asked false h =
        let l : h.0 < n = omega (arith, h.1, length-range_with_len 0 n) in
        let e : get_or (range_with_len 0 n) h.0 0 ≡ h.0 = omega (arith, get_or-range_with_len 0 n h.0 0 l) in
        sym (one-fails n h.0 first l (rw e at (h.2 0)))

-- ---- the objects' components

pub counted_next : (table : List ℕ) (n row : ℕ) → 0 < n → counted table n row ≡ count_at table row + counted table (n - 1) (row + object_width)
unfolding counted
counted_next table zero row h = absurd (omega (arith, h))
counted_next table (suc m) row h = let e : m ≡ suc m - 1 = omega arith in ap (λ (k : ℕ). count_at table row + counted table k (row + object_width)) e

counted_none : (table : List ℕ) (n row : ℕ) → n ≤ 0 → counted table n row ≡ 0
unfolding counted
counted_none table zero row h = refl
counted_none table (suc m) row h = absurd (omega (arith, h))

-- what is due is all that is left
all-due : (all due components : ℕ) → all + due ≡ components → eqb due 0 ≡ eqb all components
all-due all due components e = by (eqb due 0) refl
  where
    by : (b : Bool) → eqb due 0 ≡ b → eqb due 0 ≡ eqb all components
    by true q = q ∙ sym (eq-eqb all components (let z : due ≡ 0 = eqb-true due 0 q in omega (arith, e, z)))
    by false q = q ∙ sym (ne_eqb all components (λ same. eqb-false due 0 q (omega (arith, e, same))))

-- the loop over the n objects' counts: from object i on, with `due` components not yet given to one
pub record Sharing (table : List ℕ) (n components i due : ℕ) : Type 0 where
  pub still : counted table n 0 + due ≡ components + counted table (n - i) (object_width * i)

module _ {table : List ℕ} {n components i due : ℕ} (w : Sharing table n components i due) where
  pub all-given : n ≤ i → eqb due 0 ≡ eqb (counted table n 0) components
  all-given h = all-due (counted table n 0) due components (let s = w.still in omega (arith, s, counted_none table (n - i) (object_width * i) (omega (arith, h))))

  module _ (more : i < n) where
    next : counted table (n - i) (object_width * i) ≡ count_at table (object_width * i) + counted table (n - (i + 1)) (object_width * (i + 1))
    next =
        let z : n - i - 1 ≡ n - (i + 1) = omega (arith, more) in
        let y : object_width * i + object_width ≡ object_width * (i + 1) = omega arith in
        rw (z, y) at (counted_next table (n - i) (object_width * i) (omega (arith, more)))

    pub too_many : due < count_at table (object_width * i) → false ≡ eqb (counted table n 0) components
    too_many h = sym (ne_eqb (counted table n 0) components (λ e. let s = w.still in omega (arith, e, s, h, next)))

    pub one-more-given : count_at table (object_width * i) ≤ due → Sharing table n components (i + 1) (due - count_at table (object_width * i))
    one-more-given h = record { still = (let s = w.still in omega (arith, s, h, next)) }

-- ---- all of it

objects-fit : (table : List ℕ) (objects components : ℕ) → object_width * objects + component_width * components ≤ length table → length table * 8 < 2 ^ 63 → Fits w64 (object_width * objects)
objects-fit table objects components l room = record { fits = omega (arith, l, room) }

module _ (file table : List ℕ) (objects components : ℕ) where
  -- what the lines may rely on
  module _ (all_sound : sound file table objects components ≡ true) where
    sound-lies : object_width * objects + component_width * components ≤ length table
    unfolding sound
    sound-lies =
        leb-true (object_width * objects + component_width * components) (length table)
        (both_left _ (every (object_sound file table) object_width objects 0)
        (both_left _ (every (component_sound file table) component_width components (object_width * objects))
        (both_left _ (eqb (counted table objects 0) components) all_sound)))

    sound-counts : counted table objects 0 ≡ components
    unfolding sound
    sound-counts =
        eqb-true (counted table objects 0) components
        (both_right
        (leb (object_width * objects + component_width * components) (length table)
        && every (object_sound file table) object_width objects 0
        && every (component_sound file table) component_width components (object_width * objects))
        (eqb (counted table objects 0) components)
        all_sound)

    pub lines-lie : (object_width * objects ≤ length table) × (object_width * objects + component_width * counted table objects 0 ≤ length table)
    lines-lie = (omega (arith, sound-lies), omega (arith, sound-lies, sound-counts))

    pub sound-fit : length table * 8 < 2 ^ 63 → Fits w64 (object_width * objects)
    sound-fit room = objects-fit table objects components sound-lies room
