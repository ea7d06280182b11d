-- Rows one after the other: the first and the rest, some and the others, and a row's columns by their places.
use Prim.Native.Nat.{ℕ, zero, suc, ◌+◌, ◌-◌, ◌*◌, ◌≤◌, ◌<◌}
use native.Mathlib.Omega.{arith}
use mathlib.Core.List.{List, [], ◌∷◌, ◌++◌, map}
use mathlib.Core.Bool.{Bool, true, false, ◌&&◌}
use mathlib.Core.Path.{◌≡◌, refl, sym, ap, ◌∙◌, subst}
use lib.ListN.{length, take, drop, get_or}
use lib.Seq.{drop-drop, take_at, drop_at}
use Rattle.std.specs.Bool.{MatchBool}
use Rattle.std.specs.List.{range_with_len, AllWithin, HoldsAt}
use Rattle.std.proofs.lemmas.List.FromFn.{length-range_with_len, get_or-range_with_len}
use Rattle.meaning.specs.Text.{all}
use Rattle.meaning.specs.Asked.{each_row}
use Rattle.meaning.proofs.Tests.{both_left, both_right}
use Rattle.meaning.proofs.Lengths.{each-row-length}

module _ {A : Type 0} (read : List ℕ → A) (width : ℕ) where
  pub no_row : (n : ℕ) (s : List ℕ) → n ≤ 0 → each_row read width n s ≡ []
  unfolding each_row
  no_row zero s h = refl
  no_row (suc n) s h = absurd (omega (arith, h))

  pub next_row : (n : ℕ) (s : List ℕ) → 0 < n → each_row read width n s ≡ read s ∷ each_row read width (n - 1) (drop width s)
  unfolding each_row
  next_row zero s h = absurd (omega (arith, h))
  next_row (suc m) s h = let e : m ≡ suc m - 1 = omega arith in ap (λ (k : ℕ). read s ∷ each_row read width k (drop width s)) e

  -- where rows begin at the place p
  pub next-row-at : (n p : ℕ) (rows : List ℕ) → 0 < n → each_row read width n (drop p rows) ≡ read (drop p rows) ∷ each_row read width (n - 1) (drop (p + width) rows)
  next-row-at n p rows h = next_row n (drop p rows) h ∙ ap (λ (s : List ℕ). read (drop p rows) ∷ each_row read width (n - 1) s) (drop-drop width p rows)

  pub some-rows : (n m : ℕ) (s : List ℕ) → each_row read width (n + m) s ≡ each_row read width n s ++ each_row read width m (drop (width * n) s)
  unfolding each_row
  some-rows zero m s =
      let y : 0 + m ≡ m = omega arith in
      let z : 0 ≡ width * 0 = omega arith in
      ap (λ (k : ℕ). each_row read width k s) y ∙ ap (λ (k : ℕ). each_row read width m (drop k s)) z
  some-rows (suc n) m s =
      let y : suc n + m ≡ suc (n + m) = omega arith in
      let z : width + width * n ≡ width * suc n = omega arith in
      ap (λ (k : ℕ). each_row read width k s) y
      ∙ ap (λ (l : List A). read s ∷ l)
      (some-rows n m (drop width s)
      ∙ ap (λ (t : List ℕ). each_row read width n (drop width s) ++ each_row read width m t) (drop-drop (width * n) width s ∙ ap (λ (k : ℕ). drop k s) z))

  -- k rows of n, and those after them
  module _ (n k p : ℕ) (rows : List ℕ) (h : k ≤ n) where
    pub split_rows : each_row read width n (drop p rows) ≡ each_row read width k (drop p rows) ++ each_row read width (n - k) (drop (p + width * k) rows)
    split_rows =
        let e : n ≡ k + (n - k) = omega (arith, h) in
        ap (λ (j : ℕ). each_row read width j (drop p rows)) e
        ∙ some-rows k (n - k) (drop p rows)
        ∙ ap (λ (s : List ℕ). each_row read width k (drop p rows) ++ each_row read width (n - k) s) (drop-drop (width * k) p rows)

    abbrev front : List A
    front = each_row read width k (drop p rows)

    abbrev others : List A
    others = each_row read width (n - k) (drop (p + width * k) rows)

    pub first_rows : take k (each_row read width n (drop p rows)) ≡ each_row read width k (drop p rows)
    first_rows = ap (take k) split_rows ∙ take_at front others k (each-row-length read width k (drop p rows))

    pub later_rows : drop k (each_row read width n (drop p rows)) ≡ each_row read width (n - k) (drop (p + width * k) rows)
    later_rows = ap (drop k) split_rows ∙ drop_at front others k (each-row-length read width k (drop p rows))

-- what is asked of each row
module _ {A : Type 0} (p : A → Bool) (read : List ℕ → A) (width n at : ℕ) (rows : List ℕ) where
  module _ (h : 0 < n) where
    first-of-all : all p (each_row read width n (drop at rows)) ≡ p (read (drop at rows)) && all p (each_row read width (n - 1) (drop (at + width) rows))
    first-of-all = ap (all p) (next-row-at read width n at rows h)

    pub first_so : all p (each_row read width n (drop at rows)) ≡ true → p (read (drop at rows)) ≡ true
    first_so e = both_left _ (all p (each_row read width (n - 1) (drop (at + width) rows))) (sym first-of-all ∙ e)

    pub others-so : all p (each_row read width n (drop at rows)) ≡ true → all p (each_row read width (n - 1) (drop (at + width) rows)) ≡ true
    others-so e = both_right (p (read (drop at rows))) _ (sym first-of-all ∙ e)

-- p asked of each row at its place
module _ {A : Type 0} (p : A → Bool) (read : List ℕ → A) (width : ℕ) where
  pub each-holds : (n : ℕ) (rows : List ℕ) → ((k : ℕ) → k < n → p (read (drop (width * k) rows)) ≡ true) → all p (each_row read width n rows) ≡ true
  unfolding each_row
  each-holds zero rows h = refl
  each-holds (suc n) rows h =
      let z : width * 0 ≡ 0 = omega arith in
      rw (ap (λ (j : ℕ). p (read (drop j rows))) (sym z) ∙ h 0 (omega arith))
      (each-holds n (drop width rows) (λ k l. (let e : width * suc k ≡ width + width * k = omega arith in
      ap (λ (s : List ℕ). p (read s)) (drop-drop (width * k) width rows ∙ ap (λ (j : ℕ). drop j rows) (sym e)) ∙ h (suc k) (omega (arith, l)))))

  pub one-fails : (n k : ℕ) (rows : List ℕ) → k < n → p (read (drop (width * k) rows)) ≡ false → all p (each_row read width n rows) ≡ false
  unfolding each_row
  one-fails zero k rows l e = absurd (omega (arith, l))
  one-fails (suc n) zero rows l e = (let z : width * 0 ≡ 0 = omega arith in rw (ap (λ (j : ℕ). p (read (drop j rows))) (sym z) ∙ e) refl)
  one-fails (suc n) (suc k) rows l e = by (p (read rows)) (one-fails n k (drop width rows) (omega (arith, l))
      (let z : width * suc k ≡ width + width * k = omega arith in
      ap (λ (s : List ℕ). p (read s)) (drop-drop (width * k) width rows ∙ ap (λ (j : ℕ). drop j rows) (sym z)) ∙ e))
    where
      by : (b : Bool) → all p (each_row read width n (drop width rows)) ≡ false → b && all p (each_row read width n (drop width rows)) ≡ false
      by true q = q
      by false q = refl

  -- what `all` answered over the places of n rows
  module _ (n : ℕ) (rows : List ℕ) where
    pub all-asked : (r : Bool)
        → MatchBool r (AllWithin (λ k. p (read (drop (width * k) rows)) ≡ true) (range_with_len 0 n) 0 (length (range_with_len 0 n)))
        ((k : ℕ) × (k < length (range_with_len 0 n)) × HoldsAt (λ k. p (read (drop (width * k) rows)) ≡ false) (range_with_len 0 n) k)
        → r ≡ all p (each_row read width n rows)
    all-asked true h =
        sym (each-holds n rows (λ k l. (let e : get_or (range_with_len 0 n) k 0 ≡ k = omega (arith, get_or-range_with_len 0 n k 0 l) in
        rw e at (h k 0 (omega arith) (omega (arith, l, length-range_with_len 0 n))))))
    all-asked false h =
        let l : h.0 < n = omega (arith, h.1, length-range_with_len 0 n) in
        let e : get_or (range_with_len 0 n) h.0 0 ≡ h.0 = omega (arith, get_or-range_with_len 0 n h.0 0 l) in
        sym (one-fails n h.0 rows l (rw e at (h.2 0)))

-- a turn of a loop over rows: what is kept of the place goes on to the next row
pub place-on : (P : ℕ → Type 0) (width i : ℕ) → P (width * i + width) → P (width * (i + 1))
place-on P width i p = let y : width * i + width ≡ width * (i + 1) = omega arith in subst P y p

-- and of how many are left of n
module _ (P : ℕ → ℕ → Type 0) (width n : ℕ) where
  pub row-on : (i : ℕ) → i < n → P (width * i + width) (n - i - 1) → P (width * (i + 1)) (n - (i + 1))
  row-on i h p =
      let y : width * i + width ≡ width * (i + 1) = omega arith in
      let z : n - i - 1 ≡ n - (i + 1) = omega (arith, h) in
      subst (λ (k : ℕ). P k (n - (i + 1))) y (subst (P (width * i + width)) z p)

-- before the first of n rows from a place on
pub rows-begin : (P : ℕ → ℕ → Type 0) (first n : ℕ) → P first n → P (first + 0) (n - 0)
rows-begin P first n p =
    let y : first ≡ first + 0 = omega arith in
    let z : n ≡ n - 0 = omega arith in
    subst (λ (k : ℕ). P k (n - 0)) y (subst (P first) z p)

-- the same, where the rows begin at a place
pub row-on-from : (P : ℕ → ℕ → Type 0) (first width n i : ℕ) → i < n → P (first + width * i + width) (n - i - 1) → P (first + width * (i + 1)) (n - (i + 1))
row-on-from P first width n i h p =
    let y : first + width * i + width ≡ first + width * (i + 1) = omega arith in
    let z : n - i - 1 ≡ n - (i + 1) = omega (arith, h) in
    subst (λ (k : ℕ). P k (n - (i + 1))) y (subst (P (first + width * i + width)) z p)

-- and of a list's parts
module _ {A : Type 0} (p : A → Bool) where
  pub all-taken : (n : ℕ) (l : List A) → all p l ≡ true → all p (take n l) ≡ true
  all-taken zero l e = refl
  all-taken (suc n) [] e = refl
  all-taken (suc n) (a ∷ l) e = rw (both_left (p a) (all p l) e) (all-taken n l (both_right (p a) (all p l) e))

  pub all-dropped : (n : ℕ) (l : List A) → all p l ≡ true → all p (drop n l) ≡ true
  all-dropped zero l e = e
  all-dropped (suc n) [] e = refl
  all-dropped (suc n) (a ∷ l) e = all-dropped n l (both_right (p a) (all p l) e)

pub parts-mapped : {A B : Type 0} (f : A → B) (n : ℕ) (l : List A) → map f (take n l) ++ map f (drop n l) ≡ map f l
parts-mapped f zero l = refl
parts-mapped f (suc n) [] = refl
parts-mapped f (suc n) (a ∷ l) = ap (λ r. f a ∷ r) (parts-mapped f n l)
