-- A table's rows find the name that a text is. Assumes nothing.
use mathlib.Core.Path.{◌≡◌, refl, sym, ap, ap₂, ◌∙◌, subst}
use mathlib.Core.List.{List, [], ◌∷◌}
use mathlib.Core.Bool.{Bool, true, false, cond, ◌&&◌}
use Prim.Native.Nat.{ℕ, zero, suc, ◌+◌, ◌-◌, ◌≤◌, ◌<◌}
use native.Mathlib.Omega.{arith}
use lib.ListN.{length, take, drop, drop_of_length-le, length-drop}
use lib.Seq.{drop-cons, drop-drop, take_all}
use lib.Dec.{leb, eqb}
use borrow.Author.Tests.{ne_eqb, leb-true}
use borrow.Author.Rules.{part_to_end}
use Rattle.meaning.specs.Text.{same, all}
use Rattle.meaning.proofs.Tests.{both_left, both_right}
use Rattle.meaning.proofs.SameText.{same-eq}
use Rattle.types.specs.Row.{tagged, is_row, found, rows_of, bytes, holds, Tells}
use Rattle.types.specs.Known.{position}
use Rattle.types.proofs.Tagged.{Known, known-all, bytes_take, bytes_drop, tagged-some, tagged-same}

-- ---------------------------------------------------------------- rows

pub third : (p q r : Bool) → p ≡ true → q ≡ true → r ≡ (p && (q && r))
third p q r a b = rw (a, b)

module _ (a b c : ℕ) where
  found-end : (rows : List ℕ) → length rows < 3 → 0 ≡ found rows a b c
  unfolding found
  found-end [] h = refl
  found-end (x ∷ []) h = refl
  found-end (x ∷ (y ∷ [])) h = refl
  found-end (x ∷ (y ∷ (z ∷ rows))) h = absurd (omega arith)

  module _ (rows : List ℕ) (at : ℕ) (fits : at + 3 ≤ length rows) where
    found_at : found (drop at rows) a b c ≡ cond (is_row rows at a b c) 0 (suc (found (drop (at + 3) rows) a b c))
    unfolding found
    found_at =
        let p : suc at < length rows = omega arith in
        let q : suc (suc at) < length rows = omega arith in
        let one : at + 1 ≡ suc at = omega arith in
        let two : at + 2 ≡ suc (suc at) = omega arith in
        let three : at + 3 ≡ suc (suc (suc at)) = omega arith in
        rw (drop-cons rows at 0 (omega arith), drop-cons rows (suc at) 0 p, drop-cons rows (suc (suc at)) 0 q, one, two, three)

  -- the loop over the rows: i of them came before the one at `at`
  pub record Sought (rows : List ℕ) (i at : ℕ) : Type 0 where
    pub inside : at ≤ length rows
    pub few : i ≤ at
    pub so_far : found rows a b c ≡ i + found (drop at rows) a b c

module _ {a b c : ℕ} where
  pub sought-none : {rows : List ℕ} → Sought a b c rows 0 0
  sought-none = record { inside = omega arith; few = omega arith; so_far = omega arith }

  module _ {rows : List ℕ} {i at : ℕ} (w : Sought a b c rows i at) where
    -- t is the test of the row at `at`
    module _ (more : 3 ≤ length rows - at) {t : Bool} (is : t ≡ is_row (take (length rows - 0) (drop 0 rows)) at a b c) where
      fits : at + 3 ≤ length rows
      fits = omega arith

      test : {u : Bool} → t ≡ u → is_row rows at a b c ≡ u
      test e = ap (λ l. is_row l at a b c) (sym (part_to_end rows 0)) ∙ sym is ∙ e

      pub found_here : t ≡ true → i ≡ found rows a b c
      found_here e = let x = rw (test e) at (found_at a b c rows at fits) in let y = w.so_far in omega arith

      pub found-later : t ≡ false → Sought a b c rows (i + 1) (at + 3)
      found-later e = let x = rw (test e) at (found_at a b c rows at fits) in let y = w.so_far in let z = w.few in record { inside = omega arith; few = omega arith; so_far = omega arith }

    pub found-last : length rows - at < 3 → i ≡ found rows a b c
    found-last h = let z = length-drop at rows in let x = found-end a b c (drop at rows) (omega arith) in let y = w.so_far in omega arith

module _ (a b c : ℕ) where
  position-of : (k : List ℕ) → Tells a b c k → (names : List (List ℕ)) → all holds names ≡ true → found (rows_of names) a b c ≡ position names k
  unfolding found rows_of position
  position-of k t [] e = refl
  position-of k t (n ∷ ns) e =
      ap₂ (λ (s : Bool) (r : ℕ). cond s 0 (suc r)) (t n (both_left (holds n) (all holds ns) e)) (position-of k t ns (both_right (holds n) (all holds ns) e))

-- the numbers of k were sought in the rows of these names
pub named : (names : List (List ℕ)) (k : List ℕ) (a b c : ℕ) {r : ℕ} → r ≡ found (rows_of names) a b c → Tells a b c (take (length k - 0) (drop 0 k)) → all holds names ≡ true → r ≡ position names k
named names k a b c e t h = e ∙ position-of a b c (take (length k - 0) (drop 0 k)) t names h ∙ ap (position names) (part_to_end k 0)

-- ---------------------------------------------------------------- equal texts, in parts

and_assoc : (a b c : Bool) → (a && (b && c)) ≡ ((a && b) && c)
and_assoc true b c = refl
and_assoc false b c = refl

same_parts : (i : ℕ) (a b : List ℕ) → (same (take i a) (take i b) && same (drop i a) (drop i b)) ≡ same a b
same_parts zero a b = refl
same_parts (suc i) [] [] = refl
same_parts (suc i) [] (y ∷ ys) = refl
same_parts (suc i) (x ∷ xs) [] = refl
same_parts (suc i) (x ∷ xs) (y ∷ ys) = sym (and_assoc (eqb x y) _ _) ∙ ap (λ t. eqb x y && t) (same_parts i xs ys)

module _ (k : List ℕ) (is : bytes k ≡ true) where
  tells-parts : Tells (tagged (take 7 k)) (tagged (take 7 (drop 7 k))) (tagged (drop 7 (drop 7 k))) k
  tells-parts n h =
      let b = both_left (bytes n) (leb (length n) 21) h in
      let m = bytes_drop 7 n b in let j = bytes_drop 7 k is in
      ap₂ (λ (s t : Bool). s && t) (tagged-same (take 7 n) (take 7 k) (bytes_take 7 n b) (bytes_take 7 k is))
      (ap₂ (λ (s t : Bool). s && t) (tagged-same (take 7 (drop 7 n)) (take 7 (drop 7 k)) (bytes_take 7 (drop 7 n) m) (bytes_take 7 (drop 7 k) j))
      (tagged-same (drop 7 (drop 7 n)) (drop 7 (drop 7 k)) (bytes_drop 7 (drop 7 n) m) (bytes_drop 7 (drop 7 k) j))
      ∙ same_parts 7 (drop 7 n) (drop 7 k))
      ∙ same_parts 7 n k

  part : (i : ℕ) {a : ℕ} → a ≡ tagged (take (length k - i) (drop i k)) → a ≡ tagged (drop i k)
  part i e = e ∙ ap tagged (part_to_end k i)

  parts-one : (a : ℕ) → length k ≤ 7 → a ≡ tagged (take (length k - 0) (drop 0 k)) → Tells a 1 1 k
  unfolding tagged
  parts-one a h p = let none = drop_of_length-le k h in let all = take_all 7 k h in rw (part 0 p) (rw (all, none) at tells-parts)

  parts-two : (a b : ℕ) → length k ≤ 14 → a ≡ tagged (take 7 k) → b ≡ tagged (take (length k - 7) (drop 7 k)) → Tells a b 1 k
  unfolding tagged
  parts-two a b h p q =
      let l = length-drop 7 k in let m : length (drop 7 k) ≤ 7 = omega arith in
      rw (p, part 7 q) (rw (take_all 7 (drop 7 k) m, drop_of_length-le (drop 7 k) m) at tells-parts)

  parts-three : (a b c : ℕ) → a ≡ tagged (take 7 k) → b ≡ tagged (take 7 (drop 7 k)) → c ≡ tagged (take (length k - 14) (drop 14 k)) → Tells a b c k
  parts-three a b c p q r = rw (p, q, part 14 r) (rw (drop-drop 7 7 k) at tells-parts)

module _ (k : List ℕ) (known : Known k) where
  pub tells-one : {a : ℕ} → length k ≤ 7 → a ≡ tagged (take (length k - 0) (drop 0 k)) → Tells a 1 1 k
  tells-one h p = parts-one k (known-all k known) _ h p

  pub tells-two : {a b : ℕ} → length k ≤ 14 → a ≡ tagged (take 7 k) → b ≡ tagged (take (length k - 7) (drop 7 k)) → Tells a b 1 k
  tells-two h p q = parts-two k (known-all k known) _ _ h p q

  pub tells-three : {a b c : ℕ} → a ≡ tagged (take 7 k) → b ≡ tagged (take 7 (drop 7 k)) → c ≡ tagged (take (length k - 14) (drop 14 k)) → Tells a b c k
  tells-three p q r = parts-three k (known-all k known) _ _ _ p q r

pub tells-whole : (k : List ℕ) (a b c : ℕ) → Tells a b c (take (length k - 0) (drop 0 k)) → Tells a b c k
tells-whole k a b c t = subst (Tells a b c) (part_to_end k 0) t

-- no name is as long as that, and no part of one is 0
pub tells-long : (k : List ℕ) → 21 < length k → Tells 0 0 0 k
tells-long k l n h = go (same n k) refl
  where
    go : (t : Bool) → same n k ≡ t → (eqb (tagged (take 7 n)) 0 && (eqb (tagged (take 7 (drop 7 n))) 0 && eqb (tagged (drop 7 (drop 7 n))) 0)) ≡ t
    go true e = let x = ap length (same-eq n k e) in let y = leb-true (length n) 21 (both_right (bytes n) (leb (length n) 21) h) in absurd (omega arith)
    go false e = let x = tagged-some (take 7 n) in rw (ne_eqb (tagged (take 7 n)) 0 (λ (e : tagged (take 7 n) ≡ 0). omega arith))
