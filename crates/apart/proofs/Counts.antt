-- Counting positions that differ, a few at a time; the first of them; and those past the end of the shorter one.
use Prim.Native.Nat.{ℕ, zero, suc, ◌+◌, ◌-◌, ◌≤◌, ◌<◌, max}
use native.Mathlib.Omega.{arith}
use mathlib.Core.List.{List, [], ◌∷◌}
use mathlib.Core.Bool.{Bool, true, false, cond, not}
use mathlib.Core.Option.{none, some}
use mathlib.Core.Logic.{◌⊎◌, inl, inr}
use mathlib.Core.Path.{◌≡◌, refl, sym, ap, ap₂, ◌∙◌}
use lib.ListN.{length, take, drop, get_or, get_elem?, length-drop}
use lib.Seq.{ext_get_or}
use lib.Dec.{eqb, ltb}
use borrow.Author.Tests.{eq-eqb, eqb-true, eqb-false, ne_eqb, ltb-true, ltb-false}
use Rattle.meaning.specs.Text.{same}
use Rattle.meaning.proofs.SameText.{same-eq}
use Rattle.text.proofs.SameIsEqual.{eq-same, ne_same}
use Rattle.text.specs.Order.{Agree}
use borrow.Author.Rules.{part_to_end}
use Rattle.changes.specs.Changes.{bit, how_many, least, differs_at, longer, position_apart, count_apart}
use Rattle.changes.proofs.Flags.{says-differs, somewhere-apart}
use Rattle.apart.specs.Positions.{told, many_apart, Both, Rest, Run}

-- ---- how many

many-same : (t u : ℕ → Bool) (n : ℕ) → ((j : ℕ) → j < n → t j ≡ u j) → how_many t n ≡ how_many u n
many-same t u zero h = refl
many-same t u (suc n) h = ap₂ ◌+◌ (ap (bit 1) (h 0 (omega arith))) (many-same (λ i. t (suc i)) (λ i. u (suc i)) n (λ j l. h (suc j) (omega arith)))

many-split : (t : ℕ → Bool) (a b : ℕ) → how_many t (a + b) ≡ how_many t a + how_many (λ j. t (a + j)) b
many-split t zero b = let z : 0 + b ≡ b = omega arith in rw z (many-same t (λ j. t (0 + j)) b (λ j l. ap t (omega arith)) ∙ omega arith)
many-split t (suc a) b =
    let z : suc a + b ≡ suc (a + b) = omega arith in
    let y : how_many (λ j. t (suc (a + j))) b ≡ how_many (λ j. t (suc a + j)) b = many-same (λ j. t (suc (a + j))) (λ j. t (suc a + j)) b (λ j l. ap t (omega arith)) in
    rw z (omega (arith, many-split (λ i. t (suc i)) a b, y))

many-none : (t : ℕ → Bool) (n : ℕ) → ((j : ℕ) → j < n → t j ≡ false) → how_many t n ≡ 0
many-none t zero h = refl
many-none t (suc n) h = rw (h 0 (omega arith), many-none (λ i. t (suc i)) n (λ j l. h (suc j) (omega arith)))

many-all : (t : ℕ → Bool) (n : ℕ) → ((j : ℕ) → j < n → t j ≡ true) → how_many t n ≡ n
many-all t zero h = refl
many-all t (suc n) h = rw (h 0 (omega arith)) (omega (arith, many-all (λ i. t (suc i)) n (λ j l. h (suc j) (omega arith))))

many-some : (t : ℕ → Bool) (n p : ℕ) → p < n → t p ≡ true → 1 ≤ how_many t n
many-some t zero p l e = absurd (omega arith)
many-some t (suc n) zero l e = rw e (omega arith)
many-some t (suc n) (suc p) l e = omega (arith, many-some (λ i. t (suc i)) n p (omega arith) e)

least_at : (t : ℕ → Bool) (n r : ℕ) → r < n → t r ≡ true → ((q : ℕ) → q < r → t q ≡ false) → least t n ≡ r
least_at t zero r l e h = absurd (omega arith)
least_at t (suc n) zero l e h = rw e
least_at t (suc n) (suc r) l e h = rw (h 0 (omega arith)) (ap suc (least_at (λ i. t (suc i)) n r (omega arith) e (λ q m. h (suc q) (omega arith))))

-- ---- positions

at-inside : (x : List ℕ) (p : ℕ) → p < length x → get_elem? x p ≡ some (get_or x p 0)
at-inside [] p l = absurd (omega arith)
at-inside (a ∷ x) zero l = refl
at-inside (a ∷ x) (suc p) l = at-inside x p (omega arith)

at-past : (x : List ℕ) (p : ℕ) → length x ≤ p → get_elem? x p ≡ none
at-past [] p l = refl
at-past (a ∷ x) zero l = absurd (omega arith)
at-past (a ∷ x) (suc p) l = at-past x p (omega arith)

at_drop : (i : ℕ) (l : List ℕ) (p : ℕ) → get_elem? (drop i l) p ≡ get_elem? l (i + p)
at_drop zero l p = ap (get_elem? l) (omega arith)
at_drop (suc i) [] p = refl
at_drop (suc i) (a ∷ l) p = let z : suc i + p ≡ suc (i + p) = omega arith in rw z (at_drop i l p)

module _ (x y : List ℕ) where
  differs-inside : (p : ℕ) → p < length x → p < length y → differs_at x y p ≡ not (eqb (get_or x p 0) (get_or y p 0))
  differs-inside p l m = rw (at-inside x p l, at-inside y p m)

  agrees : {n p : ℕ} → Both x y n → p < n → get_or x p 0 ≡ get_or y p 0 → differs_at x y p ≡ false
  agrees {n} {p} b l e = differs-inside p (omega (arith, b.first)) (omega (arith, b.second)) ∙ ap not (eq-eqb (get_or x p 0) (get_or y p 0) e)

  differs : {n p : ℕ} → Both x y n → p < n → (get_or x p 0 ≡ get_or y p 0 → ⊥) → differs_at x y p ≡ true
  differs {n} {p} b l e = differs-inside p (omega (arith, b.first)) (omega (arith, b.second)) ∙ ap not (ne_eqb (get_or x p 0) (get_or y p 0) e)

  -- past the end of one, and not of both
  past_one : (p : ℕ) → p < max (length x) (length y) → (length x ≤ p) ⊎ (length y ≤ p) → differs_at x y p ≡ true
  past_one p l (inl h) = rw (at-past x p h, at-inside y p (omega arith))
  past_one p l (inr h) = rw (at-past y p h, at-inside x p (omega arith))

-- ---- turns

-- the part of it from i on
abbrev onward : ℕ → List ℕ → List ℕ
onward i s = take (length s - i) (drop i s)

-- i of n positions are passed, and c of them differ
pub record Counted (x y : List ℕ) (n i c : ℕ) : Type 0 where
  pub within : i ≤ n
  pub most : c ≤ i
  pub many : c ≡ many_apart x y i

module _ (x y : List ℕ) where
  -- both from i on
  parts-differ : (i k : ℕ) → many_apart (onward i x) (onward i y) k ≡ how_many (λ j. differs_at x y (i + j)) k
  unfolding many_apart
  parts-differ i k = rw (part_to_end x i, part_to_end y i) (many-same (differs_at (drop i x) (drop i y)) (λ j. differs_at x y (i + j)) k (λ j l. rw (at_drop i x j, at_drop i y j) refl))

  pub both-from : (i k : ℕ) {n : ℕ} → Both x y n → i + k ≤ n → Both (onward i x) (onward i y) k
  both-from i k b l =
      rw (part_to_end x i, part_to_end y i)
      (record { first = omega (arith, length-drop i x, b.first); second = omega (arith, length-drop i y, b.second) })

  agree_on : (i k : ℕ) → Agree x y i → ((j : ℕ) → j < k → get_or x (i + j) 0 ≡ get_or y (i + j) 0) → Agree x y (i + k)
  agree_on i k h g = record { each = λ j l. go j l (ltb j i) refl }
    where
      go : (j : ℕ) → j < i + k → (b : Bool) → ltb j i ≡ b → get_or x j 0 ≡ get_or y j 0
      go j l true q = h.each j (ltb-true j i q)
      go j l false q = let m = ltb-false j i q in let z : i + (j - i) ≡ j = omega arith in rw z at (g (j - i) (omega arith))

  pub agree-one : (i : ℕ) → Agree x y i → get_or x i 0 ≡ get_or y i 0 → Agree x y (i + 1)
  agree-one i h e = agree_on i 1 h (λ j l. let z : i + j ≡ i = omega arith in rw z e)

  -- where none of a few more differ, they agree
  pub agree-few : (i k : ℕ) {n r : ℕ} → Both x y n → i + k ≤ n → Agree x y i → r ≡ many_apart (onward i x) (onward i y) k → r ≡ 0 → Agree x y (i + k)
  agree-few i k b l h e z = agree_on i k h (λ j m. by j m (eqb (get_or x (i + j) 0) (get_or y (i + j) 0)) refl)
    where
      by : (j : ℕ) → j < k → (t : Bool) → eqb (get_or x (i + j) 0) (get_or y (i + j) 0) ≡ t → get_or x (i + j) 0 ≡ get_or y (i + j) 0
      by j m true q = eqb-true _ _ q
      by j m false q = absurd (omega (arith, parts-differ i k, e, z, many-some (λ j. differs_at x y (i + j)) k j m (differs x y b (omega arith) (eqb-false _ _ q))))

  pub count-begins : {n from : ℕ} → Both x y n → from ≤ n → Agree x y from → Counted x y n from 0
  unfolding many_apart
  count-begins {n} {from} b l h = record { within = l; most = omega arith; many = sym (many-none (differs_at x y) from (λ j m. agrees x y b (omega arith) (h.each j m))) }

  pub count-one : {n i c r : ℕ} → Both x y n → Counted x y n i c → i < n → (r ≡ bit 1 (not (eqb (get_or x i 0) (get_or y i 0)))) × (r ≤ 1) → Counted x y n (i + 1) (c + r)
  unfolding many_apart
  count-one {n} {i} {c} {r} b k l e =
      let z : i + 0 ≡ i = omega arith in
      let d = ap (bit 1) (differs-inside x y i (omega (arith, b.first)) (omega (arith, b.second))) in
      record { within = omega arith; most = omega (arith, k.most, e.1); many = omega (arith, many-split (differs_at x y) i 1, k.many, e.0, d, ap (λ j. bit 1 (differs_at x y j)) z) }

  pub count-few : (m : ℕ) {n i c r : ℕ} → Counted x y n i c → i + m ≤ n → (r ≡ many_apart (onward i x) (onward i y) m) × (r ≤ m) → Counted x y n (i + m) (c + r)
  unfolding many_apart
  count-few m {n} {i} {c} {r} k l e =
      record { within = l; most = omega (arith, k.most, e.1); many = omega (arith, many-split (differs_at x y) i m, k.many, e.0, parts-differ i m) }

  pub counted-all : {n i c : ℕ} → Counted x y n i c → n ≤ i → (c ≡ many_apart x y n) × (c ≤ n)
  counted-all {n} {i} k l = let z : i ≡ n = omega (arith, k.within) in (rw z at k.many, omega (arith, k.most))

-- ---- the answer

module _ (x y : List ℕ) {n more at : ℕ} (k : Rest x y n more) (run : Run x y n at) where
  -- all that both have agrees, and neither has more
  pub none_apart : n ≤ at → more ≡ 0 → record { position = 0; count = 0 } ≡ told x y
  none_apart l z =
      let h : length x ≡ length y = omega (arith, k.sum, k.both.first, k.both.second) in
      let e = ext_get_or 0 x y h (λ j m. run.passed.agree.each j (omega (arith, k.sum))) in
      let s = eq-same x y e in
      let c : count_apart x y ≡ 0 = many-none (differs_at x y) (longer x y) (λ j m. agrees x y k.both (omega (arith, k.sum)) (run.passed.agree.each j (omega (arith, k.sum)))) in
      rw (s, c)

  -- the position that the run stopped at differs
  at-differs : (n ≤ at → more ≡ 0 → ⊥) → (at < longer x y) × (differs_at x y at ≡ true)
  at-differs h = go (ltb at n) refl
    where
      go : (b : Bool) → ltb at n ≡ b → (at < longer x y) × (differs_at x y at ≡ true)
      go true q = let l = ltb-true at n q in (omega (arith, k.sum), differs x y k.both l (run.stops l))
      go false q =
          let l = ltb-false at n q in
          let m : (more ≡ 0 → ⊥) = h l in
          let z : at < max (length x) (length y) = omega (arith, k.sum, run.passed.most) in
          (z, past_one x y at z (ends k.ends))
        where
          ends : (length x ≡ n) ⊎ (length y ≡ n) → (length x ≤ at) ⊎ (length y ≤ at)
          ends (inl e) = inl (omega (arith, ltb-false at n q))
          ends (inr e) = inr (omega (arith, ltb-false at n q))

  not_same : (n ≤ at → more ≡ 0 → ⊥) → same x y ≡ false
  not_same h = ne_same x y (λ e. (says-differs x y at).holds (at-differs h).1 (ap (λ l. get_elem? l at) e))

  rest-differ : how_many (λ j. differs_at x y (n + j)) more ≡ more
  rest-differ = many-all (λ j. differs_at x y (n + j)) more (λ j l. past_one x y (n + j) (omega (arith, k.sum)) (ends j k.ends))
    where
      ends : (j : ℕ) → (length x ≡ n) ⊎ (length y ≡ n) → (length x ≤ n + j) ⊎ (length y ≤ n + j)
      ends j (inl e) = inl (omega arith)
      ends j (inr e) = inr (omega arith)

  pub apart-is : (n ≤ at → more ≡ 0 → ⊥) → {c : ℕ} → c ≡ many_apart x y n → record { position = at; count = c + more } ≡ told x y
  unfolding many_apart
  apart-is h {c} e =
      let d = at-differs h in
      let p : position_apart x y ≡ at = rw (not_same h) (least_at (differs_at x y) (longer x y) at d.0 d.1 (λ q l. agrees x y k.both (omega (arith, run.passed.most)) (run.passed.agree.each q l))) in
      let z : longer x y ≡ n + more = k.sum in
      let m : count_apart x y ≡ c + more = rw z (omega (arith, many-split (differs_at x y) n more, rest-differ, e)) in
      rw (p, m)

-- the shorter one's positions, and the others
pub rest-first : (x y : List ℕ) → length x < length y → Rest x y (length x) (length y - length x)
rest-first x y l = record { both = record { first = omega arith; second = omega arith }; ends = inl refl; sum = omega arith }

pub rest-second : (x y : List ℕ) → length y ≤ length x → Rest x y (length y) (length x - length y)
rest-second x y l = record { both = record { first = l; second = omega arith }; ends = inr refl; sum = omega arith }

-- none differ exactly if both are equal
pub count-tells : (x y : List ℕ) (n : ℕ) → cond (eqb (count_apart x y) 0) 0 n ≡ bit n (not (same x y))
count-tells x y n = go (same x y) refl
  where
    alike : (j : ℕ) → x ≡ y → differs_at x y j ≡ false
    alike j e = by (differs_at x y j) refl
      where
        by : (b : Bool) → differs_at x y j ≡ b → differs_at x y j ≡ false
        by true r = absurd ((says-differs x y j).holds r (ap (λ l. get_elem? l j) e))
        by false r = r

    go : (b : Bool) → same x y ≡ b → cond (eqb (count_apart x y) 0) 0 n ≡ bit n (not (same x y))
    go true q =
        let e = same-eq x y q in
        let c : count_apart x y ≡ 0 = many-none (differs_at x y) (longer x y) (λ j l. alike j e) in
        rw (q, c)
    go false q =
        let s = somewhere-apart x y q in
        let c = many-some (differs_at x y) (longer x y) s.0 s.1 s.2 in
        rw (q, ne_eqb (count_apart x y) 0 (λ z. omega arith))
