-- The tests of one offset, branch by branch.
use Prim.Native.Nat.{ℕ, zero, suc, ◌+◌, ◌*◌, ◌%◌, ◌≤◌, ◌<◌}
use native.Mathlib.Omega.{arith}
use mathlib.Core.List.{List}
use mathlib.Core.Bool.{Bool, true, false, ◌&&◌}
use mathlib.Core.Path.{◌≡◌, refl, sym, ◌∙◌}
use lib.Dec.{eqb, leb}
use lib.ListN.{length, get_or}
use Rattle.std.specs.Bool.{MatchBool}
use Rattle.std.specs.List.{range_with_len, AllWithin, HoldsAt}
use Rattle.std.proofs.lemmas.List.FromFn.{length-range_with_len, get_or-range_with_len}
use Rattle.readback.specs.Follows.{Before}
use borrow.Author.Tests.{eqb-true, eqb-false, leb-true}
use Rattle.meaning.specs.Columns.{component_width, length_column}
use Rattle.meaning.specs.Limit.{end_limit}
use Rattle.meaning.specs.Text.{all}
use Rattle.meaning.specs.Read.{Span}
use Rattle.meaning.specs.Plan.{ranged, apart, allowed}
use Rattle.meaning.proofs.Tests.{both_right}
use Rattle.readback.proofs.Planned.{apart-before}
use Rattle.plan.specs.Earlier.{here, earlier, Earlier, Next}

module _ (offset size ceiling : ℕ) where
  -- an offset that is allowed ends by the ceiling
  pub ends_low : ceiling ≤ end_limit → allowed ceiling (ranged offset size) ≡ true → offset + size ≤ end_limit
  unfolding allowed
  ends_low h e = omega (arith, h, leb-true (offset + size) ceiling (both_right (eqb (offset % 64) 0 && leb 64 offset) (leb (offset + size) ceiling) e))

-- ---- the earlier ones

module _ (plan rows : List ℕ) where
  its-end : (n k : ℕ) → k < n → Before end_limit (earlier plan rows n) → get_or plan k 0 + get_or rows (component_width * k + length_column) 0 ≤ end_limit
  unfolding earlier
  its-end zero k h b = absurd (omega (arith, h))
  its-end (suc n) k h b = by (eqb k n) refl (λ l. its-end n k l b.1)
    where
      by : (t : Bool) → eqb k n ≡ t → (k < n → get_or plan k 0 + get_or rows (component_width * k + length_column) 0 ≤ end_limit) → get_or plan k 0 + get_or rows (component_width * k + length_column) 0 ≤ end_limit
      by true e go = rw (eqb-true k n e) b.0
      by false e go = let z = eqb-false k n e in go (omega (arith, h, z))

  pub low-at : (n k : ℕ) → Earlier plan rows n → k < n → get_or plan k 0 + get_or rows (component_width * k + length_column) 0 ≤ end_limit
  low-at n k e h = its-end n k h e.low

module _ (plan rows : List ℕ) (p : Span → Bool) where
  each-holds : (n : ℕ) → ((k : ℕ) → k < n → p (here plan rows k) ≡ true) → all p (earlier plan rows n) ≡ true
  unfolding earlier
  each-holds zero h = refl
  each-holds (suc n) h = rw (h n (omega arith)) (each-holds n (λ k l. h k (omega (arith, l))))

  one-fails : (n k : ℕ) → k < n → p (here plan rows k) ≡ false → all p (earlier plan rows n) ≡ false
  unfolding earlier
  one-fails zero k l e = absurd (omega (arith, l))
  one-fails (suc n) k l e = by (p (here plan rows n)) (eqb k n) refl refl (λ m. one-fails n k m e)
    where
      by : (b t : Bool) → p (here plan rows n) ≡ b → eqb k n ≡ t → (k < n → all p (earlier plan rows n) ≡ false) → p (here plan rows n) && all p (earlier plan rows n) ≡ false
      by false t f g go = rw f refl
      by true true f g go = absurd (let z : ◌≡◌ {A = Bool} true false = sym f ∙ (rw (eqb-true k n g) at e) in cc)
      by true false f g go = rw f (let z = eqb-false k n g in go (omega (arith, l, z)))

  -- what `all` answered over the first n
  pub all-asked : (n : ℕ) (r : Bool)
      → MatchBool r (AllWithin (λ k. p (here plan rows k) ≡ true) (range_with_len 0 n) 0 (length (range_with_len 0 n)))
      ((k : ℕ) × (k < length (range_with_len 0 n)) × HoldsAt (λ k. p (here plan rows k) ≡ false) (range_with_len 0 n) k)
      → r ≡ all p (earlier plan rows n)
  all-asked n true h =
      sym (each-holds n (λ k l. (let e : get_or (range_with_len 0 n) k 0 ≡ k = omega (arith, get_or-range_with_len 0 n k 0 l) in
      rw e at (h k 0 (omega arith) (omega (arith, l, length-range_with_len 0 n))))))
  all-asked n false h =
      let l : h.0 < n = omega (arith, h.1, length-range_with_len 0 n) in
      let e : get_or (range_with_len 0 n) h.0 0 ≡ h.0 = omega (arith, get_or-range_with_len 0 n h.0 0 l) in
      sym (one-fails n h.0 l (rw e at (h.2 0)))

-- ---- the next offset

module _ {plan rows : List ℕ} {i end ceiling : ℕ} (x : Next plan rows i end ceiling) where
  abbrev offset : ℕ
  offset = get_or plan i 0

  abbrev size : ℕ
  size = get_or rows (component_width * i + length_column) 0

  abbrev none-shares : Bool
  none-shares = all (apart (ranged offset size)) (earlier plan rows i)

  -- of an offset that is allowed
  module _ (held : allowed ceiling (ranged offset size) ≡ true) where
    pub end_low : offset + size ≤ end_limit
    end_low = ends_low offset size ceiling x.ceiling-low held

    pub past_all : end ≤ offset → none-shares ≡ true
    past_all h = apart-before end offset size (earlier plan rows i) h x.ends
