-- A number that is half worked through: the limbs that are done, and what is above them as a number.
use Prim.Native.Nat.{ℕ, zero, suc, ◌+◌, ◌*◌, ◌/◌, ◌%◌, ◌^◌, ◌-◌, ◌≤◌, ◌<◌}
use native.Mathlib.Nat.{mul-add, mul_left_comm, mul_comm, mul-le-mul_left, mul-le-mul_right, pow-succ', mul-zero, mul-suc, mul_assoc, le_trans}
use native.Mathlib.Omega.{arith}
use native.Mathlib.Numerals.{add-one}
use mathlib.Core.List.{List, [], ◌∷◌, ◌++◌}
use mathlib.Core.Logic.{◌⊎◌, inl, inr}
use mathlib.Core.Path.{◌≡◌, refl, sym, ap, ◌∙◌}
use lib.ListN.{length, get_or, set, take, drop, length-set}
use lib.Seq.{drop-cons, take-suc, take-suc-set, drop-set-lt, take-set-le, get_or-set_same, get_or-set_other}
use mir.Syntax.{w64}
use mir.Val.{Fits}
use Rattle.endian.proofs.Which.{eq-or}
use Rattle.decimal.specs.Limbs.{value, Limbs}

abbrev pub base : ℕ
base = 4294967296

unfoldable pub glue : List ℕ → ℕ → ℕ
glue [] v = v
glue (x ∷ xs) v = x + base * glue xs v

pub glue-value : (xs : List ℕ) → glue xs 0 ≡ value xs
unfolding glue value
glue-value [] = refl
glue-value (x ∷ xs) = ap (λ (v : ℕ). x + base * v) (glue-value xs)

glue-snoc : (xs : List ℕ) (y v : ℕ) → glue (xs ++ (y ∷ [])) v ≡ glue xs (y + base * v)
unfolding glue
glue-snoc [] y v = refl
glue-snoc (x ∷ xs) y v = ap (λ (v : ℕ). x + base * v) (glue-snoc xs y v)

-- what stands above the limbs counts for at least this
glue-above : (xs : List ℕ) (v : ℕ) → base ^ length xs * v ≤ glue xs v
unfolding glue
glue-above [] v = omega arith
glue-above (x ∷ xs) v =
    let e : base ^ suc (length xs) * v ≡ base * (base ^ length xs * v) = ap (λ (k : ℕ). k * v) (pow-succ' base (length xs)) ∙ mul_assoc base (base ^ length xs) v in
    let h : base * (base ^ length xs * v) ≤ base * glue xs v = mul-le-mul_left base (glue-above xs v) in
    omega arith

pub value-at : (xs : List ℕ) (i : ℕ) → i < length xs → value (drop i xs) ≡ get_or xs i 0 + base * value (drop (i + 1) xs)
unfolding value
value-at xs i h = rw (add-one i, drop-cons xs i 0 h)

pub limbs-set : (xs : List ℕ) (i y : ℕ) → i < length xs → y < base → Limbs xs → Limbs (set xs i y)
limbs-set xs i y h l p = record { sized = length-set xs i y ∙ p.sized; each = λ k. go k (eq-or k i) }
  where
    go : (k : ℕ) → (k ≡ i) ⊎ (k ≡ i → ⊥) → get_or (set xs i y) k 0 < base
    go k (inl e) = rw (e, get_or-set_same xs i y 0 h) l
    go k (inr n) = rw (get_or-set_other xs i k y 0 n) (p.each k)

-- a turn of `times`, and its end
module _ (xs : List ℕ) (i : ℕ) (h : i < length xs) (c carry t : ℕ) (is : t ≡ get_or xs i 0 * c + carry) where
  times-sum : (v : ℕ) → t % base + base * (t / base + c * v) ≡ carry + c * (get_or xs i 0 + base * v)
  times-sum v =
      let a : c * (get_or xs i 0 + base * v) ≡ c * get_or xs i 0 + base * (c * v) = mul-add c (get_or xs i 0) (base * v) ∙ ap (λ (k : ℕ). c * get_or xs i 0 + k) (mul_left_comm c base v) in
      let b : c * get_or xs i 0 ≡ get_or xs i 0 * c = mul_comm c (get_or xs i 0) in
      omega arith

  times-turn : glue (take (i + 1) (set xs i (t % base))) (t / base + c * value (drop (i + 1) (set xs i (t % base)))) ≡ glue (take i xs) (carry + c * value (drop i xs))
  times-turn =
      rw (value-at xs i h, add-one i, take-suc-set xs i (t % base) h, drop-set-lt (suc i) xs i (t % base) (omega arith), glue-snoc)
      (ap (glue (take i xs)) (times-sum (value (drop (suc i) xs))))

  -- no product is too large, and the carry stays below c
  times-fits : 0 < c → carry < c → get_or xs i 0 < base → (get_or xs i 0 * c + carry < base * c) × (t / base < c)
  times-fits z l b =
      let m : get_or xs i 0 * c ≤ 4294967295 * c = mul-le-mul_right c (omega arith) in
      (omega arith, omega arith)

-- a turn of `tenth`
module _ (xs : List ℕ) (i : ℕ) (h : i < length xs) (rest t : ℕ) (is : t ≡ rest * base + get_or xs i 0) where
  tenth-sum : (v : ℕ) → 10 * (t / 10 + base * v) + t % 10 ≡ get_or xs i 0 + base * (10 * v + rest)
  tenth-sum v = omega arith

  tenth-turn : glue (take i (set xs i (t / 10))) (10 * value (drop i (set xs i (t / 10))) + t % 10) ≡ glue (take (i + 1) xs) (10 * value (drop (i + 1) xs) + rest)
  tenth-turn =
      let l : i < length (set xs i (t / 10)) = rw (length-set xs i (t / 10)) h in
      rw (value-at (set xs i (t / 10)) i l, add-one i, take-suc xs i 0 h, take-set-le i xs i (t / 10) (omega arith), get_or-set_same xs i (t / 10) 0 h, drop-set-lt (suc i) xs i (t / 10) (omega arith), glue-snoc)
      (ap (glue (take i xs)) (tenth-sum (value (drop (suc i) xs))))

small : (p v n : ℕ) → p * v ≤ n → n < p → v ≡ 0
small p zero n h l = refl
small p (suc v) n h l = absurd (omega (arith, mul-suc p v, h, l))

eq-le : {a b : ℕ} → a ≡ b → a ≤ b
eq-le {a = a} e = rw (← e) (omega arith)

-- all limbs are done, and nothing is above them
none_above : (xs : List ℕ) (v n : ℕ) → length xs ≡ 13 → n < 2 ^ 416 → glue xs v ≡ n → v ≡ 0
none_above xs v n l h e =
    let b : base ^ length xs ≡ 2 ^ 416 = rw l refl in
    small (2 ^ 416) v n (le_trans (rw b at (glue-above xs v)) (eq-le e)) h

take_all : (xs : List ℕ) (i : ℕ) → length xs ≤ i → take i xs ≡ xs
take_all [] zero h = refl
take_all [] (suc i) h = refl
take_all (x ∷ xs) zero h = absurd (omega arith)
take_all (x ∷ xs) (suc i) h = ap (λ (r : List ℕ). x ∷ r) (take_all xs i (omega arith))

pub drop_all : (xs : List ℕ) (i : ℕ) → length xs ≤ i → value (drop i xs) ≡ 0
unfolding value
drop_all [] zero h = refl
drop_all [] (suc i) h = refl
drop_all (x ∷ xs) zero h = absurd (omega arith)
drop_all (x ∷ xs) (suc i) h = drop_all xs i (omega arith)

times-done : (xs : List ℕ) (i c carry n : ℕ) → length xs ≡ 13 → 13 ≤ i → n < 2 ^ 416 → glue (take i xs) (carry + c * value (drop i xs)) ≡ n → value xs ≡ n
times-done xs i c carry n l h b e =
    let t : take i xs ≡ xs = take_all xs i (omega arith) in
    let d : value (drop i xs) ≡ 0 = drop_all xs i (omega arith) in
    let z : carry + c * 0 ≡ carry = omega (arith, mul-zero c) in
    let g : glue xs carry ≡ n = rw (t, d, z) at e in
    let k : carry ≡ 0 = none_above xs carry n l b g in
    sym (glue-value xs) ∙ (rw k at g)

-- `times` and `tenth` on their way
pub record Timed (all : List ℕ) (c : ℕ) (xs : List ℕ) (carry i : ℕ) : Type 0 where
  pub within : i ≤ 13
  pub low : carry < c
  pub limbs : Limbs xs
  pub stands : glue (take i xs) (carry + c * value (drop i xs)) ≡ c * value all

pub record Divided (all : List ℕ) (xs : List ℕ) (rest i : ℕ) : Type 0 where
  pub within : i ≤ 13
  pub low : rest < 10
  pub limbs : Limbs xs
  pub stands : glue (take i xs) (10 * value (drop i xs) + rest) ≡ value all

pub timed-first : (xs : List ℕ) (c : ℕ) → 0 < c → Limbs xs → Timed xs c xs 0 0
unfolding glue
timed-first xs c z p = record { within = omega arith; low = z; limbs = p; stands = omega arith }

module _ {all xs : List ℕ} {c carry i : ℕ} (w : Timed all c xs carry i) where
  abbrev t : ℕ
  t = get_or xs i 0 * c + carry

  module _ (h : i < 13) where
    there : i < length xs
    there = omega (arith, w.limbs.sized)

    t-low : (t < base * c) × (t / base < c)
    t-low = times-fits xs i there c carry t refl (omega (arith, w.low)) w.low (w.limbs.each i)

    pub product-fits : c < base → Fits w64 (get_or xs i 0 * c)
    product-fits b = record { fits = omega (arith, t-low.0) }

    pub sum_fits : c < base → Fits w64 (get_or xs i 0 * c + carry)
    sum_fits b = record { fits = omega (arith, t-low.0) }

    pub timed-next : Timed all c (set xs i ((get_or xs i 0 * c + carry) % base)) ((get_or xs i 0 * c + carry) / base) (i + 1)
    timed-next = record {
      within = omega arith;
      low = t-low.1;
      limbs = limbs-set xs i (t % base) there (omega arith) w.limbs;
      stands = times-turn xs i there c carry t refl ∙ w.stands;
    }

  pub timed-done : 13 ≤ i → c * value all < 2 ^ 416 → value xs ≡ c * value all
  timed-done h b = times-done xs i c carry (c * value all) w.limbs.sized h b w.stands

pub divided-first : (xs : List ℕ) → Limbs xs → Divided xs xs 0 13
divided-first xs p =
    let l : length xs ≡ 13 = p.sized in
    let t : take 13 xs ≡ xs = take_all xs 13 (omega arith) in
    let d : value (drop 13 xs) ≡ 0 = drop_all xs 13 (omega arith) in
    record { within = omega arith; low = omega arith; limbs = p; stands = rw (t, d) (glue-value xs) }

module _ {all xs : List ℕ} {rest i : ℕ} (w : Divided all xs rest i) where
  pub digit-fits : Fits w64 (rest * base + get_or xs (i - 1) 0)
  digit-fits = record { fits = omega (arith, w.limbs.each (i - 1), w.low) }

  pub divided-next : 0 < i → Divided all (set xs (i - 1) ((rest * base + get_or xs (i - 1) 0) / 10)) ((rest * base + get_or xs (i - 1) 0) % 10) (i - 1)
  divided-next h = go (i - 1) refl (rest * base + get_or xs (i - 1) 0) refl
    where
      go : (j : ℕ) → j ≡ i - 1 → (t : ℕ) → t ≡ rest * base + get_or xs j 0 → Divided all (set xs j (t / 10)) (t % 10) j
      go j p t e =
          let l : j < length xs = omega (arith, w.limbs.sized, w.within) in
          let b : get_or xs j 0 < base = w.limbs.each j in
          let s : i ≡ j + 1 = omega arith in
          record {
            within = omega (arith, w.within);
            low = omega arith;
            limbs = limbs-set xs j (t / 10) l (omega (arith, w.low)) w.limbs;
            stands = tenth-turn xs j l rest t e ∙ rw (← s) w.stands;
          }

  pub divided-done : i ≤ 0 → value all ≡ 10 * value xs + rest
  unfolding glue
  divided-done h = let z : i ≡ 0 = omega arith in sym (rw z at w.stands)
