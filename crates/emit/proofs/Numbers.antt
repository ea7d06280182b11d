-- The bytes of a number by their places, and the shortest head by its tests. Assumes nothing.
use Prim.Native.Nat.{ℕ, zero, suc, ◌+◌, ◌-◌, ◌*◌, ◌/◌, ◌%◌, ◌^◌, ◌≤◌, ◌<◌}
use native.Mathlib.Nat.{pow-suc, pow-succ', div-div-eq-div-mul, div-one, not-suc-le-zero, le_of_suc-le-suc, mod-lt, mod-eq_of_lt, div-lt_iff_lt-mul, div-add-mod', mul-add-div_right, mul-add-mod_self_right, mul_comm, mul_assoc, one-le-pow}
use native.Mathlib.Omega.{arith}
use mathlib.Core.List.{List, ◌∷◌}
use mathlib.Core.Path.{◌≡◌, refl, sym, ap, ◌∙◌, subst}
use lib.ListN.{length, get_or, set, length-set}
use lib.Pow.{pow-add}
use borrow.Author.Tests.{lt-ltb, le-ltb}
use Rattle.meaning.specs.Encoding.{big}
use Rattle.meaning.specs.Manifest.{head_of, shortest_head}
use Rattle.meaning.specs.WrittenFile.{little_bytes}
use Rattle.meaning.proofs.Lengths.{big-length, little-length}
use Rattle.emit.specs.Laid.{Room, Laid}
use Rattle.emit.proofs.LaidPieces.{part, back, part_length, room_as, as_bytes, same_length, lent-after-byte, Filling, begin, more, all-filled}

-- 256 ^ k as a shift
shifted : (k : ℕ) → 256 ^ k ≡ 2 ^ (8 * k)
shifted zero = refl
shifted (suc k) =
    let e : 8 * suc k ≡ 8 * k + 8 = omega arith in
    pow-suc 256 k ∙ ap (λ (x : ℕ). x * 256) (shifted k) ∙ sym (ap (λ (j : ℕ). 2 ^ j) e ∙ pow-add 2 (8 * k) 8)

little-get_d : (k n i : ℕ) → i < k → get_or (little_bytes k n) i 0 ≡ n / 256 ^ i % 256
unfolding little_bytes
little-get_d zero n i h = absurd (not-suc-le-zero h)
little-get_d (suc k) n zero h = ap (λ (x : ℕ). x % 256) (sym (div-one n))
little-get_d (suc k) n (suc i) h =
    little-get_d k (n / 256) i (le_of_suc-le-suc h)
    ∙ ap (λ (x : ℕ). x % 256) (div-div-eq-div-mul n 256 (256 ^ i) ∙ ap (λ (x : ℕ). n / x) (sym (pow-succ' 256 i)))

little-at : (k n i : ℕ) → i < k → n / 2 ^ (8 * i) % 256 ≡ get_or (little_bytes k n) i 0
little-at k n i h = ap (λ (x : ℕ). n / x % 256) (sym (shifted i)) ∙ sym (little-get_d k n i h)

-- a byte doesn't depend on the bytes before it
module _ (n k i : ℕ) where
  above : ℕ
  above = n / 256 ^ (k + suc i) * 256 ^ i

  below : ℕ
  below = n % 256 ^ (k + suc i)

  whole : n / 256 ^ (k + suc i) * 256 ^ (k + suc i) ≡ above * 256 * 256 ^ k
  unfolding above
  whole =
      ap (λ (z : ℕ). n / 256 ^ (k + suc i) * z) (pow-add 256 k (suc i) ∙ ap (λ (z : ℕ). 256 ^ k * z) (pow-suc 256 i) ∙ mul_comm (256 ^ k) (256 ^ i * 256))
      ∙ sym (mul_assoc (n / 256 ^ (k + suc i)) (256 ^ i * 256) (256 ^ k))
      ∙ ap (λ (z : ℕ). z * 256 ^ k) (sym (mul_assoc (n / 256 ^ (k + suc i)) (256 ^ i) 256))

  parts : n ≡ above * 256 * 256 ^ k + below
  unfolding below
  parts = sym (div-add-mod' n (256 ^ (k + suc i))) ∙ ap (λ (z : ℕ). z + n % 256 ^ (k + suc i)) whole

  without-above : n % 256 ^ (k + suc i) / 256 ^ k % 256 ≡ n / 256 ^ k % 256
  unfolding below
  without-above =
      sym (ap (λ (z : ℕ). z / 256 ^ k % 256) parts
      ∙ ap (λ (z : ℕ). z % 256) (mul-add-div_right (one-le-pow k 256 (omega arith)) (above * 256) below)
      ∙ mul-add-mod_self_right above 256 (below / 256 ^ k))

big-get_d : (w n i : ℕ) → n < 256 ^ w → i < w → get_or (big w n) i 0 ≡ n / 256 ^ (w - 1 - i) % 256
unfolding big
big-get_d zero n i b h = absurd (not-suc-le-zero h)
big-get_d (suc w) n zero b h =
    let e : suc w - 1 - 0 ≡ w = omega arith in
    sym (ap (λ (j : ℕ). n / 256 ^ j % 256) e ∙ mod-eq_of_lt ((div-lt_iff_lt-mul (one-le-pow w 256 (omega arith))).1 (subst (λ (x : ℕ). n < x) (pow-succ' 256 w) b)))
big-get_d (suc w) n (suc i) b h =
    let e : w - 1 - i + suc i ≡ w = omega arith in
    let f : suc w - 1 - suc i ≡ w - 1 - i = omega arith in
    big-get_d w (n % 256 ^ w) i (mod-lt n (one-le-pow w 256 (omega arith))) (le_of_suc-le-suc h)
    ∙ ap (λ (j : ℕ). n % 256 ^ j / 256 ^ (w - 1 - i) % 256) (sym e)
    ∙ without-above n (w - 1 - i) i
    ∙ ap (λ (j : ℕ). n / 256 ^ j % 256) (sym f)

big-at : (w n i : ℕ) → n < 256 ^ w → i < w → n / 2 ^ (8 * (w - 1 - i)) % 256 ≡ get_or (big w n) i 0
big-at w n i b h = ap (λ (x : ℕ). n / x % 256) (sym (shifted (w - 1 - i))) ∙ sym (big-get_d w n i b h)

-- the shortest head by its tests
module _ (m n : ℕ) where
  pub tiny : n < 24 → head_of m n 0 0 ≡ shortest_head m n
  unfolding shortest_head big
  tiny h = simp (lt-ltb _ _ h)

  module _ (a : 24 ≤ n) where
    pub one : n < 256 → head_of m 24 1 n ≡ shortest_head m n
    unfolding shortest_head
    one h = simp (le-ltb _ _ a, lt-ltb _ _ h)

    module _ (b : 256 ≤ n) where
      pub two : n < 65536 → head_of m 25 2 n ≡ shortest_head m n
      unfolding shortest_head
      two h = simp (le-ltb _ _ a, le-ltb _ _ b, lt-ltb _ _ h)

      module _ (d : 65536 ≤ n) where
        pub four : n < 4294967296 → head_of m 26 4 n ≡ shortest_head m n
        unfolding shortest_head
        four h = simp (le-ltb _ _ a, le-ltb _ _ b, le-ltb _ _ d, lt-ltb _ _ h)

        pub eight : 4294967296 ≤ n → head_of m 27 8 n ≡ shortest_head m n
        unfolding shortest_head
        eight h = simp (le-ltb _ _ a, le-ltb _ _ b, le-ltb _ _ d, le-ltb _ _ h)

-- a head by its initial byte as it was joined
same-initial : (m l w n : ℕ) {b : ℕ} → b ≡ m * 32 + l → head_of m l w n ≡ b ∷ big w n
same-initial m l w n e = ap (λ (z : ℕ). z ∷ big w n) (sym e)

module _ (m l w n : ℕ) {xs : List ℕ} {at : ℕ} (room : Room (head_of m l w n) at xs) (b : ℕ) where
  pub argument-fits : w ≤ length (part (at + 1) (set xs at b))
  argument-fits = rw (part_length (at + 1) (set xs at b), length-set) (omega (arith, room.fits, big-length w n))

  module _ (e : b ≡ m * 32 + l) {zs : List ℕ} {k : ℕ} (a : Laid (big w n) 0 (part (at + 1) (set xs at b)) zs k) where
    after-byte : Laid (b ∷ big w n) at xs (back (at + 1) (set xs at b) zs) (at + 1 + k)
    after-byte = lent-after-byte (room_as (same-initial m l w n e) room) a

    pub head-laid : Laid (head_of m l w n) at xs (back (at + 1) (set xs at b) zs) (at + 1 + k)
    head-laid = as_bytes (sym (same-initial m l w n e)) after-byte

    pub head-as-long : length (back (at + 1) (set xs at b) zs) ≡ length xs
    head-as-long = same_length after-byte

-- ---- the loops that store the bytes of a number

pub record FillingBig (w n : ℕ) (xs ys : List ℕ) (i : ℕ) : Type 0 where
  pub few : w ≤ 8
  pub small : n < 256 ^ w
  pub filling : Filling (big w n) w xs ys i

pub big-none : {w n : ℕ} {xs : List ℕ} → w ≤ 8 → n < 256 ^ w → w ≤ length xs → FillingBig w n xs xs 0
big-none {w} {n} {xs} f s h = record { few = f; small = s; filling = begin (big w n) w xs (big-length w n) h }

module _ {w n i : ℕ} {xs ys : List ℕ} (f : FillingBig w n xs ys i) where
  pub big-more : i < w → FillingBig w n xs (set ys i (n / 2 ^ (8 * (w - 1 - i)) % 256)) (i + 1)
  big-more l = record { few = f.few; small = f.small; filling = more f.filling l (big-at w n i f.small l) }

  pub big_all : w ≤ i → Laid (big w n) 0 xs ys w
  big_all l = all-filled f.filling l

module _ (n : ℕ) {xs : List ℕ} where
  pub little-none : 8 ≤ length xs → Filling (little_bytes 8 n) 8 xs xs 0
  little-none h = begin (little_bytes 8 n) 8 xs (little-length 8 n) h

  pub little-more : {ys : List ℕ} {i : ℕ} → Filling (little_bytes 8 n) 8 xs ys i → i < 8 → Filling (little_bytes 8 n) 8 xs (set ys i (n / 2 ^ (8 * i) % 256)) (i + 1)
  little-more {i = i} f l = more f l (little-at 8 n i l)

  pub little-fits : {at : ℕ} → Room (little_bytes 8 n) at xs → 8 ≤ length (part at xs)
  little-fits {at} h = rw (part_length at xs) (omega (arith, h.fits, little-length 8 n))
