-- A version by a state of two numbers, the dots so far and the room of the run; and its major by the first two bytes. Assumes nothing.
use mathlib.Core.Path.{◌≡◌, refl, sym, ap, ◌∙◌}
use mathlib.Core.List.{List, [], ◌∷◌}
use mathlib.Core.Bool.{Bool, true, false, not, ◌&&◌, ◌||◌}
use Prim.Native.Nat.{ℕ, zero, suc, ◌+◌, ◌-◌, ◌≤◌, ◌<◌}
use native.Mathlib.Numerals.{add-one}
use native.Mathlib.Omega.{arith}
use lib.ListN.{length, get_or, drop, drop_of_length-le, get_or-eq_default}
use lib.Seq.{drop-cons}
use lib.Dec.{ltb, leb, eqb}
use borrow.Author.Tests.{eq-eqb, ne_eqb, lt-ltb, le-leb, lt-leb, leb-true, leb-false, eqb-true, eqb-false, ltb-true, ltb-false}
use Rattle.meaning.specs.Text.{all, same, within}
use Rattle.meaning.specs.Version.{push, runs, digit, plain_run, version_shape, first_is_one, major_one}
use Rattle.meaning.proofs.Tests.{and-true, and-false}
use Rattle.versions.specs.Room.{room_after, fits}
use Rattle.text.proofs.WithinRange.{in-range, under, over}

-- ---------------------------------------------------------------- tests joined

-- a test that stands first or second
second-first : (l d a : Bool) → (d && true && (l && a)) ≡ (l && (d && a))
second-first true true a = refl
second-first true false a = refl
second-first false true a = refl
second-first false false a = refl

leb-suc : (m k : ℕ) → leb (suc m) (suc k) ≡ leb m k
leb-suc m k = go (leb m k) refl
  where
    go : (t : Bool) → leb m k ≡ t → leb (suc m) (suc k) ≡ t
    go true q = le-leb (suc m) (suc k) (omega (arith, leb-true m k q))
    go false q = lt-leb (suc m) (suc k) (omega (arith, leb-false m k q))

-- ---------------------------------------------------------------- a run

no_room : (b : ℕ) (r : List ℕ) → fits 0 (b ∷ r) ≡ false
unfolding fits
no_room b r = rw (and-false (digit b))

later-room : (k b : ℕ) → suc k < 9 → room_after (suc k) b ≡ k
unfolding room_after
later-room k b l = let z : suc k - 1 ≡ k = omega arith in rw (ne_eqb (suc k) 9 (λ e. omega arith), z)

-- in a run that has begun only the number of digits counts
begun : (room : ℕ) (r : List ℕ) → room < 9 → fits room r ≡ (leb (length r) room && all digit r)
unfolding fits
begun room [] l = rw (ne_eqb room 9 (λ e. omega arith), le-leb 0 room (omega arith))
begun zero (b ∷ r) l = no_room b r ∙ sym (rw (lt-leb (suc (length r)) 0 (omega arith)))
begun (suc k) (b ∷ r) l = rw (lt-ltb 0 (suc k) (omega arith), later-room k b l, begun k r (omega arith), leb-suc (length r) k) (second-first (leb (length r) k) (digit b) (all digit r))

module _ (b : ℕ) (r : List ℕ) where
  zero-first : eqb b 48 ≡ true → plain_run (b ∷ r) ≡ fits 9 (b ∷ r)
  unfolding plain_run fits room_after
  zero-first q = rw (q, begun 0 r (omega arith)) (go r)
    where
      go : (r : List ℕ) → (leb (length r) 8 && (digit b && all digit r) && (false || same r [])) ≡ (digit b && true && (leb (length r) 0 && all digit r))
      go [] = rw (le-leb 0 8 (omega arith), le-leb 0 0 (omega arith), and-true (digit b && true))
      go (x ∷ r) = rw (and-false (leb (suc (length r)) 8 && (digit b && (digit x && all digit r))), lt-leb (suc (length r)) 0 (omega arith), and-false (digit b && true))

  other-first : eqb b 48 ≡ false → plain_run (b ∷ r) ≡ fits 9 (b ∷ r)
  unfolding plain_run fits room_after
  other-first q = rw (q, begun 8 r (omega arith), and-true (leb (length r) 8 && (digit b && all digit r))) (sym (second-first (leb (length r) 8) (digit b) (all digit r)))

plain_fits : (r : List ℕ) → plain_run r ≡ fits 9 r
unfolding plain_run fits
plain_fits [] = refl
plain_fits (b ∷ r) = go (eqb b 48) refl
  where
    go : (t : Bool) → eqb b 48 ≡ t → plain_run (b ∷ r) ≡ fits 9 (b ∷ r)
    go true q = zero-first b r q
    go false q = other-first b r q

-- the room after a digit, by its tests
module _ (room b : ℕ) where
  pub one_less : (room ≡ 9 → ⊥) → room - 1 ≡ room_after room b
  unfolding room_after
  one_less h = rw (ne_eqb room 9 h)

  pub none_left : room ≡ 9 → b ≡ 48 → 0 ≡ room_after room b
  unfolding room_after
  none_left e z = rw (eq-eqb room 9 e, eq-eqb b 48 z)

  pub eight-left : room ≡ 9 → (b ≡ 48 → ⊥) → 8 ≡ room_after room b
  unfolding room_after
  eight-left e h = rw (eq-eqb room 9 e, ne_eqb b 48 h) (omega arith)

-- ---------------------------------------------------------------- the runs of a text

-- there is always a first run
record Split (s : List ℕ) : Type 0 where
  first : List ℕ
  others : List (List ℕ)
  are : runs s ≡ first ∷ others

module _ (b : ℕ) (s : List ℕ) where
  runs-dot : b ≡ 46 → runs (b ∷ s) ≡ [] ∷ runs s
  unfolding runs
  runs-dot e = ap (λ (t : Bool). elim t [ true ↦ [] ∷ runs s | false ↦ push b (runs s) ]) (eq-eqb b 46 e)

  runs_other : (b ≡ 46 → ⊥) → (p : Split s) → runs (b ∷ s) ≡ (b ∷ p.first) ∷ p.others
  unfolding runs push
  runs_other e p = ap (λ (t : Bool). elim t [ true ↦ [] ∷ runs s | false ↦ push b (runs s) ]) (ne_eqb b 46 e) ∙ ap (push b) p.are

split : (s : List ℕ) → Split s
unfolding runs
split [] = record { first = []; others = []; are = refl }
split (b ∷ s) = go (eqb b 46) refl (split s)
  where
    go : (t : Bool) → eqb b 46 ≡ t → Split s → Split (b ∷ s)
    go true q p = record { first = []; others = runs s; are = runs-dot b s (eqb-true b 46 q) }
    go false q p = record { first = b ∷ p.first; others = p.others; are = runs_other b s (eqb-false b 46 q) p }

-- ---------------------------------------------------------------- the state

unfoldable pub runs_fit : ℕ → List (List ℕ) → Bool
runs_fit room [] = false
runs_fit room (r ∷ rs) = fits room r && all plain_run rs

-- what is left to say of s after so many dots, in a run with that room
unfoldable pub rest : ℕ → ℕ → List ℕ → Bool
rest dots room s = within 2 3 (dots + length (runs s)) && runs_fit room (runs s)

all_fit : (s : List ℕ) → all plain_run (runs s) ≡ runs_fit 9 (runs s)
unfolding runs_fit
all_fit s = let p = split s in rw p.are (ap (λ t. t && all plain_run p.others) (plain_fits p.first))

module _ (dots room b : ℕ) (s : List ℕ) where
  at-dot : b ≡ 46 → rest dots room (b ∷ s) ≡ (within 2 3 (dots + 1 + length (runs s)) && (fits room [] && runs_fit 9 (runs s)))
  unfolding rest runs_fit
  at-dot e = let z : dots + suc (length (runs s)) ≡ dots + 1 + length (runs s) = omega arith in rw (runs-dot b s e, z, ← all_fit s)

  dot-early : b ≡ 46 → room ≡ 9 → rest dots room (b ∷ s) ≡ false
  unfolding fits
  dot-early e q = at-dot e ∙ (rw (q, and-false))

  dot-right : b ≡ 46 → (room ≡ 9 → ⊥) → rest dots room (b ∷ s) ≡ rest (dots + 1) 9 s
  unfolding fits rest
  dot-right e q = at-dot e ∙ (rw (ne_eqb room 9 q))

  at_other : (b ≡ 46 → ⊥) → (p : Split s) → rest dots room (b ∷ s) ≡ (within 2 3 (dots + suc (length p.others)) && (fits room (b ∷ p.first) && all plain_run p.others))
  unfolding rest runs_fit
  at_other e p = rw (runs_other b s e p)

  no_digit : (b ≡ 46 → ⊥) → digit b ≡ false → rest dots room (b ∷ s) ≡ false
  unfolding fits
  no_digit e q = at_other e (split s) ∙ (rw (q, and-false))

  too_long : (b ≡ 46 → ⊥) → room ≡ 0 → rest dots room (b ∷ s) ≡ false
  too_long e q = at_other e (split s) ∙ (rw (q, no_room b (split s).first, and-false))

  digit-right : (b ≡ 46 → ⊥) → digit b ≡ true → 0 < room → rest dots room (b ∷ s) ≡ rest dots (room_after room b) s
  unfolding fits rest runs_fit
  digit-right e q l = at_other e (split s) ∙ (rw (q, lt-ltb 0 room l, (split s).are))

-- ---------------------------------------------------------------- the loop over v, at i

pub record Says (v : List ℕ) (i dots room : ℕ) : Type 0 where
  pub inside : i ≤ length v
  pub few : dots ≤ i
  pub says : version_shape v ≡ rest dots room (drop i v)

shape-rest : (v : List ℕ) → version_shape v ≡ rest 0 9 v
unfolding version_shape rest
shape-rest v = let z : 0 + length (runs v) ≡ length (runs v) = omega arith in rw (z, all_fit v)

pub says_all : {v : List ℕ} → Says v 0 0 9
says_all {v} = record { inside = omega arith; few = omega arith; says = shape-rest v }

module _ {v : List ℕ} {i dots room b : ℕ} (h : Says v i dots room) (l : i < length v) (e : b ≡ get_or v i 0) where
  here : version_shape v ≡ rest dots room (b ∷ drop (i + 1) v)
  here = rw (add-one i, e) (h.says ∙ ap (rest dots room) (drop-cons v i 0 l))

  pub empty-run : b ≡ 46 → room ≡ 9 → false ≡ version_shape v
  empty-run q z = sym (here ∙ dot-early dots room b _ q z)

  pub next-run : b ≡ 46 → (room ≡ 9 → ⊥) → Says v (i + 1) (dots + 1) 9
  next-run q z = let f = h.few in record { inside = omega arith; few = omega arith; says = here ∙ dot-right dots room b _ q z }

  pub below-digits : (b ≡ 46 → ⊥) → b < 48 → false ≡ version_shape v
  unfolding digit
  below-digits q m = sym (here ∙ no_digit dots room b _ q (under 48 57 b m))

  pub above-digits : 57 < b → false ≡ version_shape v
  unfolding digit
  above-digits m = sym (here ∙ no_digit dots room b _ (λ q. omega arith) (over 48 57 b m))

  pub digit-too-many : 48 ≤ b → room ≡ 0 → false ≡ version_shape v
  digit-too-many m z = sym (here ∙ too_long dots room b _ (λ q. omega arith) z)

  pub next-digit : {r : ℕ} → r ≡ room_after room b → 48 ≤ b → b ≤ 57 → (room ≡ 0 → ⊥) → Says v (i + 1) dots r
  unfolding digit
  next-digit q m n z = let f = h.few in rw q (record { inside = omega arith; few = omega arith; says = here ∙ digit-right dots room b _ (λ q. omega arith) (in-range 48 57 b m n) (omega arith) })

module _ {v : List ℕ} {i dots room : ℕ} (h : Says v i dots room) (l : length v ≤ i) where
  at-end : version_shape v ≡ (within 2 3 (dots + 1) && (not (eqb room 9) && true))
  unfolding rest runs_fit runs fits
  at-end = h.says ∙ ap (rest dots room) (drop_of_length-le v l)

  pub ends-empty : room ≡ 9 → false ≡ version_shape v
  ends-empty q = sym (at-end ∙ (rw (q, and-false)))

  pub one-run : dots ≡ 0 → false ≡ version_shape v
  unfolding within
  one-run q = sym (at-end ∙ (rw q))

  pub some_runs : (room ≡ 9 → ⊥) → (dots ≡ 0 → ⊥) → ltb dots 3 ≡ version_shape v
  some_runs q z = go (ltb dots 3) refl
    where
      at : version_shape v ≡ (within 2 3 (dots + 1) && true)
      at = at-end ∙ (rw (ne_eqb room 9 q))

      go : (t : Bool) → ltb dots 3 ≡ t → t ≡ version_shape v
      go true w = sym (at ∙ (rw (in-range 2 3 (dots + 1) (omega arith) (omega (arith, ltb-true dots 3 w)))))
      go false w = sym (at ∙ (rw (over 2 3 (dots + 1) (omega (arith, ltb-false dots 3 w)))))

-- ---------------------------------------------------------------- the major

major-first : (b : ℕ) (s : List ℕ) → (b ≡ 46 → ⊥) → (p : Split s) → major_one (b ∷ s) ≡ (eqb b 49 && same p.first [])
unfolding major_one first_is_one
major-first b s e p = rw (runs_other b s e p)

pub major-other : (v : List ℕ) → (get_or v 0 0 ≡ 49 → ⊥) → false ≡ major_one v
unfolding major_one first_is_one runs
major-other [] h = refl
major-other (b ∷ s) h = go (eqb b 46) refl
  where
    go : (t : Bool) → eqb b 46 ≡ t → false ≡ major_one (b ∷ s)
    go true q = sym (rw (runs-dot b s (eqb-true b 46 q)))
    go false q = sym (major-first b s (eqb-false b 46 q) (split s) ∙ (rw (ne_eqb b 49 h)))

pub major-none : (v : List ℕ) → length v ≡ 0 → false ≡ major_one v
major-none v l = major-other v (λ q. omega (arith, get_or-eq_default v 0 {n = 0} (omega arith)))

pub major-alone : (v : List ℕ) → length v ≡ 1 → get_or v 0 0 ≡ 49 → true ≡ major_one v
major-alone [] l e = absurd (omega arith)
major-alone (b ∷ []) l e = sym (major-first b [] (λ q. omega arith) (record { first = []; others = []; are = unfold runs in refl }) ∙ (rw (eq-eqb b 49 e)))
major-alone (b ∷ c ∷ s) l e = absurd (omega arith)

pub major-long : (v : List ℕ) → (length v ≡ 0 → ⊥) → (length v ≡ 1 → ⊥) → get_or v 0 0 ≡ 49 → eqb (get_or v 1 0) 46 ≡ major_one v
major-long [] k l e = absurd (k refl)
major-long (b ∷ []) k l e = absurd (l refl)
major-long (b ∷ c ∷ s) k l e = go (eqb c 46) refl
  where
    go : (t : Bool) → eqb c 46 ≡ t → t ≡ major_one (b ∷ c ∷ s)
    go true q = sym (major-first b (c ∷ s) (λ q. omega arith) (record { first = []; others = runs s; are = runs-dot c s (eqb-true c 46 q) }) ∙ (rw (eq-eqb b 49 e)))
    go false q =
        let p = split s in
        sym (major-first b (c ∷ s) (λ q. omega arith) (record { first = c ∷ p.first; others = p.others; are = runs_other c s (eqb-false c 46 q) p }) ∙ (rw (eq-eqb b 49 e)))
