-- UTF-8 by a state of three numbers: what a first byte asks, what each byte does to the state, and what the end says. Assumes nothing.
use mathlib.Core.Path.{◌≡◌, refl, sym, ap, ◌∙◌}
use mathlib.Core.List.{List, [], ◌∷◌}
use mathlib.Core.Bool.{Bool, true, false}
use mathlib.Core.Option.{Option, none, some}
use Prim.Native.Nat.{ℕ, zero, suc, ◌+◌, ◌-◌, ◌≤◌, ◌<◌}
use native.Mathlib.Numerals.{add-one}
use native.Mathlib.Omega.{arith}
use lib.ListN.{length, get_or, drop, drop_of_length-le}
use lib.Seq.{drop-cons}
use lib.Dec.{ltb, eqb}
use borrow.Author.Tests.{ne_eqb, ltb-true, ltb-false}
use Rattle.meaning.specs.Text.{Range, within, tail, follow, following, utf8}
use Rattle.utf8.specs.Lead.{lead_of, tails, ranges, Leads, Ends}
use Rattle.utf8.specs.declared.Lead.{Lead}
use Rattle.text.proofs.WithinRange.{in-range, under, over}

-- ---------------------------------------------------------------- the first byte

-- 237 is left out by its own case before
not-one : {b : ℕ} (k : ℕ) → (b ≡ k → ⊥) → within k k b ≡ false
not-one {b} k h = go (ltb k b) refl
  where
    go : (t : Bool) → ltb k b ≡ t → within k k b ≡ false
    go true q = over k k b (ltb-true k b q)
    go false q = under k k b (omega (arith, ltb-false k b q))

module _ {b : ℕ} {r : Lead} where
  pub lead-0 : r ≡ lead_of 0 128 191 → b < 128 → Leads b r
  unfolding follow ranges
  lead-0 q l = rw q (
      record { few = omega arith; none-can = λ e. absurd (omega arith); some-can = λ _. rw (in-range 0 0x7f b (omega arith) (omega arith)) })

  pub lead-bad : r ≡ lead_of 4 128 191 → 128 ≤ b → b < 194 → Leads b r
  unfolding follow
  lead-bad q l m = rw q (
      record { few = omega arith; some-can = λ e. absurd (e refl); none-can = λ _. rw (over 0 0x7f b (omega arith), under 0xc2 0xdf b (omega arith), under 0xe0 0xe0 b (omega arith), under 0xed 0xed b (omega arith), under 0xe1 0xef b (omega arith), under 0xf0 0xf0 b (omega arith), under 0xf1 0xf3 b (omega arith), under 0xf4 0xf4 b (omega arith)) })

  pub lead-1 : r ≡ lead_of 1 128 191 → 194 ≤ b → b < 224 → Leads b r
  unfolding follow ranges tails tail
  lead-1 q l m = rw q (
      record { few = omega arith; none-can = λ e. absurd (omega arith); some-can = λ _. rw (over 0 0x7f b (omega arith), in-range 0xc2 0xdf b (omega arith) (omega arith)) })

  pub lead-224 : r ≡ lead_of 2 160 191 → b ≡ 224 → Leads b r
  unfolding follow ranges tails tail
  lead-224 q e = rw q (
      record { few = omega arith; none-can = λ e. absurd (omega arith); some-can = λ _. rw (over 0 0x7f b (omega arith), over 0xc2 0xdf b (omega arith), in-range 0xe0 0xe0 b (omega arith) (omega arith)) })

  pub lead-237 : r ≡ lead_of 2 128 159 → b ≡ 237 → Leads b r
  unfolding follow ranges tails tail
  lead-237 q e = rw q (
      record { few = omega arith; none-can = λ e. absurd (omega arith); some-can = λ _. rw (over 0 0x7f b (omega arith), over 0xc2 0xdf b (omega arith), over 0xe0 0xe0 b (omega arith), in-range 0xed 0xed b (omega arith) (omega arith)) })

  pub lead-2 : r ≡ lead_of 2 128 191 → 224 ≤ b → (b ≡ 224 → ⊥) → b < 240 → (b ≡ 237 → ⊥) → Leads b r
  unfolding follow ranges tails tail
  lead-2 q l k m h = rw q (
      record { few = omega arith; none-can = λ e. absurd (omega arith); some-can = λ _. rw (over 0 0x7f b (omega arith), over 0xc2 0xdf b (omega arith), over 0xe0 0xe0 b (omega arith), not-one 0xed h, in-range 0xe1 0xef b (omega arith) (omega arith)) })

  pub lead-240 : r ≡ lead_of 3 144 191 → b ≡ 240 → Leads b r
  unfolding follow ranges tails tail
  lead-240 q e = rw q (
      record { few = omega arith; none-can = λ e. absurd (omega arith); some-can = λ _. rw (over 0 0x7f b (omega arith), over 0xc2 0xdf b (omega arith), over 0xe0 0xe0 b (omega arith), over 0xed 0xed b (omega arith), over 0xe1 0xef b (omega arith), in-range 0xf0 0xf0 b (omega arith) (omega arith)) })

  pub lead-3 : r ≡ lead_of 3 128 191 → 240 ≤ b → (b ≡ 240 → ⊥) → b < 244 → Leads b r
  unfolding follow ranges tails tail
  lead-3 q l k m = rw q (
      record { few = omega arith; none-can = λ e. absurd (omega arith); some-can = λ _. rw (over 0 0x7f b (omega arith), over 0xc2 0xdf b (omega arith), over 0xe0 0xe0 b (omega arith), over 0xed 0xed b (omega arith), over 0xe1 0xef b (omega arith), over 0xf0 0xf0 b (omega arith), in-range 0xf1 0xf3 b (omega arith) (omega arith)) })

  pub lead-244 : r ≡ lead_of 3 128 143 → b ≡ 244 → Leads b r
  unfolding follow ranges tails tail
  lead-244 q e = rw q (
      record { few = omega arith; none-can = λ e. absurd (omega arith); some-can = λ _. rw (over 0 0x7f b (omega arith), over 0xc2 0xdf b (omega arith), over 0xe0 0xe0 b (omega arith), over 0xed 0xed b (omega arith), over 0xe1 0xef b (omega arith), over 0xf0 0xf0 b (omega arith), over 0xf1 0xf3 b (omega arith), in-range 0xf4 0xf4 b (omega arith) (omega arith)) })

  pub lead_high : r ≡ lead_of 4 128 191 → 244 ≤ b → (b ≡ 244 → ⊥) → Leads b r
  unfolding follow
  lead_high q l k = rw q (
      record { few = omega arith; some-can = λ e. absurd (e refl); none-can = λ _. rw (over 0 0x7f b (omega arith), over 0xc2 0xdf b (omega arith), over 0xe0 0xe0 b (omega arith), over 0xed 0xed b (omega arith), over 0xe1 0xef b (omega arith), over 0xf0 0xf0 b (omega arith), over 0xf1 0xf3 b (omega arith), over 0xf4 0xf4 b (omega arith)) })

-- ---------------------------------------------------------------- a step

module _ (b : ℕ) (s : List ℕ) where
  first-none : follow b ≡ none → following [] (b ∷ s) ≡ false
  unfolding following
  first-none e = ap (λ (o : Option (List Range)). elim o [ none ↦ false | some rs ↦ following rs s ]) e

  first_some : (rs : List Range) → follow b ≡ some rs → following [] (b ∷ s) ≡ following rs s
  unfolding following
  first_some rs e = ap (λ (o : Option (List Range)). elim o [ none ↦ false | some rs ↦ following rs s ]) e

  module _ (r : Range) (rs : List Range) where
    next-in : within r.low r.high b ≡ true → following (r ∷ rs) (b ∷ s) ≡ following rs s
    unfolding following
    next-in e = ap (λ (t : Bool). elim t [ true ↦ following rs s | false ↦ false ]) e

    next-out : within r.low r.high b ≡ false → following (r ∷ rs) (b ∷ s) ≡ false
    unfolding following
    next-out e = ap (λ (t : Bool). elim t [ true ↦ following rs s | false ↦ false ]) e

tails-ranges : (k : ℕ) → tails k ≡ ranges k 128 191
unfolding tails ranges tail
tails-ranges zero = refl
tails-ranges (suc k) = refl

ranges_more : (need low high : ℕ) → 0 < need → ranges need low high ≡ record { low = low; high = high } ∷ ranges (need - 1) 128 191
unfolding ranges
ranges_more zero low high l = absurd (omega arith)
ranges_more (suc k) low high l = let z : suc k - 1 ≡ k = omega arith in rw z (ap (λ (u : List Range). record { low = low; high = high } ∷ u) (tails-ranges k))

-- ---------------------------------------------------------------- the loop over t, at i

-- what is left to say, with these three numbers
pub record Says (t : List ℕ) (i need low high : ℕ) : Type 0 where
  pub says : utf8 t ≡ following (ranges need low high) (drop i t)

pub says_all : (t : List ℕ) → Says t 0 0 128 191
unfolding utf8 ranges
says_all t = record { says = refl }

module _ {t : List ℕ} {i need low high b : ℕ} (h : Says t i need low high) (e : b ≡ get_or t i 0) (l : i < length t) where
  here : utf8 t ≡ following (ranges need low high) (b ∷ drop (i + 1) t)
  here = rw (add-one i, e) (h.says ∙ ap (following (ranges need low high)) (drop-cons t i 0 l))

  first-now : need ≡ 0 → utf8 t ≡ following [] (b ∷ drop (i + 1) t)
  unfolding ranges
  first-now z = rw z at here

  next-now : 0 < need → utf8 t ≡ following (record { low = low; high = high } ∷ ranges (need - 1) 128 191) (b ∷ drop (i + 1) t)
  next-now z = here ∙ ap (λ u. following u (b ∷ drop (i + 1) t)) (ranges_more need low high z)

  pub lead-none : {r : Lead} → Leads b r → need ≡ 0 → r.need ≡ 4 → false ≡ utf8 t
  lead-none k z q = sym (first-now z ∙ first-none b _ (k.none-can q))

  pub lead-some : {r : Lead} → Leads b r → need ≡ 0 → (r.need ≡ 4 → ⊥) → Says t (i + 1) r.need r.low r.high
  lead-some k z q = record { says = first-now z ∙ first_some b _ _ (k.some-can q) }

  -- a byte below 128 asks nothing
  lead_low : need ≡ 0 → b < 128 → Says t (i + 1) need low high
  unfolding ranges
  lead_low z m = record { says = rw z (first-now z ∙ first_some b _ _ ((lead-0 {r = lead_of 0 128 191} refl m).some-can (λ q. omega arith))) }

  pub next_under : 0 < need → b < low → false ≡ utf8 t
  next_under z q = sym (next-now z ∙ next-out b _ _ _ (under low high b q))

  pub next-over : 0 < need → high < b → false ≡ utf8 t
  next-over z q = sym (next-now z ∙ next-out b _ _ _ (over low high b q))

  pub next-right : 0 < need → low ≤ b → b ≤ high → Says t (i + 1) (need - 1) 128 191
  next-right z p q = record { says = next-now z ∙ next-in b _ _ _ (in-range low high b p q) }

says-end : {t : List ℕ} {i need low high : ℕ} → Says t i need low high → length t ≤ i → eqb need 0 ≡ utf8 t
says-end {t} {i} {need} {low} {high} h l = go need (h.says ∙ ap (following (ranges need low high)) (drop_of_length-le t l))
  where
    go : (need : ℕ) → utf8 t ≡ following (ranges need low high) [] → eqb need 0 ≡ utf8 t
    go zero e = sym (e ∙ (unfold ranges following in refl))
    go (suc k) e = ne_eqb (suc k) 0 (λ z. omega arith) ∙ sym (e ∙ (unfold ranges following in refl))

-- ---------------------------------------------------------------- the loops: what has been passed lies in the text

pub record Passed (t : List ℕ) (i need low high : ℕ) : Type 0 where
  pub inside : i ≤ length t
  pub left : Says t i need low high

pub passed_none : {t : List ℕ} → Passed t 0 0 128 191
passed_none {t} = record { inside = omega arith; left = says_all t }

-- the byte b stands at i
module _ {t : List ℕ} {i need low high : ℕ} (w : Passed t i need low high) (l : i < length t) {b : ℕ} (e : b ≡ get_or t i 0) where
  pub pass-low : need ≡ 0 → b < 128 → Passed t (i + 1) need low high
  pass-low z m = record { inside = omega arith; left = lead_low w.left e l z m }

  pub none-begins : {r : Lead} → Leads b r → need ≡ 0 → r.need ≡ 4 → false ≡ utf8 t
  none-begins k z q = lead-none w.left e l k z q

  pub one-begins : {r : Lead} → Leads b r → need ≡ 0 → (r.need ≡ 4 → ⊥) → Passed t (i + 1) r.need r.low r.high
  one-begins k z q = record { inside = omega arith; left = lead-some w.left e l k z q }

  module _ (more : need ≡ 0 → ⊥) where
    pub too-low : b < low → false ≡ utf8 t
    too-low q = next_under w.left e l (omega arith) q

    pub too-high : high < b → false ≡ utf8 t
    too-high q = next-over w.left e l (omega arith) q

    pub pass-next : low ≤ b → b ≤ high → Passed t (i + 1) (need - 1) 128 191
    pass-next p q = record { inside = omega arith; left = next-right w.left e l (omega arith) p q }

pub passed-all : {t : List ℕ} {i need low high : ℕ} → Passed t i need low high → length t ≤ i → eqb need 0 ≡ utf8 t
passed-all w = says-end w.left

-- ---------------------------------------------------------------- the end of a character

-- a text that is wrong, and one whose first k bytes are whole characters
pub never_ends : {t : List ℕ} {n : ℕ} → false ≡ utf8 t → Ends t n 0
never_ends e = record { wrong = λ z. sym e; least = λ z. absurd (z refl); inside = omega arith; decides = λ z. absurd (z refl) }

pub ends_at : {t : List ℕ} {n k : ℕ} → Says t k 0 128 191 → n ≤ k → 1 ≤ k → k ≤ length t → Ends t n k
unfolding utf8 ranges
ends_at h l m i = record { wrong = λ z. absurd (omega arith); least = λ z. l; inside = i; decides = λ z. h.says }

-- nothing must come: the numbers say no more
pub says_any : {t : List ℕ} {i need low high : ℕ} → Says t i need low high → need ≡ 0 → Says t i 0 128 191
unfolding ranges
says_any h e = record { says = rw e at h.says }

-- the text ends where a byte must come
pub ended-early : {t : List ℕ} {i need low high : ℕ} → Says t i need low high → 0 < need → length t ≤ i → false ≡ utf8 t
ended-early {need} h l e = sym (ne_eqb need 0 (λ z. omega arith)) ∙ says-end h e

pub says-third : {s : List ℕ} {need : ℕ} → utf8 s ≡ following (tails need) (drop 2 s) → Says s 2 need 128 191
says-third {s} {need} e = record { says = e ∙ ap (λ u. following u (drop 2 s)) (tails-ranges need) }

pub third-says : {s : List ℕ} {need : ℕ} → Says s 2 need 128 191 → utf8 s ≡ following (tails need) (drop 2 s)
third-says {s} {need} h = h.says ∙ ap (λ u. following u (drop 2 s)) (sym (tails-ranges need))
