-- Turns without a plan, and with one.
use Prim.Native.Nat.{ℕ, ◌+◌, ◌-◌, ◌*◌, ◌≤◌, ◌<◌}
use native.Mathlib.Omega.{arith}
use mathlib.Core.List.{List, [], ◌∷◌}
use mathlib.Core.Path.{◌≡◌, refl, sym, ap, ◌∙◌}
use lib.ListN.{length, get_or, length-map}
use mir.Syntax.{w64}
use mir.Val.{Fits as FitsIn}
use Rattle.meaning.specs.Columns.{component_width, length_column}
use Rattle.meaning.specs.Limit.{end_limit}
use Rattle.meaning.specs.Layouts.{magic}
use Rattle.meaning.specs.Placement.{aligned}
use Rattle.meaning.specs.Asked.{AskedComponent, each_row, asked_component}
use Rattle.meaning.proofs.Lengths.{aligned-above, each-row-length, none_left}
use Rattle.rows.specs.Placed.{components_at}
use Rattle.rows.specs.Turns.{begun, offset_at, stepped, turn_limit, reached, blob_sizes}
use Rattle.rows.proofs.Turns.{reached-above, reached-next, reached-none, reached-counts}
use Rattle.sizes.specs.Size.{capped_end}
use Rattle.sizes.proofs.Sums.{aligned-in-time}

-- ---- without a plan

module _ (plan : List ℕ) (none : length plan ≡ 0) where
  is-empty : plan ≡ []
  is-empty = none_left plan none

  pub begins-at-8 : 8 ≡ begun plan
  unfolding begun magic
  begins-at-8 = sym (ap begun is-empty)

  pub place-low : {n : ℕ} → n ≤ turn_limit plan → n ≤ end_limit
  unfolding turn_limit
  place-low h = omega (arith, h, ap turn_limit is-empty)

  pub by-rule : (n : ℕ) {r : ℕ} → r ≡ aligned n → r ≡ offset_at plan n
  unfolding offset_at
  by-rule n e = e ∙ sym (ap (λ (p : List ℕ). offset_at p n) is-empty)

  step_is : (n l : ℕ) → stepped plan n l ≡ aligned n + l
  unfolding stepped
  step_is n l = ap (λ (p : List ℕ). stepped p n l) is-empty

  pub step-low : (n l : ℕ) → stepped plan n l ≤ turn_limit plan → n ≤ end_limit
  unfolding turn_limit
  step-low n l h = omega (arith, h, ap turn_limit is-empty, step_is n l, aligned-above n)

  pub step_fits : (n l : ℕ) {r : ℕ} → stepped plan n l ≤ turn_limit plan → r ≡ aligned n → FitsIn w64 (r + l)
  unfolding turn_limit
  step_fits n l h e = record { fits = omega (arith, h, e, ap turn_limit is-empty, step_is n l) }

  pub steps-to : (n l : ℕ) {r : ℕ} → r ≡ aligned n → r + l ≡ stepped plan n l
  steps-to n l e = ap (λ (k : ℕ). k + l) e ∙ sym (step_is n l)

  module _ (n : ℕ) (ls : List ℕ) (h : reached plan n ls ≤ turn_limit plan) where
    low : reached [] n ls ≤ end_limit
    unfolding turn_limit
    low = omega (arith, h, ap turn_limit is-empty, ap (λ (p : List ℕ). reached p n ls) is-empty)

    pub starts-low : n ≤ end_limit
    starts-low = omega (arith, low, reached-above [] n ls)

    pub ends_there : {r : ℕ} → r ≡ capped_end (reached [] n ls) → r ≡ reached plan n ls
    ends_there e = omega (arith, e, low, ap (λ (p : List ℕ). reached p n ls) is-empty)

-- n components from the place `at` on, where this place in the file is reached
rule-next : (n at place : ℕ) (rows : List ℕ) → 0 < n
    → reached [] place (blob_sizes (components_at n at rows)) ≡ reached [] (aligned place + get_or rows (at + length_column) 0) (blob_sizes (components_at (n - 1) (at + component_width) rows))
unfolding stepped
rule-next n at place rows h = reached-next [] n at place rows h

-- the loop over n components' blobs from the place `start` on: `left` of them to go, whose rows stand from `at` on
abbrev end_of_all : List ℕ → ℕ → ℕ → ℕ
end_of_all rows n start = reached [] start (blob_sizes (each_row asked_component component_width n rows))

pub record Placing (rows : List ℕ) (n start at left place : ℕ) : Type 0 where
  pub lie : at + component_width * left ≤ length rows
  pub low : place ≤ end_limit
  pub so_far : end_of_all rows n start ≡ reached [] place (blob_sizes (components_at left at rows))

module _ {rows : List ℕ} {n start : ℕ} where
  module _ {at left place : ℕ} (w : Placing rows n start at left place) where
    pub all_placed : left ≤ 0 → place ≡ capped_end (end_of_all rows n start)
    all_placed h = omega (arith, w.low, w.so_far, reached-none [] left at place rows h)

    abbrev size : ℕ
    size = get_or rows (at + length_column) 0

    -- the next blob's offset
    module _ {o : ℕ} (offset : o ≡ aligned place) where
      pub offset-low : o ≤ end_limit
      offset-low = omega (arith, offset, aligned-in-time place w.low)

      pub sum_fits : size ≤ end_limit - o → FitsIn w64 (o + size)
      sum_fits h = record { fits = omega (arith, h, offset-low) }

      module _ (more : 0 < left) where
        pub past-limit : end_limit - o < size → end_limit + 1 ≡ capped_end (end_of_all rows n start)
        past-limit h =
            omega (
              arith,
              w.so_far,
              offset,
              h,
              rule-next left at place rows more,
              reached-above [] (aligned place + size) (blob_sizes (components_at (left - 1) (at + component_width) rows)),
            )

        pub one-more-placed : size ≤ end_limit - o → Placing rows n start (at + component_width) (left - 1) (o + size)
        one-more-placed h = record {
          lie = omega (arith, w.lie, more);
          low = omega (arith, h, offset-low);
          so_far = w.so_far ∙ rule-next left at place rows more ∙ ap (λ (k : ℕ). reached [] (k + size) (blob_sizes (components_at (left - 1) (at + component_width) rows))) (sym offset);
        }

-- ---- with one

module _ (plan : List ℕ) (some : length plan ≡ 0 → ⊥) where
  pub begins-at-0 : 0 ≡ begun plan
  unfolding begun
  begins-at-0 = by plan some
    where
      by : (p : List ℕ) → (length p ≡ 0 → ⊥) → 0 ≡ begun p
      by [] e = absurd (e refl)
      by (o ∷ os) e = refl

  pub by-plan : (n : ℕ) → get_or plan n 0 ≡ offset_at plan n
  unfolding offset_at
  by-plan n = by plan some
    where
      by : (p : List ℕ) → (length p ≡ 0 → ⊥) → get_or p n 0 ≡ offset_at p n
      by [] e = absurd (e refl)
      by (o ∷ os) e = refl

  pub one-more-turn : (n l : ℕ) → n + 1 ≡ stepped plan n l
  unfolding stepped
  one-more-turn n l = by plan some
    where
      by : (p : List ℕ) → (length p ≡ 0 → ⊥) → n + 1 ≡ stepped p n l
      by [] e = absurd (e refl)
      by (o ∷ os) e = refl

  limit_is : turn_limit plan ≡ 2_305_843_009_213_693_952
  unfolding turn_limit
  limit_is = by plan some
    where
      by : (p : List ℕ) → (length p ≡ 0 → ⊥) → turn_limit p ≡ 2_305_843_009_213_693_952
      by [] e = absurd (e refl)
      by (o ∷ os) e = refl

  pub turn-fits : (n l : ℕ) → stepped plan n l ≤ turn_limit plan → FitsIn w64 (n + 1)
  turn-fits n l h = record { fits = omega (arith, h, one-more-turn n l, limit_is) }

  counts : (n : ℕ) (ls : List ℕ) → reached plan n ls ≡ n + length ls
  counts n ls = by plan some
    where
      by : (p : List ℕ) → (length p ≡ 0 → ⊥) → reached p n ls ≡ n + length ls
      by [] e = absurd (e refl)
      by (o ∷ os) e = reached-counts o os n ls

  pub turns-are : (n k : ℕ) (rows : List ℕ) → n + k ≡ reached plan n (blob_sizes (each_row asked_component component_width k rows))
  turns-are n k rows =
      omega (
        arith,
        counts n (blob_sizes (each_row asked_component component_width k rows)),
        length-map (each_row asked_component component_width k rows) (λ (c : AskedComponent). c.blob.size),
        each-row-length asked_component component_width k rows,
      )

  pub turns_fit : (n k : ℕ) (rows : List ℕ) → reached plan n (blob_sizes (each_row asked_component component_width k rows)) ≤ turn_limit plan → FitsIn w64 (n + k)
  turns_fit n k rows h = record { fits = omega (arith, h, turns-are n k rows, limit_is) }
