-- One name of the second's sought among the first's, and what is left of the second's.
use Prim.Native.Nat.{ℕ, suc, ◌+◌, ◌-◌, ◌*◌, ◌≤◌, ◌<◌}
use native.Mathlib.Omega.{arith}
use mathlib.Core.List.{List}
use mathlib.Core.Bool.{Bool, true, false, cond}
use mathlib.Core.Path.{◌≡◌, sym, ap, ◌∙◌}
use lib.ListN.{length}
use Rattle.meaning.specs.Text.{one_of}
use Rattle.names.specs.Names.{listed}
use Rattle.names.proofs.ListedNames.{listed-there, listed-not}
use Rattle.std.specs.Prelude.{Option, Some, None}
use Rattle.std.specs.Option.{is_some}
use Rattle.meaning.proofs.Tests.{false-not}
use Rattle.matching.specs.Matched.{Earliest, First}
use Rattle.matching.specs.Named.{named, Rows}
use Rattle.unshared.specs.Unshared.{none_of}

module _ (f : ℕ → List ℕ) (w : List ℕ) where
  sought-is : {n r : ℕ} → Earliest f n w r → one_of (listed f 0 n) w ≡ true
  sought-is {n} {r} s = listed-there f w 0 n r (omega arith) (omega (arith, s.below)) s.is

  sought-not : {n : ℕ} → ((j : ℕ) → j < n → f j ≡ w → ⊥) → one_of (listed f 0 n) w ≡ false
  sought-not {n} s = listed-not f w 0 n λ j low high. s j (omega (arith, high))

-- what is left of the second's names decides
pub record Left (xs : List (List ℕ)) (g : ℕ → List ℕ) (n k i : ℕ) : Type 0 where
  pub low : n ≤ i
  pub high : i ≤ n + k
  pub same : none_of xs (listed g n k) ≡ none_of xs (listed g i (n + k - i))

module _ (xs : List (List ℕ)) (g : ℕ → List ℕ) (n k : ℕ) where
  pub all_left : Left xs g n k n
  all_left = let z : k ≡ n + k - n = omega arith in record { low = omega arith; high = omega arith; same = ap (λ (m : ℕ). none_of xs (listed g n m)) z }

  module _ (i : ℕ) (l : Left xs g n k i) where
    pub none_left : n + k ≤ i → true ≡ none_of xs (listed g n k)
    unfolding listed
    none_left h = let z : n + k - i ≡ 0 = omega (arith, h) in sym (l.same ∙ ap (λ (m : ℕ). none_of xs (listed g i m)) z)

    module _ (some : i < n + k) where
      next : none_of xs (listed g n k) ≡ cond (one_of xs (g i)) false (none_of xs (listed g (i + 1) (n + k - (i + 1))))
      unfolding listed
      next =
          let z : n + k - i ≡ suc (n + k - (i + 1)) = omega (arith, some) in
          let y : suc i ≡ i + 1 = omega arith in
          l.same ∙ ap (λ (m : ℕ). none_of xs (listed g i m)) z
          ∙ ap (λ (j : ℕ). cond (one_of xs (g i)) false (none_of xs (listed g j (n + k - (i + 1))))) y

      found-one : one_of xs (g i) ≡ true → false ≡ none_of xs (listed g n k)
      found-one e = sym (next ∙ ap (λ (b : Bool). cond b false (none_of xs (listed g (i + 1) (n + k - (i + 1))))) e)

      one_less : one_of xs (g i) ≡ false → Left xs g n k (i + 1)
      one_less e =
          let a = l.low in
          record { low = omega (arith, a); high = omega (arith, some); same = next ∙ ap (λ (b : Bool). cond b false (none_of xs (listed g (i + 1) (n + k - (i + 1))))) e }

-- ---- as the code asks

pub rows_lie : (table : List ℕ) (n k : ℕ) → 2 * (n + k) ≤ length table → Rows table 0 2 n
rows_lie table n k h = record { wide = omega arith; lie = omega (arith, h) }

-- the name w of the i-th row, sought among the first's: it is found, or is none of theirs
module _ (first second table : List ℕ) (n k i : ℕ) (l : Left (listed (named first table 0 2) 0 n) (named second table 0 2) n k i) (some : i < n + k) (w : List ℕ) (is : w ≡ named second table 0 2 i) where
  abbrev Ours : List (List ℕ)
  Ours = listed (named first table 0 2) 0 n

  pub shared-one : (o : Option ℕ) → First (named first table 0 2) n w o → true ≡ is_some o → false ≡ none_of (listed (named first table 0 2) 0 n) (listed (named second table 0 2) n k)
  shared-one (Some r) f e = found-one Ours (named second table 0 2) n k i l some (ap (one_of Ours) (sym is) ∙ sought-is (named first table 0 2) w f)
  shared-one None f e = absurd (false-not (sym e))

  pub one_fewer : (o : Option ℕ) → First (named first table 0 2) n w o → false ≡ is_some o → Left (listed (named first table 0 2) 0 n) (named second table 0 2) n k (i + 1)
  one_fewer (Some r) f e = absurd (false-not e)
  one_fewer None f e = one_less Ours (named second table 0 2) n k i l some (ap (one_of Ours) (sym is) ∙ sought-not (named first table 0 2) w f)
