-- A refusal is told by its number: two are one where their numbers are.
use Prim.Native.Nat.{ℕ, ◌+◌}
use mathlib.Core.Bool.{Bool, true, false, not}
use mathlib.Core.Path.{◌≡◌, refl, sym, ap, ◌∙◌}
use native.Mathlib.Omega.{arith}
use lib.Dec.{eqb}
use borrow.Author.Tests.{eq-eqb, ne_eqb, eqb-true, eqb-false}
use denote.Enum.Bare.{sameb, tag_one}
use denote.Enum.Declared.{tag_of}
use Rattle.std.specs.Prelude.{Result, Ok, Err}
use Rattle.spot.specs.Shown.{told, looks}
use Rattle.spot.specs.declared.Spot as code
use Rattle.numbers.specs.Numbered.{number_of}
use Rattle.numbers.specs.contracts.refusal.Refusal.{the_type}
use Rattle.numbers.specs.declared.refusal.Refusal.{Refusal}
use Rattle.numbers.specs.declared.refusal.Refusal.TheVariants as refusals

tagged : (r : Refusal) → number_of r ≡ tag_of the_type r + 1
tagged refusals.Short = refl
tagged refusals.Header = refl
tagged refusals.Footer = refl
tagged refusals.Big = refl
tagged refusals.Fit = refl
tagged refusals.Cbor = refl
tagged refusals.Deep = refl
tagged refusals.Kind = refl
tagged refusals.Key = refl
tagged refusals.Text = refl
tagged refusals.Twice = refl
tagged refusals.Missing = refl
tagged refusals.Version = refl
tagged refusals.Major = refl
tagged refusals.Count = refl
tagged refusals.Dtype = refl
tagged refusals.Encoding = refl
tagged refusals.Type = refl
tagged refusals.Align = refl
tagged refusals.Bounds = refl
tagged refusals.Rank = refl
tagged refusals.Role = refl
tagged refusals.Length = refl
tagged refusals.Room = refl
tagged refusals.Row = refl
tagged refusals.Index = refl
tagged refusals.Plan = refl
tagged refusals.Busy = refl

module _ (r q : Refusal) where
  pub same-number : sameb the_type r q ≡ eqb (number_of r) (number_of q)
  same-number = go (sameb the_type r q) refl
    where
      go : (b : Bool) → sameb the_type r q ≡ b → sameb the_type r q ≡ eqb (number_of r) (number_of q)
      go true e = e ∙ sym (eq-eqb (number_of r) (number_of q) (let a = tagged r in let b = tagged q in let t = eqb-true (tag_of the_type r) (tag_of the_type q) e in omega (arith, a, b, t)))
      go false e = e ∙ sym (ne_eqb (number_of r) (number_of q) (λ n. let a = tagged r in let b = tagged q in eqb-false (tag_of the_type r) (tag_of the_type q) e (omega (arith, a, b, n))))

  -- what a test tells
  module _ {b : Bool} (is : b ≡ sameb the_type r q) where
    pub one_number : b ≡ true → number_of r ≡ number_of q
    one_number e = eqb-true (number_of r) (number_of q) (sym same-number ∙ sym is ∙ e)

    pub two_numbers : b ≡ false → number_of r ≡ number_of q → ⊥
    two_numbers e = eqb-false (number_of r) (number_of q) (sym same-number ∙ sym is ∙ e)

  pub differs : {b : Bool} → b ≡ not (sameb the_type r q) → b ≡ true → number_of r ≡ number_of q → ⊥
  differs is e = go (sameb the_type r q) refl (sym is ∙ e)
    where
      go : (b : Bool) → sameb the_type r q ≡ b → not b ≡ true → number_of r ≡ number_of q → ⊥
      go true e f = absurd (let z : ◌≡◌ {A = ℕ} 0 1 = cc in omega arith)
      go false e f = two_numbers (sym e) refl

  -- and what the other arms tell
  pub apart : (r ≡ q → ⊥) → number_of r ≡ number_of q → ⊥
  apart f n = f (tag_one the_type tt r q (let a = tagged r in let b = tagged q in omega (arith, a, b, n)))

-- an answer that names a check has a number, and one that names none has none
module _ {x : Result (Unit {0}) code.Spot} where
  pub odd : {z : code.Spot} → x ≡ Err z → (told x).number ≡ 0 → ⊥
  odd {z} e n = let a = tagged z.refusal in let b : number_of z.refusal ≡ 0 = sym (ap (λ (y : Result (Unit {0}) code.Spot). (told y).number) e) ∙ n in omega (arith, a, b)

  pub sound : {u : Unit {0}} → x ≡ Ok u → (told x).number ≡ 0
  sound e = ap (λ (y : Result (Unit {0}) code.Spot). (told y).number) e

  -- and passed on it tells the same
  pub the-same : {z : code.Spot} → x ≡ Err z → {q : Result (Unit {0}) code.Spot} → q ≡ Err z → told q ≡ told x
  the-same e f = ap told (f ∙ sym e)

  pub told-as : {z : code.Spot} → x ≡ Err z → looks z ≡ told x
  told-as e = sym (ap told e)
