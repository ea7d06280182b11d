-- A component's offset, length and what follows, a branch each. Slices are lent whole.
use Prim.Native.Nat.{ℕ, suc, ◌+◌, ◌%◌}
use mathlib.Core.List.{List, ◌++◌}
use mathlib.Core.Bool.{Bool, true, false, ◌&&◌}
use mathlib.Core.Path.{◌≡◌, refl, ap, sym, ◌∙◌}
use native.Mathlib.Omega.{arith}
use lib.ListN.{get_or}
use lib.Dec.{eqb, leb}
use Rattle.meaning.specs.Tree.{Node, nothing, note_of}
use Rattle.meaning.specs.Check as checks
use Rattle.meaning.specs.Check.{pass, fault, optional}
use Rattle.meaning.specs.Refusal.{ALIGN, BOUNDS}
use Rattle.meaning.specs.Limit.{alignment}
use Rattle.meaning.specs.Kind.{a_number, a_text, present}
use Rattle.meaning.specs.Judge.{raw}
use Rattle.lengths.specs.Place.{place_rule}
use Rattle.walk.specs.Reading.{Ends}
use Rattle.component.specs.Value.{left_word, NumberAt, Digested, Unpacked, Encoded}
use Rattle.component.specs.Verdict.{Fields, Found}
use Rattle.component.proofs.Pieces.{refused-so, Passed, passed-so}
use Rattle.explained.specs.Step as steps
use Rattle.explained.specs.Step.{Step, first, given, ◌at◌unless◌}
use Rattle.explained.specs.Order.{number_steps}
use Rattle.explained.proofs.Parts.{agree-number, agree-raw, agree-text}
use Rattle.spot.specs.Shown.{spot, shown}
use Rattle.spot.specs.Shown.{Spot}
use Rattle.badfields.proofs.Values.{one_number, one-raw, one-text, held-left, present-left, value-stops, value_passes, option-stops, option-passes}
use Rattle.badcomponent.specs.Steps.{blob_steps, extra_steps, extent_steps, BlobIs, ExtrasAre, ExtentIs}
use Rattle.std.specs.Prelude.{Some, None, Ok, Err, Result, Option}
use Rattle.numbers.specs.declared.refusal.Refusal.{Refusal}
use Rattle.numbers.specs.Numbered.{number_of}
use Rattle.numbers.specs.Answered.{answered}

-- ---------------------------------------------------------------- where the bytes lie

module _ (start o l left : ℕ) (x : Result (Unit {0}) Refusal) (is : place_rule start o l ≡ answered x) (r : Spot) where
  rule-is : (q : Result (Unit {0}) Refusal) → x ≡ q → place_rule start o l ≡ answered q
  rule-is q e = rw e at is

  pub in_place : x ≡ Ok tt → r ≡ spot 0 0 → BlobIs start o l left r
  unfolding place_rule blob_steps shown
  in_place z e offset k = e ∙ go (eqb (o % alignment) 0) (leb alignment o && leb (o + l) start) (rule-is (Ok tt) z)
    where
      go : (a b : Bool) → checks.◌>>◌ (checks.◌unless◌ ALIGN a) (checks.◌unless◌ BOUNDS b) ≡ pass tt → spot 0 0 ≡ shown (first ((ALIGN at note_of offset unless a) ++ (BOUNDS at note_of offset unless b)))
      go true true h = refl
      go true false h = absurd (let z : ◌≡◌ {A = ℕ} 0 1 = cc in omega arith)
      go false b h = absurd (let z : ◌≡◌ {A = ℕ} 0 1 = cc in omega arith)

  pub out-of-place : (n : Refusal) → x ≡ Err n → r ≡ spot (number_of n) left → BlobIs start o l left r
  unfolding place_rule blob_steps shown
  out-of-place n z e offset k = e ∙ go (eqb (o % alignment) 0) (leb alignment o && leb (o + l) start) (rule-is (Err n) z)
    where
      go : (a b : Bool) → checks.◌>>◌ (checks.◌unless◌ ALIGN a) (checks.◌unless◌ BOUNDS b) ≡ fault (number_of n)
          → spot (number_of n) left ≡ shown (first ((ALIGN at note_of offset unless a) ++ (BOUNDS at note_of offset unless b)))
      go true true h = absurd (let z : ◌≡◌ {A = ℕ} 0 1 = cc in omega arith)
      go true false h = let z : number_of n ≡ BOUNDS = cc in rw (z, k) refl
      go false b h = let z : number_of n ≡ ALIGN = cc in rw (z, k) refl

-- ---------------------------------------------------------------- uncompressed length, encoding, digest

module _ (s : List ℕ) (start : ℕ) (p : List ℕ) (o l : ℕ) (r : Spot) (r₁ : Result (Unit {0}) Refusal) (h₁ : Unpacked s (get_or p 4 0) r₁) where
  unpacked-is : (q : Result (Unit {0}) Refusal) → r₁ ≡ q → Unpacked s (get_or p 4 0) q
  unpacked-is q e = rw e at h₁

  pub no-unpacked : (n : Refusal) → r₁ ≡ Err n → r ≡ spot (number_of n) (get_or p 4 0) → ExtrasAre s start p o l r
  unfolding extra_steps
  no-unpacked n e x d f found =
      x ∙ option-stops one_number agree-number _ (get_or p 4 0) (present f.unpacked) (present-left _ f.unpacked (held-left (suc d) s _ f.unpacked found.unpacked)) (number_of n) 0 0
      (refused-so nothing (optional a_number (present f.unpacked)) (number_of n) (unpacked-is (Err n) e d f.unpacked found.unpacked))

  module _ (e₁ : r₁ ≡ (Ok tt)) (r₂ : Result (Unit {0}) Refusal) (h₂ : Encoded s (get_or p 5 0) r₂) where
    past-unpacked : (d : ℕ) (f : Fields) → Found d s p f → Passed nothing (optional a_number (present f.unpacked)) tt
    past-unpacked d f found = passed-so nothing (optional a_number (present f.unpacked)) tt (unpacked-is (Ok tt) e₁ d f.unpacked found.unpacked)

    encoded-is : (q : Result (Unit {0}) Refusal) → r₂ ≡ q → Encoded s (get_or p 5 0) q
    encoded-is q e = rw e at h₂

    pub no-encoding : (n : Refusal) → r₂ ≡ Err n → r ≡ spot (number_of n) (get_or p 5 0) → ExtrasAre s start p o l r
    unfolding extra_steps
    no-encoding n e x d f found =
        x ∙ option-stops one-raw agree-raw _ (get_or p 5 0) f.encoding (held-left (suc d) s _ f.encoding found.encoding) (number_of n) 0 0
        (refused-so nothing (optional raw f.encoding) (number_of n) (encoded-is (Err n) e d f.encoding found.encoding))
        ∙ ap shown (sym (option-passes one_number agree-number _ (present f.unpacked) _ (past-unpacked d f found).is))

    module _ (e₂ : r₂ ≡ (Ok tt)) (r₃ : Result ℕ Refusal) (h₃ : Digested s (get_or p 6 0) r₃) where
      past-encoding : (d : ℕ) (f : Fields) → Found d s p f → Passed nothing (optional raw f.encoding) tt
      past-encoding d f found = passed-so nothing (optional raw f.encoding) tt (encoded-is (Ok tt) e₂ d f.encoding found.encoding)

      digested-is : (q : Result ℕ Refusal) → r₃ ≡ q → Digested s (get_or p 6 0) q
      digested-is q e = rw e at h₃

      pub no-digest : (n : Refusal) → r₃ ≡ Err n → r ≡ spot (number_of n) (get_or p 6 0) → ExtrasAre s start p o l r
      unfolding extra_steps
      no-digest n e x d f found =
          x ∙ option-stops one-text agree-text _ (get_or p 6 0) (present f.digest) (present-left _ f.digest (held-left (suc d) s _ f.digest found.digest)) (number_of n) 0 0
          (refused-so left_word (optional a_text (present f.digest)) (number_of n) (digested-is (Err n) e d f.digest found.digest))
          ∙ ap shown (sym (option-passes one_number agree-number _ (present f.unpacked) _ (past-unpacked d f found).is
          ∙ option-passes one-raw agree-raw _ f.encoding _ (past-encoding d f found).is))

      pub then-blob : (g : ℕ) → r₃ ≡ Ok g → BlobIs start o l (get_or p 2 0) r → ExtrasAre s start p o l r
      unfolding extra_steps
      then-blob g e b d f found =
          b f.offset found.offset.left_is
          ∙ ap shown (sym (option-passes one_number agree-number _ (present f.unpacked) _ (past-unpacked d f found).is
          ∙ option-passes one-raw agree-raw _ f.encoding _ (past-encoding d f found).is
          ∙ option-passes one-text agree-text _ (present f.digest) _ (passed-so left_word (optional a_text (present f.digest)) g (digested-is (Ok g) e d f.digest found.digest)).is))

-- ---------------------------------------------------------------- offset and length

-- a number, then what is asked with it
number-passes : (t : Node Ends) (x : ℕ) → a_number t ≡ pass x → (g : ℕ → List (Step Ends)) → first (number_steps t ++ steps.◌>>=◌ (given (a_number t)) g) ≡ first (g x)
number-passes t x e g = value_passes one_number agree-number _ t x e ∙ ap (λ m. first (steps.◌>>=◌ (given m) g)) e

module _ (s : List ℕ) (start : ℕ) (p : List ℕ) (r : Spot) (r₁ : Option ℕ) (h₁ : NumberAt s (get_or p 2 0) r₁) where
  number_is : (i : ℕ) (r q : Option ℕ) → NumberAt s i r → r ≡ q → NumberAt s i q
  number_is i r q h e = rw e at h

  pub no-offset : r₁ ≡ None → r ≡ spot 8 (get_or p 2 0) → ExtentIs s start p r
  unfolding extent_steps
  no-offset e x d f found =
      x ∙ value-stops one_number agree-number _ (get_or p 2 0) f.offset found.offset.left_is 8 0 0 (number_is (get_or p 2 0) r₁ None h₁ e d f.offset found.offset)

  module _ (o : ℕ) (e₁ : r₁ ≡ Some o) (r₂ : Option ℕ) (h₂ : NumberAt s (get_or p 3 0) r₂) where
    pub no_length : r₂ ≡ None → r ≡ spot 8 (get_or p 3 0) → ExtentIs s start p r
    unfolding extent_steps
    no_length e x d f found =
        x ∙ value-stops one_number agree-number _ (get_or p 3 0) f.length found.length.left_is 8 0 0 (number_is (get_or p 3 0) r₂ None h₂ e d f.length found.length)
        ∙ ap shown (sym (number-passes f.offset o (number_is (get_or p 2 0) r₁ (Some o) h₁ e₁ d f.offset found.offset) _))

    pub then-extras : (l : ℕ) → r₂ ≡ Some l → ExtrasAre s start p o l r → ExtentIs s start p r
    unfolding extent_steps
    then-extras l e h d f found =
        h d f found
        ∙ ap shown (sym (number-passes f.offset o (number_is (get_or p 2 0) r₁ (Some o) h₁ e₁ d f.offset found.offset) _
        ∙ number-passes f.length l (number_is (get_or p 3 0) r₂ (Some l) h₂ e d f.length found.length) _))
