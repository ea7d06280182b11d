-- A component's dtype and type, a branch each. Slices are lent whole.
use Prim.Native.Nat.{ℕ, suc}
use mathlib.Core.List.{List, ◌++◌}
use mathlib.Core.Option.{Option, none, some}
use mathlib.Core.Path.{◌≡◌, refl, ap, sym, ◌∙◌}
use native.Mathlib.Omega.{arith}
use lib.ListN.{length, get_or}
use borrow.Author.Tests.{eq-eqb, ne_eqb}
use Rattle.meaning.specs.Tree.{Node, note_of}
use Rattle.meaning.specs.Check.{Check, pass, refuse, fault, required, optional}
use Rattle.meaning.specs.Kind.{present}
use Rattle.meaning.specs.Layouts.{Layout}
use Rattle.meaning.specs.Judge.{or_else, a_dtype, a_type}
use Rattle.walk.specs.Reading.{Ends}
use Rattle.fields.specs.Slots.{Holds}
use Rattle.component.specs.Value.{left_word, code_of, DtypeAt}
use Rattle.component.specs.Value as value
use Rattle.component.proofs.Pieces.{refused-so, passed-so}
use Rattle.explained.specs.Step as steps
use Rattle.explained.specs.Step.{Step, first, given}
use Rattle.explained.specs.Order.{dtype_steps, missing}
use Rattle.explained.proofs.Parts.{agree-dtype, agree-type}
use Rattle.spot.specs.Shown.{spot, shown}
use Rattle.spot.specs.Shown.{Spot}
use Rattle.badfields.proofs.Values.{one-dtype, one_type, held-left, present-left, value-stops, value_passes, option-stops, option-passes}
use Rattle.badfields.proofs.Maps.{missing-here, missing-not}
use Rattle.badcomponent.specs.Steps.{either_of, value_steps, ExtentIs, ValuesAre}
use Rattle.std.specs.Prelude.{Ok, Err, Result}
use Rattle.numbers.specs.declared.refusal.Refusal.{Refusal}
use Rattle.numbers.specs.Numbered.{number_of}

pub none-there : (left whole : ℕ) → left ≡ 0 → whole ≡ either_of left whole
unfolding either_of
none-there left whole e = rw (eq-eqb left 0 e)

pub one-there : (left whole : ℕ) → (left ≡ 0 → ⊥) → left ≡ either_of left whole
unfolding either_of
one-there left whole e = rw (ne_eqb left 0 e)

-- ---------------------------------------------------------------- a code of its own, or the one from above

module _ (L : Layout) (above : Option ℕ) (t : Node Ends) (whole : ℕ) (is : whole ≡ length (note_of t).start) (g : ℕ → List (Step Ends)) where
  -- what is asked of a code
  abbrev wanted : Option ℕ → List (Step Ends)
  wanted own = missing t (or_else own above) ++ steps.◌>>=◌ (or_else own above) g

  abbrev code_steps : Option (Node Ends) → List (Step Ends)
  code_steps v = steps.◌>>=◌ v (dtype_steps L) ++ steps.◌>>=◌ (given (optional (a_dtype L) v)) wanted

  pub no_code : (d : ℕ) (s : List ℕ) (left : ℕ) (v : Option (Node Ends)) → Holds (suc d) s left v → (n : ℕ) → code_of L above v ≡ fault n → spot n (either_of left whole) ≡ shown (first (code_steps v))
  unfolding code_of or_else
  no_code d s left none h n e = rw (← none-there left whole h) (go above e)
    where
      go : (a : Option ℕ) → required a ≡ fault n → spot n whole ≡ shown (first (missing t a ++ steps.◌>>=◌ a g))
      go none f = let z : n ≡ 12 = cc in rw z (missing-here t whole is _ none refl)
      go (some c) f = absurd (let z : ◌≡◌ {A = ℕ} 0 1 = cc in omega arith)
  no_code d s left (some x) h n e = rw (← one-there left whole (λ z. let k = h.0 in omega (arith, k, z))) (go (a_dtype L x) refl e)
    where
      go : (m : Check ℕ) → a_dtype L x ≡ m → code_of L above (some x) ≡ fault n → spot n left ≡ shown (first (code_steps (some x)))
      go (pass c) k f = absurd (let y = rw k at f in let z : ◌≡◌ {A = ℕ} 0 1 = cc in omega arith)
      go (refuse m i j) k f = value-stops (λ u. one-dtype u L) (agree-dtype L) _ left x h.1.left_is n 0 0 (k ∙ (let y = rw k at f in let z : ◌≡◌ {A = Check ℕ} (refuse m i j) (refuse n 0 0) = cc in z))

  pub some-code : (v : Option (Node Ends)) (c : ℕ) → code_of L above v ≡ pass c → first (code_steps v) ≡ first (g c)
  unfolding code_of or_else
  some-code none c e = go above e
    where
      go : (a : Option ℕ) → required a ≡ pass c → first (missing t a ++ steps.◌>>=◌ a g) ≡ first (g c)
      go none f = absurd (let z : ◌≡◌ {A = ℕ} 0 1 = cc in omega arith)
      go (some k) f = let z : k ≡ c = cc in missing-not t whole is _ (some k) k refl ∙ ap (λ (i : ℕ). first (g i)) z
  some-code (some x) c e = go (a_dtype L x) refl e
    where
      go : (m : Check ℕ) → a_dtype L x ≡ m → code_of L above (some x) ≡ pass c → first (code_steps (some x)) ≡ first (g c)
      go (pass k) h f = let y = rw h at f in let z : k ≡ c = cc in
          value_passes (λ u. one-dtype u L) (agree-dtype L) _ x k h ∙ rw h (missing-not t whole is _ (some k) k refl ∙ ap (λ (i : ℕ). first (g i)) z)
      go (refuse m i j) h f = absurd (let y = rw h at f in let z : ◌≡◌ {A = ℕ} 0 1 = cc in omega arith)

module _ (L : Layout) (above : Option ℕ) (s : List ℕ) (start : ℕ) (p : List ℕ) (whole : ℕ) (r : Spot) (r₁ : Result ℕ Refusal) (h₁ : DtypeAt L above s (get_or p 0 0) r₁) where
  dtype-is : (q : Result ℕ Refusal) → r₁ ≡ q → DtypeAt L above s (get_or p 0 0) q
  dtype-is q e = rw e at h₁

  pub no-dtype : (n : Refusal) → r₁ ≡ Err n → (left : ℕ) → left ≡ either_of (get_or p 0 0) whole → r ≡ spot (number_of n) left → ValuesAre L above s start p whole r
  unfolding value_steps
  no-dtype n e left k x d f found t is =
      x ∙ ap (spot (number_of n)) k ∙ no_code L above t whole is _ d s (get_or p 0 0) f.dtype found.dtype (number_of n) (dtype-is (Err n) e d f.dtype found.dtype)

  module _ (code : ℕ) (e₁ : r₁ ≡ Ok code) (r₂ : Result ℕ Refusal) (h₂ : value.Typed s (get_or p 1 0) code r₂) where
    type-is : (q : Result ℕ Refusal) → r₂ ≡ q → value.Typed s (get_or p 1 0) code q
    type-is q e = rw e at h₂

    pub no-type : (n : Refusal) → r₂ ≡ Err n → r ≡ spot (number_of n) (get_or p 1 0) → ValuesAre L above s start p whole r
    unfolding value_steps
    no-type n e x d f found t is =
        x ∙ option-stops (λ u. one_type u code) (agree-type code) _ (get_or p 1 0) (present f.type) (present-left _ f.type (held-left (suc d) s _ f.type found.type)) (number_of n) 0 0
        (refused-so left_word (optional (a_type code) (present f.type)) (number_of n) (type-is (Err n) e d f.type found.type))
        ∙ ap shown (sym (some-code L above t whole is _ f.dtype code (dtype-is (Ok code) e₁ d f.dtype found.dtype)))

    pub then-extent : (g : ℕ) → r₂ ≡ Ok g → ExtentIs s start p r → ValuesAre L above s start p whole r
    unfolding value_steps
    then-extent g e h d f found t is =
        h d f found
        ∙ ap shown (sym (some-code L above t whole is _ f.dtype code (dtype-is (Ok code) e₁ d f.dtype found.dtype)
        ∙ option-passes (λ u. one_type u code) (agree-type code) _ (present f.type) _ (passed-so left_word (optional (a_type code) (present f.type)) g (type-is (Ok g) e d f.type found.type)).is))
