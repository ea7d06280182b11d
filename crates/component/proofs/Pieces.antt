-- The pieces of a component's judgement, a branch each. Slices are lent whole.
use mathlib.Core.Path.{◌≡◌, refl, ap, ◌∙◌, subst}
use mathlib.Core.List.{List}
use mathlib.Core.Option.{Option}
use Prim.Native.Nat.{ℕ, suc}
use native.Mathlib.Omega.{arith}
use borrow.Author.Rules.{part_to_end}
use Rattle.meaning.specs.Tree.{Node, nothing}
use Rattle.meaning.specs.Check.{Check, pass, refuse, fault, optional}
use Rattle.meaning.specs.Notes.{map_check}
use Rattle.meaning.specs.Kind.{a_number, present}
use Rattle.meaning.specs.Layouts.{Layout}
use Rattle.meaning.specs.Judge.{a_type, raw}
use Rattle.lengths.specs.Place.{place_rule}
use Rattle.numbers.specs.Numbered.{number_of}
use Rattle.numbers.specs.Answered.{answered}
use Rattle.component.specs.declared.Judged.{Judged}
use Rattle.component.specs.declared.judge.Stored.{Stored}
use Rattle.component.specs.declared.judge.Stretch.{Stretch}
use Rattle.walk.specs.Reading.{Ends}
use Rattle.fields.specs.Slots.{Holds}
use Rattle.fields.proofs.Texts.{Here}
use Rattle.component.specs.Value.{left_word, DtypeAt, NumberAt, Typed, Digested, Unpacked, Encoded}
use Rattle.component.specs.Verdict.{storage, StorageAt, extent, ExtentAt, extras, ExtrasAt, judged_place}
use Rattle.std.specs.Prelude.{Some, None, Ok, Err, Result, Option as Optional}
use Rattle.numbers.specs.declared.refusal.Refusal.{Refusal}
use Rattle.numbers.specs.declared.refusal.Refusal.TheVariants as refusals

-- ---------------------------------------------------------------- a check, from the outcome that is known

module _ {A B : Type 0} (f : A → B) where
  pub refused-so : (k : Check A) (n : ℕ) → map_check f k ≡ fault n → k ≡ fault n
  refused-so (pass a) n e = absurd (let z : ◌≡◌ {A = ℕ} 0 1 = cc in omega arith)
  refused-so (refuse m o c) n e = let x : m ≡ n = cc in let y : o ≡ 0 = cc in let z : c ≡ 0 = cc in rw (x, y, z) refl

  pub record Passed (k : Check A) (b : B) : Type 0 where
    pub value : A
    pub is : k ≡ pass value
    pub shown : f value ≡ b

  pub passed-so : (k : Check A) (b : B) → map_check f k ≡ pass b → Passed k b
  passed-so (pass a) b e = record { value = a; is = refl; shown = cc }
  passed-so (refuse m o c) b e = absurd (let z : ◌≡◌ {A = ℕ} 0 1 = cc in omega arith)

-- ---------------------------------------------------------------- dtype and type

module _ (L : Layout) (above : Option ℕ) (s : List ℕ) (a b : ℕ) (r₁ : Result ℕ Refusal) (h₁ : DtypeAt L above (Here s 0) a r₁) where
  dtype-is : (q : Result ℕ Refusal) → r₁ ≡ q → DtypeAt L above s a q
  dtype-is q e = subst (λ u. DtypeAt L above u a q) (part_to_end s 0) (rw e at h₁)

  pub no-dtype : (n : Refusal) → r₁ ≡ Err n → (q : Result Stored Refusal) → q ≡ Err n → StorageAt L above s a b q
  unfolding storage
  no-dtype n e q is-q d x y hx hy =
      rw is-q (rw (dtype-is (Err n) e d x hx) refl)

  module _ (code : ℕ) (e₁ : r₁ ≡ Ok code) (r₂ : Result ℕ Refusal) (h₂ : Typed (Here s 0) b code r₂) where
    type-is : (q : Result ℕ Refusal) → r₂ ≡ q → Typed s b code q
    type-is q e = subst (λ u. Typed u b code q) (part_to_end s 0) (rw e at h₂)

    pub no-type : (n : Refusal) → r₂ ≡ Err n → (q : Result Stored Refusal) → q ≡ Err n → StorageAt L above s a b q
    unfolding storage
    no-type n e q is-q d x y hx hy =
        rw is-q (rw (dtype-is (Ok code) e₁ d x hx) (rw (refused-so left_word (optional (a_type code) (present y)) (number_of n) (type-is (Err n) e d y hy)) refl))

    pub both-types : (t : ℕ) → r₂ ≡ Ok t → StorageAt L above s a b (Ok (record { code = code; kind = t }))
    unfolding storage
    both-types t e d x y hx hy =
        let z = passed-so left_word (optional (a_type code) (present y)) t (type-is (Ok t) e d y hy) in
        rw (dtype-is (Ok code) e₁ d x hx) (rw z.is (ap (λ (i : ℕ). pass (code, i)) z.shown))

-- ---------------------------------------------------------------- offset and length

module _ (s : List ℕ) (a b : ℕ) (r₁ : Optional ℕ) (h₁ : NumberAt (Here s 0) a r₁) where
  number_is : (i : ℕ) (r q : Optional ℕ) → NumberAt (Here s 0) i r → r ≡ q → NumberAt s i q
  number_is i r q h e = subst (λ u. NumberAt u i q) (part_to_end s 0) (rw e at h)

  pub no-offset : r₁ ≡ None → ExtentAt s a b (Err refusals.Kind)
  unfolding extent
  no-offset e d x y hx hy = rw (number_is a r₁ None h₁ e d x hx) refl

  module _ (o : ℕ) (e₁ : r₁ ≡ Some o) (r₂ : Optional ℕ) (h₂ : NumberAt (Here s 0) b r₂) where
    pub no_length : r₂ ≡ None → ExtentAt s a b (Err refusals.Kind)
    unfolding extent
    no_length e d x y hx hy = rw (number_is a r₁ (Some o) h₁ e₁ d x hx) (rw (number_is b r₂ None h₂ e d y hy) refl)

    pub both-numbers : (l : ℕ) → r₂ ≡ Some l → ExtentAt s a b (Ok (record { offset = o; length = l }))
    unfolding extent
    both-numbers l e d x y hx hy = rw (number_is a r₁ (Some o) h₁ e₁ d x hx) (rw (number_is b r₂ (Some l) h₂ e d y hy) refl)

-- ---------------------------------------------------------------- uncompressed length, encoding, digest

module _ (s : List ℕ) (a b c : ℕ) (r₁ : Result (Unit {0}) Refusal) (h₁ : Unpacked (Here s 0) a r₁) where
  unpacked-is : (q : Result (Unit {0}) Refusal) → r₁ ≡ q → Unpacked s a q
  unpacked-is q e = subst (λ u. Unpacked u a q) (part_to_end s 0) (rw e at h₁)

  pub no-unpacked : (n : Refusal) → r₁ ≡ Err n → (q : Result ℕ Refusal) → q ≡ Err n → ExtrasAt s a b c q
  unfolding extras
  no-unpacked n f q is-q d u e g hu he hg =
      rw is-q (rw (refused-so nothing (optional a_number (present u)) (number_of n) (unpacked-is (Err n) f d u hu)) refl)

  module _ (e₁ : r₁ ≡ (Ok tt)) (r₂ : Result (Unit {0}) Refusal) (h₂ : Encoded (Here s 0) b r₂) where
    encoded-is : (q : Result (Unit {0}) Refusal) → r₂ ≡ q → Encoded s b q
    encoded-is q e = subst (λ u. Encoded u b q) (part_to_end s 0) (rw e at h₂)

    has-unpacked : (d : ℕ) (u : Option (Node Ends)) → Holds (suc d) s a u → Passed nothing (optional a_number (present u)) tt
    has-unpacked d u hu = passed-so nothing (optional a_number (present u)) tt (unpacked-is (Ok tt) e₁ d u hu)

    pub no-encoding : (n : Refusal) → r₂ ≡ Err n → (q : Result ℕ Refusal) → q ≡ Err n → ExtrasAt s a b c q
    unfolding extras
    no-encoding n f q is-q d u e g hu he hg =
        rw is-q (rw (has-unpacked d u hu).is (rw (refused-so nothing (optional raw e) (number_of n) (encoded-is (Err n) f d e he)) refl))

    pub then-digest : r₂ ≡ (Ok tt) → (r₃ : Result ℕ Refusal) → Digested (Here s 0) c r₃ → ExtrasAt s a b c r₃
    unfolding extras
    then-digest f r₃ h₃ d u e g hu he hg =
        rw (has-unpacked d u hu).is (rw (passed-so nothing (optional raw e) tt (encoded-is (Ok tt) f d e he)).is
        (subst (λ u. Digested u c r₃) (part_to_end s 0) h₃ d g hg))

-- ---------------------------------------------------------------- the blob's place

module _ (start : ℕ) (s : Stored) (x : Stretch) (g : ℕ) {r : Result (Unit {0}) Refusal} (is : place_rule start x.offset x.length ≡ answered r) where
  pub in_place : r ≡ Ok tt → answered (Ok (record { code = s.code; kind = s.kind; offset = x.offset; length = x.length; digest = g })) ≡ judged_place start s x g
  in_place e = rw (is ∙ ap answered e) refl

  pub out-of-place : (n : Refusal) → r ≡ Err n → (q : Result Judged Refusal) → q ≡ Err n → answered q ≡ judged_place start s x g
  out-of-place n e q is-q = rw is-q (rw (is ∙ ap answered e) refl)
