-- A component's texts, test by test.
use Prim.Native.Nat.{ℕ}
use mathlib.Core.List.{List}
use mathlib.Core.Bool.{Bool, true, false, not, ◌&&◌}
use mathlib.Core.Option.{none, some}
use mathlib.Core.Path.{◌≡◌, refl, sym, ap, ◌∙◌}
use lib.ListN.{take, drop, get_or}
use lib.Dec.{eqb}
use borrow.Author.Tests.{not-true, not-false}
use Rattle.meaning.specs.Columns.{dtype_column, type_column, digest_column}
use Rattle.meaning.specs.Read.{Span}
use Rattle.meaning.specs.Text.{utf8}
use Rattle.meaning.specs.Types.{logicals, listed, fits_over}
use Rattle.meaning.specs.Asked.{asked_component, present_at, span_at}
use Rattle.meaning.specs.Described.{described_component}
use Rattle.readback.specs.Judged.{judged_type, judged_text, judged_component}
use Rattle.std.specs.Prelude.{Ok, Err, Result}
use Rattle.numbers.specs.declared.refusal.Refusal.{Refusal}
use Rattle.numbers.specs.declared.refusal.Refusal.TheVariants as refusals
use Rattle.numbers.specs.Answered.{answered}

-- `absent` said n of a range
module _ (buffer : List ℕ) (place size : ℕ) {n : Bool} (absent : n ≡ (eqb place 0 && eqb size 0)) where
  abbrev at : Span
  at = record { place = place; size = size }

  pub nothing-there : n ≡ true → present_at buffer at ≡ none
  unfolding present_at
  nothing-there e = rw (sym absent ∙ e) refl

  pub something-there : n ≡ false → present_at buffer at ≡ some (take size (drop place buffer))
  unfolding present_at
  something-there e = rw (sym absent ∙ e) refl

  pub type-none : (code : ℕ) → n ≡ true → judged_type code (present_at buffer at) ≡ answered (Ok tt)
  unfolding judged_type
  type-none code e = rw (nothing-there e) refl

  pub text-none : n ≡ true → judged_text (present_at buffer at) ≡ answered (Ok tt)
  unfolding judged_text
  text-none e = rw (nothing-there e) refl

  -- its bytes are s, and `utf8` said u of them
  module _ (there : n ≡ false) {s : List ℕ} (part : s ≡ take size (drop place buffer)) {u : Bool} (text : u ≡ utf8 s) where
    read : present_at buffer at ≡ some s
    read = something-there there ∙ ap some (sym part)

    pub text-fine : u ≡ true → judged_text (present_at buffer at) ≡ answered (Ok tt)
    unfolding judged_text
    text-fine e = rw (read, sym text ∙ e) refl

    pub text-odd : u ≡ false → judged_text (present_at buffer at) ≡ answered (Err refusals.Text)
    unfolding judged_text
    text-odd e = rw (read, sym text ∙ e) refl

    module _ (code : ℕ) where
      pub type-odd : not u ≡ true → judged_type code (present_at buffer at) ≡ answered (Err refusals.Text)
      unfolding judged_type
      type-odd e = rw (read, sym text ∙ not-true u e) refl

      module _ (fine : not u ≡ false) {f : Bool} (fits : f ≡ fits_over code (listed logicals s)) where
        pub type-fits : f ≡ true → judged_type code (present_at buffer at) ≡ answered (Ok tt)
        unfolding judged_type
        type-fits e = rw (read, sym text ∙ not-false u fine, sym fits ∙ e) refl

        pub type-unfit : f ≡ false → judged_type code (present_at buffer at) ≡ answered (Err refusals.Type)
        unfolding judged_type
        type-unfit e = rw (read, sym text ∙ not-false u fine, sym fits ∙ e) refl

-- a component's type, of which r was said, and its digest
module _ (buffer row : List ℕ) {r : Result (Unit {0}) Refusal} (typed : judged_type (get_or row dtype_column 0) (present_at buffer (span_at row type_column)) ≡ answered r) where
  pub wrong_type : (n : Refusal) → r ≡ Err n → (q : Result (Unit {0}) Refusal) → q ≡ Err n → judged_component (described_component buffer (asked_component row)) ≡ answered q
  unfolding judged_component described_component asked_component
  wrong_type n e q is-q = rw is-q (rw (typed, e) refl)

  pub then-digest : (d : Result (Unit {0}) Refusal) → r ≡ (Ok tt) → judged_text (present_at buffer (span_at row digest_column)) ≡ answered d → judged_component (described_component buffer (asked_component row)) ≡ answered d
  unfolding judged_component described_component asked_component
  then-digest d e g = rw (typed, e, g) refl
