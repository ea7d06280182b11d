-- What is answered of rows that fit, by what the reader is foreseen to say.
use Prim.Native.Nat.{ℕ, ◌+◌, ◌≤◌, ◌<◌}
use native.Mathlib.Omega.{arith}
use mathlib.Core.List.{List, ◌++◌}
use mathlib.Core.Path.{◌≡◌, refl, sym, ap, ◌∙◌, subst}
use lib.ListN.{length, drop}
use borrow.Author.Tests.{le-leb, lt-leb}
use Rattle.meaning.specs.WrittenFile.{file_of}
use Rattle.readback.specs.Judged.{judged}
use Rattle.numbers.specs.Answered.{in_file}
use Rattle.writer.specs.declared.Written.{Written}
use Rattle.writer.specs.WriterAnswer.{refused, Answered}
use Rattle.writer.specs.Sized.{Fit}
use Rattle.writer.proofs.Checks.{d, offsets, answer_at, refused-answer, written-answer}
use Rattle.std.specs.Prelude.{Ok, Err, Result}
use Rattle.numbers.specs.declared.fault.FileFault.{FileFault}
use Rattle.numbers.specs.Numbered.{number_of}
use Rattle.numbers.specs.declared.refusal.Refusal.TheVariants as refusals

abbrev whole-file : List ℕ → List ℕ → ℕ → ℕ → ℕ → ℕ → List ℕ → List ℕ
whole-file plan rows objects components place size buffer = file_of (d plan rows objects components place size buffer) (offsets plan rows objects components place size buffer)

module _ {plan rows : List ℕ} {objects components place size : ℕ} {buffer : List ℕ} {e m : ℕ}
    (fit : Fit plan rows objects components (record { place = place; size = size }) buffer e m) where
  pub there-is-room : (out : List ℕ) → e + m + 16 ≤ length out → length (whole-file plan rows objects components place size buffer) ≤ length out
  there-is-room out h = omega (arith, h, fit.long)

  -- `foresee::verdict` said x
  module _ (x : Result (Unit {0}) FileFault) (foreseen : judged (d plan rows objects components place size buffer) ≡ in_file x) where
    pub fill-refused : (f : FileFault) → x ≡ Err f → {r : Written} → r ≡ refused (number_of f.refusal) f.object f.component → (out : List ℕ)
        → Answered (answer_at plan rows objects components place size buffer (length out)) r out out
    fill-refused f q is out =
        subst (λ (a : Written). Answered (answer_at plan rows objects components place size buffer (length out)) a out out) (sym is)
        (refused-answer (number_of f.refusal) f.object f.component (fit.is (length out) ∙ rw (foreseen ∙ ap in_file q) refl) out)

    module _ (q : x ≡ (Ok tt)) where
      pub fill-no-room : (out : List ℕ) → length out < e + m + 16 → (k : FileFault) → k ≡ record { refusal = refusals.Room; object = 0; component = 0 } → {r : Written} → r ≡ refused (number_of k.refusal) k.object k.component → Answered (answer_at plan rows objects components place size buffer (length out)) r out out
      fill-no-room out h k is-k is =
          subst (λ (a : Written). Answered (answer_at plan rows objects components place size buffer (length out)) a out out) (sym (is ∙ ap (λ (f : FileFault). refused (number_of f.refusal) f.object f.component) is-k))
          (refused-answer 24 0 0
          (fit.is (length out) ∙ rw (foreseen ∙ ap in_file q, lt-leb (length (whole-file plan rows objects components place size buffer)) (length out) (omega (arith, h, fit.long))) refl) out)

      pub fill-whole : (out : List ℕ) → e + m + 16 ≤ length out → {n : ℕ} → n ≡ length (whole-file plan rows objects components place size buffer) → {after : List ℕ}
          → after ≡ whole-file plan rows objects components place size buffer ++ drop (length (whole-file plan rows objects components place size buffer)) out
          → Answered (answer_at plan rows objects components place size buffer (length out)) (record { number = 0; object = 0; component = 0; length = n }) out after
      fill-whole out h {n} l {after} is =
          written-answer (whole-file plan rows objects components place size buffer)
          (fit.is (length out) ∙ rw (foreseen ∙ ap in_file q, le-leb (length (whole-file plan rows objects components place size buffer)) (length out) (omega (arith, h, fit.long))) refl) n l out after is
