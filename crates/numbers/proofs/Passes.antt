-- An answer that is a check that passes is that value.
use mathlib.Core.Path.{◌≡◌, ap}
use native.Mathlib.Omega.{arith}
use Rattle.std.specs.Prelude.{ℕ, Result, Ok, Err}
use Rattle.meaning.specs.Check.{pass}
use Rattle.numbers.specs.Answered.{answered, in_object, in_file}
use Rattle.numbers.specs.declared.refusal.Refusal.{Refusal}
use Rattle.numbers.specs.declared.fault.ObjectFault.{ObjectFault}
use Rattle.numbers.specs.declared.fault.FileFault.{FileFault}

module _ {A : Type 0} where
  pub answer-passes : (r : Result A Refusal) (a : A) → answered r ≡ pass a → r ≡ Ok a
  answer-passes (Ok x) a e = let z : x ≡ a = cc in ap Ok z
  answer-passes (Err f) a e = absurd (let z : ◌≡◌ {A = ℕ} 0 1 = cc in omega arith)

  pub object-passes : (r : Result A ObjectFault) (a : A) → in_object r ≡ pass a → r ≡ Ok a
  object-passes (Ok x) a e = let z : x ≡ a = cc in ap Ok z
  object-passes (Err f) a e = absurd (let z : ◌≡◌ {A = ℕ} 0 1 = cc in omega arith)

  pub file-passes : (r : Result A FileFault) (a : A) → in_file r ≡ pass a → r ≡ Ok a
  file-passes (Ok x) a e = let z : x ≡ a = cc in ap Ok z
  file-passes (Err f) a e = absurd (let z : ◌≡◌ {A = ℕ} 0 1 = cc in omega arith)
