-- A check that refuses as another does, or passes with something of which R holds.
use Rattle.std.specs.Prelude.{ℕ}
use Rattle.meaning.specs.Check.{Check, pass, refuse}

pub data Agrees {A B : Type 0} (R : A → Type 0) : Check A → Check B → Type 0 where
  passes : {a : A} {b : B} → R a → Agrees R (pass a) (pass b)
  refuses : {n o c : ℕ} → Agrees R (refuse n o c) (refuse n o c)
