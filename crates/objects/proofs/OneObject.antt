-- One object, judged or passed over; its value is lent whole.
use Prim.Native.Nat.{ℕ}
use native.Mathlib.Omega.{arith}
use mathlib.Core.List.{List}
use mathlib.Core.Bool.{Bool, true, false}
use mathlib.Core.Path.{◌≡◌, refl, ap, ◌∙◌, subst}
use borrow.Author.Rules.{part_to_end}
use Rattle.meaning.specs.Layouts.{Layout}
use Rattle.cbor.specs.Ending.{code, item_end}
use Rattle.walk.proofs.Passed.{Here}
use Rattle.object.specs.Verdict.{ObjectIs}
use Rattle.objects.specs.Found.{passed_over, judging}
use Rattle.objects.specs.Firsts.{OneIs}
use Rattle.std.specs.Prelude.{Ok, Result}
use Rattle.numbers.specs.declared.fault.ObjectFault.{ObjectFault}

pub ends_so : (c : List ℕ) (e : ℕ) → e ≡ code (item_end 30 (Here c 0)) → e ≡ code (item_end 30 c)
ends_so c e h = h ∙ ap (λ (s : List ℕ). code (item_end 30 s)) (part_to_end c 0)

module _ (L : Layout) (c : List ℕ) (start : ℕ) where
  pub judged-so : (deep : Bool) → deep ≡ true → (v : Result ℕ ObjectFault) → ObjectIs L (Here c 0) start v → OneIs deep L c start v
  unfolding judging
  judged-so true _ v h = subst (λ (s : List ℕ). ObjectIs L s start v) (part_to_end c 0) h
  judged-so false d v h = absurd (let z : ◌≡◌ {A = ℕ} 0 1 = cc in omega (arith, z))

  pub passed-so : (deep : Bool) → deep ≡ false → OneIs deep L c start (Ok 0)
  unfolding judging passed_over
  passed-so false _ = λ t q r n. refl
  passed-so true d = absurd (let z : ◌≡◌ {A = ℕ} 0 1 = cc in omega (arith, z))
