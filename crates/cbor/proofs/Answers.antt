-- What the small functions return, branch by branch.
use Prim.Native.Nat.{ℕ, zero, suc, ◌+◌, ◌-◌, ◌%◌, ◌≤◌, ◌<◌}
use native.Mathlib.Omega.{arith}
use mathlib.Core.List.{List}
use mathlib.Core.Path.{◌≡◌, refl, ap, sym}
use borrow.Author.Tests.{le-leb, lt-leb, lt-ltb, le-ltb, eq-eqb, ne_eqb}
use Rattle.cbor.specs.Ending.{FAULT, code, shift, string_end, broken, doubled, rest, Counted}
use Rattle.cbor.proofs.Rest.{none-due}

pub broken-count : (mode n at : ℕ) → mode ≡ 0 → FAULT + 6 ≡ code (shift at (broken mode n))
unfolding broken
broken-count zero n at e = refl
broken-count (suc m) n at e = absurd (omega arith)

pub broken-array : (mode n at : ℕ) → mode ≡ 1 → at + 1 ≡ code (shift at (broken mode n))
unfolding broken
broken-array zero n at e = absurd (omega arith)
broken-array (suc zero) n at e = refl
broken-array (suc (suc m)) n at e = absurd (omega arith)

pub broken-value : (mode n at : ℕ) → (mode ≡ 0 → ⊥) → (mode ≡ 1 → ⊥) → n % 2 ≡ 0 → FAULT + 6 ≡ code (shift at (broken mode n))
unfolding broken
broken-value zero n at k l e = absurd (k refl)
broken-value (suc zero) n at k l e = absurd (l refl)
broken-value (suc (suc m)) n at k l e = rw (eq-eqb (n % 2) 0 e)

pub broken-key : (mode n at : ℕ) → (mode ≡ 0 → ⊥) → (mode ≡ 1 → ⊥) → (n % 2 ≡ 0 → ⊥) → at + 1 ≡ code (shift at (broken mode n))
unfolding broken
broken-key zero n at k l e = absurd (k refl)
broken-key (suc zero) n at k l e = absurd (l refl)
broken-key (suc (suc m)) n at k l e = rw (ne_eqb (n % 2) 0 e)

pub string-fits : (len size n : ℕ) → size + n ≤ len → size + n ≡ string_end len size n
unfolding string_end
string-fits len size n l = rw (le-leb (size + n) len l)

pub string-short : (len size n : ℕ) → len < size + n → FAULT + 6 ≡ string_end len size n
unfolding string_end
string-short len size n l = rw (lt-leb (size + n) len l)

-- by the two tests of `string_end`
module _ (len size n : ℕ) where
  pub no-head : len < size → FAULT + 6 ≡ string_end len size n
  no-head l = string-short len size n (omega arith)

  pub too_short : size ≤ len → len - size < n → FAULT + 6 ≡ string_end len size n
  too_short l h = string-short len size n (omega arith)

  pub string-there : size ≤ len → n ≤ len - size → size + n ≡ string_end len size n
  string-there l h = string-fits len size n (omega arith)

pub doubled-small : (n : ℕ) → n < 4_611_686_018_427_387_904 → n + n ≡ doubled n
unfolding doubled
doubled-small n l = rw (lt-ltb n 4_611_686_018_427_387_904 l)

pub doubled-large : (n : ℕ) → 4_611_686_018_427_387_904 ≤ n → FAULT ≡ doubled n
unfolding doubled
doubled-large n l = rw (le-ltb n 4_611_686_018_427_387_904 l)

pub nothing-due : (mode n d : ℕ) (s : List ℕ) → Counted mode n → n ≡ 0 → 0 ≡ code (rest mode n d s)
nothing-due zero n d s c e = rw e (ap code (sym (none-due d s)))
nothing-due (suc m) n d s c e = absurd (omega (arith, c (omega arith)))
