-- A name as a part of the buffer, and names that are read from whole parts. Assumes nothing.
use mathlib.Core.Path.{◌≡◌}
use mathlib.Core.List.{List}
use Prim.Native.Nat.{ℕ, ◌-◌, min}
use lib.ListN.{length, get_or, take, drop}
use borrow.Author.Rules.{part_to_end}
use Rattle.std.proofs.lemmas.List.{take_min}
use Rattle.text.proofs.SameIsEqual.{whole}
use Rattle.names.specs.Names.{name}

-- the names read from parts that begin at 0
abbrev pub wholes : List ℕ → List ℕ → List ℕ → ℕ → List ℕ
wholes m left size = name (take (length m - 0) (drop 0 m)) (take (length left - 0) (drop 0 left)) (take (length size - 0) (drop 0 size))

pub from-wholes : (m left size : List ℕ) → wholes m left size ≡ name m left size
from-wholes m left size = rw (whole m, whole left, whole size)

-- what was read of the arrays says which part of the buffer the name i is
pub name-part : (m left size : List ℕ) (i : ℕ) {l n a e : ℕ} → l ≡ get_or left i 0 → a ≡ length m - l → n ≡ get_or size i 0
    → e ≡ min n (length (take (length m - a) (drop a m))) → take e (take (length m - a) (drop a m)) ≡ name m left size i
unfolding name
name-part m left size i {l} {n} {a} {e} hl ha hn he = rw (he, take_min n (take (length m - a) (drop a m)), part_to_end m a, hn, ha, hl)
