-- For those who fill the rows: their number, one more row, and the numbers of a component with and without a logical type. Assumes nothing.
use mathlib.Core.Path.{◌≡◌, refl, sym, ap, ◌∙◌}
use mathlib.Core.List.{List, [], ◌∷◌, ◌++◌, append_assoc}
use mathlib.Core.Bool.{false}
use mathlib.Core.Option.{none, some}
use Prim.Native.Nat.{ℕ, ◌*◌}
use native.Mathlib.Omega.{arith}
use native.Mathlib.Nat.{one-mul}
use lib.ListN.{length}
use lib.Dec.{eqb}
use Rattle.meaning.specs.Types.{width_of, u64, logicals, listed, ratio_of, type_ratio}
use Rattle.meaning.specs.Format.{Part, plain, untyped}
use Rattle.meaning.proofs.Tests.{and-true, and-false}
use Rattle.types.specs.Known.{unit_number}
use Rattle.formats.specs.Parts.{unit_code, part_row, part_rows}

pub rows-length : (cs : List Part) → length (part_rows cs) ≡ 4 * length cs
unfolding part_rows part_row
rows-length [] = refl
rows-length (c ∷ cs) = let x = rows-length cs in omega arith

pub rows_more : (cs ds : List Part) → part_rows (cs ++ ds) ≡ part_rows cs ++ part_rows ds
unfolding part_rows
rows_more [] ds = refl
rows_more (c ∷ cs) ds = ap (λ l. part_row c ++ l) (rows_more cs ds) ∙ sym (append_assoc (part_row c) (part_rows cs) (part_rows ds))

module _ (c : Part) where
  module _ (bare : c.typed ≡ none) where
    pub unit-bare : unit_code c ≡ width_of c.code
    unfolding unit_code type_ratio unit_number
    unit-bare = rw bare (one-mul (width_of c.code))

    pub plain-bare : plain c ≡ eqb c.code 8
    unfolding plain untyped u64
    plain-bare = rw bare (and-true (eqb c.code 8))

  module _ (w : List ℕ) (typed : c.typed ≡ some w) where
    pub unit-typed : unit_code c ≡ unit_number (ratio_of (listed logicals w)) (width_of c.code)
    unfolding unit_code type_ratio
    unit-typed = rw typed

    pub plain-typed : plain c ≡ false
    unfolding plain untyped u64
    plain-typed = rw typed (and-false (eqb c.code 8))
