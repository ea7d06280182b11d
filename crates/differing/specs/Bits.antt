-- What differs, as numbers that add up.
use Rattle.std.specs.Prelude.{ℕ, ◌+◌, List, not}
use Rattle.meaning.specs.Text.{same}
use Rattle.meaning.specs.Described.{DescribedComponent}
use Rattle.changes.specs.Changes.{bit, other_dtype, other_type, other_bytes, position_apart, count_apart}
use Rattle.differing.specs.declared.Differences.{Differences}

abbrev pub told : DescribedComponent → DescribedComponent → Differences
told c d = record {
  dtype = bit 8 (other_dtype c d);
  kind = bit 16 (other_type c d);
  bytes = bit 32 (other_bytes c d);
  position = position_apart c.blob d.blob;
  count = count_apart c.blob d.blob;
}

-- shape and format, of two objects
abbrev pub own_what : List ℕ → List ℕ → List ℕ → List ℕ → ℕ
own_what s f t g = bit 1 (not (same s t)) + bit 2 (not (same f g))
