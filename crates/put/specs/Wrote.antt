-- What a piece of writing leaves: its bytes from a place on, as far as they fit, and the place past them. A place stops at a number that no text's length reaches, so
-- that counting the bytes of a text never wraps.
use Rattle.std.specs.Prelude.{ℕ, ◌+◌, ◌<◌, List, cond, ◌≡◌, length, ltb}
use Rattle.std.proofs.lemmas.List.Edits.{sets}

abbrev pub most : ℕ
most = 0x8000_0000_0000_0000

unfoldable pub capped : ℕ → ℕ
capped n = cond (ltb n most) n most

-- the bytes bs, written from `at` on, take xs to ys; r is the place past them
pub record Wrote (bs : List ℕ) (at : ℕ) (xs ys : List ℕ) (r : ℕ) : Type 0 where
  pub short : length xs < most
  pub stored : ys ≡ sets xs at bs
  pub past : r ≡ capped (at + length bs)
