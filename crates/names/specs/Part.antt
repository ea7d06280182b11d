-- Where a part that would run past the end is cut.
use Rattle.std.specs.Prelude.{ℕ, ◌+◌, ◌-◌, ◌≤◌, cond, ◌≡◌, leb}

-- n elements from a on, of len, end at r
pub record UpTo (len a n r : ℕ) : Type 0 where
  pub low : a ≤ r
  pub high : r ≤ len
  pub is : r ≡ cond (leb n (len - a)) (a + n) len
