-- The item at a place of a manifest: how many bytes it takes.
use Rattle.std.specs.Prelude.{ℕ, ◌-◌, List, length, drop}
use Rattle.meaning.specs.Limit.{depth_limit}
use Rattle.cbor.specs.Ending.{code, item_end}

-- passed over where `left` bytes of s are left, and as many levels as a manifest has
abbrev pub passed : List ℕ → ℕ → ℕ
passed s left = code (item_end depth_limit (drop (length s - left) s))
