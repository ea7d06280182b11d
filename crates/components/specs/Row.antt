-- The row of a component, put among those of the others, as the format's rules read it.
use Rattle.std.specs.Prelude.{ℕ, ◌+◌, ◌*◌, List, cond, set, ltb}
use Rattle.meaning.specs.Limit.{component_limit}

-- component j's four numbers, if there is room
abbrev pub put_row : List ℕ → ℕ → ℕ → ℕ → ℕ → ℕ → List ℕ
put_row rows j role unit plain size = cond (ltb j component_limit) (set (set (set (set rows (j * 4) role) (j * 4 + 1) unit) (j * 4 + 2) plain) (j * 4 + 3) size) rows
