-- The last two checks of a component (meaning's Judge.component): where its bytes lie in a file whose manifest begins at `start`.
use Rattle.std.specs.Prelude.{ℕ, ◌+◌, ◌%◌, ◌&&◌, eqb, leb}
use Rattle.meaning.specs.Check.{Check, ◌>>◌, ◌unless◌}
use Rattle.meaning.specs.Refusal.{ALIGN, BOUNDS}
use Rattle.meaning.specs.Limit.{alignment}

unfoldable pub place_rule : ℕ → ℕ → ℕ → Check (Unit {0})
place_rule start o l = do
  ALIGN unless eqb (o % alignment) 0
  BOUNDS unless (leb alignment o && leb (o + l) start)
