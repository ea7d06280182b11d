-- A run of a version digit by digit: the state is how many digits more it takes, and 9 only before its first.
use Rattle.std.specs.Prelude.{ℕ, ◌-◌, List, [], ◌∷◌, Bool, cond, not, ◌&&◌, eqb, ltb}
use Rattle.meaning.specs.Version.{digit}

-- a 0 that begins a run ends it
unfoldable pub room_after : ℕ → ℕ → ℕ
room_after room b = cond (eqb room 9 && eqb b 48) 0 (room - 1)

-- a run's rest, with room for so many digits, is right
unfoldable pub fits : ℕ → List ℕ → Bool
fits room [] = not (eqb room 9)
fits room (b ∷ r) = digit b && ltb 0 room && fits (room_after room b) r
