-- Whole numbers as limbs of 32 bits, the lowest first.
use Rattle.std.specs.Prelude.{ℕ, ◌+◌, ◌*◌, ◌/◌, ◌%◌, ◌^◌, ◌<◌, List, [], ◌∷◌, ◌≡◌, get_or, length, ltb, cond}

-- what the limbs stand for
unfoldable pub value : List ℕ → ℕ
value [] = 0
value (x ∷ xs) = x + 4294967296 * value xs

-- there are thirteen, and each is below 2^32
pub record Limbs (xs : List ℕ) : Type 0 where
  pub sized : length xs ≡ 13
  pub each : (k : ℕ) → get_or xs k 0 < 4294967296

-- no number of thirteen limbs reaches this
abbrev pub most : ℕ
most = 2 ^ 416

-- a unit, and a billion of them
abbrev pub unit : ℕ
unit = 2 ^ 96

abbrev pub billion : ℕ
billion = 1000000000 * 2 ^ 96

-- q, or the next number up: by how x compares with c, and where they are equal the even one
unfoldable pub rounded : ℕ → ℕ → ℕ → ℕ
rounded q x c = cond (ltb x c) q (cond (ltb c x) (q + 1) (q + q % 2))

-- the whole number nearest to n units and a bit, of two the even one
unfoldable pub near : ℕ → ℕ → ℕ
unfolding rounded
near n left = rounded (n / unit) (2 * (n % unit) + left) unit
