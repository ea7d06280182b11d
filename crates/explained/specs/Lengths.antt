-- Document 01, "Types and lengths", and Req 03: when the length of a role's component is right, over the bytes of one element, none where the type isn't listed.
use Rattle.std.specs.Prelude.{ℕ, ◌*◌, ◌/◌, ◌%◌, Bool, eqb}
use Rattle.std.proofs.Math.Option.{Option, none, some}
use Rattle.meaning.specs.Types.{width_of}
use Rattle.meaning.specs.Format.{Part}

-- so many elements
unfoldable pub elements_fit : Part → ℕ → Option ℕ → Bool
elements_fit p n none = eqb (p.size % width_of p.code) 0
elements_fit p n (some u) = eqb p.size (n * u)

-- whole elements
unfoldable pub whole_fits : Part → Option ℕ → Bool
whole_fits p none = eqb (p.size % width_of p.code) 0
whole_fits p (some u) = eqb (p.size % u) 0

unfoldable pub counted : Part → Option ℕ → Option ℕ
counted p none = none
counted p (some u) = some (p.size / u)

-- so many bytes for each element
unfoldable pub indices_fit : Part → ℕ → Option ℕ → Bool
indices_fit p each none = eqb (p.size % 8) 0
indices_fit p each (some n) = eqb p.size (each * n)
