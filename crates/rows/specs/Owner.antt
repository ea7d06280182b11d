-- Whom components' rows name as their owners.
use Rattle.std.specs.Prelude.{ℕ, List, map}
use Rattle.meaning.specs.Asked.{AskedComponent}

abbrev pub owners_in : List AskedComponent → List ℕ
owners_in cs = map (λ c. c.owner) cs
