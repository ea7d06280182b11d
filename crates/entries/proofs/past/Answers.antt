-- `entries::past` meets its contract: what no place reaches is capped alike.
use Prim.Native.Nat.{ℕ, min}
use native.Mathlib.Omega.{arith}
use mathlib.Core.Path.{◌≡◌, sym, ap, ◌∙◌}
use Rattle.put.specs.Wrote.{capped}
use Rattle.put.proofs.PiecesInTurn.{by_place, capped-high}
use Rattle.entries.proofs.past.Goals as goal

saturated : (n : ℕ) {s : ℕ} → s ≡ min n 18446744073709551615 → capped s ≡ capped n
saturated n {s} e = by_place n (λ l. ap capped (let z : s ≡ n = omega (arith, e, l) in z)) (λ l. capped-high s (omega (arith, e, l)) ∙ sym (capped-high n l))

pub returns : goal.returns
returns c = c.capped_place.ensures ∙ saturated _ c.saturating_add.ensures
