-- A walk that didn't end within the bytes answers FAULT and CBOR or DEEP.
use Prim.Native.Nat.{ℕ, ◌+◌, ◌<◌}
use native.Mathlib.Omega.{arith}
use mathlib.Core.Logic.{◌⊎◌, inl, inr, ⊎_elim}
use mathlib.Core.List.{List}
use mathlib.Core.Path.{◌≡◌, refl, ap, ◌∙◌}
use lib.ListN.{length}
use Rattle.meaning.specs.Read.{Outcome, got, refused, item, no_note}
use Rattle.meaning.proofs.ReadRefuses.{item-refuses}
use Rattle.cbor.specs.Ending.{FAULT, code, ending, item_end}

pub fault-number : (d : ℕ) (s : List ℕ) (e : ℕ) → e ≡ code (item_end d s) → length s < e → (e ≡ FAULT + 6) ⊎ (e ≡ FAULT + 7)
fault-number d s e ended l = go (item no_note d s) refl ended
  where
    go : (o : Outcome _) → item no_note d s ≡ o → e ≡ code (ending s o) → (e ≡ FAULT + 6) ⊎ (e ≡ FAULT + 7)
    go (got t r) h z = absurd (omega arith)
    go (refused n q) h z = ⊎_elim (λ k. inl (z ∙ ap (λ i. FAULT + i) k)) (λ k. inr (z ∙ ap (λ i. FAULT + i) k)) (item-refuses no_note d s h)
