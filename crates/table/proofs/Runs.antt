-- Runs of numbers put into a table: beyond its end, one after the other, and in two regions that don't overlap.
use Prim.Native.Nat.{ℕ, suc, ◌+◌, ◌≤◌, ◌<◌}
use native.Mathlib.Omega.{arith}
use mathlib.Core.List.{List, [], ◌∷◌, ◌++◌}
use mathlib.Core.Path.{◌≡◌, refl, ap, sym, ◌∙◌}
use lib.ListN.{length, set}
use lib.Seq.{set_out, set_comm, sets}

pub sets-out : (vs l : List ℕ) (i : ℕ) → length l ≤ i → sets l i vs ≡ l
sets-out [] l i h = refl
sets-out (a ∷ vs) l i h = ap (λ l. sets l (suc i) vs) (set_out l i a h) ∙ sets-out vs l (suc i) (omega arith)

pub sets-append : (vs ws l : List ℕ) (i : ℕ) → sets l i (vs ++ ws) ≡ sets (sets l i vs) (i + length vs) ws
sets-append [] ws l i = let z : i ≡ i + 0 = omega arith in ap (λ i. sets l i ws) z
sets-append (a ∷ vs) ws l i =
    let z : suc i + length vs ≡ i + suc (length vs) = omega arith in
    sets-append vs ws (set l i a) (suc i) ∙ ap (λ j. sets (sets (set l i a) (suc i) vs) j ws) z

set-sets : (ws l : List ℕ) (i j : ℕ) (a : ℕ) → i < j → set (sets l j ws) i a ≡ sets (set l i a) j ws
set-sets [] l i j a h = refl
set-sets (b ∷ ws) l i j a h = set-sets ws (set l j b) i (suc j) a (omega arith) ∙ ap (λ l. sets l (suc j) ws) (sym (set_comm l i j a b (λ e. omega arith)))

-- a run that ends before another begins may be put after it
pub sets-commute : (vs ws l : List ℕ) (i j : ℕ) → i + length vs ≤ j → sets (sets l j ws) i vs ≡ sets (sets l i vs) j ws
sets-commute [] ws l i j h = refl
sets-commute (a ∷ vs) ws l i j h = ap (λ l. sets l (suc i) vs) (set-sets ws l i j a (omega arith)) ∙ sets-commute vs ws (set l i a) (suc i) j (omega arith)

-- one number beyond the end
pub put-out : (l : List ℕ) (i a : ℕ) → length l ≤ i → l ≡ set l i a
put-out l i a h = sym (set_out l i a h)

-- two numbers, one by one
pub two-put : (t t₁ t₂ : List ℕ) (i a b : ℕ) → t₁ ≡ set t i a → t₂ ≡ set t₁ (i + 1) b → t₂ ≡ sets t i (a ∷ b ∷ [])
two-put t t₁ t₂ i a b h₁ h₂ = let x : i + 1 ≡ suc i = omega arith in h₂ ∙ (rw (h₁, x) refl)

-- five numbers, one by one: the last first, so that `search` knows each table from the one after it
pub five-put : (t t₁ t₂ t₃ t₄ t₅ : List ℕ) (i a b c d e : ℕ) → t₅ ≡ set t₄ (i + 4) e → t₄ ≡ set t₃ (i + 3) d → t₃ ≡ set t₂ (i + 2) c → t₂ ≡ set t₁ (i + 1) b → t₁ ≡ set t i a
    → t₅ ≡ sets t i (a ∷ b ∷ c ∷ d ∷ e ∷ [])
five-put t t₁ t₂ t₃ t₄ t₅ i a b c d e h₅ h₄ h₃ h₂ h₁ =
    let x : i + 1 ≡ suc i = omega arith in
    let y : i + 2 ≡ suc (suc i) = omega arith in
    let z : i + 3 ≡ suc (suc (suc i)) = omega arith in
    let w : i + 4 ≡ suc (suc (suc (suc i))) = omega arith in
    h₅ ∙ (rw (h₄, h₃, h₂, h₁, w, z, y, x) refl)
