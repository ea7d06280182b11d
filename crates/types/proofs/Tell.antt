-- Equal texts, and names by their place: where no name stands twice, a name's place tells it. Assumes nothing.
use mathlib.Core.Path.{◌≡◌, refl, sym, ap, ◌∙◌}
use mathlib.Core.List.{List, [], ◌∷◌}
use mathlib.Core.Bool.{Bool, true, false, cond}
use Prim.Native.Nat.{ℕ, zero, suc, ◌<◌}
use native.Mathlib.Omega.{arith}
use lib.ListN.{length, get_or}
use lib.Dec.{eqb, eqb-suc-zero, eqb-zero-suc, eqb-suc-suc}
use Rattle.meaning.specs.Text.{same, one_of, distinct}
use Rattle.meaning.proofs.Tests.{not-both}
use Rattle.meaning.proofs.SameText.{same-eq}
use Rattle.types.specs.Known.{position}

none_of : (ns : List (List ℕ)) (n : List ℕ) → one_of ns n ≡ false → (j : ℕ) → j < length ns → same (get_or ns j []) n ≡ false
none_of [] n e j h = absurd (omega arith)
none_of (m ∷ ns) n e zero h = go (same m n) refl e
  where
    go : (t : Bool) → same m n ≡ t → cond t true (one_of ns n) ≡ false → same m n ≡ false
    go true p q = absurd (not-both refl q)
    go false p q = p
none_of (m ∷ ns) n e (suc j) h = none_of ns n (go (same m n) e) j (omega arith)
  where
    go : (t : Bool) → cond t true (one_of ns n) ≡ false → one_of ns n ≡ false
    go true q = absurd (not-both refl q)
    go false q = q

pub place-tells : (ns : List (List ℕ)) → distinct ns ≡ true → (j : ℕ) → j < length ns → (k : List ℕ) → same (get_or ns j []) k ≡ eqb (position ns k) j
unfolding position
place-tells [] e j h k = absurd (omega arith)
place-tells (n ∷ ns) e zero h k = go (same n k)
  where
    go : (t : Bool) → t ≡ eqb (cond t 0 (suc (position ns k))) zero
    go true = refl
    go false = sym (eqb-suc-zero (position ns k))
place-tells (n ∷ ns) e (suc j) h k = go (same n k) refl (one_of ns n) refl e (λ r. place-tells ns r j (omega arith) k)
  where
    go : (t : Bool) → same n k ≡ t → (u : Bool) → one_of ns n ≡ u → cond u false (distinct ns) ≡ true
        → (distinct ns ≡ true → same (get_or ns j []) k ≡ eqb (position ns k) j)
        → same (get_or ns j []) k ≡ eqb (cond t 0 (suc (position ns k))) (suc j)
    go t p true q r ih = absurd (not-both r refl)
    go true p false q r ih = ap (same (get_or ns j [])) (sym (same-eq n k p)) ∙ none_of ns n q j (omega arith) ∙ sym (eqb-zero-suc j)
    go false p false q r ih = ih r ∙ sym (eqb-suc-suc (position ns k) j)
