-- Turns of an indefinite item: the fuel doesn't matter where there is enough, so a turn is one reading and then the rest.
use Prim.Native.Nat.{ℕ, zero, suc, ◌≤◌, ◌<◌}
use native.Mathlib.Omega.{arith}
use mathlib.Core.List.{List, [], ◌∷◌}
use mathlib.Core.Bool.{Bool, true, false}
use mathlib.Core.Path.{◌≡◌, refl, ap, sym, ◌∙◌}
use lib.Dec.{eqb}
use lib.ListN.{length}
use Rattle.meaning.specs.Refusal.{CBOR}
use Rattle.meaning.specs.Read.{Outcome, got, refused, Reader, after, ◌>>=◌, pure, stop, until_break, to_break}
use Rattle.meaning.proofs.ReadPrefix.{still, Hungry}

module _ {A : Type 0} (m : Reader A) where
  abbrev turn : ℕ → Reader (List A)
  turn fuel = m >>= λ x. until_break m fuel >>= λ xs. pure (x ∷ xs)

  -- one reading, and then up to the break
  abbrev pub one_turn : Reader (List A)
  one_turn = m >>= λ x. to_break m >>= λ xs. pure (x ∷ xs)

  pub break-ends : (b : ℕ) (s : List ℕ) → eqb b 255 ≡ true → to_break m (b ∷ s) ≡ got [] s
  unfolding to_break until_break stop
  break-ends b s e = rw e

  pub nothing-ends-early : to_break m [] ≡ refused CBOR []
  unfolding to_break until_break
  nothing-ends-early = refl

  turns : (b fuel : ℕ) (s : List ℕ) → eqb b 255 ≡ false → until_break m (suc fuel) (b ∷ s) ≡ turn fuel (b ∷ s)
  unfolding until_break stop
  turns b fuel s e = rw e

  ends : (b fuel : ℕ) (s : List ℕ) → eqb b 255 ≡ true → until_break m (suc fuel) (b ∷ s) ≡ got [] s
  unfolding until_break stop
  ends b fuel s e = rw e

  empty : (fuel : ℕ) → until_break m fuel [] ≡ refused CBOR []
  unfolding until_break stop
  empty zero = refl
  empty (suc fuel) = refl

  module _ (hungry : Hungry (still m)) where
    turn-alike : (f g : ℕ) (s : List ℕ) → ((r : List ℕ) → length r < length s → until_break m f r ≡ until_break m g r) → turn f s ≡ turn g s
    turn-alike f g s h = go (m s) refl
      where
        go : (o : Outcome A) → m s ≡ o → after o (λ x. until_break m f >>= λ xs. pure (x ∷ xs)) ≡ after o (λ x. until_break m g >>= λ xs. pure (x ∷ xs))
        go (got a r) e = ap (λ o. after o (λ xs. pure (a ∷ xs))) (h r (hungry [] s a r e))
        go (refused n q) e = refl

    none_left : (f : ℕ) (s : List ℕ) → length s ≤ 0 → until_break m f s ≡ refused CBOR []
    none_left f [] l = empty f
    none_left f (b ∷ s) l = absurd (omega arith)

    one_more : (f g : ℕ) → ((r : List ℕ) → length r ≤ f → length r ≤ g → until_break m f r ≡ until_break m g r)
        → (s : List ℕ) → length s ≤ suc f → length s ≤ suc g → until_break m (suc f) s ≡ until_break m (suc g) s
    one_more f g ih [] l k = empty (suc f) ∙ sym (empty (suc g))
    one_more f g ih (b ∷ s) l k = go (eqb b 255) refl
      where
        go : (t : Bool) → eqb b 255 ≡ t → until_break m (suc f) (b ∷ s) ≡ until_break m (suc g) (b ∷ s)
        go true e = ends b f s e ∙ sym (ends b g s e)
        go false e = turns b f s e ∙ turn-alike f g (b ∷ s) (λ r h. ih r (omega arith) (omega arith)) ∙ sym (turns b g s e)

    fuel-is-enough : (f g : ℕ) (s : List ℕ) → length s ≤ f → length s ≤ g → until_break m f s ≡ until_break m g s
    fuel-is-enough zero g s l k = none_left zero s l ∙ sym (none_left g s l)
    fuel-is-enough (suc f) zero s l k = none_left (suc f) s k ∙ sym (none_left zero s k)
    fuel-is-enough (suc f) (suc g) s l k = one_more f g (λ r x y. fuel-is-enough f g r x y) s l k

    -- a byte that isn't the break begins a turn
    pub another-turn : (b : ℕ) (s : List ℕ) → eqb b 255 ≡ false → to_break m (b ∷ s) ≡ one_turn (b ∷ s)
    unfolding to_break
    another-turn b s e = turns b (length s) s e ∙ rest (m (b ∷ s)) refl
      where
        rest : (o : Outcome A) → m (b ∷ s) ≡ o
            → after o (λ x. until_break m (length s) >>= λ xs. pure (x ∷ xs)) ≡ after o (λ x. to_break m >>= λ xs. pure (x ∷ xs))
        rest (got a r) h =
            let l : length r < length (b ∷ s) = hungry [] (b ∷ s) a r h in
            ap (λ o. after o (λ xs. pure (a ∷ xs))) (fuel-is-enough (length s) (length r) r (omega arith) (omega arith))
        rest (refused n q) h = refl
