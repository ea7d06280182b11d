-- A run of parts that is refused: some are read, and then one is refused, or the bytes ended. What a map, an array, a tag or an indefinite string is refused for is such a run.
use Prim.Native.Nat.{ℕ, zero, suc, ◌≤◌}
use native.Mathlib.Omega.{arith}
use mathlib.Core.List.{List, [], ◌∷◌}
use mathlib.Core.Bool.{Bool, true, false, cond}
use mathlib.Core.Path.{◌≡◌, refl, sym, ◌∙◌, subst}
use lib.ListN.{length}
use lib.Dec.{eqb}
use Rattle.meaning.specs.Tree.{Node}
use Rattle.meaning.specs.Read as read
use Rattle.meaning.specs.Read.{Outcome, got, refused, Reader, after, ◌>>=◌, times, until_break, to_break, pair}
use Rattle.meaning.proofs.ReadPrefix.{still, Hungry}

pub differ : {A : Type 0} {C : Type 0} {a : A} {r : List ℕ} {n : ℕ} {q : List ℕ} → got a r ≡ refused n q → C
differ e = absurd (let z : ◌≡◌ {A = ℕ} 0 1 = cc in omega arith)

pub same_left : {A : Type 0} {n c : ℕ} {q p : List ℕ} → ◌≡◌ {A = Outcome A} (refused n q) (refused c p) → q ≡ p
same_left e = cc

module _ {A B : Type 0} {C : Type 0} where
  -- a reading of two parts is refused in the first, or in the second
  pub bind-refused : (o : Outcome A) (k : A → Reader B) {n : ℕ} {q : List ℕ} → after o k ≡ refused n q → (o ≡ refused n q → C) → ((a : A) (r : List ℕ) → o ≡ got a r → k a r ≡ refused n q → C) → C
  bind-refused (got a r) k e f g = g a r refl e
  bind-refused (refused c p) k e f g = f cc

  pub bind-got : (o : Outcome A) (k : A → Reader B) {b : B} {q : List ℕ} → after o k ≡ got b q → ((a : A) (r : List ℕ) → o ≡ got a r → k a r ≡ got b q → C) → C
  bind-got (got a r) k e g = g a r refl e
  bind-got (refused c p) k e g = differ (sym e)

pub data Stuck {A : Type 0} (m : Reader A) (q : List ℕ) : List ℕ → Type 0 where
  here : {n : ℕ} {u : List ℕ} → m u ≡ refused n q → Stuck m q u
  next : {a : A} {u r : List ℕ} → m u ≡ got a r → Stuck m q r → Stuck m q u
  ended : q ≡ [] → Stuck m q []

module _ {A : Type 0} (m : Reader A) where
  pub times-stuck : (n : ℕ) (u : List ℕ) {c : ℕ} {q : List ℕ} → times m n u ≡ refused c q → Stuck m q u
  unfolding times
  times-stuck zero u e = differ e
  times-stuck (suc n) u e =
      bind-refused (m u) _ e here λ a r h f. next h (bind-refused (times m n r) _ f (times-stuck n r) λ xs p g z. differ z)

  pub until-stuck : Hungry (still m) → (fuel : ℕ) (u : List ℕ) → length u ≤ fuel → {c : ℕ} {q : List ℕ} → until_break m fuel u ≡ refused c q → Stuck m q u
  unfolding until_break read.stop
  until-stuck h zero [] l e = ended (sym (same_left e))
  until-stuck h zero (b ∷ u) l e = absurd (omega arith)
  until-stuck h (suc fuel) [] l e = ended (sym (same_left e))
  until-stuck h (suc fuel) (b ∷ u) l {c} {q} e = go (eqb b 255) e (λ r k. until-stuck h fuel r k)
    where
      go : (x : Bool)
          → after (cond x (got true u) (got false (b ∷ u))) (λ done. cond done (read.pure []) (m >>= λ y. until_break m fuel >>= λ ys. read.pure (y ∷ ys))) ≡ refused c q
          → ((r : List ℕ) → length r ≤ fuel → until_break m fuel r ≡ refused c q → Stuck m q r) → Stuck m q (b ∷ u)
      go true e f = differ e
      go false e ih =
          bind-refused (m (b ∷ u)) _ e here λ a r g f.
          next g (bind-refused (until_break m fuel r) _ f (ih r (let k = h [] (b ∷ u) a r g in omega (arith, k, l))) λ xs p i z. differ z)

  pub break-stuck : Hungry (still m) → (u : List ℕ) {c : ℕ} {q : List ℕ} → to_break m u ≡ refused c q → Stuck m q u
  unfolding to_break
  break-stuck h u = until-stuck h (length u) u (omega arith)

  -- ---------------------------------------------------------------- what is left, turn by turn

  pub stuck-refused : {u q : List ℕ} {n : ℕ} {p : List ℕ} → m u ≡ refused n p → (u ≡ [] → p ≡ []) → Stuck m q u → q ≡ p
  stuck-refused e z (here f) = same_left (sym f ∙ e)
  stuck-refused e z (next f h) = differ (sym f ∙ e)
  stuck-refused e z (ended f) = f ∙ sym (z refl)

  pub stuck-got : {u q r : List ℕ} {a : A} → m u ≡ got a r → 1 ≤ length u → Stuck m q u → Stuck m q r
  stuck-got e l (here f) = differ (sym e ∙ f)
  stuck-got {q = q} e l (next f h) = let k = sym f ∙ e in subst (Stuck m q) (let z : _ ≡ _ = cc in z) h
  stuck-got e l (ended f) = absurd (omega arith)

module _ {P : Type 0} (note : List ℕ → List ℕ → P) (it : Reader (Node P)) where
  pub unpair : {q u : List ℕ} → Stuck (pair note it) q u → Stuck it q u
  unfolding pair
  unpair (here {u = u} e) = bind-refused (it u) _ e here λ k r f g. next f (bind-refused (it r) _ g here λ v p i z. differ z)
  unpair (next {u = u} e h) = bind-got (it u) _ e λ k r f g. next f (bind-got (it r) _ g λ v p i z. next i (let y = same_rest z in subst (Stuck it _) (sym y) (unpair h)))
    where
      same_rest : {A : Type 0} {a b : A} {r s : List ℕ} → got a r ≡ got b s → r ≡ s
      same_rest e = cc
  unpair (ended e) = ended e
