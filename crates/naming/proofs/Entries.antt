-- A check of each entry in turn, entry by entry: one more at the end; and of the entries of a map whose names pass.
use Prim.Native.Nat.{ℕ, suc, ◌+◌}
use native.Mathlib.Omega.{arith}
use mathlib.Core.List.{List, [], ◌∷◌, ◌++◌, map}
use mathlib.Core.Path.{◌≡◌, refl, ◌∙◌}
use lib.ListN.{length}
use Rattle.meaning.specs.Tree.{Node, Pair}
use Rattle.meaning.specs.Check.{Check, pass, refuse, ◌>>=◌, each}
use Rattle.meaning.specs.Model.{Named}
use Rattle.meaning.specs.Field.{names}
use Rattle.walk.specs.Reading.{Ends}
use Rattle.naming.specs.NotedNames.{named_anyway, told}
use Rattle.std.specs.Prelude.{Ok}

module _ {A B : Type 0} (f : ℕ → A → Check B) where
  pub each_snoc : (i : ℕ) (l : List A) (a : A) → each f i (l ++ a ∷ []) ≡ (each f i l >>= λ bs. f (i + length l) a >>= λ b. pass (bs ++ b ∷ []))
  each_snoc i [] a = let z : i + 0 ≡ i = omega arith in rw z (go (f i a))
    where
      go : (c : Check B) → (c >>= λ b. pass [] >>= λ bs. pass (b ∷ bs)) ≡ (c >>= λ b. pass ([] ++ b ∷ []))
      go (pass b) = refl
      go (refuse n o c) = refl
  each_snoc i (x ∷ l) a = let z : i + suc (length l) ≡ suc i + length l = omega arith in rw (z, each_snoc (suc i) l a) (go (f i x) (each f (suc i) l) (f (suc i + length l) a))
    where
      go : (c : Check B) (d : Check (List B)) (e : Check B)
          → (c >>= λ b. (d >>= λ bs. e >>= λ y. pass (bs ++ y ∷ [])) >>= λ bs. pass (b ∷ bs)) ≡ ((c >>= λ b. d >>= λ bs. pass (b ∷ bs)) >>= λ bs. e >>= λ y. pass (bs ++ y ∷ []))
      go (refuse n o c) d e = refl
      go (pass b) (refuse n o c) e = refl
      go (pass b) (pass bs) (refuse n o c) = refl
      go (pass b) (pass bs) (pass y) = refl

pub each-of-map : {A B C : Type 0} (f : ℕ → B → Check C) (u : A → B) (i : ℕ) (l : List A) → each f i (map u l) ≡ each (λ i a. f i (u a)) i l
each-of-map f u i [] = refl
each-of-map f u i (a ∷ l) = rw (each-of-map f u (suc i) l) refl

-- a check of each entry of a map in turn
module _ {B : Type 0} (f : ℕ → Named Ends → Check B) (done : List (Pair Ends)) where
  abbrev pub Entries : Check (List B)
  Entries = each (λ i p. f i (named_anyway p)) 0 done

  pub one_more : (p : Pair Ends) → each (λ i p. f i (named_anyway p)) 0 (done ++ p ∷ []) ≡ (Entries >>= λ bs. f (length done) (named_anyway p) >>= λ b. pass (bs ++ b ∷ []))
  one_more p = let z : 0 + length done ≡ length done = omega arith in each_snoc (λ i p. f i (named_anyway p)) 0 done p ∙ (rw z refl)

  -- whose names pass
  pub names-pass : (limit : ℕ) (x : Node Ends) → names limit x ≡ told done (Ok tt) → (names limit x >>= each f 0) ≡ Entries
  names-pass limit x h = rw h (each-of-map f named_anyway 0 done)
