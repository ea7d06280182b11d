-- What stands in a list, and what is sought by name in a list without repeats.
use Prim.Native.Nat.{ℕ, zero, suc}
use mathlib.Core.List.{List, [], ◌∷◌, ◌++◌, map}
use mathlib.Core.Bool.{Bool, true, false, cond, ◌||◌}
use mathlib.Core.Option.{Option, none, some, some-injective, none-ne-some}
use mathlib.Core.Logic.{◌⊎◌, inl, inr}
use mathlib.Core.Path.{◌≡◌, refl, sym, ap, ap₂, ◌∙◌, subst}
use lib.ListN.{get_elem?}
use Rattle.meaning.specs.Text.{same, one_of, distinct}
use Rattle.meaning.proofs.Tests.{not-both}
use Rattle.meaning.proofs.SameText.{same-eq}
use Rattle.text.proofs.SameIsEqual.{eq-same}
use Rattle.changes.specs.Changes.{Found, later, seek, any, across}
use Rattle.changes.specs.Differs.{In, Lacks}

module _ {A : Type 0} where
  pub in_left : (e : A) (l m : List A) → In e l → In e (l ++ m)
  in_left e [] m h = absurd h
  in_left e (x ∷ l) m (inl h) = inl h
  in_left e (x ∷ l) m (inr h) = inr (in_left e l m h)

  pub in_right : (e : A) (l m : List A) → In e m → In e (l ++ m)
  in_right e [] m h = h
  in_right e (x ∷ l) m h = inr (in_right e l m h)

  pub in_either : (e : A) (l m : List A) → In e (l ++ m) → In e l ⊎ In e m
  in_either e [] m h = inr h
  in_either e (x ∷ l) m (inl h) = inl (inl h)
  in_either e (x ∷ l) m (inr h) = go (in_either e l m h)
    where
      go : In e l ⊎ In e m → In e (x ∷ l) ⊎ In e m
      go (inl u) = inl (inr u)
      go (inr u) = inr u

  pub nothing-in : (l : List A) → ((e : A) → In e l → ⊥) → l ≡ []
  nothing-in [] h = refl
  nothing-in (x ∷ l) h = absurd (h x (inl refl))

  -- tests over a list
  pub any-true : (t : A → Bool) (l : List A) → any t l ≡ true → (i : ℕ) × (a : A) × (get_elem? l i ≡ some a) × (t a ≡ true)
  any-true t [] h = absurd (not-both h refl)
  any-true t (x ∷ l) h = go (t x) refl h (any-true t l)
    where
      go : (b : Bool) → t x ≡ b → (b || any t l) ≡ true → (any t l ≡ true → (i : ℕ) × (a : A) × (get_elem? l i ≡ some a) × (t a ≡ true)) → (i : ℕ) × (a : A) × (get_elem? (x ∷ l) i ≡ some a) × (t a ≡ true)
      go true e g ih = (0, x, refl, e)
      go false e g ih = let r = ih g in (suc r.0, r.1, r.2, r.3)

  pub any_at : (t : A → Bool) (l : List A) (i : ℕ) (a : A) → get_elem? l i ≡ some a → t a ≡ true → any t l ≡ true
  any_at t [] i a h e = absurd (none-ne-some a h)
  any_at t (x ∷ l) zero a h e = rw (some-injective x a h, e)
  any_at t (x ∷ l) (suc i) a h e = go (t x) (any_at t l i a h e)
    where
      go : (b : Bool) → any t l ≡ true → (b || any t l) ≡ true
      go true g = refl
      go false g = g

module _ {A B : Type 0} where
  pub in-across : (f : ℕ → A → List B) (l : List A) (i : ℕ) (a : A) → get_elem? l i ≡ some a → (e : B) → In e (f i a) → In e (across f l)
  in-across f [] i a h e m = absurd (none-ne-some a h)
  in-across f (x ∷ l) zero a h e m = in_left e (f 0 x) (across (λ i. f (suc i)) l) (subst (λ u. In e (f 0 u)) (sym (some-injective x a h)) m)
  in-across f (x ∷ l) (suc i) a h e m = in_right e (f 0 x) (across (λ i. f (suc i)) l) (in-across (λ i. f (suc i)) l i a h e m)

  pub of-across : (f : ℕ → A → List B) (l : List A) (e : B) → In e (across f l) → (i : ℕ) × (a : A) × (get_elem? l i ≡ some a) × In e (f i a)
  of-across f [] e m = absurd m
  of-across f (x ∷ l) e m = go (in_either e (f 0 x) (across (λ i. f (suc i)) l) m) (of-across (λ i. f (suc i)) l e)
    where
      go : In e (f 0 x) ⊎ In e (across (λ i. f (suc i)) l) → (In e (across (λ i. f (suc i)) l) → (i : ℕ) × (a : A) × (get_elem? l i ≡ some a) × In e (f (suc i) a)) → (i : ℕ) × (a : A) × (get_elem? (x ∷ l) i ≡ some a) × In e (f i a)
      go (inl u) ih = (0, x, refl, u)
      go (inr u) ih = let r = ih u in (suc r.0, r.1, r.2, r.3)

-- ---------------------------------------------------------------- names

cond-false : (t d : Bool) → cond t false d ≡ true → (t ≡ false) × (d ≡ true)
cond-false true d h = absurd (not-both h refl)
cond-false false d h = (refl, h)

module _ {A : Type 0} (called : A → List ℕ) where
  pub data Seeking (l : List A) (n : List ℕ) : Option (Found A) → Type 0 where
    somewhere : (f : Found A) → get_elem? l f.index ≡ some f.it → called f.it ≡ n → Seeking l n (some f)
    nowhere : Lacks called l n → Seeking l n none

  lacks-more : (x : A) (l : List A) (n : List ℕ) → same (called x) n ≡ false → Lacks called l n → Lacks called (x ∷ l) n
  lacks-more x l n e h zero a g q = not-both (eq-same (called x) n (ap called (some-injective x a g) ∙ q)) e
  lacks-more x l n e h (suc k) a g q = h k a g q

  pub seeking : (l : List A) (n : List ℕ) → Seeking l n (seek called n l)
  seeking [] n = nowhere (λ k a h e. none-ne-some a h)
  seeking (x ∷ l) n = go (same (called x) n) refl (seek called n l) (seeking l n)
    where
      go : (t : Bool) → same (called x) n ≡ t → (r : Option (Found A)) → Seeking l n r → Seeking (x ∷ l) n (cond t (some (record { index = 0; it = x })) (later r))
      go true e r s = somewhere (record { index = 0; it = x }) refl (same-eq (called x) n e)
      go false e r (somewhere f at is) = somewhere (record { index = suc f.index; it = f.it }) at is
      go false e r (nowhere h) = nowhere (lacks-more x l n e h)

  one_of-at : (l : List A) (n : List ℕ) (j : ℕ) (b : A) → get_elem? l j ≡ some b → called b ≡ n → one_of (map called l) n ≡ true
  one_of-at [] n j b h e = absurd (none-ne-some b h)
  one_of-at (x ∷ l) n zero b h e = rw (eq-same (called x) n (ap called (some-injective x b h) ∙ e))
  one_of-at (x ∷ l) n (suc j) b h e = go (same (called x) n) (one_of-at l n j b h e)
    where
      go : (t : Bool) → one_of (map called l) n ≡ true → cond t true (one_of (map called l) n) ≡ true
      go true g = refl
      go false g = g

  pub unique : (l : List A) → distinct (map called l) ≡ true → (i j : ℕ) (a b : A) → get_elem? l i ≡ some a → get_elem? l j ≡ some b → called a ≡ called b → (i ≡ j) × (a ≡ b)
  unique [] d i j a b h g e = absurd (none-ne-some a h)
  unique (x ∷ l) d zero zero a b h g e = (refl, sym (some-injective x a h) ∙ some-injective x b g)
  unique (x ∷ l) d zero (suc j) a b h g e =
      absurd (not-both (one_of-at l (called x) j b g (sym e ∙ ap called (sym (some-injective x a h)))) (cond-false (one_of (map called l) (called x)) (distinct (map called l)) d).0)
  unique (x ∷ l) d (suc i) zero a b h g e =
      absurd (not-both (one_of-at l (called x) i a h (e ∙ ap called (sym (some-injective x b g)))) (cond-false (one_of (map called l) (called x)) (distinct (map called l)) d).0)
  unique (x ∷ l) d (suc i) (suc j) a b h g e =
      let r = unique l (cond-false (one_of (map called l) (called x)) (distinct (map called l)) d).1 i j a b h g e in (ap suc r.0, r.1)

  pub seek-at : (l : List A) → distinct (map called l) ≡ true → (n : List ℕ) (j : ℕ) (p : A) → get_elem? l j ≡ some p → called p ≡ n
      → seek called n l ≡ some (record { index = j; it = p })
  seek-at l d n j p h e = go (seek called n l) (seeking l n)
    where
      go : (r : Option (Found A)) → Seeking l n r → r ≡ some (record { index = j; it = p })
      go r (nowhere g) = absurd (g j p h e)
      go r (somewhere f at is) = let u = unique l d f.index j f.it p at h (is ∙ sym e)
          in ap₂ {C = Option (Found A)} (λ i a. some (record { index = i; it = a })) u.0 u.1

  pub seek-lacks : (l : List A) (n : List ℕ) → Lacks called l n → seek called n l ≡ none
  seek-lacks l n h = go (seek called n l) (seeking l n)
    where
      go : (r : Option (Found A)) → Seeking l n r → r ≡ none
      go r (nowhere g) = refl
      go r (somewhere f at is) = absurd (h f.index f.it at is)
