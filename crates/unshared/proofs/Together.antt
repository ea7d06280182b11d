-- Two lists of distinct texts, one after the other, are distinct exactly if none of the second is one of the first.
use Prim.Native.Nat.{ℕ}
use mathlib.Core.List.{List, [], ◌∷◌, ◌++◌}
use mathlib.Core.Bool.{Bool, true, false, cond}
use mathlib.Core.Path.{◌≡◌, refl, sym, ap, ap₂, ◌∙◌}
use Rattle.meaning.specs.Text.{same, one_of, distinct}
use Rattle.meaning.proofs.Tests.{false-not}
use Rattle.meaning.proofs.SameText.{same-turned}
use Rattle.unshared.specs.Unshared.{none_of}

-- taken from the first's side
none-of-more : (x : List ℕ) (xs ys : List (List ℕ)) → none_of (x ∷ xs) ys ≡ cond (one_of ys x) false (none_of xs ys)
none-of-more x xs [] = refl
none-of-more x xs (y ∷ ys) =
    ap (λ (b : Bool). cond (cond b true (one_of xs y)) false (none_of (x ∷ xs) ys)) (same-turned x y)
    ∙ ap (λ (b : Bool). cond (cond (same y x) true (one_of xs y)) false b) (none-of-more x xs ys) ∙ go (same y x) (one_of xs y) (one_of ys x) (none_of xs ys)
  where
    go : (s o p n : Bool) → cond (cond s true o) false (cond p false n) ≡ cond (cond s true p) false (cond o false n)
    go true o p n = refl
    go false true true n = refl
    go false true false n = refl
    go false false p n = refl

one-of-both : (xs ys : List (List ℕ)) (w : List ℕ) → one_of (xs ++ ys) w ≡ cond (one_of xs w) true (one_of ys w)
one-of-both [] ys w = refl
one-of-both (x ∷ xs) ys w = ap (λ (b : Bool). cond (same x w) true b) (one-of-both xs ys w) ∙ go (same x w) (one_of xs w)
  where
    go : (s o : Bool) → cond s true (cond o true (one_of ys w)) ≡ cond (cond s true o) true (one_of ys w)
    go true o = refl
    go false o = refl

pub distinct-together : (xs ys : List (List ℕ)) → distinct xs ≡ true → distinct ys ≡ true → distinct (xs ++ ys) ≡ none_of xs ys
distinct-together [] ys h k = k ∙ sym (all_apart ys)
  where
    all_apart : (ys : List (List ℕ)) → none_of [] ys ≡ true
    all_apart [] = refl
    all_apart (y ∷ ys) = all_apart ys
distinct-together (x ∷ xs) ys h k =
    go (one_of xs x) refl h (λ g. distinct-together xs ys g k)
  where
    go : (o : Bool) → one_of xs x ≡ o → cond o false (distinct xs) ≡ true → (distinct xs ≡ true → distinct (xs ++ ys) ≡ none_of xs ys) → distinct (x ∷ xs ++ ys) ≡ none_of (x ∷ xs) ys
    go true e h f = absurd (false-not h)
    go false e h f =
        ap₂ (λ (a b : Bool). cond a false b) (one-of-both xs ys x ∙ ap (λ (b : Bool). cond b true (one_of ys x)) e) (f h) ∙ sym (none-of-more x xs ys)
