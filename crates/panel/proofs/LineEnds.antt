-- The end of a component's line: what is found, in words.
use Prim.Native.Nat.{ℕ}
use mathlib.Core.List.{List, [], ◌∷◌, ◌++◌}
use mathlib.Core.Bool.{Bool, true, false}
use mathlib.Core.Path.{◌≡◌, refl, ap, ◌∙◌}
use borrow.Author.Tests.{ne_eqb}
use Rattle.meaning.specs.Text.{ascii}
use Rattle.meaning.specs.Listing.{blanked}
use Rattle.finding.specs.Table.{at_row}
use Rattle.finding.specs.declared.Shown.{Shown}
use Rattle.panel.specs.Summary.{span_words, nan_words, words, more}

module _ (f : Shown) where
  empty-is : f.finding ≡ 1 → ascii " empty" ++ (10 ∷ []) ≡ blanked (words f)
  unfolding words blanked
  empty-is h = rw h refl

  only-is : f.finding ≡ 2 → blanked (nan_words f.nans) ≡ blanked (words f)
  unfolding words
  only-is h = rw h refl

  span-is : f.finding ≡ 3 → blanked (span_words f.smallest f.largest f.nans) ≡ blanked (words f)
  unfolding words
  span-is h = rw h refl

  none_is : (f.finding ≡ 1 → ⊥) → (f.finding ≡ 2 → ⊥) → (f.finding ≡ 3 → ⊥) → 10 ∷ [] ≡ blanked (words f)
  unfolding words blanked
  none_is a b c = rw (ne_eqb f.finding 1 a, ne_eqb f.finding 2 b, ne_eqb f.finding 3 c) refl

module _ (file table : List ℕ) (row : ℕ) {f : Shown} (e : f ≡ at_row file table row) where
  found : blanked (words f) ≡ blanked (words (at_row file table row))
  found = ap (λ (g : Shown). blanked (words g)) e

  pub empty : f.finding ≡ 1 → ascii " empty" ++ (10 ∷ []) ≡ blanked (words (at_row file table row))
  empty h = empty-is f h ∙ found

  pub only : f.finding ≡ 2 → blanked (nan_words f.nans) ≡ blanked (words (at_row file table row))
  only h = only-is f h ∙ found

  pub spans : f.finding ≡ 3 → blanked (span_words f.smallest f.largest f.nans) ≡ blanked (words (at_row file table row))
  spans h = span-is f h ∙ found

  pub none : (f.finding ≡ 1 → ⊥) → (f.finding ≡ 2 → ⊥) → (f.finding ≡ 3 → ⊥) → 10 ∷ [] ≡ blanked (words (at_row file table row))
  none a b c = none_is f a b c ∙ found

module _ (file table : List ℕ) (row : ℕ) (summary : Bool) where
  pub with-found : summary ≡ true → blanked (words (at_row file table row)) ≡ blanked (more summary file table row)
  with-found e = rw e refl

  pub without : summary ≡ false → 10 ∷ [] ≡ blanked (more summary file table row)
  unfolding blanked
  without e = rw e refl
