-- What is said of a file is its sentence.
use Prim.Native.Nat.{ℕ, ◌+◌, ◌≤◌}
use mathlib.Core.List.{List}
use mathlib.Core.Path.{◌≡◌, sym, ap, subst}
use lib.ListN.{length}
use Rattle.meaning.specs.Layouts.{layout_of}
use Rattle.explained.specs.Sentence.{said, sentence}
use Rattle.sentence.specs.declared.Explanation.{Explanation}
use Rattle.explaining.specs.Judged as is
use Rattle.explaining.proofs.Inside.{inside-the-file}

module _ (layout : ℕ) (file : List ℕ) (room : ℕ) (e : Explanation) (explained : is.ExplainedIs layout file room e) where
  pub in-range : e.place + e.length ≤ length file
  in-range = subst (λ x. x.place.place + x.place.size ≤ length file) (sym explained) (inside-the-file layout file room)

  pub said-is : said (layout_of layout) file (is.explanation e) ≡ sentence (layout_of layout) file room
  unfolding sentence
  said-is = ap (said (layout_of layout) file) explained
