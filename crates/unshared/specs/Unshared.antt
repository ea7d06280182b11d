-- Two lists of texts that share none.
use Rattle.std.specs.Prelude.{ℕ, List, [], ◌∷◌, Bool, true, false, cond}
use Rattle.meaning.specs.Text.{one_of}

-- none of ys is one of xs
abbrev pub none_of : List (List ℕ) → List (List ℕ) → Bool
none_of xs [] = true
none_of xs (y ∷ ys) = cond (one_of xs y) false (none_of xs ys)
