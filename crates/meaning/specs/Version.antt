-- Document 01, "Manifest fields": two or three runs of 1 to 9 digits joined by dots; no run has a leading zero unless it is "0".
use Rattle.std.specs.Prelude.{ℕ, List, [], ◌∷◌, Bool, true, false, ◌&&◌, ◌||◌, not, length, eqb, leb}
use Rattle.meaning.specs.Text.{all, same, ascii, within}

-- the runs between dots
unfoldable pub push : ℕ → List (List ℕ) → List (List ℕ)
push b [] = (b ∷ []) ∷ []
push b (r ∷ rs) = (b ∷ r) ∷ rs

unfoldable pub runs : List ℕ → List (List ℕ)
runs [] = [] ∷ []
runs (b ∷ s) = elim (eqb b 46) [ true ↦ [] ∷ runs s | false ↦ push b (runs s) ]

unfoldable pub digit : ℕ → Bool
digit b = within 48 57 b

unfoldable pub plain_run : List ℕ → Bool
plain_run [] = false
plain_run (b ∷ s) = leb (length s) 8 && all digit (b ∷ s) && (not (eqb b 48) || same s [])

unfoldable pub version_shape : List ℕ → Bool
version_shape v = within 2 3 (length (runs v)) && all plain_run (runs v)

unfoldable pub first_is_one : List (List ℕ) → Bool
first_is_one [] = false
first_is_one (r ∷ rs) = same r (ascii "1")

-- of a version of that shape: is its major 1?
unfoldable pub major_one : List ℕ → Bool
major_one v = first_is_one (runs v)
