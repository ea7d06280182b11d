-- What the program writes beside a file's listing: the line of its path where there are several, with the listing's escapes. And what it lends for each text.
use Rattle.std.specs.Prelude.{ℕ, ◌≤◌, List, [], ◌∷◌, ◌++◌, ◌≡◌, length, take}
use Rattle.meaning.specs.Listing.{shown_text}

-- a path, a colon, a newline
unfoldable pub heading : List ℕ → List ℕ
heading path = shown_text path ++ 58 ∷ 10 ∷ []

-- bytes of the longest path, of its line, and of the longest listing
abbrev pub lent_path : ℕ
lent_path = 4_096

abbrev pub lent_heading : ℕ
lent_heading = 12_290

abbrev pub lent_text : ℕ
lent_text = 262_144

-- `&text[..n]` is inside, and has n bytes
abbrev pub IsPrefixLen : ℕ → List ℕ → Type 0
IsPrefixLen n text = (n ≤ length text) × (n ≡ length (take n text))

-- the first n bytes of a text are these
pub record Holds (bs text : List ℕ) (n : ℕ) : Type 0 where
  pub count : n ≡ length bs
  pub bytes : take n text ≡ bs
