-- Request 01 of document 02: the panel's text. The listing, with what is found in a component at the end of its line, and a last line for the file's bytes.
use Rattle.std.specs.Prelude.{ℕ, ◌%◌, List, [], ◌∷◌, ◌++◌, Bool, true, false, cond, eqb}
use Rattle.meaning.specs.Check.{Check, pass, ◌>>◌, ◌unless◌}
use Rattle.meaning.specs.Refusal.{INDEX}
use Rattle.meaning.specs.Text.{ascii}
use Rattle.meaning.specs.Listing.{line, decimal}
use Rattle.finding.specs.Table.{at_row}
use Rattle.finding.specs.declared.Shown.{Shown}
use Rattle.decimal.specs.Text as float
use Rattle.panel.specs.Lines.{sound, text, plain}

-- a pattern has 32 bits
unfoldable pub blank_float : ℕ → List ℕ
blank_float bits = 32 ∷ float.text (bits % 4294967296)

unfoldable pub nan_words : ℕ → List (List ℕ)
nan_words nans = ascii "nan" ∷ decimal nans ∷ []

unfoldable pub span_words : ℕ → ℕ → ℕ → List (List ℕ)
span_words smallest largest nans =
    ascii "min" ∷ float.text (smallest % 4294967296) ∷ ascii "max" ∷ float.text (largest % 4294967296) ∷ ascii "nan" ∷ decimal nans ∷ []

unfoldable pub words : Shown → List (List ℕ)
words f =
    cond (eqb f.finding 1) (ascii "empty" ∷ [])
    (cond (eqb f.finding 2) (nan_words f.nans) (cond (eqb f.finding 3) (span_words f.smallest f.largest f.nans) []))

-- a summary's lines say what is found, a listing's don't
abbrev pub more : Bool → List ℕ → List ℕ → ℕ → List (List ℕ)
more true file table row = words (at_row file table row)
more false file table row = plain row

unfoldable pub bytes_line : ℕ → ℕ → ℕ → ℕ → List ℕ
bytes_line frame manifest inside between =
    line (ascii "bytes") (ascii "frame" ∷ decimal frame ∷ ascii "manifest" ∷ decimal manifest ∷ ascii "inside" ∷ decimal inside ∷ ascii "between" ∷ decimal between ∷ [])

unfoldable pub summary_text : List ℕ → List ℕ → ℕ → ℕ → List ℕ → List ℕ
summary_text file table objects components last = text file table (more true file table) objects components ++ last

unfoldable pub summarised : List ℕ → List ℕ → ℕ → ℕ → List ℕ → Check (List ℕ)
summarised file table objects components last = do
  INDEX unless sound file table objects components
  pass (summary_text file table objects components last)
