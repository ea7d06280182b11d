-- Document 01, "The box's job": the listing's exact text, and what the small program prints of a file. Every line ends with a newline.
use Rattle.std.specs.Prelude.{ℕ, zero, suc, ◌+◌, ◌/◌, ◌%◌, List, [], ◌∷◌, ◌++◌, cond, ◌&&◌, not, length, get_or, eqb, leb, ltb}
use Rattle.meaning.specs.Check.{Check, pass, refuse}
use Rattle.meaning.specs.Text.{ascii, within}
use Rattle.meaning.specs.Limit.{program_file, program_table}
use Rattle.meaning.specs.Model.{Component, Object, Model}
use Rattle.meaning.specs.Types.{storage_of}
use Rattle.meaning.specs.Frame.{Reading}
use Rattle.meaning.specs.Layouts.{current}
use Rattle.meaning.specs.Rows.{component_count, read_into}

-- decimal digits of a number below 10 ^ (1 + more)
unfoldable pub digits : ℕ → ℕ → List ℕ
digits zero n = (48 + n) ∷ []
digits (suc more) n = let r = digits more (n / 10) ++ (48 + n % 10) ∷ [] in cond (ltb n 10) ((48 + n) ∷ []) r

-- every number here is below 2 ^ 64, so it has at most 20 digits
unfoldable pub decimal : ℕ → List ℕ
decimal = digits 19

unfoldable pub hex : ℕ → ℕ
hex n = get_or (ascii "0123456789abcdef") n 0

-- a byte of a text: printed as itself from 33 to 126 but for the backslash (92), else as a backslash and two hex digits
unfoldable pub shown : ℕ → List ℕ
shown b = cond (within 33 126 b && not (eqb b 92)) (b ∷ []) (92 ∷ hex (b / 16) ∷ hex (b % 16) ∷ [])

unfoldable pub shown_text : List ℕ → List ℕ
shown_text [] = []
shown_text (b ∷ s) = shown b ++ shown_text s

-- words of a line, a blank before each
unfoldable pub blanked : List (List ℕ) → List ℕ
blanked [] = 10 ∷ []
blanked (w ∷ ws) = 32 ∷ w ++ blanked ws

unfoldable pub line : List ℕ → List (List ℕ) → List ℕ
line w ws = w ++ blanked ws

module _ {P : Type 0} where
  unfoldable pub blob_line : Component P → List ℕ
  blob_line c = line (ascii "blob") (shown_text c.name.letters ∷ (storage_of c.dtype).called ∷ decimal c.offset ∷ decimal c.length ∷ [])

  unfoldable pub blob_lines : List (Component P) → List ℕ
  blob_lines [] = []
  blob_lines (c ∷ cs) = blob_line c ++ blob_lines cs

  unfoldable pub object_line : Object P → List ℕ
  object_line o = line (ascii "object") (shown_text o.name.letters ∷ shown_text o.format.letters ∷ [])

  -- blobs follow their object
  unfoldable pub object_lines : List (Object P) → List ℕ
  object_lines [] = []
  object_lines (o ∷ os) = object_line o ++ blob_lines o.components ++ object_lines os

  unfoldable pub listing : Model P → List ℕ
  listing m =
      line (ascii "objects") (decimal (length m.objects) ∷ ascii "components" ∷ decimal (component_count m.objects) ∷ [])
      ++ object_lines m.objects

unfoldable pub listing_of : Check Reading → List ℕ
listing_of (pass r) = listing r.model
listing_of (refuse n o c) = line (ascii "refused") (decimal n ∷ decimal o ∷ decimal c ∷ [])

-- what the small program prints of a file
unfoldable pub printed : List ℕ → List ℕ
printed file =
    let r = listing_of (read_into current file program_table) in
    cond (leb (length file) program_file) r (line (ascii "too") (ascii "long" ∷ []))
