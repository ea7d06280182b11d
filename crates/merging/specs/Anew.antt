-- Document 02, Request 13: a file read and written anew, and the empty file.
use Rattle.std.specs.Prelude.{ℕ, List, [], ◌∷◌, ◌++◌}
use Rattle.std.proofs.Math.Option.{none}
use Rattle.meaning.specs.Text.{ascii}
use Rattle.meaning.specs.Check.{Check, ◌>>=◌}
use Rattle.meaning.specs.Layouts.{Layout}
use Rattle.meaning.specs.Frame.{reading}
use Rattle.meaning.specs.Described.{Described}
use Rattle.roundtrip.specs.Again.{rewritten}

-- a file of layout L read, and the rows of that reading written with the file as their buffer; R is what the table holds beyond them
unfoldable pub anew : Layout → List ℕ → List ℕ → ℕ → Check (List ℕ)
anew L file R room = reading L file >>= λ r. rewritten file r.model R room

-- describes nothing
unfoldable pub nothing : Described
nothing = record { attributes = none; objects = [] }

-- 48 bytes
abbrev pub empty_file : List ℕ
empty_file =
    ascii "ZTEN1000" ++ 0xa2 ∷ 0x67 ∷ ascii "version" ++ 0x65 ∷ ascii "1.2.0" ++ 0x67 ∷ ascii "objects" ++ 0xa0
    ∷ 0x18 ∷ 0x00 ∷ 0x00 ∷ 0x00 ∷ 0x00 ∷ 0x00 ∷ 0x00 ∷ 0x00 ∷ ascii "ZTEN1000"
