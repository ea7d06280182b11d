-- Small descriptions and rows, for merges that are computed.
use Rattle.std.specs.Prelude.{ℕ, List, [], ◌∷◌, ◌++◌, replicate}
use Prim.Native.String.{String}
use Rattle.std.proofs.Math.Option.{Option, none, some}
use Rattle.meaning.specs.Text.{ascii}
use Rattle.meaning.specs.Read.{Span}
use Rattle.meaning.specs.Described.{Described}

-- one dense object of two elements of this dtype, and root attributes
abbrev pub one : String → Option (List ℕ) → ℕ → List ℕ → Described
one name attributes dtype blob = record {
  attributes = attributes;
  objects = record {
    name = ascii name;
    shape = 2 ∷ [];
    format = ascii "dense";
    attributes = none;
    components = record { name = ascii "data"; dtype = dtype; type = none; digest = none; blob = blob } ∷ [];
  } ∷ [];
}

-- without attributes, with attributes that are there but empty, and with others
abbrev pub say_v : Described
say_v = one "v" none 11 (1 ∷ 2 ∷ [])

abbrev pub say_w : Described
say_w = one "w" (some (0xa0 ∷ [])) 11 (3 ∷ 4 ∷ [])

abbrev pub say_x : Described
say_x = one "x" (some (0xa1 ∷ 0x61 ∷ 0x6b ∷ 0x01 ∷ [])) 11 (5 ∷ 6 ∷ [])

-- what document 001's dense example in small says
abbrev pub say_old : Described
say_old = one "e" none 1 (replicate 8 0)

-- attributes and no object
abbrev pub say_no_object : Described
say_no_object = record { attributes = some (0xa0 ∷ []); objects = [] }

-- rows that ask for the first of them, with a buffer of its name, format, role and blob
abbrev pub buffer : List ℕ
buffer = ascii "vdensedata" ++ 1 ∷ 2 ∷ []

abbrev pub some_rows : List ℕ
some_rows = 0 ∷ 1 ∷ 1 ∷ 2 ∷ 0 ∷ 0 ∷ 0 ∷ 0 ∷ 0 ∷ 0 ∷ 0 ∷ 1 ∷ 5 ∷ 0 ∷ 0 ∷ 1 ∷ 6 ∷ 4 ∷ 11 ∷ 0 ∷ 0 ∷ 10 ∷ 2 ∷ 0 ∷ 0 ∷ 0 ∷ 0 ∷ 0 ∷ []

abbrev pub no_span : Span
no_span = record { place = 0; size = 0 }
