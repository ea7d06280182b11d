-- Document 02, Req 03, as a table: what a format's rules say of values of a type that isn't listed, of a listed type, and of none.
use Rattle.std.specs.Prelude.{ℕ, List, [], ◌∷◌, Bool}
use Prim.Native.String.{String}
use Rattle.std.proofs.Math.Option.{Option, none, some}
use Rattle.meaning.specs.Check.{Check, pass, refuse}
use Rattle.meaning.specs.Text.{ascii, same}
use Rattle.meaning.specs.Refusal.{ROLE, LENGTH}
use Rattle.meaning.specs.Types.{f32, u64}
use Rattle.meaning.specs.Format.{Part, format_rules}

pub record Ruling : Type 0 where
  pub format : String
  pub shape : List ℕ
  pub parts : List Part
  -- number and component of a refusal, or nothing
  pub answer : List ℕ

abbrev part : String → ℕ → Option (List ℕ) → ℕ → Part
part name code type size = record { called = ascii name; code = code; typed = type; size = size }

-- four bytes to a number
abbrev single : String → Option (List ℕ) → ℕ → Part
single name type size = part name f32 type size

abbrev index : String → ℕ → Part
index name size = part name u64 none size

-- not listed: a new type, an empty text, the name of a storage type
abbrev quad : Option (List ℕ)
quad = some (ascii "quad")

abbrev empty : Option (List ℕ)
empty = some []

abbrev stored : Option (List ℕ)
stored = some (ascii "f32")

-- listed
abbrev complex : Option (List ℕ)
complex = some (ascii "complex64")

abbrev right : List ℕ
right = []

abbrev wrong : ℕ → List ℕ
wrong component = LENGTH ∷ component ∷ []

-- three elements
abbrev dense : Option (List ℕ) → ℕ → List ℕ → Ruling
dense type size answer = record { format = "dense"; shape = 3 ∷ []; parts = single "data" type size ∷ []; answer = answer }

-- two rows
abbrev csr : Option (List ℕ) → ℕ → ℕ → ℕ → List ℕ → Ruling
csr type values indices indptr answer = record {
  format = "sparse_csr";
  shape = 2 ∷ 5 ∷ [];
  parts = single "values" type values ∷ index "indices" indices ∷ index "indptr" indptr ∷ [];
  answer = answer;
}

abbrev coo : List ℕ → Option (List ℕ) → ℕ → ℕ → List ℕ → Ruling
coo shape type values coords answer = record { format = "sparse_coo"; shape = shape; parts = index "coords" coords ∷ single "values" type values ∷ []; answer = answer }

abbrev pub rulings : List Ruling
rulings =
    -- lengths 0, width, 4 × width × product, one byte off
    dense quad 0 right ∷ dense quad 4 right ∷ dense quad 48 right ∷ dense quad 49 (wrong 0) ∷ dense quad 47 (wrong 0)
    ∷ dense empty 8 right ∷ dense stored 8 right ∷ dense empty 9 (wrong 0)
    -- no type, and a listed one, keep their rule
    ∷ dense none 12 right ∷ dense none 16 (wrong 0) ∷ dense complex 24 right ∷ dense complex 48 (wrong 0)
    -- values and indices whole, indptr as ever
    ∷ csr quad 0 0 24 right ∷ csr quad 4 8 24 right ∷ csr quad 96 8 24 right ∷ csr quad 4 40 24 right
    ∷ csr quad 5 8 24 (wrong 0) ∷ csr quad 4 12 24 (wrong 1) ∷ csr quad 4 8 16 (wrong 2)
    ∷ csr none 8 16 24 right ∷ csr none 8 8 24 (wrong 1) ∷ csr complex 16 16 24 right ∷ csr complex 12 8 24 (wrong 0)
    -- coords, of rank 0 too
    ∷ coo [] quad 4 0 right ∷ coo [] quad 4 8 right ∷ coo [] quad 4 12 (wrong 0) ∷ coo [] quad 6 8 (wrong 1)
    ∷ coo (7 ∷ 7 ∷ []) quad 4 8 right ∷ coo (7 ∷ 7 ∷ []) quad 4 9 (wrong 0)
    ∷ coo [] none 4 0 right ∷ coo [] none 4 8 (wrong 0) ∷ coo (7 ∷ 7 ∷ []) none 4 16 right ∷ coo (7 ∷ 7 ∷ []) complex 8 16 right ∷ coo (7 ∷ 7 ∷ []) complex 8 8 (wrong 0)
    -- an index role has no type
    ∷ record { format = "sparse_coo"; shape = []; parts = part "coords" u64 quad 8 ∷ single "values" quad 4 ∷ []; answer = ROLE ∷ 0 ∷ [] }
    ∷ []

abbrev told : Check (Unit {0}) → List ℕ
told (pass u) = []
told (refuse n o c) = n ∷ c ∷ []

abbrev pub ruled : Ruling → Bool
ruled r = same (told (format_rules (ascii r.format) r.shape r.parts)) r.answer
