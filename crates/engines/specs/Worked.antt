-- A worked example: a table of 40 numbers, and files that need 28 (one of each layout) and none.
use Rattle.std.specs.Prelude.{ℕ, List, [], ◌∷◌, ◌++◌, Bool}
use Rattle.meaning.specs.Check.{Check, pass, refuse}
use Rattle.meaning.specs.Text.{same}
use Rattle.cases.specs.Files.{empty, plain_file, two}
use Rattle.cases.specs.Old.{plain_example}
use Rattle.engines.specs.Shared.{first, second, zeros, part_of}
use Rattle.engines.specs.Calls.{load, drops, holds, view, Said, took, gone, has, range, text, leaves}
use Rattle.engines.specs.Runs.{Turn, replies, final}

abbrev one : List ℕ
one = plain_file 8 two (0x18 ∷ 64 ∷ []) (8 ∷ [])

abbrev pub turns : List Turn
turns =
    record { who = second; call = holds }
    ∷ record { who = first; call = load 0 one }
    ∷ record { who = second; call = load 0 one }
    ∷ record { who = second; call = view one 0 }
    ∷ record { who = second; call = load 0 empty }
    ∷ record { who = second; call = holds }
    ∷ record { who = second; call = load 0 [] }
    ∷ record { who = second; call = drops }
    ∷ record { who = first; call = load 0 [] }
    ∷ record { who = first; call = drops }
    ∷ record { who = second; call = load 1 plain_example }
    ∷ record { who = second; call = view plain_example 0 }
    ∷ record { who = second; call = holds }
    ∷ record { who = first; call = load 0 one }
    ∷ record { who = first; call = drops }
    ∷ []

-- a refusal is its number; what is given stands after a 0
abbrev told : Check Said → List ℕ
told (refuse n o c) = n ∷ []
told (pass (took r)) = 0 ∷ r.start ∷ []
told (pass gone) = 0 ∷ []
told (pass (has ns)) = 0 ∷ ns
told (pass (range s)) = 0 ∷ s.place ∷ s.size ∷ []
told (pass (text t)) = 0 ∷ t

abbrev all : List (Check Said) → List ℕ
all [] = []
all (r ∷ rs) = told r ++ all rs

-- taken, BUSY, gone, ROOM, gone
abbrev pub first_is_told : Bool
first_is_told = same (all (replies 40 first turns (zeros 40))) (0 ∷ 72 ∷ 28 ∷ 0 ∷ 24 ∷ 0 ∷ [])

-- holds nothing, ROOM, INDEX, taken, holds no numbers at the table's end, BUSY, gone, taken, its view, holds 28 numbers at 12
abbrev pub second_is_told : Bool
second_is_told =
    same (all (replies 40 second turns (zeros 40)))
    (0 ∷ 0 ∷ 0 ∷ 0 ∷ 0 ∷ 0 ∷ 0 ∷ 0 ∷ 24 ∷ 26 ∷ 0 ∷ 8 ∷ 0 ∷ 40 ∷ 0 ∷ 0 ∷ 0 ∷ 8 ∷ 0 ∷ 0 ∷ 28 ∷ 0 ∷ 0 ∷ 72 ∷ 0 ∷ 64 ∷ 8 ∷ 0 ∷ 12 ∷ 28 ∷ 1 ∷ 1 ∷ 72 ∷ 0 ∷ 0 ∷ [])

-- and its state at the end
abbrev pub second_stands : Bool
second_stands = same (part_of 40 second (final 40 turns (zeros 40))).state (1 ∷ 28 ∷ 1 ∷ 1 ∷ 72 ∷ 0 ∷ 0 ∷ 1 ∷ [])

abbrev pub zero_again : Bool
zero_again = same (leaves 40 1 drops (final 40 turns (zeros 40))) (zeros 40)
