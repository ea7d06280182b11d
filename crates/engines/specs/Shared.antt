-- Document 02, Req 11: the numbers that two engines share. A table, then eight numbers of state for each engine. The first engine's rows stand at the table's beginning,
-- the second's at its end, so that what is free is one piece between them. The product's table has 65,536 numbers; here its size is a parameter.
use Rattle.std.specs.Prelude.{ℕ, zero, suc, ◌+◌, ◌-◌, ◌*◌, List, [], ◌++◌, Bool, true, cond, ◌&&◌, length, take, drop, get_or, replicate, eqb, leb}
use Rattle.meaning.specs.Check.{Check, pass, refuse, ◌>>◌, ◌unless◌}
use Rattle.meaning.specs.Refusal.{INDEX}
use Rattle.meaning.specs.Text.{all}
use Rattle.meaning.specs.Columns.{object_width, component_width}

pub data Who : Type 0 where
  first : Who
  second : Who

-- the numbers 0 and 1 name an engine
abbrev pub who_of : ℕ → Check Who
who_of zero = pass first
who_of (suc zero) = pass second
who_of (suc (suc n)) = refuse INDEX 0 0

-- what one engine has: eight numbers of state, and its rows
pub record Engine : Type 0 where
  pub state : List ℕ
  pub rows : List ℕ

-- columns of a state
abbrev pub flag_of : List ℕ → ℕ
flag_of s = get_or s 0 0

abbrev pub held_of : List ℕ → ℕ
held_of s = get_or s 1 0

abbrev pub objects_of : List ℕ → ℕ
objects_of s = get_or s 2 0

abbrev pub components_of : List ℕ → ℕ
components_of s = get_or s 3 0

abbrev pub layout_column : List ℕ → ℕ
layout_column s = get_or s 7 0

-- the flag is 0 or 1, and 0 only with zeros; as many numbers are held as the counts ask for; the layout is 0 or 1
unfoldable pub state_sound : List ℕ → Bool
state_sound s =
    leb (flag_of s) 1 && leb (layout_column s) 1 && eqb (held_of s) (object_width * objects_of s + component_width * components_of s)
    && cond (eqb (flag_of s) 0) (all (λ n. eqb n 0) s) true

-- nothing loaded
unfoldable pub nothing : Engine
nothing = record { state = replicate 8 0; rows = [] }

-- the shared numbers, taken apart
pub record Shared : Type 0 where
  pub front : Engine
  pub free : List ℕ
  pub back : Engine

abbrev pub own : Who → Shared → Engine
own first s = s.front
own second s = s.back

abbrev pub other : Who → Who
other first = second
other second = first

-- and put together
unfoldable pub closed : Shared → List ℕ
closed s = (s.front.rows ++ (s.free ++ s.back.rows)) ++ (s.front.state ++ s.back.state)

module _ (size : ℕ) where
  -- an engine's part of any list of numbers: where it stands doesn't depend on the other engine's state
  unfoldable pub part_of : Who → List ℕ → Engine
  part_of first l = record { state = take 8 (drop size l); rows = take (held_of (take 8 (drop size l))) (take size l) }
  part_of second l = record { state = drop 8 (drop size l); rows = drop (size - held_of (drop 8 (drop size l))) (take size l) }

  unfoldable pub usable : List ℕ → Engine → Engine → Bool
  usable l a b = eqb (length l) (size + 16) && state_sound a.state && state_sound b.state && leb (held_of a.state + held_of b.state) size

  unfoldable pub apart : List ℕ → Engine → Engine → Check Shared
  apart l a b = do
    INDEX unless usable l a b
    pass (record { front = a; free = take (size - held_of a.state - held_of b.state) (drop (held_of a.state) (take size l)); back = b })

  -- INDEX for a list of another length, or with states that no calls leave; the table's numbers aren't looked at
  unfoldable pub opened : List ℕ → Check Shared
  opened l = apart l (part_of first l) (part_of second l)

  unfoldable pub none_loaded : Shared
  none_loaded = record { front = nothing; free = replicate size 0; back = nothing }

  -- how the numbers begin
  unfoldable pub zeros : List ℕ
  zeros = replicate (size + 16) 0
