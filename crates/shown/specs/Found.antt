-- What is found in one component of an accepted file, from the component alone.
use Rattle.std.specs.Prelude.{ℕ, ◌%◌, List, Bool, true, false, cond, ◌&&◌, take, drop, eqb}
use Rattle.std.proofs.Math.Option.{Option, none, some}
use Rattle.meaning.specs.Check.{pass}
use Rattle.meaning.specs.Read.{Span}
use Rattle.meaning.specs.Model.{Word, Component}
use Rattle.meaning.specs.Types.{f32}
use Rattle.finding.specs.Finding.{finding, shown}
use Rattle.finding.specs.Table.{undue, told}
use Rattle.finding.specs.declared.table.Found.{Found}

abbrev pub is_none : Option (Word Span) → Bool
is_none none = true
is_none (some w) = false

unfoldable pub due_of : Component Span → Bool
due_of c = eqb c.dtype f32 && is_none c.type && eqb (c.length % 4) 0

-- that of the component's own bytes
unfoldable pub finding_of : List ℕ → Component Span → Found
finding_of file c = told (pass (record { place = c.offset; size = c.length })) (cond (due_of c) (shown (finding (take c.length (drop c.offset file)))) undue)
