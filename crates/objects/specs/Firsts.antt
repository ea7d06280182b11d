-- The entries of the `objects` map, as they are judged one by one, and the whole map's judgement.
use Rattle.std.specs.Prelude.{ℕ, ◌+◌, ◌*◌, ◌≤◌, List, [], ◌∷◌, ◌++◌, Bool, cond, ◌≡◌, length, leb, Ok, Err, Result}
use Rattle.meaning.specs.Columns.{component_width}
use Rattle.meaning.specs.Tree.{Node, Pair}
use Rattle.meaning.specs.Check.{Check, pass, refuse, in_object, each}
use Rattle.meaning.specs.Limit.{object_limit, component_limit}
use Rattle.meaning.specs.Model.{Word, Named, Object}
use Rattle.meaning.specs.Kind.{kind, mapping}
use Rattle.meaning.specs.Rows.{component_count}
use Rattle.meaning.specs.Layouts.{Layout}
use Rattle.walk.specs.Reading.{Ends, Reads, Due}
use Rattle.naming.specs.NotedNames.{named_anyway, Tallied}
use Rattle.naming.specs.declared.Tally.{Tally}
use Rattle.object.specs.Verdict as objects
use Rattle.objects.specs.declared.Found.{Found}
use Rattle.objects.specs.Found.{judging, objects_by, judged}
use Rattle.numbers.specs.declared.fault.ObjectFault.{ObjectFault}
use Rattle.numbers.specs.declared.fault.FileFault.{FileFault}
use Rattle.numbers.specs.Numbered.{number_of}
use Rattle.numbers.specs.Answered as answers

-- components so far and m more; a total beyond all limits isn't counted
abbrev pub plus : ℕ → ℕ → ℕ
plus total m = cond (leb m 16) (cond (leb total 16368) (total + m) total) total

-- of whatever value c is read as, under any name
abbrev pub OneIs : Bool → Layout → List ℕ → ℕ → Result ℕ ObjectFault → Type 0
OneIs deep L c start r = (t : Node Ends) (q : List ℕ) → Reads 30 c t q → (n : Word Ends) → answers.in_object r ≡ objects.judged (judging deep L start (record { name = n; value = t }))

-- where the next rows begin, if those of an object that is judged as v begin at `from` of a table with `room` numbers
abbrev pub Beyond : Result ℕ ObjectFault → ℕ → ℕ → ℕ → Type 0
Beyond v from room r = (n : ℕ) → v ≡ Ok n → n ≤ component_limit → from + component_width * n ≤ room → r ≡ from + component_width * n

-- an entry, with its index
unfoldable pub entry : Bool → Layout → ℕ → ℕ → Named Ends → Check (Object Ends)
entry deep L start i n = in_object i (judging deep L start n)

-- the entries of the pairs so far
unfoldable pub entries : Bool → Layout → ℕ → List (Pair Ends) → Check (List (Object Ends))
entries deep L start done = each (λ i p. entry deep L start i (named_anyway p)) 0 done

-- objects that passed, and the total of their components while there are not too many of them
pub record Totalled (deep : Bool) (L : Layout) (start : ℕ) (done : List (Pair Ends)) (total : ℕ) : Type 0 where
  pub found : List (Object Ends)
  pub passed : entries deep L start done ≡ pass found
  pub few : component_count found ≤ component_limit * length found
  pub totals : length found ≤ object_limit → total ≡ component_count found

abbrev pub FirstIs : Bool → Layout → ℕ → List (Pair Ends) → Result ℕ FileFault → Type 0
FirstIs deep L start done (Ok total) = Totalled deep L start done total
FirstIs deep L start done (Err f) = entries deep L start done ≡ refuse (number_of f.refusal) f.object f.component

-- one more entry, number j, whose value is judged as v
abbrev pub Keeps : Result ℕ ObjectFault → ℕ → Result ℕ FileFault → Result ℕ FileFault → Type 0
Keeps v j first first' =
    (deep : Bool) (L : Layout) (start : ℕ) (done : List (Pair Ends)) (p : Pair Ends) (c r : List ℕ) → Reads 30 c p.value r → OneIs deep L c start v → j ≡ length done → FirstIs deep L start done first → FirstIs deep L start (done ++ p ∷ []) first'

-- what is kept of the pairs `done` of a map in s
pub record Kept (deep : Bool) (L : Layout) (start : ℕ) (s : List ℕ) (names : Tally) (left size : List ℕ) (first : Result ℕ FileFault) (done : List (Pair Ends)) : Type 0 where
  pub named : Tallied s done names left size
  pub judged : FirstIs deep L start done first

-- of all entries that are due at s
abbrev pub Walked : Bool → Layout → ℕ → ℕ → ℕ → List ℕ → Tally → List ℕ → List ℕ → Result ℕ FileFault → Type 0
Walked deep L start mode count s names left size first = (ps : List (Pair Ends)) (r : List ℕ) → Due 30 mode count s ps r → Kept deep L start s names left size first ps

-- for every map of these pairs
abbrev pub Concluded : List ℕ → Tally → Result ℕ FileFault → List ℕ → List ℕ → Result Found FileFault → Type 0
Concluded m names first left size found =
    (deep : Bool) (L : Layout) (start : ℕ) (ps : List (Pair Ends)) → Kept deep L start m names left size first ps → (t : Node Ends) → kind t ≡ mapping ps → answers.in_file found ≡ judged (objects_by deep L start t)
