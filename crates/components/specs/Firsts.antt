-- The entries of a `components` map, as they are judged one by one, and the whole map's judgement.
use Rattle.std.specs.Prelude.{ℕ, suc, ◌*◌, ◌≤◌, List, [], ◌∷◌, ◌++◌, map, ◌≡◌, length, take, Ok, Err, Result}
use Rattle.std.proofs.Math.Option.{Option}
use Rattle.meaning.specs.Tree.{Node, Pair}
use Rattle.meaning.specs.Check.{Check, pass, refuse, each}
use Rattle.meaning.specs.Limit.{component_limit}
use Rattle.meaning.specs.Model.{Component}
use Rattle.meaning.specs.Judge.{components_of, part}
use Rattle.meaning.specs.Kind.{kind, mapping}
use Rattle.meaning.specs.Layouts.{Layout, layout_of}
use Rattle.walk.specs.Reading.{Ends, Reads, Due}
use Rattle.component.specs.Value.{given}
use Rattle.component.specs.Verdict.{ComponentIs}
use Rattle.component.specs.declared.Judged.{Judged}
use Rattle.formats.specs.Parts.{part_rows}
use Rattle.naming.specs.NotedNames.{named_anyway, Tallied}
use Rattle.naming.specs.declared.Tally.{Tally}
use Rattle.table.specs.Given.{Given, Whichever, entry}
use Rattle.numbers.specs.declared.refusal.Refusal.{Refusal}
use Rattle.numbers.specs.declared.fault.ObjectFault.{ObjectFault}
use Rattle.numbers.specs.Numbered.{number_of}

-- the entries of the pairs so far
unfoldable pub entries : Layout → (List ℕ → Option ℕ) → ℕ → List (Pair Ends) → Check (List (Component Ends))
entries L above start done = each (λ j p. entry L above start j (named_anyway p)) 0 done

-- components as the rows that the format's rules read
pub record Rowed (cs : List (Component Ends)) (rows : List ℕ) : Type 0 where
  pub are : length cs ≤ component_limit → take (4 * length cs) rows ≡ part_rows (map part cs)

abbrev pub FirstIs : Layout → (List ℕ → Option ℕ) → ℕ → List (Pair Ends) → Result (Unit {0}) ObjectFault → List ℕ → Type 0
FirstIs L above start done (Ok tt) rows = (cs : List (Component Ends)) × (entries L above start done ≡ pass cs) × Rowed cs rows
FirstIs L above start done (Err f) rows = (o : ℕ) × (entries L above start done ≡ refuse (number_of f.refusal) o f.component)

abbrev pub FirstsAre : Given → ℕ → List (Pair Ends) → Result (Unit {0}) ObjectFault → List ℕ → Type 0
FirstsAre g start done first rows = Whichever g λ above. FirstIs (layout_of g.layout) above start done first rows

-- one more entry, number j, whose key begins s and whose value, judged as v, begins c
abbrev pub Keeps : Given → List ℕ → List ℕ → Result Judged Refusal → ℕ → Result (Unit {0}) ObjectFault → List ℕ → Result (Unit {0}) ObjectFault → List ℕ → Type 0
Keeps g s c v j first rows first' rows' =
    (start : ℕ) (done : List (Pair Ends)) (p : Pair Ends) (d : ℕ) (q r : List ℕ) → Reads (suc d) s p.key q → Reads 28 c p.value r → ComponentIs (layout_of g.layout) (given g.code) c start v
    → j ≡ length done → FirstsAre g start done first rows → FirstsAre g start (done ++ p ∷ []) first' rows'

abbrev pub FoundIs : Check (List (Component Ends)) → Result ℕ ObjectFault → List ℕ → Type 0
FoundIs k (Err f) rows = (o : ℕ) × (k ≡ refuse (number_of f.refusal) o f.component)
FoundIs k (Ok m) rows = (cs : List (Component Ends)) × (k ≡ pass cs) × (m ≡ length cs) × (m ≤ component_limit) × (take (4 * m) rows ≡ part_rows (map part cs))

-- what is kept of the pairs `done` of a map in s
pub record Kept (g : Given) (start : ℕ) (s : List ℕ) (names : Tally) (left size : List ℕ) (first : Result (Unit {0}) ObjectFault) (rows : List ℕ) (done : List (Pair Ends)) : Type 0 where
  pub named : Tallied s done names left size
  pub judged : FirstsAre g start done first rows

-- of all entries that are due at s
abbrev pub Walked : Given → ℕ → ℕ → ℕ → List ℕ → Tally → List ℕ → List ℕ → Result (Unit {0}) ObjectFault → List ℕ → Type 0
Walked g start mode count s names left size first rows = (ps : List (Pair Ends)) (r : List ℕ) → Due 28 mode count s ps r → Kept g start s names left size first rows ps

-- for every map of these pairs
abbrev pub Concluded : List ℕ → Tally → Result (Unit {0}) ObjectFault → List ℕ → List ℕ → Result ℕ ObjectFault → Type 0
Concluded m names first left size found =
    (g : Given) (start : ℕ) (rows : List ℕ) (ps : List (Pair Ends)) → Kept g start m names left size first rows ps → (t : Node Ends) → kind t ≡ mapping ps
    → Whichever g λ above. FoundIs (components_of (layout_of g.layout) start above t) found rows

-- of whatever is read at s, as components of an object that gives them this
abbrev pub ComponentsAre : Given → List ℕ → ℕ → Result ℕ ObjectFault → List ℕ → Type 0
ComponentsAre g s start found rows = (t : Node Ends) (q : List ℕ) → Reads 29 s t q → Whichever g λ above. FoundIs (components_of (layout_of g.layout) start above t) found rows
