-- The keys of a map of names, as they are noted and judged: the first check that breaks among them, as a spot.
use Rattle.std.specs.Prelude.{ℕ, suc, ◌≤◌, List, [], ◌∷◌, ◌++◌, map, Bool, true, not, ◌&&◌, ◌≡◌, length, drop, eqb}
use Rattle.std.proofs.Math.Option.{Option, some}
use Rattle.meaning.specs.Tree.{Node, Pair, note_of}
use Rattle.meaning.specs.Text.{all, utf8}
use Rattle.meaning.specs.Refusal.{KEY, TEXT}
use Rattle.meaning.specs.Kind.{kind, mapping}
use Rattle.walk.specs.Reading.{Ends, Reads, Due}
use Rattle.naming.specs.NotedNames.{tally, letters_of, named_anyway, Tallied}
use Rattle.naming.specs.declared.Tally.{Tally}
use Rattle.explained.specs.Step.{Step, first, every}
use Rattle.explained.specs.Order.{key_steps, same_name_steps, name_steps}
use Rattle.names.specs.Names.{name, listed}
use Rattle.spot.specs.Shown.{spot, shown}
use Rattle.spot.specs.Shown.{Spot}
use Rattle.badnames.specs.declared.Keys.{Keys}

-- the check that breaks, if one does, has the number n
abbrev pub ByNumber : ℕ → Option (Step Ends) → Type 0
ByNumber n f = (x : Step Ends) → f ≡ some x → x.number ≡ n

-- r shows the check that breaks, if n is its number
abbrev pub Tells : ℕ → Option (Step Ends) → Spot → Type 0
Tells n f r = ByNumber n f → r ≡ shown f

-- ---------------------------------------------------------------- the keys

-- UTF-8 of each key's letters, where a key that isn't whole text has none
unfoldable pub utf8_steps : List (Pair Ends) → List (Step Ends)
utf8_steps = every TEXT (λ p. note_of p.key) (λ p. utf8 (letters_of p))

abbrev pub legible : List (Pair Ends) → Bool
legible = all (λ p. utf8 (letters_of p))

-- the tally, but for UTF-8, of which it says what is true
abbrev pub with_letters : Tally → List (Pair Ends) → Tally
with_letters t done = tally t.count t.odd (not (legible done))

-- what is noted of the pairs `done` of a map in m: of UTF-8 nothing, unless it is tested
pub record Known (tested : Bool) (m : List ℕ) (done : List (Pair Ends)) (t : Tally) (left size : List ℕ) : Type 0 where
  pub tallied : Tallied m done (with_letters t done) left size
  pub badly : t.bad ≡ (tested && not (legible done))

-- one more pair, whose key begins s, a part that runs to the end of m
abbrev pub NotedIf : Bool → List ℕ → Tally → List ℕ → List ℕ → Tally → List ℕ → List ℕ → Type 0
NotedIf tested s t left size t' left' size' =
    (length left' ≡ length left) × ((m : List ℕ) (at : ℕ) → at ≤ length m → s ≡ drop at m → (done : List (Pair Ends)) (d : ℕ) (p : Pair Ends) (r : List ℕ) → Reads (suc d) s p.key r
    → Known tested m done t left size → Known tested m (done ++ p ∷ []) t' left' size')

-- and where the first that isn't whole text stands, and the first that isn't UTF-8
pub record Kept (tested : Bool) (s left size : List ℕ) (keys : Keys) (done : List (Pair Ends)) : Type 0 where
  pub known : Known tested s done keys.tally left size
  pub odd-key : keys.tally.odd ≡ true → shown (first (key_steps done)) ≡ spot KEY keys.key
  pub bad-text : keys.tally.bad ≡ true → shown (first (utf8_steps done)) ≡ spot TEXT keys.text

-- of all entries that are due at s
abbrev pub Walked : Bool → ℕ → ℕ → ℕ → List ℕ → List ℕ → List ℕ → Keys → Type 0
Walked tested levels mode count s left size keys = (ps : List (Pair Ends)) (r : List ℕ) → Due levels mode count s ps r → Kept tested s left size keys ps

-- ---------------------------------------------------------------- what is answered

-- of the map that is read at s, if the n names that are noted are those of its pairs
abbrev pub Repeated : List ℕ → ℕ → ℕ → ℕ → List ℕ → List ℕ → Spot → Type 0
Repeated s from levels n left size r =
    (ps : List (Pair Ends)) → listed (name (drop from s) left size) 0 n ≡ map letters_of ps
    → (t : Node Ends) (q : List ℕ) → Reads (suc levels) s t q → kind t ≡ mapping ps → r ≡ shown (first (same_name_steps [] (map named_anyway ps)))

-- of the map that is read at s, if this is noted of its pairs
abbrev pub Judged : List ℕ → ℕ → ℕ → ℕ → Keys → List ℕ → List ℕ → Spot → Type 0
Judged s from levels n keys left size r =
    (ps : List (Pair Ends)) → Kept (eqb n TEXT) (drop from s) left size keys ps
    → (t : Node Ends) (q : List ℕ) → Reads (suc levels) s t q → kind t ≡ mapping ps → Tells n (first (name_steps (length left) t)) r

-- of whatever is read at s, as a map of `limit` names at most
abbrev pub NamesAt : ℕ → List ℕ → ℕ → ℕ → Spot → Type 0
NamesAt levels s limit n r = (t : Node Ends) (q : List ℕ) → Reads (suc levels) s t q → Tells n (first (name_steps limit t)) r
