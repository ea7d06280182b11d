-- The names of a map's pairs, as they are noted and judged.
use Rattle.std.specs.Prelude.{ℕ, suc, ◌≤◌, min, List, [], ◌∷◌, ◌++◌, map, Bool, not, ◌≡◌, length, take, drop, Ok, Err, Result}
use Rattle.std.proofs.Math.Option.{Option, none, some}
use Rattle.meaning.specs.Tree.{Node, Pair, note_of}
use Rattle.meaning.specs.Check.{Check, pass, fault}
use Rattle.meaning.specs.Text.{all, utf8}
use Rattle.meaning.specs.Model as model
use Rattle.meaning.specs.Model.{Word}
use Rattle.meaning.specs.Kind.{Kind, number, words, list, mapping, null, another, kind}
use Rattle.meaning.specs.Field.{is_some, key_of, names}
use Rattle.names.specs.Names.{name, listed}
use Rattle.walk.specs.Reading.{Ends, Reads}
use Rattle.numbers.specs.Numbered.{number_of}
use Rattle.naming.specs.declared.Tally.{Tally}
use Rattle.numbers.specs.declared.refusal.Refusal.{Refusal}

abbrev pub tally : ℕ → Bool → Bool → Tally
tally n odd bad = record { count = n; odd = odd; bad = bad }

-- a key's letters, none where it isn't whole text
abbrev pub letters_or : Option (List ℕ) → List ℕ
letters_or none = []
letters_or (some k) = k

unfoldable pub letters_of : Pair Ends → List ℕ
letters_of p = letters_or (key_of p)

-- what is noted of the pairs `done` of a map in m
pub record Tallied (m : List ℕ) (done : List (Pair Ends)) (t : Tally) (left size : List ℕ) : Type 0 where
  pub counted : t.count ≡ length done
  pub oddly : t.odd ≡ not (all (λ p. is_some (key_of p)) done)
  pub badly : t.bad ≡ not (all (λ p. utf8 (letters_of p)) done)
  pub same-room : length size ≡ length left
  pub listed-are : listed (name m left size) 0 (min (length done) (length left)) ≡ take (length left) (map letters_of done)

-- one more pair, whose key begins s, a part that runs to the end of m
abbrev pub Noted : List ℕ → Tally → List ℕ → List ℕ → Tally → List ℕ → List ℕ → Type 0
Noted s t left size t' left' size' =
    (length left' ≡ length left) × ((m : List ℕ) (at : ℕ) → at ≤ length m → s ≡ drop at m → (done : List (Pair Ends)) (d : ℕ) (p : Pair Ends) (r : List ℕ) → Reads (suc d) s p.key r
    → Tallied m done t left size → Tallied m (done ++ p ∷ []) t' left' size')

-- a pair as a name and what it names, also where its key is none
abbrev pub word_or : Ends → Kind Ends → Word Ends
word_or e (number n) = record { note = e; letters = [] }
word_or e (words w) = w
word_or e (list l) = record { note = e; letters = [] }
word_or e (mapping l) = record { note = e; letters = [] }
word_or e null = record { note = e; letters = [] }
word_or e another = record { note = e; letters = [] }

abbrev pub named_anyway : Pair Ends → model.Named Ends
named_anyway p = record { name = word_or (note_of p.key) (kind p.key); value = p.value }

-- an answer as a check
abbrev pub told : List (Pair Ends) → Result (Unit {0}) Refusal → Check (List (model.Named Ends))
told done (Err r) = fault (number_of r)
told done (Ok tt) = pass (map named_anyway done)

-- for every map of these pairs
abbrev pub Judged : List ℕ → Tally → List ℕ → List ℕ → Result (Unit {0}) Refusal → Type 0
Judged m t left size r = (done : List (Pair Ends)) → Tallied m done t left size → (x : Node Ends) → kind x ≡ mapping done → names (length left) x ≡ told done r
