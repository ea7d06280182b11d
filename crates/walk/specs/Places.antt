-- What is said of the item at the start of some bytes, for every tree that is read there.
use Rattle.std.specs.Prelude.{ℕ, suc, ◌+◌, ◌%◌, ◌≤◌, ◌<◌, List, [], ◌∷◌, Bool, true, false, ◌≡◌, length, get_or, take, drop, Some, None, Option}
use Rattle.meaning.specs.Tree.{Node, Pair}
use Rattle.meaning.specs.Check.{Check, pass, fault}
use Rattle.meaning.specs.Refusal.{KIND}
use Rattle.meaning.specs.Model.{Word}
use Rattle.meaning.specs.Kind as kinds
use Rattle.meaning.specs.Kind.{Kind, kind}
use Rattle.cbor.specs.Ending.{took, code, shift, item_end, rest, endless}
use Rattle.walk.specs.Reading.{Ends, ends, Reads, Due, DueNodes}
use Rattle.walk.specs.declared.Letters.{Letters}
use Rattle.walk.specs.declared.Opening.{Opening}
use Rattle.walk.specs.declared.Entry.{Entry}
use Rattle.walk.specs.declared.Entry.TheVariants.{End, Value}

-- whatever is read at s
abbrev pub Whatever : List ℕ → (ℕ → Node Ends → List ℕ → Type 0) → Type 0
Whatever s P = (d : ℕ) (t : Node Ends) (r : List ℕ) → Reads (suc d) s t r → P d t r

-- whole text: its letters are n bytes from `at` on
abbrev pub text_at : List ℕ → List ℕ → Option Letters → Check (Word Ends)
text_at s r None = fault KIND
text_at s r (Some letters1) = pass (record { note = ends s r; letters = take letters1.size (drop letters1.at s) })

abbrev pub TextIs : List ℕ → Option Letters → Type 0
TextIs s l = Whatever s λ d t r. kinds.a_word t ≡ text_at s r l

abbrev pub Inside : List ℕ → Option Letters → Type 0
Inside s None = Unit {0}
Inside s (Some letters) = letters.at + letters.size ≤ length s

abbrev pub numeral : Option ℕ → Check ℕ
numeral None = fault KIND
numeral (Some n) = pass n

abbrev pub NumberIs : List ℕ → Option ℕ → Type 0
NumberIs s n = Whatever s λ d t r. kinds.a_number t ≡ numeral n

abbrev pub is_null : Kind Ends → Bool
is_null (kinds.number n) = false
is_null (kinds.words w) = false
is_null (kinds.list l) = false
is_null (kinds.mapping l) = false
is_null kinds.null = true
is_null kinds.another = false

abbrev pub NullIs : List ℕ → Bool → Type 0
NullIs s b = Whatever s λ d t r. is_null (kind t) ≡ b

-- a map that begins s: its pairs stand `size` bytes further on
pub record Mapped (d mode count : ℕ) (s : List ℕ) (t : Node Ends) : Type 0 where
  pub pairs : List (Pair Ends)
  pub kind-is : kind t ≡ kinds.mapping pairs
  pub last : List ℕ
  pub due : Due d mode count s pairs last

-- a map's own way of counting: two items for each pair, or no end but the break
pub record Modes (mode count : ℕ) : Type 0 where
  pub even : mode ≡ 0 → count % 2 ≡ 0
  pub loose : 1 ≤ mode → (mode ≡ 2) × (count ≡ endless)

pub record OpenMap (s : List ℕ) (mode count size : ℕ) : Type 0 where
  pub within : size ≤ length s
  pub modes : Modes mode count
  pub ending-is : (d : ℕ) → item_end (suc d) s ≡ shift size (rest mode count d (drop size s))
  pub trees : Whatever s λ d t r. Mapped d mode count (drop size s) t

abbrev pub MapIs : List ℕ → Option Opening → Type 0
MapIs s None = Whatever s λ d t r. kinds.a_mapping t ≡ fault KIND
MapIs s (Some o) = OpenMap s o.mode o.count o.size

-- one turn of a loop over a map's entries, of which `due` items are left: the end, or where the value stands
abbrev pub EntryIs : ℕ → ℕ → ℕ → List ℕ → Entry → Type 0
EntryIs d mode due s (End e) = (e ≡ code (rest mode due d s)) × ((ps : List (Pair Ends)) (r : List ℕ) → Due d mode due s ps r → ps ≡ [])
EntryIs d mode due s (Value k) = (0 < due) × (1 ≤ length s) × (get_or s 0 0 ≡ 255 → ⊥) × (item_end d s ≡ took k) × (k ≤ length s)

-- it holds of all pairs that are due
abbrev pub AllPassed : ℕ → ℕ → ℕ → List ℕ → (List (Pair Ends) → Type 0) → Type 0
AllPassed d mode count s P = (ps : List (Pair Ends)) (r : List ℕ) → Due d mode count s ps r → P ps

-- an array that begins s: its items stand `size` bytes further on
pub record Listed (d mode count : ℕ) (s : List ℕ) (t : Node Ends) : Type 0 where
  pub items : List (Node Ends)
  pub kind-is : kind t ≡ kinds.list items
  pub last : List ℕ
  pub due : DueNodes d mode count s items last

pub record OpenList (s : List ℕ) (mode count size : ℕ) : Type 0 where
  pub within : size ≤ length s
  pub loose : 1 ≤ mode → (mode ≡ 1) × (count ≡ endless)
  pub trees : Whatever s λ d t r. Listed d mode count (drop size s) t

abbrev pub ListIs : List ℕ → Option Opening → Type 0
ListIs s None = Whatever s λ d t r. kinds.a_list t ≡ fault KIND
ListIs s (Some o) = OpenList s o.mode o.count o.size

abbrev pub is_any : List (Node Ends) → Bool
is_any [] = false
is_any (x ∷ xs) = true

-- is one more item due from s on?
abbrev pub MoreIs : ℕ → ℕ → List ℕ → Bool → Type 0
MoreIs mode due s b = (d : ℕ) (xs : List (Node Ends)) (r : List ℕ) → DueNodes d mode due s xs r → is_any xs ≡ b
