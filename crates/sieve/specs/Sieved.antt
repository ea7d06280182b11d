-- What is kept and dropped of the objects so far, what the kept ones add up to, and what was put of both.
use Rattle.std.specs.Prelude.{ℕ, suc, ◌+◌, ◌*◌, ◌≤◌, List, [], ◌∷◌, ◌++◌, Bool, true, false, cond, ◌≡◌, length, ltb}
use Rattle.std.proofs.lemmas.List.Edits.{sets}
use Rattle.meaning.specs.Columns.{object_width, component_width}
use Rattle.meaning.specs.Limit.{object_limit, component_limit, manifest_limit, end_limit}
use Rattle.meaning.specs.Tree.{Node, Pair}
use Rattle.meaning.specs.Check.{Check, pass}
use Rattle.meaning.specs.Model.{Named, Object}
use Rattle.meaning.specs.Notes.{map_object}
use Rattle.meaning.specs.Field.{name_of, names}
use Rattle.meaning.specs.Judge.{object}
use Rattle.meaning.specs.Layouts.{layout_of}
use Rattle.meaning.specs.Rows.{component_count}
use Rattle.meaning.specs.Every.{Every}
use Rattle.walk.specs.Reading.{Ends, Reads}
use Rattle.walk.specs.Places.{AllPassed}
use Rattle.table.specs.Spans.{span_of}
use Rattle.table.specs.Entered.{Entered}
use Rattle.objects.specs.Firsts.{plus}
use Rattle.table.specs.Rows.{rows_in}
use Rattle.table.specs.Object.{object_in}
use Rattle.table.specs.Objects.{objects_in, components_in}
use Rattle.window.specs.Summed.{InWindow, AddedOne, Sum, spans}
use Rattle.rescuing.specs.Sift.{kept, dropped, verdicts}
use Rattle.rescuing.specs.Rescue.{entry_width, entries}
use Rattle.sieve.specs.declared.Sieve.{Sieve}

abbrev pub more : ℕ → ℕ
more n = cond (ltb n object_limit) (n + 1) n

-- of every object that passes, whose key begins s and whose value begins c
abbrev pub Weighed : ℕ → List ℕ → List ℕ → ℕ → ℕ → ℕ → ℕ → ℕ → ℕ → Type 0
Weighed layout s c start end p n q k =
    (x : Pair Ends) (d : ℕ) (u r : List ℕ) → Reads (suc d) s x.key u → Reads 30 c x.value r → (m : Named Ends) → name_of x ≡ pass m → (o : Object Ends) → object (layout_of layout) start m ≡ pass o
    → InWindow o → AddedOne p n q k (map_object (span_of end) o)

-- bounds that keep every sum within 64 bits
pub record Bounded (z : Sieve) : Type 0 where
  pub kept : z.kept ≤ 1024
  pub dropped : z.dropped ≤ 1024
  pub components : z.components ≤ 16384
  pub place : z.place ≤ suc end_limit
  pub total : z.total ≤ suc manifest_limit

-- a table of any length will do where it is filled
abbrev pub when : Bool → ℕ
when true = 208
when false = 0

-- an object o of m components passes, whose key begins s and whose value begins c
pub record KeptOne (end : ℕ) (fill : Bool) (from : ℕ) (have : Sieve) (before : List ℕ) (z : Sieve) (after : List ℕ) (o : Object Ends) : Type 0 where
  pub weighs : fill ≡ false → InWindow o → AddedOne have.place have.total z.place z.total (map_object (span_of end) o)
  pub lays : fill ≡ true → object_width * have.kept + object_width ≤ from → from + component_width * have.components + component_width * length o.components ≤ length before
      → after ≡ sets (sets before (object_width * have.kept) (object_in end o)) (from + component_width * have.components) (rows_in end have.kept o.components)

pub record Keeps (layout : ℕ) (s c : List ℕ) (start end : ℕ) (fill : Bool) (from m : ℕ) (have : Sieve) (before : List ℕ) (z : Sieve) (after : List ℕ) : Type 0 where
  pub kept : z.kept ≡ more have.kept
  pub dropped : z.dropped ≡ have.dropped
  pub components : z.components ≡ plus have.components m
  pub one : (x : Pair Ends) (d : ℕ) (u r : List ℕ) → Reads (suc d) s x.key u → Reads 30 c x.value r → (n : Named Ends) → name_of x ≡ pass n → (o : Object Ends) → object (layout_of layout) start n ≡ pass o
      → KeptOne end fill from have before z after o

pub record Omits (fill : Bool) (n c : ℕ) (have : Sieve) (before : List ℕ) (z : Sieve) (after : List ℕ) : Type 0 where
  pub kept : z.kept ≡ have.kept
  pub dropped : z.dropped ≡ more have.dropped
  pub components : z.components ≡ have.components
  pub place : z.place ≡ have.place
  pub total : z.total ≡ have.total
  pub lists : fill ≡ true → after ≡ sets before (entry_width * have.dropped) ((have.kept + have.dropped) ∷ n ∷ c ∷ [])

-- of the verdicts ks so far, from an empty window or table and a list
pub record SieveOf (end : ℕ) (fill : Bool) (from : ℕ) (before list₀ : List ℕ) (z : Sieve) (after list : List ℕ) (ks : List (Check (Object Ends))) : Type 0 where
  pub keeps : z.kept ≡ length (kept ks)
  pub drops : z.dropped ≡ length (dropped 0 ks)
  pub holds : z.components ≡ component_count (kept ks)
  pub few : component_count (kept ks) ≤ component_limit * length (kept ks)
  pub weighs : fill ≡ false → Every InWindow (kept ks) → Sum 8 0 (spans end (kept ks)) z.place z.total
  pub lays : fill ≡ true → object_width * length (kept ks) ≤ from → from + component_width * component_count (kept ks) ≤ length before
      → after ≡ sets (sets before 0 (objects_in end (kept ks))) from (components_in end (kept ks))
  pub lists : fill ≡ true → entry_width * length (dropped 0 ks) ≤ length list₀ → list ≡ sets list₀ 0 (entries (dropped 0 ks))

-- one object more, whose key begins s and whose value begins c
abbrev pub Steps : ℕ → List ℕ → List ℕ → ℕ → ℕ → Bool → ℕ → Sieve → List ℕ → List ℕ → Sieve → List ℕ → List ℕ → Type 0
Steps layout s c start end fill from have t list z t' list' =
    (x : Pair Ends) (d : ℕ) (u r : List ℕ) → Reads (suc d) s x.key u → Reads 30 c x.value r → (n : Named Ends) → name_of x ≡ pass n
    → (before list₀ : List ℕ) (ks : List (Check (Object Ends))) → length t ≡ length before → length list ≡ length list₀ → suc (length ks) ≤ object_limit
    → SieveOf end fill from before list₀ have t list ks → SieveOf end fill from before list₀ z t' list' (ks ++ object (layout_of layout) start n ∷ [])

-- each object's own verdict
abbrev pub own : ℕ → ℕ → ℕ → Named Ends → Check (Check (Object Ends))
own layout start i n = pass (object (layout_of layout) start n)

-- of the pairs `done`
abbrev pub Sieved : ℕ → ℕ → ℕ → Bool → ℕ → List ℕ → List ℕ → Sieve → List ℕ → List ℕ → List (Pair Ends) → Type 0
Sieved layout start end fill from before list₀ z after list done =
    (ks : List (Check (Object Ends))) → Entered (own layout start) done ks → length ks ≤ object_limit → SieveOf end fill from before list₀ z after list ks

-- of all pairs that are due at s
abbrev pub AllSieved : ℕ → ℕ → ℕ → ℕ → ℕ → Bool → ℕ → List ℕ → List ℕ → List ℕ → Sieve → List ℕ → List ℕ → Type 0
AllSieved layout start end mode count fill from s before list₀ z after list = AllPassed 30 mode count s (Sieved layout start end fill from before list₀ z after list)

-- of every map of objects that is read at s and whose names pass
abbrev pub Sifted : ℕ → List ℕ → ℕ → ℕ → Bool → ℕ → List ℕ → List ℕ → Sieve → List ℕ → List ℕ → Type 0
Sifted layout s start end fill from before list₀ z after list =
    (t : Node Ends) (r : List ℕ) → Reads 31 s t r → (ns : List (Named Ends)) → names object_limit t ≡ pass ns → length ns ≤ object_limit
    → SieveOf end fill from before list₀ z after list (verdicts (layout_of layout) start ns)
