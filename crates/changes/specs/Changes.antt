-- Request 07 of document 02: what changed between two descriptions, as entries of eight numbers. Objects and components are matched by name.
use Rattle.std.specs.Prelude.{ℕ, zero, suc, ◌+◌, max, List, [], ◌∷◌, ◌++◌, Bool, true, false, cond, not, ◌||◌, length, eqb}
use Rattle.std.proofs.Math.Option.{Option, none, some}
use Rattle.std.proofs.Math.ListN.{get_elem?}
use Rattle.meaning.specs.Text.{same}
use Rattle.meaning.specs.Described.{DescribedComponent, DescribedObject, Described}

-- indices of the object in the first and the second, of the component in its object in each; 0 where unused
pub record Entry : Type 0 where
  pub kind : ℕ
  pub first : ℕ
  pub second : ℕ
  pub part_first : ℕ
  pub part_second : ℕ
  pub what : ℕ
  pub position : ℕ
  pub count : ℕ

abbrev pub entry : ℕ → ℕ → ℕ → ℕ → ℕ → ℕ → ℕ → ℕ → Entry
entry kind i j k l what position count =
    record { kind = kind; first = i; second = j; part_first = k; part_second = l; what = what; position = position; count = count }

-- ---------------------------------------------------------------- lists

pub record Found (A : Type 0) : Type 0 where
  pub index : ℕ
  pub it : A

module _ {A : Type 0} where
  abbrev pub later : Option (Found A) → Option (Found A)
  later none = none
  later (some f) = some (record { index = suc f.index; it = f.it })

  -- the first of that name, with its index
  abbrev pub seek : (A → List ℕ) → List ℕ → List A → Option (Found A)
  seek called n [] = none
  seek called n (a ∷ l) = cond (same (called a) n) (some (record { index = 0; it = a })) (later (seek called n l))

  abbrev pub any : (A → Bool) → List A → Bool
  any t [] = false
  any t (a ∷ l) = t a || any t l

  -- what each gives with its index, one after the other
  abbrev pub across : {B : Type 0} → (ℕ → A → List B) → List A → List B
  across f [] = []
  across f (a ∷ l) = f 0 a ++ across (λ i. f (suc i)) l

  abbrev pub absent : Option A → Bool
  absent none = true
  absent (some a) = false

  abbrev pub same_option : (A → A → Bool) → Option A → Option A → Bool
  same_option t none none = true
  same_option t none (some y) = false
  same_option t (some x) none = false
  same_option t (some x) (some y) = t x y

-- ---------------------------------------------------------------- bytes

-- past the end of one of them, and not of both, they differ
abbrev pub differs_at : List ℕ → List ℕ → ℕ → Bool
differs_at x y p = not (same_option eqb (get_elem? x p) (get_elem? y p))

-- the first below n that passes (n if none does), and how many below n do
abbrev pub least : (ℕ → Bool) → ℕ → ℕ
least t zero = 0
least t (suc n) = cond (t 0) 0 (suc (least (λ i. t (suc i)) n))

abbrev pub bit : ℕ → Bool → ℕ
bit n t = cond t n 0

abbrev pub how_many : (ℕ → Bool) → ℕ → ℕ
how_many t zero = 0
how_many t (suc n) = bit 1 (t 0) + how_many (λ i. t (suc i)) n

abbrev pub longer : List ℕ → List ℕ → ℕ
longer x y = max (length x) (length y)

abbrev pub position_apart : List ℕ → List ℕ → ℕ
position_apart x y = cond (same x y) 0 (least (differs_at x y) (longer x y))

abbrev pub count_apart : List ℕ → List ℕ → ℕ
count_apart x y = how_many (differs_at x y) (longer x y)

-- ---------------------------------------------------------------- what differs

abbrev pub other_dtype : DescribedComponent → DescribedComponent → Bool
other_dtype c d = not (eqb c.dtype d.dtype)

-- absent and empty differ
abbrev pub other_type : DescribedComponent → DescribedComponent → Bool
other_type c d = not (same_option same c.type d.type)

abbrev pub other_bytes : DescribedComponent → DescribedComponent → Bool
other_bytes c d = not (same c.blob d.blob)

abbrev pub part_what : DescribedComponent → DescribedComponent → ℕ
part_what c d = bit 8 (other_dtype c d) + bit 16 (other_type c d) + bit 32 (other_bytes c d)

abbrev pub part : List ℕ → List DescribedComponent → Option (Found DescribedComponent)
part n cs = seek (λ c. c.name) n cs

abbrev pub object : List ℕ → List DescribedObject → Option (Found DescribedObject)
object n os = seek (λ o. o.name) n os

abbrev pub lone : List DescribedComponent → List DescribedComponent → Bool
lone cs ds = any (λ c. absent (part c.name ds)) cs

abbrev pub found : {A : Type 0} → (A → Bool) → Option (Found A) → Bool
found t none = false
found t (some f) = t f.it

-- of two components of one name, one in each
abbrev pub shared : (DescribedComponent → DescribedComponent → Bool) → List DescribedComponent → List DescribedComponent → Bool
shared t cs ds = any (λ c. found (t c) (part c.name ds)) cs

abbrev pub object_what : DescribedObject → DescribedObject → ℕ
object_what o p =
    bit 1 (not (same o.shape p.shape)) + bit 2 (not (same o.format p.format))
    + bit 4 (lone o.components p.components || lone p.components o.components)
    + bit 8 (shared other_dtype o.components p.components) + bit 16 (shared other_type o.components p.components)
    + bit 32 (shared other_bytes o.components p.components)

-- ---------------------------------------------------------------- the list

abbrev pub unless_zero : ℕ → Entry → List Entry
unless_zero w e = cond (eqb w 0) [] (e ∷ [])

abbrev pub if_absent : {A : Type 0} → Entry → Option A → List Entry
if_absent e none = e ∷ []
if_absent e (some a) = []

-- the component k of an object that is i in the first and j in the second, and what the second has of its name
abbrev pub part_entry : ℕ → ℕ → ℕ → DescribedComponent → Found DescribedComponent → Entry
part_entry i j k c f = entry 4 i j k f.index (part_what c f.it) (position_apart c.blob f.it.blob) (count_apart c.blob f.it.blob)

abbrev pub of_part : ℕ → ℕ → ℕ → DescribedComponent → Option (Found DescribedComponent) → List Entry
of_part i j k c none = entry 5 i j k 0 0 0 0 ∷ []
of_part i j k c (some f) = unless_zero (part_what c f.it) (part_entry i j k c f)

-- the 4s and 5s; the 6s
abbrev pub firsts : ℕ → ℕ → DescribedObject → DescribedObject → List Entry
firsts i j o p = across (λ k c. of_part i j k c (part c.name p.components)) o.components

abbrev pub seconds : ℕ → ℕ → DescribedObject → DescribedObject → List Entry
seconds i j o p = across (λ l d. if_absent (entry 6 i j 0 l 0 0 0) (part d.name o.components)) p.components

abbrev pub in_both : ℕ → ℕ → DescribedObject → DescribedObject → List Entry
in_both i j o p = unless_zero (object_what o p) (entry 3 i j 0 0 (object_what o p) 0 0) ++ (firsts i j o p ++ seconds i j o p)

abbrev pub of_object : ℕ → DescribedObject → Option (Found DescribedObject) → List Entry
of_object i o none = entry 1 i 0 0 0 0 0 0 ∷ []
of_object i o (some f) = in_both i f.index o f.it

-- all but the 2s; the 2s
abbrev pub olds : Described → Described → List Entry
olds a b = across (λ i o. of_object i o (object o.name b.objects)) a.objects

abbrev pub news : Described → Described → List Entry
news a b = across (λ j p. if_absent (entry 2 0 j 0 0 0 0 0) (object p.name a.objects)) b.objects

unfoldable pub changes : Described → Described → List Entry
changes a b = olds a b ++ news a b

-- as numbers, eight an entry
abbrev pub numbers : Entry → List ℕ
numbers e = e.kind ∷ e.first ∷ e.second ∷ e.part_first ∷ e.part_second ∷ e.what ∷ e.position ∷ e.count ∷ []

abbrev pub flat : List Entry → List ℕ
flat [] = []
flat (e ∷ l) = numbers e ++ flat l

unfoldable pub change_numbers : Described → Described → List ℕ
change_numbers a b = flat (changes a b)
