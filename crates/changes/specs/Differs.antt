-- What the list is held against: when an entry is true of two descriptions. No search, no order, no construction: names, indices and values.
use Rattle.std.specs.Prelude.{ℕ, zero, suc, ◌+◌, ◌<◌, max, List, [], ◌∷◌, map, true, cond, eqb, ◌⊎◌, ◌≡◌, length}
use Rattle.std.proofs.Math.Option.{some}
use Rattle.std.proofs.Math.ListN.{get_elem?}
use Rattle.meaning.specs.Text.{distinct}
use Rattle.meaning.specs.Described.{DescribedComponent, DescribedObject, Described}
use Rattle.changes.specs.Changes.{Entry, entry}

-- e is one of the entries
abbrev pub In : {A : Type 0} → A → List A → Type 0
In e [] = ⊥
In e (x ∷ l) = (e ≡ x) ⊎ In e l

-- x is n if P, else 0
abbrev pub Flag : ℕ → Type 0 → ℕ → Type 0
Flag n P x = (P × (x ≡ n)) ⊎ ((P → ⊥) × (x ≡ 0))

-- k of the numbers below n are P
abbrev pub Counted : (ℕ → Type 0) → ℕ → ℕ → Type 0
Counted P zero k = k ≡ 0
Counted P (suc n) k = (x : ℕ) × (m : ℕ) × Flag 1 (P 0) x × Counted (λ i. P (suc i)) n m × (k ≡ x + m)

abbrev pub DiffersAt : List ℕ → List ℕ → ℕ → Type 0
DiffersAt x y p = get_elem? x p ≡ get_elem? y p → ⊥

-- they differ, first at this position, and at so many
pub record Apart (x y : List ℕ) (position count : ℕ) : Type 0 where
  pub at : DiffersAt x y position
  pub before : (q : ℕ) → q < position → get_elem? x q ≡ get_elem? y q
  pub counted : Counted (DiffersAt x y) (max (length x) (length y)) count

abbrev pub Bytes : List ℕ → List ℕ → ℕ → ℕ → Type 0
Bytes x y position count = ((x ≡ y) × (position ≡ 0) × (count ≡ 0)) ⊎ Apart x y position count

module _ {A : Type 0} (called : A → List ℕ) where
  -- no such name
  abbrev pub Lacks : List A → List ℕ → Type 0
  Lacks l n = (k : ℕ) (a : A) → get_elem? l k ≡ some a → called a ≡ n → ⊥

  -- x at i in the one, y at j in the other, of one name
  pub record Both (l m : List A) (i j : ℕ) (x y : A) : Type 0 where
    pub here : get_elem? l i ≡ some x
    pub there : get_elem? m j ≡ some y
    pub alike : called x ≡ called y

abbrev pub part_name : DescribedComponent → List ℕ
part_name c = c.name

abbrev pub object_name : DescribedObject → List ℕ
object_name o = o.name

-- some component of the one has a name that the other lacks
pub record Lone (cs ds : List DescribedComponent) : Type 0 where
  pub index : ℕ
  pub it : DescribedComponent
  pub here : get_elem? cs index ≡ some it
  pub lacks : Lacks part_name ds it.name

-- some two components of one name are R
pub record Shared (R : DescribedComponent → DescribedComponent → Type 0) (cs ds : List DescribedComponent) : Type 0 where
  pub first : ℕ
  pub second : ℕ
  pub one : DescribedComponent
  pub other : DescribedComponent
  pub both : Both part_name cs ds first second one other
  pub differ : R one other

abbrev pub OtherDtype : DescribedComponent → DescribedComponent → Type 0
OtherDtype c d = c.dtype ≡ d.dtype → ⊥

abbrev pub OtherType : DescribedComponent → DescribedComponent → Type 0
OtherType c d = c.type ≡ d.type → ⊥

abbrev pub OtherBytes : DescribedComponent → DescribedComponent → Type 0
OtherBytes c d = c.blob ≡ d.blob → ⊥

pub record PartWhat (c d : DescribedComponent) (w : ℕ) : Type 0 where
  pub dtype : ℕ
  pub type : ℕ
  pub bytes : ℕ
  pub of_dtype : Flag 8 (OtherDtype c d) dtype
  pub of_type : Flag 16 (OtherType c d) type
  pub of_bytes : Flag 32 (OtherBytes c d) bytes
  pub sum : w ≡ dtype + type + bytes

pub record ObjectWhat (o p : DescribedObject) (w : ℕ) : Type 0 where
  pub shape : ℕ
  pub format : ℕ
  pub names : ℕ
  pub dtypes : ℕ
  pub types : ℕ
  pub bytes : ℕ
  pub of_shape : Flag 1 (o.shape ≡ p.shape → ⊥) shape
  pub of_format : Flag 2 (o.format ≡ p.format → ⊥) format
  pub of_names : Flag 4 (Lone o.components p.components ⊎ Lone p.components o.components) names
  pub of_dtypes : Flag 8 (Shared OtherDtype o.components p.components) dtypes
  pub of_types : Flag 16 (Shared OtherType o.components p.components) types
  pub of_bytes : Flag 32 (Shared OtherBytes o.components p.components) bytes
  pub sum : w ≡ shape + format + names + dtypes + types + bytes

-- the entries that are true of a and b
pub data Change (a b : Described) : Entry → Type 0 where
  only_first : (i : ℕ) (o : DescribedObject) → get_elem? a.objects i ≡ some o → Lacks object_name b.objects o.name → Change a b (entry 1 i 0 0 0 0 0 0)
  only_second : (j : ℕ) (p : DescribedObject) → get_elem? b.objects j ≡ some p → Lacks object_name a.objects p.name → Change a b (entry 2 0 j 0 0 0 0 0)
  object : (i j : ℕ) (o p : DescribedObject) → Both object_name a.objects b.objects i j o p
      → (w : ℕ) → ObjectWhat o p w → (w ≡ 0 → ⊥) → Change a b (entry 3 i j 0 0 w 0 0)
  part : (i j : ℕ) (o p : DescribedObject) → Both object_name a.objects b.objects i j o p
      → (k l : ℕ) (c d : DescribedComponent) → Both part_name o.components p.components k l c d
      → (w position count : ℕ) → PartWhat c d w → (w ≡ 0 → ⊥) → Bytes c.blob d.blob position count → Change a b (entry 4 i j k l w position count)
  part_first : (i j : ℕ) (o p : DescribedObject) → Both object_name a.objects b.objects i j o p
      → (k : ℕ) (c : DescribedComponent) → get_elem? o.components k ≡ some c → Lacks part_name p.components c.name → Change a b (entry 5 i j k 0 0 0 0)
  part_second : (i j : ℕ) (o p : DescribedObject) → Both object_name a.objects b.objects i j o p
      → (l : ℕ) (d : DescribedComponent) → get_elem? p.components l ≡ some d → Lacks part_name o.components d.name → Change a b (entry 6 i j 0 l 0 0 0)

-- no name twice
pub record Named (a : Described) : Type 0 where
  pub objects : distinct (map object_name a.objects) ≡ true
  pub parts : (i : ℕ) (o : DescribedObject) → get_elem? a.objects i ≡ some o → distinct (map part_name o.components) ≡ true

-- the entry with the two descriptions exchanged: kinds 1 and 2, 5 and 6, and the indices change places
abbrev pub swapped_kind : ℕ → ℕ
swapped_kind k = cond (eqb k 1) 2 (cond (eqb k 2) 1 (cond (eqb k 5) 6 (cond (eqb k 6) 5 k)))

abbrev pub swapped : Entry → Entry
swapped e = entry (swapped_kind e.kind) e.second e.first e.part_second e.part_first e.what e.position e.count
