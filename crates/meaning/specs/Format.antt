-- Document 01, "Types and lengths": what each format asks of its components: RANK, then ROLE, then LENGTH, each by roles as listed, with the role's component.
use Rattle.std.specs.Prelude.{ℕ, suc, ◌+◌, ◌*◌, ◌/◌, ◌%◌, List, [], ◌∷◌, Bool, true, false, cond, ◌&&◌, length, get_or, eqb}
use Rattle.std.proofs.Math.Option.{Option, none, some}
use Rattle.meaning.specs.Check.{Check, pass, ◌>>=◌, ◌>>◌, ◌unless◌, fault, in_component}
use Rattle.meaning.specs.Text.{ascii, same}
use Rattle.meaning.specs.Refusal.{RANK, ROLE, LENGTH}
use Rattle.meaning.specs.Types.{width_of, u64, type_ratio, product}

-- what the rules look at in a component
pub record Part : Type 0 where
  pub called : List ℕ
  pub code : ℕ
  pub typed : Option (List ℕ)
  pub size : ℕ

-- a role that is filled: the component's index in its object
pub record Role : Type 0 where
  pub index : ℕ
  pub part : Part

-- bytes of one element: ratio × width
unfoldable pub element_bytes : ℕ → Option ℕ → Option ℕ
element_bytes width none = none
element_bytes width (some ratio) = some (ratio * width)

unfoldable pub unit : Part → Option ℕ
unit c = element_bytes (width_of c.code) (type_ratio c.typed)

unfoldable pub role : List ℕ → ℕ → List Part → Check Role
role n i [] = fault ROLE
role n i (c ∷ cs) = let r = role n (suc i) cs in cond (same n c.called) (pass (record { index = i; part = c })) r

unfoldable pub untyped : Option (List ℕ) → Bool
untyped none = true
untyped (some w) = false

unfoldable pub plain : Part → Bool
plain c = eqb c.code u64 && untyped c.typed

-- an index role: plain u64
unfoldable pub index_role : List ℕ → List Part → Check Role
index_role n cs = do
  r ← role n 0 cs
  in_component r.index (ROLE unless plain r.part)
  pass r

unfoldable pub long : Role → ℕ → Check (Unit {0})
long r n = in_component r.index (LENGTH unless eqb r.part.size n)

unfoldable pub multiple : Role → ℕ → Check (Unit {0})
multiple r n = in_component r.index (LENGTH unless eqb (r.part.size % n) 0)

-- what a length has to be is said over the bytes of one element; where there is no ratio (02, Req 03), a whole multiple of the dtype's width will do
unfoldable pub elements : Role → ℕ → Option ℕ → Check (Unit {0})
elements r n none = multiple r (width_of r.part.code)
elements r n (some u) = long r (n * u)

-- the number of elements, without remainder
unfoldable pub whole_of : Role → Option ℕ → Check (Option ℕ)
whole_of r none = do
  multiple r (width_of r.part.code)
  pass none
whole_of r (some u) = do
  multiple r u
  pass (some (r.part.size / u))

unfoldable pub whole : Role → Check (Option ℕ)
whole r = whole_of r (unit r.part)

-- index numbers, so many bytes for each element; where these aren't counted, whole ones
unfoldable pub indexed : Role → ℕ → Option ℕ → Check (Unit {0})
indexed r each none = multiple r 8
indexed r each (some n) = long r (each * n)

unfoldable pub dense : List ℕ → List Part → Check (Unit {0})
dense shape cs = do
  d ← role (ascii "data") 0 cs
  elements d (product shape) (unit d.part)

unfoldable pub sparse_csr : List ℕ → List Part → Check (Unit {0})
sparse_csr shape cs = do
  RANK unless eqb (length shape) 2
  values ← role (ascii "values") 0 cs
  indices ← index_role (ascii "indices") cs
  indptr ← index_role (ascii "indptr") cs
  n ← whole values
  indexed indices 8 n
  long indptr (8 * (get_or shape 0 0 + 1))

unfoldable pub sparse_coo : List ℕ → List Part → Check (Unit {0})
sparse_coo shape cs = do
  values ← role (ascii "values") 0 cs
  coords ← index_role (ascii "coords") cs
  n ← whole values
  indexed coords (8 * length shape) n

unfoldable pub quantized_group : List ℕ → List Part → Check (Unit {0})
quantized_group shape cs = do
  role (ascii "packed_weight") 0 cs
  role (ascii "scales") 0 cs
  role (ascii "zeros") 0 cs
  pass tt

unfoldable pub format_rules : List ℕ → List ℕ → List Part → Check (Unit {0})
format_rules f shape cs =
    cond (same (ascii "dense") f) (dense shape cs)
    (cond (same (ascii "sparse_csr") f) (sparse_csr shape cs)
    (cond (same (ascii "sparse_coo") f) (sparse_coo shape cs)
    (cond (same (ascii "quantized_group") f) (quantized_group shape cs)
    (pass tt))))
