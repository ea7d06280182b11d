-- An object's components as rows of four numbers, and what the code's answers say of the rules in meaning's Format.
use Rattle.std.specs.Prelude.{ℕ, ◌+◌, ◌-◌, ◌*◌, ◌/◌, ◌%◌, List, [], ◌∷◌, ◌++◌, Bool, true, false, cond, ◌≡◌, get_or, eqb, leb, Some, None, Ok, Err, Result, Option}
use Rattle.meaning.specs.Check.{Check, pass, ◌>>◌, ◌unless◌, fault, in_component}
use Rattle.meaning.specs.Refusal.{ROLE, LENGTH}
use Rattle.meaning.specs.Types.{type_ratio, width_of, product}
use Rattle.meaning.specs.Format.{Part, Role, plain, role, index_role, dense, sparse_csr, sparse_coo, quantized_group}
use Rattle.types.specs.Known.{position, role_names, unit_number}
use Rattle.numbers.specs.Answered.{in_object}
use Rattle.formats.specs.declared.Filled.{Filled}
use Rattle.formats.specs.declared.Indexed.{Indexed}
use Rattle.numbers.specs.declared.fault.ObjectFault.{ObjectFault}

abbrev pub flag : Bool → ℕ
flag true = 1
flag false = 0

-- the bytes of one element, as `types::unit_of` gives them
unfoldable pub unit_code : Part → ℕ
unit_code c = unit_number (type_ratio c.typed) (width_of c.code)

-- role code, bytes of one element, plain u64 or not, length
unfoldable pub part_row : Part → List ℕ
part_row c = position role_names c.called ∷ (unit_code c ∷ (flag (plain c) ∷ (c.size ∷ [])))

unfoldable pub part_rows : List Part → List ℕ
part_rows [] = []
part_rows (c ∷ cs) = part_row c ++ part_rows cs

unfoldable pub role_name : ℕ → List ℕ
role_name j = get_or role_names j []

-- the rules of the format with this code
unfoldable pub rules_of : ℕ → List ℕ → List Part → Check (Unit {0})
rules_of c shape cs =
    cond (eqb c 0) (dense shape cs)
    (cond (eqb c 1) (sparse_csr shape cs)
    (cond (eqb c 2) (sparse_coo shape cs)
    (cond (eqb c 3) (quantized_group shape cs)
    (pass tt))))

-- the role n among these components: the index and the numbers of the one that fills it
abbrev pub RoleIs : List ℕ → List Part → Option Filled → Type 0
RoleIs n cs None = role n 0 cs ≡ fault ROLE
RoleIs n cs (Some v) = (c : Part) × (role n 0 cs ≡ pass (record { index = v.index; part = c })) × (v.unit ≡ unit_code c) × (v.plain ≡ flag (plain c)) × (v.length ≡ c.size)

abbrev pub IndexIs : List ℕ → List Part → Result Indexed ObjectFault → Type 0
IndexIs n cs (Err f) = index_role n cs ≡ in_object (Err f)
IndexIs n cs (Ok v) = (c : Part) × (index_role n cs ≡ pass (record { index = v.index; part = c })) × (v.length ≡ c.size)

abbrev pub RoleThere : List ℕ → List Part → Bool → Type 0
RoleThere n cs false = role n 0 cs ≡ fault ROLE
RoleThere n cs true = (r : Role) × (role n 0 cs ≡ pass r)

-- the length rules, over numbers: u is a unit's code
unfoldable pub dense_fits : List ℕ → ℕ → ℕ → Bool
dense_fits shape u size = cond (leb 256 u) (eqb (size % (u - 256)) 0) (eqb size (product shape * u))

unfoldable pub values_fit : ℕ → ℕ → Bool
values_fit u size = cond (leb 256 u) (eqb (size % (u - 256)) 0) (eqb (size % u) 0)

unfoldable pub index_fits : ℕ → ℕ → ℕ → ℕ → Bool
index_fits u size each l = cond (leb 256 u) (eqb (l % 8) 0) (eqb l (each * (size / u)))

-- v, x and y are components
unfoldable pub csr_lengths : ℕ → ℕ → ℕ → ℕ → ℕ → ℕ → ℕ → ℕ → Check (Unit {0})
csr_lengths rows v u size x indices y pointers = do
  in_component v (LENGTH unless values_fit u size)
  in_component x (LENGTH unless index_fits u size 8 indices)
  in_component y (LENGTH unless eqb pointers (8 * (rows + 1)))

unfoldable pub coo_lengths : ℕ → ℕ → ℕ → ℕ → ℕ → ℕ → Check (Unit {0})
coo_lengths rank v u size x coords = do
  in_component v (LENGTH unless values_fit u size)
  in_component x (LENGTH unless index_fits u size (8 * rank) coords)
