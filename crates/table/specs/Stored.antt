-- What a component is stored as: the code of its role, by the key that begins s, and its code.
use Rattle.std.specs.Prelude.{ℕ, List, Bool, cond, ◌&&◌, ◌||◌, ◌≡◌, eqb}
use Rattle.types.specs.Known.{position, role_names}
use Rattle.walk.specs.Places.{Whatever}
use Rattle.naming.specs.NotedNames.{word_or}
use Rattle.meaning.specs.Tree.{note_of}
use Rattle.meaning.specs.Kind.{kind}

abbrev pub RoleIs : List ℕ → ℕ → Type 0
RoleIs s r = Whatever s λ d t q. r ≡ position role_names (word_or (note_of t) (kind t)).letters

-- the roles that a format needs as indices, by their codes: indices and indptr of sparse_csr, coords of sparse_coo
unfoldable pub indexed : ℕ → ℕ → Bool
indexed format role = eqb format 1 && (eqb role 2 || eqb role 3) || eqb format 2 && eqb role 4

-- the code of a component that was judged with this one: in layout 1.0 an index role is u64, whatever its object's dtype
unfoldable pub stored_as : ℕ → ℕ → ℕ → ℕ → ℕ
stored_as layout format role code = cond (eqb layout 1 && indexed format role) 8 code

-- of a component whose key begins s
abbrev pub StorageIs : ℕ → ℕ → List ℕ → ℕ → ℕ → Type 0
StorageIs layout format s code r = Whatever s λ d t q. r ≡ stored_as layout format (position role_names (word_or (note_of t) (kind t)).letters) code
