-- An index role that is there but isn't plain u64, where the roles before it are filled.
use Rattle.std.specs.Prelude.{ℕ, List, Bool, true, false, cond, not, eqb}
use Rattle.meaning.specs.Check.{Check, pass, refuse}
use Rattle.meaning.specs.Format.{Part, Role, role, plain}
use Rattle.explained.specs.Step.{passes}
use Rattle.formats.specs.Parts.{role_name}

abbrev pub not_plain : Check Role → Bool
not_plain (pass r) = not (plain r.part)
not_plain (refuse n o c) = false

unfoldable pub there : List ℕ → List Part → Bool
there n cs = passes (role n 0 cs)

unfoldable pub odd : List ℕ → List Part → Bool
odd n cs = not_plain (role n 0 cs)

-- roles by their codes: 1 values, 2 indices, 3 indptr, 4 coords
unfoldable pub of_csr : List Part → Bool
of_csr cs = cond (odd (role_name 2) cs) true (cond (there (role_name 2) cs) (odd (role_name 3) cs) false)

-- formats by their codes: 1 sparse_csr, 2 sparse_coo
unfoldable pub blames : ℕ → List Part → Bool
blames format cs = cond (there (role_name 1) cs) (cond (eqb format 1) (of_csr cs) (cond (eqb format 2) (odd (role_name 4) cs) false)) false
