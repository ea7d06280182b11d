-- The format's rules refuse with RANK, ROLE or LENGTH, which are among 1 to 23.
use Prim.Native.Nat.{ℕ, suc, ◌/◌, ◌%◌}
use mathlib.Core.List.{List, [], ◌∷◌}
use mathlib.Core.Option.{Option, none, some}
use lib.ListN.{length}
use lib.Dec.{eqb}
use Rattle.meaning.specs.Check.{pass}
use Rattle.meaning.specs.Text.{ascii, same}
use Rattle.meaning.specs.Refusal.{RANK, ROLE, LENGTH}
use Rattle.meaning.specs.Format.{Part, Role, role, plain, unit, index_role, long, multiple, elements, whole_of, whole, indexed, dense, sparse_csr, sparse_coo, quantized_group, format_rules}
use Rattle.shown.proofs.Judged.{Any, Judged, passes, faults, in-component, one_of_two, bind, then, tested, test}

role-so : (n : List ℕ) (i : ℕ) (cs : List Part) → Judged Any (role n i cs)
unfolding role
role-so n i [] = faults ROLE tt
role-so n i (c ∷ cs) = one_of_two (same n c.called) _ _ (passes (record { index = i; part = c }) tt) (role-so n (suc i) cs)

index-so : (n : List ℕ) (cs : List Part) → Judged Any (index_role n cs)
unfolding index_role
index-so n cs = bind (role n 0 cs) _ (role-so n 0 cs) λ r u. then _ (pass r) (in-component r.index _ (test ROLE (plain r.part) tt)) (passes r tt)

long-so : (r : Role) (n : ℕ) → Judged Any (long r n)
unfolding long
long-so r n = in-component r.index _ (test LENGTH (eqb r.part.size n) tt)

multiple-so : (r : Role) (n : ℕ) → Judged Any (multiple r n)
unfolding multiple
multiple-so r n = in-component r.index _ (test LENGTH (eqb (r.part.size % n) 0) tt)

elements-so : (r : Role) (n : ℕ) (u : Option ℕ) → Judged Any (elements r n u)
unfolding elements
elements-so r n none = multiple-so r _
elements-so r n (some u) = long-so r _

whole-of-so : (r : Role) (u : Option ℕ) → Judged Any (whole_of r u)
unfolding whole_of
whole-of-so r none = then _ _ (multiple-so r _) (passes none tt)
whole-of-so r (some u) = then _ _ (multiple-so r u) (passes (some (r.part.size / u)) tt)

whole-so : (r : Role) → Judged Any (whole r)
unfolding whole
whole-so r = whole-of-so r (unit r.part)

indexed-so : (r : Role) (each : ℕ) (n : Option ℕ) → Judged Any (indexed r each n)
unfolding indexed
indexed-so r each none = multiple-so r 8
indexed-so r each (some n) = long-so r _

dense-so : (shape : List ℕ) (cs : List Part) → Judged Any (dense shape cs)
unfolding dense
dense-so shape cs = bind (role (ascii "data") 0 cs) _ (role-so _ 0 cs) λ d u. elements-so d _ _

csr-so : (shape : List ℕ) (cs : List Part) → Judged Any (sparse_csr shape cs)
unfolding sparse_csr
csr-so shape cs =
    tested RANK (eqb (length shape) 2) _ tt λ e.
    bind (role (ascii "values") 0 cs) _ (role-so _ 0 cs) λ values u.
    bind (index_role (ascii "indices") cs) _ (index-so _ cs) λ indices v.
    bind (index_role (ascii "indptr") cs) _ (index-so _ cs) λ indptr w.
    bind (whole values) _ (whole-so values) λ n x.
    then (indexed indices 8 n) _ (indexed-so indices 8 n) (long-so indptr _)

coo-so : (shape : List ℕ) (cs : List Part) → Judged Any (sparse_coo shape cs)
unfolding sparse_coo
coo-so shape cs =
    bind (role (ascii "values") 0 cs) _ (role-so _ 0 cs) λ values u.
    bind (index_role (ascii "coords") cs) _ (index-so _ cs) λ coords v.
    bind (whole values) _ (whole-so values) λ n x. indexed-so coords _ n

group-so : (shape : List ℕ) (cs : List Part) → Judged Any (quantized_group shape cs)
unfolding quantized_group
group-so shape cs =
    then (role (ascii "packed_weight") 0 cs) _ (role-so _ 0 cs) (then (role (ascii "scales") 0 cs) _ (role-so _ 0 cs) (then (role (ascii "zeros") 0 cs) _ (role-so _ 0 cs) (passes tt tt)))

pub format-so : (f shape : List ℕ) (cs : List Part) → Judged Any (format_rules f shape cs)
unfolding format_rules
format-so f shape cs =
    one_of_two (same (ascii "dense") f) _ _ (dense-so shape cs)
    (one_of_two (same (ascii "sparse_csr") f) _ _ (csr-so shape cs)
    (one_of_two (same (ascii "sparse_coo") f) _ _ (coo-so shape cs)
    (one_of_two (same (ascii "quantized_group") f) _ _ (group-so shape cs) (passes tt tt))))
