-- ROLE: the index role's component, where one is to blame, else the components' map.
use Prim.Native.Nat.{ℕ, ◌<◌}
use mathlib.Core.List.{List, [], ◌++◌, map}
use mathlib.Core.Bool.{Bool, true, false, cond, not}
use mathlib.Core.Option.{none, some}
use mathlib.Core.Path.{◌≡◌, refl, ap, sym, ◌∙◌, subst}
use native.Mathlib.Omega.{arith}
use lib.ListN.{length, get_or}
use lib.Dec.{eqb}
use borrow.Author.Tests.{eqb-true}
use Rattle.meaning.specs.Tree.{note_of}
use Rattle.meaning.specs.Text.{ascii, same}
use Rattle.meaning.specs.Check.{Check, pass, refuse}
use Rattle.meaning.specs.Model.{Named}
use Rattle.meaning.specs.Layouts.{Layout}
use Rattle.meaning.specs.Format.{Part, Role, role, plain, whole}
use Rattle.types.specs.Known.{position, format_names, role_names}
use Rattle.types.proofs.Tell.{place-tells}
use Rattle.formats.specs.Parts.{role_name}
use Rattle.explained.specs.Step as steps
use Rattle.explained.specs.Step.{Step, first, given, passes}
use Rattle.explained.specs.Order.{of_role, role_steps, plain_steps, length_steps, dense_steps, csr_steps, coo_steps, group_steps, format_steps}
use Rattle.badfields.proofs.Firsts.{Each, no_more, and_so, each_first, each-++, each-found}
use Rattle.badrules.specs.Blame.{not_plain, there, odd, of_csr, blames}
use Rattle.badrules.proofs.Rules.{role-within, name_at}

module _ {P : Type 0} (L : Layout) (shape_note map_note : P) (shape : List ℕ) (ns : List (Named P)) (cs : List Part) (this : Step P) where
  -- what is shown: the component of an index role, or the map
  abbrev pub Shows : Bool → Step P → Type 0
  Shows true x = (x.place ≡ get_or (map (λ n. note_of n.value) ns) x.component map_note) × (x.component_name ≡ name_at L shape_note map_note shape ns cs x.component) × (x.component < length cs)
  Shows false x = (x.place ≡ map_note) × (x.component_name ≡ none)

  -- a check that isn't ROLE, or shows the map
  record AtMap (x : Step P) : Type 0 where
    pub shows : x.number ≡ 22 → Shows false x

  abbrev Length : Step P → Type 0
  Length x = x.number ≡ 23

  role-at-map : (n : List ℕ) → Each AtMap (role_steps L shape_note map_note shape ns cs n)
  unfolding role_steps
  role-at-map n = and_so (record { shows = λ e. (refl, refl) }) no_more

  not-role : (x : Step P) → x.number ≡ 23 → AtMap x
  not-role x e = record { shows = λ f. absurd (omega (arith, e, f)) }

  length-at-map : (r : Role) (b : Bool) → Each AtMap (length_steps L shape_note map_note shape ns cs r b)
  unfolding length_steps of_role
  length-at-map r b = and_so (not-role _ refl) no_more

  lengths : (r : Role) (b : Bool) → Each Length (length_steps L shape_note map_note shape ns cs r b)
  unfolding length_steps of_role
  lengths r b = and_so refl no_more

  module _ (is-role : this.number ≡ 22) where
    -- lengths aren't ROLE
    no_length : (b : Bool) (s : List (Step P)) → Each Length s → first s ≡ some this → Shows b this
    no_length b s h e = absurd (let k = each_first h this e in omega (arith, k, is-role))

    -- nor is another check
    other : (b : Bool) (x : Step P) → (x.number ≡ 22 → ⊥) → some x ≡ some this → Shows b this
    other b x n e = let y : x ≡ this = cc in absurd (n (ap (λ (s : Step P). s.number) y ∙ is-role))

    -- a role that is missing
    missing : (x : Step P) → Shows false x → some x ≡ some this → Shows false this
    missing x h e = let y : x ≡ this = cc in subst (Shows false) y h

    -- an index role, then what follows
    index : (i : Role) → i.index < length cs → (rest : List (Step P)) (b : Bool) → (plain i.part ≡ true → first rest ≡ some this → Shows b this)
        → first (plain_steps L shape_note map_note shape ns cs i ++ rest) ≡ some this → Shows (cond (not (plain i.part)) true b) this
    unfolding plain_steps of_role
    index i inside rest b h e = go (plain i.part) refl e
      where
        go : (p : Bool) → plain i.part ≡ p → cond p (first rest) (some (steps.in_component i.index (name_at L shape_note map_note shape ns cs i.index)
            (record { number = 22; object = 0; component = 0; object_name = none; component_name = none; place = get_or (map (λ n. note_of n.value) ns) i.index map_note; right = plain i.part }))) ≡ some this
            → Shows (cond (not p) true b) this
        go true k f = h k f
        go false k f = let y : steps.in_component i.index (name_at L shape_note map_note shape ns cs i.index)
            (record { number = 22; object = 0; component = 0; object_name = none; component_name = none; place = get_or (map (λ n. note_of n.value) ns) i.index map_note; right = plain i.part }) ≡ this = cc in
            subst (Shows true) y (refl, refl, inside)

    -- a role: missing, or what follows with it
    abbrev asked : Check Role → (Role → List (Step P)) → List (Step P)
    asked c rest = steps.◌at◌unless◌ 22 map_note (passes c) ++ steps.◌>>=◌ (given c) rest

    -- a role's component is one of them
    abbrev Inside : Check Role → Type 0
    Inside c = (r : Role) → c ≡ pass r → r.index < length cs

    both : (b : Bool) → cond (not b) true false ≡ not b
    both true = refl
    both false = refl

    of-csr : (rank : Bool) (v i p : Check Role) → Inside i → Inside p → (rest : Role → Role → Role → List (Step P)) → ((a b c : Role) → Each Length (rest a b c))
        → first (steps.◌at◌unless◌ 21 shape_note rank ++ asked v (λ a. asked i (λ b. plain_steps L shape_note map_note shape ns cs b
        ++ asked p (λ c. plain_steps L shape_note map_note shape ns cs c ++ rest a b c)))) ≡ some this
        → Shows (cond (passes v) (cond (not_plain i) true (cond (passes i) (not_plain p) false)) false) this
    of-csr false v i p hi hp rest h e = other (cond (passes v) (cond (not_plain i) true (cond (passes i) (not_plain p) false)) false) _ (λ z. omega (arith, z)) e
    of-csr true (refuse n o c) i p hi hp rest h e = missing _ (refl, refl) e
    of-csr true (pass a) (refuse n o c) p hi hp rest h e = missing _ (refl, refl) e
    of-csr true (pass a) (pass b) p hi hp rest h e = index b (hi b refl) _ (cond true (not_plain p) false) (λ _ f. last p hp f) e
      where
        last : (p : Check Role) → Inside p → first (asked p (λ c. plain_steps L shape_note map_note shape ns cs c ++ rest a b c)) ≡ some this → Shows (not_plain p) this
        last (refuse n o c) k f = missing _ (refl, refl) f
        last (pass c) k f = subst (λ i. Shows i this) (both (plain c.part)) (index c (k c refl) (rest a b c) false (λ _ g. no_length false (rest a b c) (h a b c) g) f)

    of-coo : (v i : Check Role) → Inside i → (rest : Role → Role → List (Step P)) → ((a b : Role) → Each Length (rest a b))
        → first (asked v (λ a. asked i (λ b. plain_steps L shape_note map_note shape ns cs b ++ rest a b))) ≡ some this → Shows (cond (passes v) (not_plain i) false) this
    of-coo (refuse n o c) i hi rest h e = missing _ (refl, refl) e
    of-coo (pass a) (refuse n o c) hi rest h e = missing _ (refl, refl) e
    of-coo (pass a) (pass b) hi rest h e = subst (λ i. Shows i this) (both (plain b.part)) (index b (hi b refl) (rest a b) false (λ _ g. no_length false (rest a b) (h a b) g) e)

    csr-shows : first (csr_steps L shape_note map_note shape ns cs) ≡ some this
        → Shows (cond (passes (role (ascii "values") 0 cs)) (cond (not_plain (role (ascii "indices") 0 cs)) true (cond (passes (role (ascii "indices") 0 cs)) (not_plain (role (ascii "indptr") 0 cs)) false)) false) this
    unfolding csr_steps role_steps
    csr-shows e = of-csr (eqb (length shape) 2) (role (ascii "values") 0 cs) (role (ascii "indices") 0 cs) (role (ascii "indptr") 0 cs) (role-within (ascii "indices") cs) (role-within (ascii "indptr") cs) _
        (λ values indices indptr. each-++ (lengths values _) (each-found (given (whole values)) _ λ n. each-++ (lengths indices _) (lengths indptr _))) e

    coo-shows : first (coo_steps L shape_note map_note shape ns cs) ≡ some this → Shows (cond (passes (role (ascii "values") 0 cs)) (not_plain (role (ascii "coords") 0 cs)) false) this
    unfolding coo_steps role_steps
    coo-shows e = of-coo (role (ascii "values") 0 cs) (role (ascii "coords") 0 cs) (role-within (ascii "coords") cs) _ (λ values coords. each-++ (lengths values _) (each-found (given (whole values)) _ λ n. lengths coords _)) e

    dense-shows : first (dense_steps L shape_note map_note shape ns cs) ≡ some this → Shows false this
    unfolding dense_steps
    dense-shows e = (each_first (each-++ (role-at-map (ascii "data")) (each-found (given (role (ascii "data") 0 cs)) _ λ d. length-at-map d _)) this e).shows is-role

    group-shows : first (group_steps L shape_note map_note shape ns cs) ≡ some this → Shows false this
    unfolding group_steps
    group-shows e = (each_first (each-++ (role-at-map (ascii "packed_weight")) (each-++ (role-at-map (ascii "scales")) (role-at-map (ascii "zeros")))) this e).shows is-role

    -- by the format's name and by its code
    nothing : (b : Bool) → Shows false this → Shows (cond b false false) this
    nothing true h = h
    nothing false h = h

    pub role-shows : (f : List ℕ) → first (format_steps L shape_note map_note shape ns cs f) ≡ some this → Shows (blames (position format_names f) cs) this
    unfolding format_steps blames of_csr there odd role_name role_names format_names
    role-shows f e = go (same (ascii "dense") f) (tells 0 (omega arith)) (same (ascii "sparse_csr") f) (tells 1 (omega arith)) (same (ascii "sparse_coo") f) (tells 2 (omega arith)) (same (ascii "quantized_group") f) e
      where
        k : ℕ
        k = position format_names f

        tells : (j : ℕ) → j < 4 → same (get_or format_names j []) f ≡ eqb (position format_names f) j
        tells j l = place-tells format_names refl j l f

        go : (a : Bool) → a ≡ eqb k 0 → (b : Bool) → b ≡ eqb k 1 → (c : Bool) → c ≡ eqb k 2 → (d : Bool)
            → first (cond a (dense_steps L shape_note map_note shape ns cs) (cond b (csr_steps L shape_note map_note shape ns cs) (cond c (coo_steps L shape_note map_note shape ns cs) (cond d (group_steps L shape_note map_note shape ns cs) [])))) ≡ some this
            → Shows (cond (passes (role (ascii "values") 0 cs)) (cond (eqb k 1) (cond (not_plain (role (ascii "indices") 0 cs)) true (cond (passes (role (ascii "indices") 0 cs)) (not_plain (role (ascii "indptr") 0 cs)) false))
            (cond (eqb k 2) (not_plain (role (ascii "coords") 0 cs)) false)) false) this
        go true x b y c z d e = rw (eqb-true k 0 (sym x)) (nothing (passes (role (ascii "values") 0 cs)) (dense-shows e))
        go false x true y c z d e = rw (← y) (csr-shows e)
        go false x false y true z d e = rw (← y, ← z) (coo-shows e)
        go false x false y false z true e = rw (← y, ← z) (nothing (passes (role (ascii "values") 0 cs)) (group-shows e))
        go false x false y false z false e = absurd (let w : ◌≡◌ {A = ℕ} 0 1 = cc in omega arith)
