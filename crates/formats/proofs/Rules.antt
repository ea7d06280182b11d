-- The formats' rules, by the answers of the functions that they are made of. Assumes nothing.
use mathlib.Core.Path.{◌≡◌, refl, sym, ap, ◌∙◌, subst}
use mathlib.Core.List.{List, []}
use mathlib.Core.Bool.{Bool, true, false, not}
use mathlib.Core.Option.{Option, none, some}
use Prim.Native.Nat.{ℕ, ◌+◌, ◌-◌, ◌*◌, ◌/◌, ◌%◌, ◌≤◌, ◌<◌}
use native.Mathlib.Omega.{arith}
use native.Mathlib.Nat.{mul-le-mul}
use lib.ListN.{length, get_or, take, drop}
use lib.Dec.{eqb, leb}
use borrow.Author.Tests.{eq-eqb, ne_eqb, le-leb, lt-leb, not-true, not-false}
use borrow.Author.Rules.{part_to_end}
use Rattle.meaning.specs.Check.{Check, pass, ◌>>=◌, ◌>>◌, ◌unless◌, in_component}
use Rattle.meaning.specs.Refusal.{LENGTH}
use Rattle.meaning.specs.Text.{same}
use Rattle.meaning.specs.Types.{width_of, logicals, listed, ratio_of, type_ratio, product}
use Rattle.meaning.specs.Format as format
use Rattle.meaning.specs.Format.{Part, Role, element_bytes, unit, plain, index_role, long, multiple, whole_of, whole, indexed, dense, sparse_csr, sparse_coo, quantized_group, format_rules}
use Rattle.types.specs.Known.{position, role_names, format_names, unit_number}
use Rattle.numbers.specs.Answered.{in_object}
use Rattle.formats.specs.Parts.{flag, unit_code, part_rows, role_name, rules_of, RoleIs, IndexIs, RoleThere, dense_fits, values_fit, index_fits, csr_lengths, coo_lengths}
use Rattle.formats.specs.declared.Filled.{Filled}
use Rattle.formats.specs.declared.Indexed.{Indexed}
use Rattle.types.proofs.Tell.{place-tells}
use Rattle.types.proofs.Codes.{Ratio, unlisted, between, ratio-is, width-most}
use Rattle.std.specs.Prelude.{Some, None, Ok, Err, Result, Option as Optional, is_some}
use Rattle.numbers.specs.declared.fault.ObjectFault.{ObjectFault}
use Rattle.numbers.specs.declared.refusal.Refusal.TheVariants as refusals

-- ---------------------------------------------------------------- lengths

-- a unit's code tells what a part's length is counted in: numbers of its dtype, or elements
pub data Counts (c : Part) (u : ℕ) : Type 0 where
  numbers : unit c ≡ none → leb 256 u ≡ true → u - 256 ≡ width_of c.code → Counts c u
  elements : unit c ≡ some u → leb 256 u ≡ false → Counts c u

pub counts : (c : Part) (u : ℕ) → u ≡ unit_code c → Counts c u
unfolding unit element_bytes unit_code unit_number type_ratio
counts c u e = by c.typed refl
  where
    listed-as : (o : Option ℕ) → Ratio o → type_ratio c.typed ≡ o → u ≡ unit_number o (width_of c.code) → Counts c u
    listed-as o unlisted t h = numbers (rw t) (le-leb 256 u (omega arith)) (omega arith)
    listed-as o (between {r} a b) t h =
        let m : r * width_of c.code ≤ 16 = mul-le-mul b (width-most c.code) in
        elements (rw (t, h)) (lt-leb 256 u (omega arith))

    by : (o : Option (List ℕ)) → c.typed ≡ o → Counts c u
    by none t = listed-as (some 1) (between (omega arith) (omega arith)) (rw t) (rw t at e)
    by (some w) t = listed-as (ratio_of (listed logicals w)) (ratio-is w) (rw t) (rw t at e)

-- the tests of lengths, where elements aren't counted and where they are
module _ (u size : ℕ) {t : Bool} where
  module _ (free : 256 ≤ u) where
    pub dense-free : (shape : List ℕ) → t ≡ eqb (size % (u - 256)) 0 → t ≡ dense_fits shape u size
    unfolding dense_fits
    dense-free shape e = rw (le-leb 256 u free) e

    pub values-free : t ≡ eqb (size % (u - 256)) 0 → t ≡ values_fit u size
    unfolding values_fit
    values-free e = rw (le-leb 256 u free) e

    pub index-free : (each l : ℕ) → t ≡ eqb (l % 8) 0 → t ≡ index_fits u size each l
    unfolding index_fits
    index-free each l e = rw (le-leb 256 u free) e

  module _ (counted : u < 256) where
    pub dense-counted : (shape : List ℕ) → t ≡ eqb size (product (take (length shape - 0) (drop 0 shape)) * u) → t ≡ dense_fits shape u size
    unfolding dense_fits
    dense-counted shape e = rw (lt-leb 256 u counted) (rw (part_to_end shape 0) at e)

    pub values-counted : t ≡ eqb (size % u) 0 → t ≡ values_fit u size
    unfolding values_fit
    values-counted e = rw (lt-leb 256 u counted) e

    pub index-counted : (each l : ℕ) {m : ℕ} → m ≡ size / u → t ≡ eqb l (each * m) → t ≡ index_fits u size each l
    unfolding index_fits
    index-counted each l n e = rw (lt-leb 256 u counted) (rw n at e)

module _ (rows v u size x indices y pointers : ℕ) {a : Bool} (even : a ≡ values_fit u size) where
  pub csr-odd : a ≡ false → csr_lengths rows v u size x indices y pointers ≡ in_object (Err (record { refusal = refusals.Length; component = v }))
  unfolding csr_lengths
  csr-odd e = rw (sym even ∙ e)

  module _ (ok : a ≡ true) {b : Bool} (fits : b ≡ index_fits u size 8 indices) where
    pub csr-indices : b ≡ false → csr_lengths rows v u size x indices y pointers ≡ in_object (Err (record { refusal = refusals.Length; component = x }))
    unfolding csr_lengths
    csr-indices e = rw (sym even ∙ ok, sym fits ∙ e)

    module _ (ok2 : b ≡ true) {d : Bool} (rows_fit : d ≡ eqb pointers (8 * (rows + 1))) where
      csr-both : {t : Bool} → d ≡ t → csr_lengths rows v u size x indices y pointers ≡ in_component y (LENGTH unless t)
      unfolding csr_lengths
      csr-both e = rw (sym even ∙ ok, sym fits ∙ ok2, sym rows_fit ∙ e)

      pub csr-pointers : d ≡ false → csr_lengths rows v u size x indices y pointers ≡ in_object (Err (record { refusal = refusals.Length; component = y }))
      csr-pointers e = csr-both e

      pub csr-right : d ≡ true → csr_lengths rows v u size x indices y pointers ≡ in_object (Ok tt)
      csr-right e = csr-both e

module _ (rank v u size x coords : ℕ) {a : Bool} (even : a ≡ values_fit u size) where
  pub coo-odd : a ≡ false → coo_lengths rank v u size x coords ≡ in_object (Err (record { refusal = refusals.Length; component = v }))
  unfolding coo_lengths
  coo-odd e = rw (sym even ∙ e)

  module _ (ok : a ≡ true) {b : Bool} (fits : b ≡ index_fits u size (8 * rank) coords) where
    coo-both : {t : Bool} → b ≡ t → coo_lengths rank v u size x coords ≡ in_component x (LENGTH unless t)
    unfolding coo_lengths
    coo-both e = rw (sym even ∙ ok, sym fits ∙ e)

    pub coo-coords : b ≡ false → coo_lengths rank v u size x coords ≡ in_object (Err (record { refusal = refusals.Length; component = x }))
    coo-coords e = coo-both e

    pub coo-right : b ≡ true → coo_lengths rank v u size x coords ≡ in_object (Ok tt)
    coo-right e = coo-both e

-- ---------------------------------------------------------------- roles

-- what a call on the whole of `parts` says of the components that they are the rows of
abbrev Of : {R : Type 0} → (List Part → R → Type 0) → List ℕ → R → Type 0
Of K parts r = (cs : List Part) → take (length parts - 0) (drop 0 parts) ≡ part_rows cs → K cs r

-- the same where its answer was seen to be o
seen : {R : Type 0} (K : List Part → R → Type 0) {parts : List ℕ} {r o : R} → Of K parts r → r ≡ o → (cs : List Part) → parts ≡ part_rows cs → K cs o
seen K {parts} h e cs is = subst (K cs) e (h cs (part_to_end parts 0 ∙ is))

plain-is : (c : Part) (p : ℕ) → p ≡ flag (plain c) → p ≡ 1 → plain c ≡ true
plain-is c p is e = go (plain c) (sym is ∙ e)
  where
    go : (t : Bool) → flag t ≡ 1 → t ≡ true
    go true h = refl
    go false h = absurd (omega arith)

odd_is : (c : Part) (p : ℕ) → p ≡ flag (plain c) → (p ≡ 1 → ⊥) → plain c ≡ false
odd_is c p is n = go (plain c) refl
  where
    go : (t : Bool) → plain c ≡ t → t ≡ false
    go true e = absurd (n (is ∙ ap flag e))
    go false e = refl

module _ (n parts : List ℕ) (r : Optional Filled) (found : Of (RoleIs n) parts r) (cs : List Part) (is : parts ≡ part_rows cs) where
  pub not_there : r ≡ None → RoleThere n cs false
  not_there e = seen (RoleIs n) found e cs is

  pub index-absent : r ≡ None → IndexIs n cs (Err (record { refusal = refusals.Role; component = 0 }))
  unfolding index_role
  index-absent e = rw (seen (RoleIs n) found e cs is)

  module _ (v : Filled) (at : r ≡ Some v) where
    filled : RoleIs n cs (Some v)
    filled = seen (RoleIs n) found at cs is

    pub there : RoleThere n cs true
    there = (record { index = v.index; part = filled.0 }, filled.1)

    pub index-plain : v.plain ≡ 1 → IndexIs n cs (Ok (record { index = v.index; length = v.length }))
    unfolding index_role
    index-plain e = (filled.0, rw (filled.1, plain-is filled.0 v.plain filled.3 e), filled.4)

    pub index-odd : (v.plain ≡ 1 → ⊥) → IndexIs n cs (Err (record { refusal = refusals.Role; component = v.index }))
    unfolding index_role
    index-odd e = rw (filled.1, odd_is filled.0 v.plain filled.3 e)

  pub there-or-not : (b : Bool) → b ≡ is_some r → RoleThere n cs b
  there-or-not b e = subst (RoleThere n cs) (sym e) (go r refl)
    where
      go : (y : Optional Filled) → r ≡ y → RoleThere n cs (is_some y)
      go None z = not_there z
      go (Some v) z = there v z

-- ---------------------------------------------------------------- formats

module _ (shape parts : List ℕ) (r : Optional Filled) (found : Of (RoleIs (role_name 0)) parts r) (cs : List Part) (is : parts ≡ part_rows cs) where
  pub dense-absent : r ≡ None → dense shape cs ≡ in_object (Err (record { refusal = refusals.Role; component = 0 }))
  unfolding dense role_name role_names
  dense-absent e = let h : RoleIs (role_name 0) cs None = seen (RoleIs (role_name 0)) found e cs is in rw h

  module _ (v : Filled) (at : r ≡ Some v) where
    data-there : RoleIs (role_name 0) cs (Some v)
    data-there = seen (RoleIs (role_name 0)) found at cs is

    module _ (t : Bool) (fits : t ≡ dense_fits (take (length shape - 0) (drop 0 shape)) v.unit v.length) where
      dense-at : {o : Bool} → t ≡ o → dense shape cs ≡ in_component v.index (LENGTH unless o)
      unfolding dense format.elements long multiple role_name role_names dense_fits
      dense-at e = go (counts data-there.0 v.unit data-there.2) (rw (data-there.4, part_to_end shape 0) at fits) ∙ ap (λ t. in_component v.index (LENGTH unless t)) e
        where
          go : Counts data-there.0 v.unit → t ≡ dense_fits shape v.unit data-there.0.size → dense shape cs ≡ in_component v.index (LENGTH unless t)
          go (numbers n l w) q = rw (data-there.1, n, q, l, w)
          go (elements n l) q = rw (data-there.1, n, q, l)

      pub dense-right : t ≡ true → dense shape cs ≡ in_object (Ok tt)
      dense-right e = dense-at e

      pub dense-wrong : t ≡ false → dense shape cs ≡ in_object (Err (record { refusal = refusals.Length; component = v.index }))
      dense-wrong e = dense-at e

module _ (parts : List ℕ) (a : Bool) (first : Of (RoleThere (role_name 5)) parts a) (shape : List ℕ) (cs : List Part) (is : parts ≡ part_rows cs) where
  pub group-first : not a ≡ true → quantized_group shape cs ≡ in_object (Err (record { refusal = refusals.Role; component = 0 }))
  unfolding quantized_group role_name role_names
  group-first e = let h : RoleThere (role_name 5) cs false = seen (RoleThere (role_name 5)) first (not-true a e) cs is in rw h

  module _ (has_first : not a ≡ false) (b : Bool) (second : Of (RoleThere (role_name 6)) parts b) where
    weight : RoleThere (role_name 5) cs true
    weight = seen (RoleThere (role_name 5)) first (not-false a has_first) cs is

    pub group-second : not b ≡ true → quantized_group shape cs ≡ in_object (Err (record { refusal = refusals.Role; component = 0 }))
    unfolding quantized_group role_name role_names
    group-second e = let h : RoleThere (role_name 6) cs false = seen (RoleThere (role_name 6)) second (not-true b e) cs is in rw (weight.1, h)

    module _ (has-second : not b ≡ false) (d : Bool) (third : Of (RoleThere (role_name 7)) parts d) where
      scales : RoleThere (role_name 6) cs true
      scales = seen (RoleThere (role_name 6)) second (not-false b has-second) cs is

      pub group-third : not d ≡ true → quantized_group shape cs ≡ in_object (Err (record { refusal = refusals.Role; component = 0 }))
      unfolding quantized_group role_name role_names
      group-third e = let h : RoleThere (role_name 7) cs false = seen (RoleThere (role_name 7)) third (not-true d e) cs is in rw (weight.1, scales.1, h)

      pub group-right : not d ≡ false → quantized_group shape cs ≡ in_object (Ok tt)
      unfolding quantized_group role_name role_names
      group-right e = let h : RoleThere (role_name 7) cs true = seen (RoleThere (role_name 7)) third (not-false d e) cs is in rw (weight.1, scales.1, h.1)

-- a count and what follows it
after-whole : (t : Bool) (v : ℕ) (n : Option ℕ) (k : Option ℕ → Check (Unit {0})) → ((in_component v (LENGTH unless t) >> pass n) >>= k) ≡ (in_component v (LENGTH unless t) >> k n)
after-whole true v n k = refl
after-whole false v n k = refl

-- values, then their indices, by the code of the values' unit
values-then : (K : Check (Unit {0}) → Check (Unit {0})) (r x : Role) (each u : ℕ) → u ≡ unit_code r.part
    → (whole r >>= λ n. K (indexed x each n))
    ≡ (in_component r.index (LENGTH unless values_fit u r.part.size) >> K (in_component x.index (LENGTH unless index_fits u r.part.size each x.part.size)))
unfolding whole whole_of multiple indexed long values_fit index_fits
values-then K r x each u e = go (counts r.part u e)
  where
    go : Counts r.part u
        → (whole_of r (unit r.part) >>= λ n. K (indexed x each n))
        ≡ (in_component r.index (LENGTH unless values_fit u r.part.size) >> K (in_component x.index (LENGTH unless index_fits u r.part.size each x.part.size)))
    go (numbers n l w) = rw (n, l, w) (after-whole (eqb (r.part.size % width_of r.part.code) 0) r.index none (λ n. K (indexed x each n)))
    go (elements n l) = rw (n, l) (after-whole (eqb (r.part.size % u) 0) r.index (some (r.part.size / u)) (λ n. K (indexed x each n)))

pub csr-rank : (shape : List ℕ) (cs : List Part) → (length shape ≡ 2 → ⊥) → sparse_csr shape cs ≡ in_object (Err (record { refusal = refusals.Rank; component = 0 }))
unfolding sparse_csr
csr-rank shape cs h = rw (ne_eqb (length shape) 2 h)

module _ (shape parts : List ℕ) (r₁ : Optional Filled) (found₁ : Of (RoleIs (role_name 1)) parts r₁) (cs : List Part) (is : parts ≡ part_rows cs) where
  pub csr-no-values : length shape ≡ 2 → r₁ ≡ None → sparse_csr shape cs ≡ in_object (Err (record { refusal = refusals.Role; component = 0 }))
  unfolding sparse_csr role_name role_names
  csr-no-values two e = let h : RoleIs (role_name 1) cs None = seen (RoleIs (role_name 1)) found₁ e cs is in rw (eq-eqb (length shape) 2 two, h)

  pub coo-no-values : r₁ ≡ None → sparse_coo shape cs ≡ in_object (Err (record { refusal = refusals.Role; component = 0 }))
  unfolding sparse_coo role_name role_names
  coo-no-values e = let h : RoleIs (role_name 1) cs None = seen (RoleIs (role_name 1)) found₁ e cs is in rw h

  module _ (v : Filled) (at₁ : r₁ ≡ Some v) (r₂ : Result Indexed ObjectFault) where
    values : RoleIs (role_name 1) cs (Some v)
    values = seen (RoleIs (role_name 1)) found₁ at₁ cs is

    module _ (two : length shape ≡ 2) (found₂ : Of (IndexIs (role_name 2)) parts r₂) where
      pub csr-no-indices : (f : ObjectFault) → r₂ ≡ Err f → (q : Result (Unit {0}) ObjectFault) → q ≡ Err f → sparse_csr shape cs ≡ in_object q
      unfolding sparse_csr role_name role_names
      csr-no-indices f e q z = let g : IndexIs (role_name 2) cs (Err f) = seen (IndexIs (role_name 2)) found₂ e cs is in rw (eq-eqb (length shape) 2 two, values.1, g) (sym (ap in_object z))

      module _ (indices : Indexed) (at₂ : r₂ ≡ Ok indices) (r₃ : Result Indexed ObjectFault) (found₃ : Of (IndexIs (role_name 3)) parts r₃) where
        their-indices : IndexIs (role_name 2) cs (Ok indices)
        their-indices = seen (IndexIs (role_name 2)) found₂ at₂ cs is

        pub csr-no-pointers : (f : ObjectFault) → r₃ ≡ Err f → (q : Result (Unit {0}) ObjectFault) → q ≡ Err f → sparse_csr shape cs ≡ in_object q
        unfolding sparse_csr role_name role_names
        csr-no-pointers g e q z = let f : IndexIs (role_name 3) cs (Err g) = seen (IndexIs (role_name 3)) found₃ e cs is in rw (eq-eqb (length shape) 2 two, values.1, their-indices.1, f) (sym (ap in_object z))

        pub csr-all : (pointers : Indexed) (r : Result (Unit {0}) ObjectFault) → r₃ ≡ Ok pointers → csr_lengths (get_or shape 0 0) v.index v.unit v.length indices.index indices.length pointers.index pointers.length ≡ in_object r → sparse_csr shape cs ≡ in_object r
        unfolding sparse_csr csr_lengths long role_name role_names
        csr-all pointers r at₃ e =
            let f : IndexIs (role_name 3) cs (Ok pointers) = seen (IndexIs (role_name 3)) found₃ at₃ cs is in
            let a : sparse_csr shape cs ≡ csr_lengths (get_or shape 0 0) v.index v.unit values.0.size indices.index their-indices.0.size pointers.index f.0.size =
            rw (eq-eqb (length shape) 2 two, values.1, their-indices.1, f.1)
            (values-then (λ c. c >> in_component pointers.index (LENGTH unless eqb f.0.size (8 * (get_or shape 0 0 + 1)))) (record { index = v.index; part = values.0 })
            (record { index = indices.index; part = their-indices.0 }) 8 v.unit values.2) in
            a ∙ (rw (values.4, their-indices.2, f.2) at e)

    module _ (found₂ : Of (IndexIs (role_name 4)) parts r₂) where
      pub coo-no-coords : (f : ObjectFault) → r₂ ≡ Err f → (q : Result (Unit {0}) ObjectFault) → q ≡ Err f → sparse_coo shape cs ≡ in_object q
      unfolding sparse_coo role_name role_names
      coo-no-coords f e q z = let g : IndexIs (role_name 4) cs (Err f) = seen (IndexIs (role_name 4)) found₂ e cs is in rw (values.1, g) (sym (ap in_object z))

      pub coo-all : (coords : Indexed) (r : Result (Unit {0}) ObjectFault) → r₂ ≡ Ok coords → coo_lengths (length shape) v.index v.unit v.length coords.index coords.length ≡ in_object r → sparse_coo shape cs ≡ in_object r
      unfolding sparse_coo coo_lengths role_name role_names
      coo-all coords r at₂ e =
          let g : IndexIs (role_name 4) cs (Ok coords) = seen (IndexIs (role_name 4)) found₂ at₂ cs is in
          let a : sparse_coo shape cs ≡ coo_lengths (length shape) v.index v.unit values.0.size coords.index g.0.size =
          rw (values.1, g.1) (values-then (λ c. c) (record { index = v.index; part = values.0 }) (record { index = coords.index; part = g.0 }) (8 * length shape) v.unit values.2) in
          a ∙ (rw (values.4, g.2) at e)

-- ---------------------------------------------------------------- the format's own code

module _ (c : ℕ) (f shape : List ℕ) (cs : List Part) (is : c ≡ position format_names f) where
  tells : (j : ℕ) → j < 4 → same (get_or format_names j []) f ≡ eqb c j
  unfolding format_names
  tells j h = place-tells format_names refl j h f ∙ ap (λ (n : ℕ). eqb n j) (sym is)

  rules-by-code : format_rules f shape cs ≡ rules_of c shape cs
  unfolding format_rules rules_of format_names
  rules-by-code = rw (tells 0 (omega arith), tells 1 (omega arith), tells 2 (omega arith), tells 3 (omega arith))

  -- a format's function was called on the whole of the shape and the rows
  abbrev Whole : (List ℕ → List Part → Check (Unit {0})) → List ℕ → Result (Unit {0}) ObjectFault → Type 0
  Whole K parts r = (cs : List Part) → take (length parts - 0) (drop 0 parts) ≡ part_rows cs → K (take (length shape - 0) (drop 0 shape)) cs ≡ in_object r

  module _ (parts : List ℕ) (rows : parts ≡ part_rows cs) (r : Result (Unit {0}) ObjectFault) where
    by-format : (K : List ℕ → List Part → Check (Unit {0})) → Whole K parts r → K shape cs ≡ in_object r
    by-format K h = ap (λ l. K l cs) (sym (part_to_end shape 0)) ∙ h cs (part_to_end parts 0 ∙ rows)

    pub as-dense : c ≡ 0 → Whole dense parts r → format_rules f shape cs ≡ in_object r
    unfolding rules_of
    as-dense e h = rules-by-code ∙ ap (λ (n : ℕ). rules_of n shape cs) e ∙ by-format dense h

    pub as-csr : c ≡ 1 → Whole sparse_csr parts r → format_rules f shape cs ≡ in_object r
    unfolding rules_of
    as-csr e h = rules-by-code ∙ ap (λ (n : ℕ). rules_of n shape cs) e ∙ by-format sparse_csr h

    pub as-coo : c ≡ 2 → Whole sparse_coo parts r → format_rules f shape cs ≡ in_object r
    unfolding rules_of
    as-coo e h = rules-by-code ∙ ap (λ (n : ℕ). rules_of n shape cs) e ∙ by-format sparse_coo h

    pub as-group : c ≡ 3 → ((shape : List ℕ) (cs : List Part) → take (length parts - 0) (drop 0 parts) ≡ part_rows cs → quantized_group shape cs ≡ in_object r) → format_rules f shape cs ≡ in_object r
    unfolding rules_of
    as-group e h = rules-by-code ∙ ap (λ (n : ℕ). rules_of n shape cs) e ∙ h shape cs (part_to_end parts 0 ∙ rows)

  pub other-code : (c ≡ 0 → ⊥) → (c ≡ 1 → ⊥) → (c ≡ 2 → ⊥) → (c ≡ 3 → ⊥) → format_rules f shape cs ≡ in_object (Ok tt)
  unfolding rules_of
  other-code n0 n1 n2 n3 = rules-by-code ∙ (rw (ne_eqb c 0 n0, ne_eqb c 1 n1, ne_eqb c 2 n2, ne_eqb c 3 n3))
