-- A component that was judged with its object's code has the storage of its role: in layout 1.0 u64 for an index role, its object's for all else; in 1.2.0 its own.
use Prim.Native.Nat.{ℕ, ◌<◌}
use native.Mathlib.Omega.{arith}
use mathlib.Core.List.{List, map}
use mathlib.Core.Bool.{Bool, true, false, cond, ◌&&◌}
use mathlib.Core.Option.{Option, none, some}
use mathlib.Core.Path.{◌≡◌, refl, ap, sym, ◌∙◌}
use lib.ListN.{length}
use lib.Dec.{eqb, ltb}
use borrow.Author.Tests.{eq-eqb, ne_eqb, eqb-true, lt-ltb}
use Rattle.meaning.specs.Text.{ascii, same, distinct}
use Rattle.meaning.specs.Check.{Check, pass, refuse}
use Rattle.meaning.specs.Model.{Named, Component}
use Rattle.meaning.specs.Notes.{map_check}
use Rattle.meaning.specs.Types.{u64}
use Rattle.meaning.specs.Layouts.{Slots, slot, somes, current, old, layout_of}
use Rattle.meaning.specs.Judge.{or_else, is_index, inherited, component}
use Rattle.meaning.proofs.CurrentIsBase.{bind_assoc}
use Rattle.meaning.proofs.OldIs001.{component-old}
use Rattle.meaning.proofs.JudgeNatural.{Bind}
use Rattle.meaning.proofs.Tests.{not-both}
use Rattle.meaning.proofs.SameText.{same-eq}
use Rattle.types.specs.Known.{position, field_at, format_names, role_names}
use Rattle.types.proofs.Codes.{all_named_lem}
use Rattle.text.proofs.SameIsEqual.{eq-same}
use Rattle.fields.proofs.Marks.{position-same, position-slot}
use Rattle.walk.specs.Reading.{Ends}
use Rattle.component.specs.Value.{given}
use Rattle.table.specs.Stored.{indexed, stored_as, RoleIs, StorageIs}

-- ---------------------------------------------------------------- an index role, by its code and its format's

-- a place is that of a name exactly for this name
named-at : (ms : Slots) → distinct (somes ms) ≡ true → (i : ℕ) → i < length ms → (n : List ℕ) → slot i ms ≡ some n → (k : List ℕ) → eqb (field_at ms k) i ≡ same n k
named-at ms apart i l n at k = go (same n k) refl
  where
    here : field_at ms n ≡ i
    here = position-slot ms apart i n at

    go : (b : Bool) → same n k ≡ b → eqb (field_at ms k) i ≡ b
    go true e = eq-eqb (field_at ms k) i (ap (field_at ms) (sym (same-eq n k e)) ∙ here)
    go false e = ne_eqb (field_at ms k) i (λ z. not-both (eq-same n k (position-same ms n k (omega (arith, here, l)) (here ∙ sym z))) e)

module _ (k : List ℕ) where
  format-named : (i : ℕ) → i < length (map some format_names) → (n : List ℕ) → slot i (map some format_names) ≡ some n → eqb (position format_names k) i ≡ same n k
  unfolding format_names
  format-named i l n at = ap (λ (x : ℕ). eqb x i) (all_named_lem format_names k) ∙ named-at (map some format_names) refl i l n at k

  role-named : (i : ℕ) → i < length (map some role_names) → (n : List ℕ) → slot i (map some role_names) ≡ some n → eqb (position role_names k) i ≡ same n k
  unfolding role_names
  role-named i l n at = ap (λ (x : ℕ). eqb x i) (all_named_lem role_names k) ∙ named-at (map some role_names) refl i l n at k

index_is : (f r : List ℕ) → indexed (position format_names f) (position role_names r) ≡ is_index f r
unfolding indexed is_index format_names role_names
index_is f r = rw (
  format-named f 1 (omega arith) (ascii "sparse_csr") refl,
  format-named f 2 (omega arith) (ascii "sparse_coo") refl,
  role-named r 2 (omega arith) (ascii "indices") refl,
  role-named r 3 (omega arith) (ascii "indptr") refl,
  role-named r 4 (omega arith) (ascii "coords") refl,
) refl

-- ---------------------------------------------------------------- the code that a component is given

abbrev pub with_code : ℕ → Component Ends → Component Ends
with_code a c = record { name = c.name; dtype = a; type = c.type; offset = c.offset; length = c.length; digest = c.digest; entry = c.entry }

unchanged : (k : Check (Component Ends)) → map_check (λ c. with_code c.dtype c) k ≡ k
unchanged (pass c) = refl
unchanged (refuse n o i) = refl

-- in 1.2.0 a component has its own
any-above : (start : ℕ) (a b : Option ℕ) (n : Named Ends) → component current start a n ≡ component current start b n
unfolding component current or_else
any-above start a b n = simp bind_assoc

-- in 1.0 the one that it is given, and nothing else depends on it
given-code : (start a b : ℕ) (n : Named Ends) → component old start (some a) n ≡ map_check (with_code a) (component old start (some b) n)
given-code start a b n = rw (component-old start a n, component-old start b n) (simp Bind)

module _ (start : ℕ) (n : Named Ends) where
  abbrev role : ℕ
  role = position role_names n.name.letters

  old-stored : (format d : ℕ) (i : Bool) → indexed format role ≡ i
      → component old start (some (cond i u64 d)) n ≡ map_check (λ c. with_code (cond i 8 c.dtype) c) (component old start (some d) n)
  unfolding u64
  old-stored format d true e = given-code start 8 d n
  old-stored format d false e = sym (unchanged (component old start (some d) n))

  -- as it is judged with the code that its object gives to its role, from its judgement with the object's own
  pub stored-so : (layout format d : ℕ) (f : List ℕ) → format ≡ position format_names f → (layout ≡ 1 → d < 13)
      → component (layout_of layout) start (inherited f (given d) n.name.letters) n
      ≡ map_check (λ c. with_code (stored_as layout format role c.dtype) c) (component (layout_of layout) start (given d) n)
  unfolding layout_of stored_as given inherited
  stored-so layout format d f is has = go (eqb layout 1) refl
    where
      indexes : indexed format role ≡ is_index f n.name.letters
      indexes = ap (λ (x : ℕ). indexed x role) is ∙ index_is f n.name.letters

      go : (b : Bool) → eqb layout 1 ≡ b
          → component (cond b old current) start (inherited f (cond (ltb d 13) (some d) none) n.name.letters) n
          ≡ map_check (λ c. with_code (cond (b && indexed format role) 8 c.dtype) c) (component (cond b old current) start (cond (ltb d 13) (some d) none) n)
      go true e = rw (lt-ltb d 13 (has (eqb-true layout 1 e)), ← indexes) (old-stored format d (indexed format role) refl)
      go false e = any-above start _ _ n ∙ sym (unchanged (component current start (cond (ltb d 13) (some d) none) n))

-- ---------------------------------------------------------------- as the code asks, a branch each

module _ (layout format role code : ℕ) where
  pub other-layout : (layout ≡ 1 → ⊥) → code ≡ stored_as layout format role code
  unfolding stored_as
  other-layout n = rw (ne_eqb layout 1 n) refl

  module _ (old : layout ≡ 1) where
    module _ (csr : format ≡ 1) where
      pub csr-indices : role ≡ 2 → 8 ≡ stored_as layout format role code
      unfolding stored_as indexed
      csr-indices e = rw (eq-eqb layout 1 old, eq-eqb format 1 csr, eq-eqb role 2 e) refl

      pub csr-pointers : (role ≡ 2 → ⊥) → role ≡ 3 → 8 ≡ stored_as layout format role code
      unfolding stored_as indexed
      csr-pointers n e = rw (eq-eqb layout 1 old, eq-eqb format 1 csr, ne_eqb role 2 n, eq-eqb role 3 e) refl

      pub csr-other : (role ≡ 2 → ⊥) → (role ≡ 3 → ⊥) → code ≡ stored_as layout format role code
      unfolding stored_as indexed
      csr-other n m = rw (eq-eqb layout 1 old, eq-eqb format 1 csr, ne_eqb role 2 n, ne_eqb role 3 m, ne_eqb format 2 (λ z. omega (arith, csr, z))) refl

    module _ (no-csr : format ≡ 1 → ⊥) where
      pub coo-coords : format ≡ 2 → role ≡ 4 → 8 ≡ stored_as layout format role code
      unfolding stored_as indexed
      coo-coords coo e = rw (eq-eqb layout 1 old, ne_eqb format 1 no-csr, eq-eqb format 2 coo, eq-eqb role 4 e) refl

      pub coo-other : format ≡ 2 → (role ≡ 4 → ⊥) → code ≡ stored_as layout format role code
      unfolding stored_as indexed
      coo-other coo n = rw (eq-eqb layout 1 old, ne_eqb format 1 no-csr, eq-eqb format 2 coo, ne_eqb role 4 n) refl

      pub no_index : (format ≡ 2 → ⊥) → code ≡ stored_as layout format role code
      unfolding stored_as indexed
      no_index n = rw (eq-eqb layout 1 old, ne_eqb format 1 no-csr, ne_eqb format 2 n) refl

pub role-stored : (layout format : ℕ) (s : List ℕ) (code role kept : ℕ) → RoleIs s role → kept ≡ stored_as layout format role code → StorageIs layout format s code kept
role-stored layout format s code role kept h e d t q r = e ∙ ap (λ role. stored_as layout format role code) (h d t q r)
