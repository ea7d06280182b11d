-- The rows of an object's components: the one that fills a role. Assumes nothing.
use mathlib.Core.Path.{◌≡◌, refl, sym, ap, ◌∙◌}
use mathlib.Core.List.{List, [], ◌∷◌}
use mathlib.Core.Bool.{true, false}
use Prim.Native.Nat.{ℕ, ◌+◌, ◌-◌, ◌≤◌, ◌<◌}
use native.Mathlib.Numerals.{add-one}
use native.Mathlib.Omega.{arith}
use native.Mathlib.Nat.{add-zero}
use lib.ListN.{length, get_or, drop, length-drop}
use lib.Seq.{get_or-drop, drop-drop}
use lib.Dec.{eqb}
use borrow.Author.Tests.{eq-eqb, ne_eqb}
use Rattle.meaning.specs.Check.{fault}
use Rattle.meaning.specs.Refusal.{ROLE}
use Rattle.meaning.specs.Text.{same}
use Rattle.meaning.specs.Format.{Part, plain, role}
use Rattle.types.specs.Known.{position, role_names}
use Rattle.formats.specs.Parts.{flag, unit_code, part_row, part_rows, role_name, RoleIs}
use Rattle.types.proofs.Tell.{place-tells}
use Rattle.std.specs.Prelude.{Some, None}

-- i components are passed up to `at`, none of them with the role n
pub record Seeking (n parts : List ℕ) (at i : ℕ) : Type 0 where
  pub inside : at ≤ length parts
  pub counted : i ≤ at
  -- what is left of the components
  pub rest : (cs : List Part) → parts ≡ part_rows cs → (ds : List Part) × (drop at parts ≡ part_rows ds) × (role n 0 cs ≡ role n i ds)

pub seeking-starts : (n parts : List ℕ) → Seeking n parts 0 0
seeking-starts n parts = record { inside = omega arith; counted = omega arith; rest = λ cs e. (cs, e, refl) }

pub role-tells : (j : ℕ) → j < 8 → (k : List ℕ) → same (role_name j) k ≡ eqb (position role_names k) j
unfolding role_name role_names
role-tells j h k = place-tells role_names refl j h k

-- a row that is there is that of a component
pub record Row (parts : List ℕ) (at : ℕ) (ds : List Part) : Type 0 where
  pub this : Part
  pub more : List Part
  pub are : ds ≡ this ∷ more
  pub code : get_or parts at 0 ≡ position role_names this.called
  pub bytes : get_or parts (at + 1) 0 ≡ unit_code this
  pub bare : get_or parts (at + 2) 0 ≡ flag (plain this)
  pub long : get_or parts (at + 3) 0 ≡ this.size
  pub rest : drop (at + 4) parts ≡ part_rows more

module _ (parts : List ℕ) (at : ℕ) where
  row_at : (ds : List Part) → drop at parts ≡ part_rows ds → at + 4 ≤ length parts → Row parts at ds
  unfolding part_rows part_row
  row_at [] e h = let x = ap length e in let y = length-drop at parts in absurd (omega arith)
  row_at (c ∷ ds) e h =
      record {
        this = c;
        more = ds;
        are = refl;
        code = ap (λ (i : ℕ). get_or parts i 0) (sym (add-zero at)) ∙ sym (get_or-drop at parts 0 0) ∙ ap (λ l. get_or l 0 0) e;
        bytes = sym (get_or-drop at parts 1 0) ∙ ap (λ l. get_or l 1 0) e;
        bare = sym (get_or-drop at parts 2 0) ∙ ap (λ l. get_or l 2 0) e;
        long = sym (get_or-drop at parts 3 0) ∙ ap (λ l. get_or l 3 0) e;
        rest = sym (drop-drop 4 at parts) ∙ ap (drop 4) e;
      }

module _ (j : ℕ) (low : j < 8) {parts : List ℕ} {at i : ℕ} (so : Seeking (role_name j) parts at i) where
  module _ (h : 4 ≤ length parts - at) where
    abbrev row : (ds : List Part) → drop at parts ≡ part_rows ds → Row parts at ds
    row ds e = row_at parts at ds e (omega (arith, so.inside))

    pub role-here : get_or parts at 0 ≡ j → (cs : List Part) → parts ≡ part_rows cs → RoleIs (role_name j) cs (Some (record { index = i; unit = get_or parts (at + 1) 0; plain = get_or parts (at + 2) 0; length = get_or parts (at + 3) 0 }))
    unfolding role
    role-here e cs is =
        let l = so.rest cs is in let r = row l.0 l.1 in
        let t : same (role_name j) r.this.called ≡ true = role-tells j low r.this.called ∙ eq-eqb _ j (sym r.code ∙ e) in
        (r.this, (l.2 ∙ ap (role (role_name j) i) r.are ∙ rw t), r.bytes, r.bare, r.long)

    later : (get_or parts at 0 ≡ j → ⊥) → (cs : List Part) → parts ≡ part_rows cs → (ds : List Part) × (drop (at + 4) parts ≡ part_rows ds) × (role (role_name j) 0 cs ≡ role (role_name j) (i + 1) ds)
    unfolding role
    later n cs is =
        let l = so.rest cs is in let r = row l.0 l.1 in
        let t : same (role_name j) r.this.called ≡ false = role-tells j low r.this.called ∙ ne_eqb _ j (λ (e : position role_names r.this.called ≡ j). n (r.code ∙ e)) in
        (r.more, r.rest, l.2 ∙ ap (role (role_name j) i) r.are ∙ rw (t, add-one))

    pub role-later : (get_or parts at 0 ≡ j → ⊥) → Seeking (role_name j) parts (at + 4) (i + 1)
    role-later n = record { inside = omega (arith, so.inside); counted = omega (arith, so.counted); rest = later n }

  pub role-none : length parts - at < 4 → (cs : List Part) → parts ≡ part_rows cs → RoleIs (role_name j) cs None
  unfolding part_rows part_row role
  role-none h cs is = let l = so.rest cs is in go l.0 l.1 l.2
    where
      go : (ds : List Part) → drop at parts ≡ part_rows ds → role (role_name j) 0 cs ≡ role (role_name j) i ds → role (role_name j) 0 cs ≡ fault ROLE
      go [] e f = f
      go (c ∷ ds) e f = let x = ap length e in let y = length-drop at parts in absurd (omega arith)
