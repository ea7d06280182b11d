-- Components by their rows, and the one that a name was matched with.
use Prim.Native.Nat.{ℕ, zero, suc, ◌+◌, ◌-◌, ◌*◌, ◌≤◌, ◌<◌}
use native.Mathlib.Omega.{arith}
use mathlib.Core.List.{List, [], ◌∷◌}
use mathlib.Core.Bool.{true, false}
use mathlib.Core.Option.{Option, none, some, some-injective, none-ne-some}
use mathlib.Core.Path.{◌≡◌, refl, sym, ap, ◌∙◌, subst}
use lib.ListN.{get_elem?}
use lib.Seq.{get_or-drop}
use Rattle.meaning.specs.Columns.{component_width, name_column, name_length_column}
use Rattle.meaning.specs.Text.{same}
use Rattle.meaning.specs.Asked.{asked_component}
use Rattle.meaning.specs.Described.{DescribedComponent, described_component}
use Rattle.text.proofs.SameIsEqual.{eq-same, ne_same}
use Rattle.matching.specs.Named.{name_at, named}
use Rattle.std.specs.Prelude.{Some, None}
use Rattle.std.specs.Prelude as std
use Rattle.matching.specs.Matched.{Earliest, First}
use Rattle.changes.specs.Changes.{Found, seek, part}
use Rattle.changes.proofs.Lists.{seek-lacks}
use Rattle.differing.specs.Rows.{part_at}
use Rattle.parts.specs.Parts.{parts_at, Beside}

-- ---- the first of a name in a list

module _ {A : Type 0} (called : A → List ℕ) where
  pub seek-first : (l : List A) (w : List ℕ) (r : ℕ) (a : A) → get_elem? l r ≡ some a → called a ≡ w → ((j : ℕ) (b : A) → j < r → get_elem? l j ≡ some b → called b ≡ w → ⊥)
      → seek called w l ≡ some (record { index = r; it = a })
  seek-first [] w r a h e n = absurd (none-ne-some a h)
  seek-first (x ∷ l) w zero a h e n =
      let q : same (called x) w ≡ true = eq-same (called x) w (ap called (some-injective x a h) ∙ e) in
      rw q (ap {B = Option (Found A)} (λ (u : A). some (record { index = 0; it = u })) (some-injective x a h))
  seek-first (x ∷ l) w (suc r) a h e n =
      let q : same (called x) w ≡ false = ne_same (called x) w (n 0 x (omega arith) refl) in
      rw (q, seek-first l w r a h e (λ j b m. n (suc j) b (omega arith)))

-- ---- rows

module _ (file table : List ℕ) where
  part-name : (row : ℕ) → (part_at file table row).name ≡ name_at file table row
  unfolding part_at described_component asked_component name_at
  part-name row = rw (get_or-drop row table name_column 0, get_or-drop row table name_length_column 0)

  parts_none : (row n : ℕ) → n ≤ 0 → parts_at file table row n ≡ []
  unfolding parts_at
  parts_none row zero l = refl
  parts_none row (suc n) l = absurd (omega arith)

  parts_next : (row n : ℕ) → 0 < n → parts_at file table row n ≡ part_at file table row ∷ parts_at file table (row + component_width) (n - 1)
  unfolding parts_at
  parts_next row zero l = absurd (omega arith)
  parts_next row (suc n) l = let z : suc n - 1 ≡ n = omega arith in rw z

  part_elem : (row n i : ℕ) → i < n → get_elem? (parts_at file table row n) i ≡ some (part_at file table (row + component_width * i))
  unfolding parts_at
  part_elem row zero i l = absurd (omega arith)
  part_elem row (suc n) zero l = let z : row + component_width * 0 ≡ row = omega arith in rw z
  part_elem row (suc n) (suc i) l =
      let z : row + component_width + component_width * i ≡ row + component_width * suc i = omega arith in
      part_elem (row + component_width) n i (omega arith) ∙ ap (λ x. some (part_at file table x)) z

  elem-part : (row n i : ℕ) (c : DescribedComponent) → get_elem? (parts_at file table row n) i ≡ some c → (i < n) × (part_at file table (row + component_width * i) ≡ c)
  unfolding parts_at
  elem-part row zero i c h = absurd (none-ne-some c h)
  elem-part row (suc n) zero c h = let z : row + component_width * 0 ≡ row = omega arith in (omega arith, rw z (some-injective _ c h))
  elem-part row (suc n) (suc i) c h =
      let z : row + component_width + component_width * i ≡ row + component_width * suc i = omega arith in
      let r = elem-part (row + component_width) n i c h in
      (omega (arith, r.0), ap (part_at file table) (sym z) ∙ r.1)

  called : (row i : ℕ) → (part_at file table (row + component_width * i)).name ≡ named file table row component_width i
  unfolding named
  called row i = part-name (row + component_width * i)

  module _ (row n : ℕ) {w : List ℕ} where
    part-found : {r : ℕ} → Earliest (named file table row component_width) n w r → part w (parts_at file table row n) ≡ some (record { index = r; it = part_at file table (row + component_width * r) })
    part-found {r} f =
        seek-first (λ (c : DescribedComponent). c.name) (parts_at file table row n) w r (part_at file table (row + component_width * r)) (part_elem row n r f.below) (called row r ∙ f.is)
        (λ j b m h e. let q = elem-part row n j b h in f.before j m (sym (called row j) ∙ ap (λ (c : DescribedComponent). c.name) q.1 ∙ e))

    part-lacks : ((j : ℕ) → j < n → named file table row component_width j ≡ w → ⊥) → part w (parts_at file table row n) ≡ none
    part-lacks f =
        seek-lacks (λ (c : DescribedComponent). c.name) (parts_at file table row n) w
        (λ j b h e. let q = elem-part row n j b h in f j q.0 (sym (called row j) ∙ ap (λ (c : DescribedComponent). c.name) q.1 ∙ e))

  pub parts-step : (p m k : ℕ) → k < m
      → parts_at file table (p + component_width * k) (m - k) ≡ part_at file table (p + component_width * k) ∷ parts_at file table (p + component_width * (k + 1)) (m - (k + 1))
  parts-step p m k l =
      let z : p + component_width * k + component_width ≡ p + component_width * (k + 1) = omega arith in
      let y : m - k - 1 ≡ m - (k + 1) = omega arith in
      parts_next (p + component_width * k) (m - k) (omega arith) ∙ (rw (z, y))

-- ---- the component of a name

module _ (first a : List ℕ) (p : ℕ) (second b : List ℕ) (q n : ℕ) {w : List ℕ} (e : w ≡ name_at first a p) where
  pub matched : (o : std.Option ℕ) → First (named second b q component_width) n w o → Beside (part_at first a p) second b q n o
  matched (Some r) f = (f.below, subst (λ (v : List ℕ). part v (parts_at second b q n) ≡ some (record { index = r; it = part_at second b (q + component_width * r) })) (e ∙ sym (part-name first a p)) (part-found second b q n f))
  matched None f = subst (λ (v : List ℕ). part v (parts_at second b q n) ≡ none) (e ∙ sym (part-name first a p)) (part-lacks second b q n f)

-- those from the k-th on of the m that begin at p
abbrev pub still : List ℕ → List ℕ → ℕ → ℕ → ℕ → List DescribedComponent
still file table p m k = parts_at file table (p + component_width * k) (m - k)

pub parts-begin : (file table : List ℕ) (p m : ℕ) → still file table p m 0 ≡ parts_at file table p m
parts-begin file table p m = let z : p + component_width * 0 ≡ p = omega arith in let y : m - 0 ≡ m = omega arith in rw (z, y)

pub parts-end : (file table : List ℕ) (p m k : ℕ) → m ≤ k → still file table p m k ≡ []
parts-end file table p m k l = parts_none file table (p + component_width * k) (m - k) (omega (arith, l))
