-- In a table that begins with a model's rows the view of a component is its blob, and its row says where its map stands.
use Prim.Native.Nat.{ℕ, zero, suc, ◌+◌, ◌*◌, ◌≤◌, ◌<◌}
use native.Mathlib.Omega.{arith}
use mathlib.Core.List.{List, [], ◌∷◌, ◌++◌, append_assoc}
use mathlib.Core.Option.{some}
use mathlib.Core.Path.{◌≡◌, refl, ap, ◌∙◌}
use lib.ListN.{length, take, drop, get_or, get_elem?, length-append}
use borrow.Author.Tests.{lt-ltb, le-leb}
use Rattle.meaning.specs.Columns.{object_width, component_width, entry_column, entry_length_column}
use Rattle.meaning.specs.Check.{pass}
use Rattle.meaning.specs.Read.{Span}
use Rattle.meaning.specs.Model.{Component, Object, Model}
use Rattle.meaning.specs.Rows.{component_row, rows_of, component_rows, rows, component_count}
use Rattle.meaning.specs.View.{viewed, part_at, view}
use Rattle.view.specs.All.{all_components}
use Rattle.view.proofs.Columns.{offset-is, length-is, entry_place, entry-size, component-past, components-at, rows_lie}

module _ (T : List ℕ) (c : Component Span) where
  -- the row of c begins j rows after the place q
  Begins : ℕ → ℕ → Type 0
  Begins q j = (i : ℕ) × (Y : List ℕ) × (drop (q + component_width * j) T ≡ component_row i c ++ Y)

  -- among the components of one object, or further on
  in-object : (i : ℕ) (cs more : List (Component Span)) (q j : ℕ) (Z : List ℕ) → drop q T ≡ rows_of i cs ++ Z
      → ((p k : ℕ) → drop p T ≡ Z → get_elem? more k ≡ some c → Begins p k)
      → get_elem? (cs ++ more) j ≡ some c → Begins q j
  unfolding rows_of Begins
  in-object i [] more q j Z e further g = further q j e g
  in-object i (b ∷ cs) more q zero Z e further g =
      let same : b ≡ c = cc in (
        i,
        rows_of i cs ++ Z,
        (let z : q + component_width * 0 ≡ q = omega arith in ap (λ (k : ℕ). drop k T) z)
            ∙ e ∙ append_assoc (component_row i b) (rows_of i cs) Z ∙ ap (λ (a : Component Span). component_row i a ++ (rows_of i cs ++ Z)) same,
      )
  in-object i (b ∷ cs) more q (suc j) Z e further g =
      let f = e ∙ append_assoc (component_row i b) (rows_of i cs) Z in
      let r = in-object i cs more (q + component_width) j Z (component-past T q i b (rows_of i cs ++ Z) f) further g in
      (r.0, r.1, (let z : q + component_width * suc j ≡ q + component_width + component_width * j = omega arith in ap (λ (k : ℕ). drop k T) z) ∙ r.2)

  in-objects : (i : ℕ) (os : List (Object Span)) (q j : ℕ) (Z : List ℕ) → drop q T ≡ component_rows i os ++ Z → get_elem? (all_components os) j ≡ some c → Begins q j
  unfolding component_rows all_components
  in-objects i [] q j Z e g = absurd (let z : ◌≡◌ {A = ℕ} 0 1 = cc in omega arith)
  in-objects i (o ∷ os) q j Z e g =
      in-object i o.components (all_components os) q j (component_rows (suc i) os ++ Z)
      (e ∙ append_assoc (rows_of i o.components) (component_rows (suc i) os) Z)
      (λ p k d h. in-objects (suc i) os p k Z d h) g

-- what is found is there
found_below : (cs : List (Component Span)) (j : ℕ) (c : Component Span) → get_elem? cs j ≡ some c → j < length cs
found_below [] j c g = absurd (let z : ◌≡◌ {A = ℕ} 0 1 = cc in omega arith)
found_below (b ∷ cs) zero c g = omega arith
found_below (b ∷ cs) (suc j) c g = let h : j < length cs = found_below cs j c g in omega (arith, h)

pub all-counted : (os : List (Object Span)) → length (all_components os) ≡ component_count os
unfolding all_components component_count
all-counted [] = refl
all-counted (o ∷ os) = length-append o.components (all_components os) ∙ ap (λ (n : ℕ). length o.components + n) (all-counted os)

-- its row, and the two numbers that say where its map stands
module _ (rest : List ℕ) (m : Model Span) (j : ℕ) (c : Component Span) (there : get_elem? (all_components m.objects) j ≡ some c) where
  abbrev at : ℕ
  at = object_width * length m.objects + component_width * j

  -- where it begins
  pub row-of-rows : (i : ℕ) × (Y : List ℕ) × (drop at (rows m ++ rest) ≡ component_row i c ++ Y)
  unfolding Begins
  row-of-rows = in-objects (rows m ++ rest) c 0 m.objects (object_width * length m.objects) j rest (components-at m rest) there

  pub entry-of-rows : (get_or (rows m ++ rest) (at + entry_column) 0 ≡ c.entry.place) × (get_or (rows m ++ rest) (at + entry_length_column) 0 ≡ c.entry.size)
  entry-of-rows =
      let b = row-of-rows in
      (entry_place (rows m ++ rest) at b.0 c b.1 b.2, entry-size (rows m ++ rest) at b.0 c b.1 b.2)

module _ (file rest : List ℕ) (m : Model Span) (j : ℕ) (c : Component Span) (there : get_elem? (all_components m.objects) j ≡ some c)
    (inside : c.offset + c.length ≤ length file) where
  os : List (Object Span)
  os = m.objects

  T : List ℕ
  T = rows m ++ rest

  row : ℕ
  row = object_width * length os + component_width * j

  begins : Begins T c (object_width * length os) j
  unfolding T os
  begins = in-objects T c 0 os (object_width * length os) j rest (components-at m rest) there

  below : j < component_count os
  unfolding os
  below = let h : j < length (all_components os) = found_below (all_components os) j c there in omega (arith, h, all-counted os)

  room : row + component_width ≤ length T
  unfolding row T os
  room = omega (arith, rows_lie m rest, below)

  pub viewed-of-rows : viewed file (rows m ++ rest) (length m.objects) (component_count m.objects) j ≡ pass (record { place = c.offset; size = c.length })
  unfolding viewed Begins T os row
  viewed-of-rows =
      let b = begins in
      rw (
        lt-ltb j (component_count os) below,
        le-leb (row + component_width) (length T) room,
        offset-is T row b.0 c b.1 b.2,
        length-is T row b.0 c b.1 b.2,
        le-leb (c.offset + c.length) (length file) inside,
      )
      refl

  pub view-of-rows : view file (rows m ++ rest) (length m.objects) (component_count m.objects) j ≡ take c.length (drop c.offset file)
  unfolding view part_at
  view-of-rows = ap (part_at file) viewed-of-rows
