-- Owners in order: object by object, and component by component.
use Prim.Native.Nat.{ℕ, zero, suc, ◌+◌, ◌-◌, ◌*◌, ◌≤◌, ◌<◌}
use native.Mathlib.Omega.{arith}
use mathlib.Core.List.{List, [], ◌∷◌, ◌++◌}
use mathlib.Core.Bool.{Bool, true, false, ◌&&◌}
use mathlib.Core.Path.{◌≡◌, refl, sym, ap, ◌∙◌}
use lib.ListN.{length, take, drop, get_or, replicate, length-append, length-replicate, length-map}
use lib.Seq.{get_or-drop}
use lib.Dec.{eqb}
use borrow.Author.Rules.{part_to_end}
use borrow.Author.Tests.{eq-eqb, ne_eqb}
use Rattle.meaning.specs.Columns.{object_width, component_width, count_column}
use Rattle.meaning.specs.Text.{same, all}
use Rattle.meaning.specs.Asked.{AskedObject, AskedComponent, each_row, asked_object, asked_component}
use Rattle.meaning.specs.Sound.{owners}
use Rattle.meaning.proofs.Lengths.{each-row-length}
use Rattle.rows.specs.Placed.{objects_at, components_at}
use Rattle.rows.specs.Owner.{owners_in}
use Rattle.rows.proofs.Both.{same-equality}
use Rattle.rows.proofs.EachRow.{no_row, next-row-at, split_rows}

-- ---- two lists of numbers

same-joined : (xs ys zs ws : List ℕ) → length xs ≡ length ys → same (xs ++ zs) (ys ++ ws) ≡ same xs ys && same zs ws
same-joined [] [] zs ws e = refl
same-joined [] (y ∷ ys) zs ws e = absurd (omega arith)
same-joined (x ∷ xs) [] zs ws e = absurd (omega arith)
same-joined (x ∷ xs) (y ∷ ys) zs ws e = by (eqb x y) (same-joined xs ys zs ws (omega arith))
  where
    by : (b : Bool) → same (xs ++ zs) (ys ++ ws) ≡ same xs ys && same zs ws → b && same (xs ++ zs) (ys ++ ws) ≡ b && same xs ys && same zs ws
    by true q = q
    by false q = refl

longer-differs : (xs ys : List ℕ) → length ys < length xs → same xs ys ≡ false
longer-differs [] ys h = absurd (omega arith)
longer-differs (x ∷ xs) [] h = refl
longer-differs (x ∷ xs) (y ∷ ys) h = by (eqb x y) (longer-differs xs ys (omega arith))
  where
    by : (b : Bool) → same xs ys ≡ false → b && same xs ys ≡ false
    by true q = q
    by false q = refl

owners-joined : (as' bs : List AskedComponent) → owners_in (as' ++ bs) ≡ owners_in as' ++ owners_in bs
owners-joined [] bs = refl
owners-joined (a ∷ as') bs = ap (λ (l : List ℕ). a.owner ∷ l) (owners-joined as' bs)

owners-counted : (n : ℕ) (s : List ℕ) → length (owners_in (each_row asked_component component_width n s)) ≡ n
owners-counted n s = length-map (each_row asked_component component_width n s) (λ c. c.owner) ∙ each-row-length asked_component component_width n s

-- ---- one owner's components

module _ (i n at : ℕ) (rows : List ℕ) where
  abbrev owned : ℕ → ℕ → Bool
  owned k p = same (replicate k i) (owners_in (components_at k p rows))

-- one owner, asked of each
owned-each : (i n : ℕ) (cs : List AskedComponent) → length cs ≡ n → all (λ c. eqb c.owner i) cs ≡ same (replicate n i) (owners_in cs)
owned-each i zero [] e = refl
owned-each i (suc n) [] e = absurd (omega arith)
owned-each i zero (c ∷ cs) e = absurd (omega arith)
owned-each i (suc n) (c ∷ cs) e =
    rw (same-equality c.owner i i c.owner (λ z. sym z) (λ z. sym z)) (ap (λ (b : Bool). eqb i c.owner && b) (owned-each i n cs (omega arith)))

-- of the first n rows it was answered that i owns all of them
pub owned_as-asked : (i n : ℕ) (rows : List ℕ) (r : Bool) → r ≡ all (λ c. eqb c.owner i) (each_row asked_component component_width n rows)
    → r ≡ same (replicate n i) (owners_in (each_row asked_component component_width n rows))
owned_as-asked i n rows r is = is ∙ owned-each i n (each_row asked_component component_width n rows) (each-row-length asked_component component_width n rows)

-- ---- all objects' components

module _ (i left row due from : ℕ) (os cs : List ℕ) where
  abbrev order : ℕ → ℕ → ℕ → ℕ → ℕ → Bool
  order i left row due from = same (owners i (objects_at left row os)) (owners_in (components_at due from cs))

  abbrev count : ℕ
  count = get_or os (row + count_column) 0

  none-due : left ≤ 0 → eqb due 0 ≡ order i left row due from
  unfolding owners
  none-due h =
      by due (components_at due from cs) (each-row-length asked_component component_width due (drop from cs))
      ∙ sym (ap (λ (l : List AskedObject). same (owners i l) (owners_in (components_at due from cs))) (no_row asked_object object_width left (drop row os) h))
    where
      by : (k : ℕ) (l : List AskedComponent) → length l ≡ k → eqb k 0 ≡ same (owners i []) (owners_in l)
      by k [] e = eq-eqb k 0 (sym e)
      by k (c ∷ l) e = ne_eqb k 0 (λ z. omega (arith, e, z))

  module _ (h : 0 < left) where
    first-owner : owners i (objects_at left row os) ≡ replicate count i ++ owners (suc i) (objects_at (left - 1) (row + object_width) os)
    unfolding owners asked_object
    first-owner =
        ap (owners i) (next-row-at asked_object object_width left row os h)
        ∙ ap (λ (k : ℕ). replicate k i ++ owners (suc i) (objects_at (left - 1) (row + object_width) os)) (get_or-drop row os count_column 0)

    too_many : due < count → order i left row due from ≡ false
    too_many d =
        longer-differs (owners i (objects_at left row os)) (owners_in (components_at due from cs))
        (omega (
          arith,
          d,
          owners-counted due (drop from cs),
          ap length first-owner,
          length-append (replicate count i) (owners (suc i) (objects_at (left - 1) (row + object_width) os)),
          length-replicate {A = ℕ} count i,
        ))

    module _ (d : count ≤ due) where
      parted : order i left row due from ≡ owned i 0 0 cs count from && order (suc i) (left - 1) (row + object_width) (due - count) (from + component_width * count)
      parted =
          ap (λ (l : List ℕ). same l (owners_in (components_at due from cs))) first-owner
          ∙ ap (λ (l : List AskedComponent). same (replicate count i ++ owners (suc i) (objects_at (left - 1) (row + object_width) os)) (owners_in l))
          (split_rows asked_component component_width due count from cs d)
          ∙ ap (same (replicate count i ++ owners (suc i) (objects_at (left - 1) (row + object_width) os)))
          (owners-joined (components_at count from cs) (components_at (due - count) (from + component_width * count) cs))
          ∙ same-joined (replicate count i) (owners_in (components_at count from cs))
          (owners (suc i) (objects_at (left - 1) (row + object_width) os))
          (owners_in (components_at (due - count) (from + component_width * count) cs))
          (length-replicate {A = ℕ} count i ∙ sym (owners-counted count (drop from cs)))

      order-goes : owned i 0 0 cs count from ≡ true → order i left row due from ≡ order (i + 1) (left - 1) (row + object_width) (due - count) (from + component_width * count)
      order-goes e =
          parted
          ∙ ap (λ (b : Bool). b && order (suc i) (left - 1) (row + object_width) (due - count) (from + component_width * count)) e
          ∙ (let z : suc i ≡ i + 1 = omega arith in ap (λ (k : ℕ). order k (left - 1) (row + object_width) (due - count) (from + component_width * count)) z)

      order-stops : owned i 0 0 cs count from ≡ false → order i left row due from ≡ false
      order-stops e = parted ∙ ap (λ (b : Bool). b && order (suc i) (left - 1) (row + object_width) (due - count) (from + component_width * count)) e

abbrev in_order : (objects components : List ℕ) (n all : ℕ) → Bool
in_order objects components n all = same (owners 0 (each_row asked_object object_width n objects)) (owners_in (each_row asked_component component_width all components))

-- the loop over objects: from object `i` on, with `due` components to go from the place `from` on
pub record Ordered (objects components : List ℕ) (n all i from due : ℕ) : Type 0 where
  pub components-lie : from + component_width * due ≤ length components
  pub so_far : in_order objects components n all ≡ same (owners i (objects_at (n - i) (object_width * i) objects)) (owners_in (components_at due from components))

module _ {objects components : List ℕ} {n all : ℕ} where
  pub order-begins : component_width * all ≤ length components → Ordered objects components n all 0 0 all
  order-begins k = record {
    components-lie = omega arith;
    so_far = let z : n ≡ n - 0 = omega arith in ap (λ (m : ℕ). same (owners 0 (each_row asked_object object_width m objects)) (owners_in (each_row asked_component component_width all components))) z;
  }

  module _ {i from due : ℕ} (w : Ordered objects components n all i from due) where
    pub order-ends : n ≤ i → eqb due 0 ≡ in_order objects components n all
    order-ends h = none-due i (n - i) (object_width * i) due from objects components (omega (arith, h)) ∙ sym w.so_far

    module _ (more : i < n) where
      some_left : 0 < n - i
      some_left = omega (arith, more)

      pub too-few-due : due < get_or objects (object_width * i + count_column) 0 → false ≡ in_order objects components n all
      too-few-due h = sym (w.so_far ∙ too_many i (n - i) (object_width * i) due from objects components some_left h)

      -- `by` said r of this object's components, which it was lent from the place `from` on
      module _ (enough : get_or objects (object_width * i + count_column) 0 ≤ due) {r : Bool}
          (is : r ≡ same (replicate (get_or objects (object_width * i + count_column) 0) i) (owners_in (each_row asked_component component_width (get_or objects (object_width * i + count_column) 0) (take (length components - from) (drop from components))))) where
        lent-so : owned i 0 0 components (get_or objects (object_width * i + count_column) 0) from ≡ r
        lent-so = sym (is ∙ ap (λ (s : List ℕ). same (replicate (get_or objects (object_width * i + count_column) 0) i) (owners_in (each_row asked_component component_width (get_or objects (object_width * i + count_column) 0) s))) (part_to_end components from))

        pub others-there : r ≡ false → false ≡ in_order objects components n all
        others-there e = sym (w.so_far ∙ order-stops i (n - i) (object_width * i) due from objects components some_left enough (lent-so ∙ e))

        pub next-owner : r ≡ true → Ordered objects components n all (i + 1) (from + component_width * get_or objects (object_width * i + count_column) 0) (due - get_or objects (object_width * i + count_column) 0)
        next-owner e = record {
          components-lie = (let l = w.components-lie in omega (arith, enough, l));
          so_far = w.so_far
              ∙ order-goes i (n - i) (object_width * i) due from objects components some_left enough (lent-so ∙ e)
              ∙ (let z : n - i - 1 ≡ n - (i + 1) = omega (arith, more) in
              let y : object_width * i + object_width ≡ object_width * (i + 1) = omega arith in
              rw y (ap (λ (k : ℕ). same (owners (i + 1) (objects_at k (object_width * (i + 1)) objects)) (owners_in (components_at (due - get_or objects (object_width * i + count_column) 0) (from + component_width * get_or objects (object_width * i + count_column) 0) components))) z));
        }
