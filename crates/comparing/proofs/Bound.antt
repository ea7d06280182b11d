-- How many entries a list can have: the tables' limits leave far fewer than a place can count.
use Prim.Native.Nat.{ℕ, zero, suc, ◌+◌, ◌*◌, ◌≤◌, ◌<◌}
use native.Mathlib.Omega.{arith}
use mathlib.Core.List.{List, [], ◌∷◌, ◌++◌, map}
use mathlib.Core.Bool.{Bool, true, false, cond}
use mathlib.Core.Option.{Option, none, some}
use mathlib.Core.Path.{◌≡◌, refl, ap, ◌∙◌}
use lib.ListN.{length, drop, length-append, length-map}
use lib.Dec.{eqb}
use Rattle.meaning.specs.Columns.{object_width, component_width}
use Rattle.meaning.specs.Limit.{component_limit}
use Rattle.meaning.specs.Text.{same}
use Rattle.meaning.specs.Asked.{asked_component}
use Rattle.meaning.specs.Described.{DescribedComponent, DescribedObject, described_component, described_object}
use Rattle.meaning.proofs.Lengths.{each-row-length}
use Rattle.meaning.specs.Every.{Every}
use Rattle.rows.specs.Placed.{components_at}
use Rattle.changes.specs.Changes.{Entry, Found, numbers, flat, across, later, seek, part, object, unless_zero, if_absent, of_part, of_object, firsts, seconds, entry, part_what, part_entry, object_what}
use Rattle.pairs.specs.Objects.{object_at, count_at}
use Rattle.put.specs.Wrote.{most}
use Rattle.models.specs.Tables.{Table, start_of, objects_from, changes_of, olds_from, news_from}
use Rattle.comparing.specs.Comparison.{numbers_of}

pub eight-each : (l : List Entry) → length (flat l) ≡ 8 * length l
eight-each [] = refl
eight-each (e ∷ l) = let h = eight-each l in omega (arith, length-append (numbers e) (flat l), h)

-- each gives at most so many
across-most : {A : Type 0} (Q : A → Type 0) (f : ℕ → A → List Entry) (most : ℕ) → ((x : ℕ) (a : A) → Q a → length (f x a) ≤ most) → (l : List A) → Every Q l
    → length (across f l) ≤ most * length l
across-most Q f most h [] q = omega arith
across-most Q f most h (a ∷ l) (q, qs) =
    let i = across-most Q (λ x. f (suc x)) most (λ x b. h (suc x) b) l qs in
    let j = h 0 a q in
    omega (arith, length-append (f 0 a) (across (λ x. f (suc x)) l), i, j)

-- what a found one is
abbrev IfFound : {A : Type 0} → (A → Type 0) → Option (Found A) → Type 0
IfFound Q none = Unit {0}
IfFound Q (some f) = Q f.it

found-one : {A : Type 0} (Q : A → Type 0) (called : A → List ℕ) (n : List ℕ) (l : List A) → Every Q l → IfFound Q (seek called n l)
found-one Q called n [] h = tt
found-one Q called n (a ∷ l) (h, hs) = by (same (called a) n) (seek called n l) (found-one Q called n l hs)
  where
    by : (b : Bool) (s : Option (Found _)) → IfFound Q s → IfFound Q (cond b (some (record { index = 0; it = a })) (later s))
    by true s k = h
    by false none k = tt
    by false (some f) k = k

unless-most : (w : ℕ) (e : Entry) → length (unless_zero w e) ≤ 1
unless-most w e = by (eqb w 0)
  where
    by : (b : Bool) → length (cond b [] (e ∷ [])) ≤ 1
    by true = omega arith
    by false = omega arith

absent-most : {A : Type 0} (e : Entry) (s : Option A) → length (if_absent e s) ≤ 1
absent-most e none = omega arith
absent-most e (some a) = omega arith

part-most : (i j k : ℕ) (c : DescribedComponent) (s : Option (Found DescribedComponent)) → length (of_part i j k c s) ≤ 1
part-most i j k c none = omega arith
part-most i j k c (some f) = unless-most (part_what c f.it) (part_entry i j k c f)

abbrev Few : DescribedObject → Type 0
Few o = length o.components ≤ component_limit

every_any : {A : Type 0} (l : List A) → Every (λ a. Unit {0}) l
every_any [] = tt
every_any (a ∷ l) = (tt, every_any l)

firsts-most : (i j : ℕ) (o p : DescribedObject) → length (firsts i j o p) ≤ 1 * length o.components
firsts-most i j o p =
    across-most (λ a. Unit {0}) (λ k c. of_part i j k c (part c.name p.components)) 1 (λ k c u. part-most i j k c (part c.name p.components)) o.components (every_any o.components)

seconds-most : (i j : ℕ) (o p : DescribedObject) → length (seconds i j o p) ≤ 1 * length p.components
seconds-most i j o p =
    across-most (λ a. Unit {0}) _ 1 (λ l d u. absent-most _ (part d.name o.components)) p.components (every_any p.components)

object-most : (i : ℕ) (o : DescribedObject) → Few o → (s : Option (Found DescribedObject)) → IfFound Few s → length (of_object i o s) ≤ 33
object-most i o h none k = omega arith
object-most i o h (some f) k =
    let t : List Entry = unless_zero (object_what o f.it) (entry 3 i f.index 0 0 (object_what o f.it) 0 0) in
    let a : length t ≤ 1 = unless-most (object_what o f.it) (entry 3 i f.index 0 0 (object_what o f.it) 0 0) in
    let b = firsts-most i f.index o f.it in
    let c = seconds-most i f.index o f.it in
    omega (arith, h, k, a, b, c, length-append t (firsts i f.index o f.it ++ seconds i f.index o f.it), length-append (firsts i f.index o f.it) (seconds i f.index o f.it))

changes-most : (os ps : List DescribedObject) → Every Few os → Every Few ps → length (changes_of os ps) ≤ 33 * length os + length ps
changes-most os ps h k =
    let a = across-most Few (λ x o. of_object (0 + x) o (object o.name ps)) 33 (λ x o q. object-most (0 + x) o q (object o.name ps) (found-one Few (λ o. o.name) o.name ps k)) os h in
    let b = across-most Few (λ x p. if_absent (entry 2 0 (0 + x) 0 0 0 0 0) (object p.name os)) 1 (λ x p q. absent-most (entry 2 0 (0 + x) 0 0 0 0 0) (object p.name os)) ps k in
    omega (arith, a, b, length-append (olds_from ps 0 os) (news_from os 0 ps))

module _ (file table : List ℕ) (n : ℕ) where
  objects-many : (j k : ℕ) → length (objects_from file table n j k) ≡ k
  unfolding objects_from
  objects-many j zero = refl
  objects-many j (suc k) = ap suc (objects-many (suc j) k)

  object-few : (j : ℕ) → count_at table (object_width * j) ≤ component_limit → Few (object_at file table (object_width * j) (start_of table n j))
  unfolding object_at described_object
  object-few j h =
      let k = count_at table (object_width * j) in
      let l : length (map (described_component file) (components_at k (start_of table n j) table)) ≡ k =
      length-map (components_at k (start_of table n j) table) (described_component file) ∙ each-row-length asked_component component_width k (drop (start_of table n j) table) in
      omega (arith, h, l)

  objects-few : Table table n → (j k : ℕ) → j + k ≤ n → Every Few (objects_from file table n j k)
  unfolding objects_from
  objects-few t j zero l = tt
  objects-few t j (suc k) l = (object-few j (t.each j (omega (arith, l))).few, objects-few t (suc j) k (omega (arith, l)))

-- the list of two tables is shorter than a place can be
pub numbers-few : (first a : List ℕ) (m : ℕ) (second b : List ℕ) (n : ℕ) → Table a m → Table b n → length (numbers_of first a m second b n) < most
numbers-few first a m second b n s t =
    let os = objects_from first a m 0 m in
    let ps = objects_from second b n 0 n in
    let h = changes-most os ps (objects-few first a m s 0 m (omega arith)) (objects-few second b n t 0 n (omega arith)) in
    let l = eight-each (changes_of os ps) in
    let x = s.few in
    let y = t.few in
    omega (arith, h, l, x, y, objects-many first a m 0 m, objects-many second b n 0 n)
