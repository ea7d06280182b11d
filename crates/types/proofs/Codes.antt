-- Where a name stands in a list says what the list has of it: laws over any list of storages and of logical types. Assumes nothing.
use mathlib.Core.Path.{◌≡◌, refl, sym, ap, ◌∙◌}
use mathlib.Core.List.{List, [], ◌∷◌, map}
use mathlib.Core.Bool.{Bool, true, false, cond, ◌&&◌}
use mathlib.Core.Option.{Option, none, some}
use Prim.Native.Nat.{ℕ, zero, suc, ◌+◌, ◌-◌, ◌*◌, ◌≤◌, ◌<◌}
use native.Mathlib.Omega.{arith}
use native.Mathlib.Nat.{mul-le-mul}
use lib.ListN.{length, get_or, take, drop, get_elem?, get_or-map, get_or-eq_default}
use lib.Dec.{eqb, leb}
use borrow.Author.Tests.{leb-true, eqb-true, eqb-false}
use borrow.Author.Rules.{part_to_end}
use Rattle.meaning.specs.Text.{same, all}
use Rattle.meaning.specs.Layouts.{Slots, somes, Layout, thirteen, root_names, object_names, component_names, current, old, layout_of}
use Rattle.meaning.specs.Types.{storages, code_from, storage_of, width_of, Logical, logicals, listed, fits_over, ratio_of}
use Rattle.meaning.proofs.WhichLayout.{is-old, is-current}
use Rattle.meaning.proofs.Tests.{both_left, both_right}
use Rattle.meaning.proofs.SameText.{same-eq}
use Rattle.types.specs.Row.{digit_of, Tells, found, rows_of}
use Rattle.types.proofs.Named.{named}
use Rattle.types.specs.Known.{field_at, place_of_name, position, code_or, unit_number, dtype_code, storage_names, logical_names}

position-most : (ns : List (List ℕ)) (k : List ℕ) → position ns k ≤ length ns
unfolding position
position-most [] k = omega arith
position-most (n ∷ ns) k = go (same n k) (position-most ns k)
  where
    go : (t : Bool) → position ns k ≤ length ns → cond t 0 (suc (position ns k)) ≤ suc (length ns)
    go true h = omega arith
    go false h = omega arith

-- what holds of every name holds of a text that is one of them
pub named-holds : (p : List ℕ → Bool) (ns : List (List ℕ)) (k : List ℕ) → all p ns ≡ true → position ns k < length ns → p k ≡ true
unfolding position
named-holds p [] k h l = absurd (omega arith)
named-holds p (n ∷ ns) k h l = go (same n k) refl l (λ m. named-holds p ns k (both_right (p n) (all p ns) h) m)
  where
    go : (t : Bool) → same n k ≡ t → cond t 0 (suc (position ns k)) < suc (length ns) → (position ns k < length ns → p k ≡ true) → p k ≡ true
    go true e l later = ap p (sym (same-eq n k e)) ∙ both_left (p n) (all p ns) h
    go false e l later = later (omega arith)

-- the place of a field, from its index among the names that are there
place-of-name : (ns : Slots) (k : List ℕ) → place_of_name ns (position (somes ns) k) ≡ field_at ns k
unfolding place_of_name position field_at
place-of-name [] k = refl
place-of-name (none ∷ ns) k = ap suc (place-of-name ns k)
place-of-name (some n ∷ ns) k = go (same n k) (place-of-name ns k)
  where
    go : (t : Bool) → place_of_name ns (position (somes ns) k) ≡ field_at ns k → place_of_name (some n ∷ ns) (cond t 0 (suc (position (somes ns) k))) ≡ cond t 0 (suc (field_at ns k))
    go true h = refl
    go false h = ap suc h

-- where every place has its name
pub all_named_lem : (ns : List (List ℕ)) (k : List ℕ) → position ns k ≡ field_at (map some ns) k
unfolding position field_at
all_named_lem [] k = refl
all_named_lem (n ∷ ns) k = ap (λ (r : ℕ). cond (same n k) 0 (suc r)) (all_named_lem ns k)

pub field-most : (ns : Slots) (k : List ℕ) → field_at ns k ≤ length ns
unfolding field_at
field-most [] k = omega arith
field-most (none ∷ ns) k = let h = field-most ns k in omega arith
field-most (some n ∷ ns) k = go (same n k) (field-most ns k)
  where
    go : (t : Bool) → field_at ns k ≤ length ns → cond t 0 (suc (field_at ns k)) ≤ suc (length ns)
    go true h = omega arith
    go false h = omega arith

module _ (k : List ℕ) where
  code-position : (i : ℕ) (ss : List (List ℕ)) → code_or (i + length ss) (code_from i ss k) ≡ i + position ss k
  unfolding code_or code_from position
  code-position i [] = refl
  code-position i (s ∷ ss) = go (same s k) (code-position (suc i) ss)
    where
      go : (t : Bool) → code_or (suc i + length ss) (code_from (suc i) ss k) ≡ suc i + position ss k
          → code_or (i + suc (length ss)) (cond t (some i) (code_from (suc i) ss k)) ≡ i + cond t 0 (suc (position ss k))
      go true h = omega arith
      go false h = let e : i + suc (length ss) ≡ suc i + length ss = omega arith in ap (λ (n : ℕ). code_or n (code_from (suc i) ss k)) e ∙ h ∙ omega arith

  listed-position : (ls : List Logical) → listed ls k ≡ get_elem? ls (position (map (λ l. l.called) ls) k)
  unfolding listed position
  listed-position [] = refl
  listed-position (l ∷ ls) = go (same l.called k) (listed-position ls)
    where
      go : (t : Bool) → listed ls k ≡ get_elem? ls (position (map (λ l. l.called) ls) k)
          → cond t (some l) (listed ls k) ≡ get_elem? (l ∷ ls) (cond t 0 (suc (position (map (λ l. l.called) ls) k)))
      go true h = refl
      go false h = h

module _ {A : Type 0} where
  element-in : (l : List A) (i : ℕ) (d : A) → i < length l → get_elem? l i ≡ some (get_or l i d)
  element-in [] i d h = absurd (omega arith)
  element-in (a ∷ l) zero d h = refl
  element-in (a ∷ l) (suc i) d h = element-in l i d (omega arith)

  element-out : (l : List A) (i : ℕ) → length l ≤ i → get_elem? l i ≡ none
  element-out [] i h = refl
  element-out (a ∷ l) zero h = absurd (omega arith)
  element-out (a ∷ l) (suc i) h = element-out l i (omega arith)

-- ---------------------------------------------------------------- a table of digits, by one test

abbrev pub below : (ℕ → Bool) → ℕ → Bool
below f zero = true
below f (suc n) = f n && below f n

below_at : (f : ℕ → Bool) (n : ℕ) → below f n ≡ true → (i : ℕ) → i < n → f i ≡ true
below_at f zero e i h = absurd (omega arith)
below_at f (suc n) e i h = go (eqb i n) refl (below_at f n (both_right (f n) (below f n) e) i)
  where
    go : (t : Bool) → eqb i n ≡ t → (i < n → f i ≡ true) → f i ≡ true
    go true p ih = rw (eqb-true i n p) (both_left (f n) (below f n) e)
    go false p ih = ih (omega (arith, eqb-false i n p))

-- the digits of a table are what f says
pub digits : (f : ℕ → ℕ) (table n : ℕ) → below (λ i. eqb (digit_of table i) (f i)) n ≡ true → (i : ℕ) → i < n → digit_of table i ≡ f i
digits f table n e i h = eqb-true (digit_of table i) (f i) (below_at (λ i. eqb (digit_of table i) (f i)) n e i h)

-- ---------------------------------------------------------------- the fields of a layout

thirteen-named : (L : Layout) → length L.dtypes ≡ 13
thirteen-named L = L.all_named ∙ thirteen

storage-is : (L : Layout) (k : List ℕ) (r : ℕ) → r ≡ position L.dtypes k → r ≡ dtype_code L k
unfolding dtype_code
storage-is L k r e =
    let n : 0 + length L.dtypes ≡ 13 = omega (arith, thirteen-named L) in
    let x : code_or 13 (code_from 0 L.dtypes k) ≡ 0 + position L.dtypes k = ap (λ (m : ℕ). code_or m (code_from 0 L.dtypes k)) (sym n) ∙ code-position k 0 L.dtypes in
    omega (arith, x, e)

module _ (n : ℕ) (k : List ℕ) where
  module _ (is : n ≡ 1) where
    pub old-root : (r : ℕ) → r ≡ position (somes old.root) k → r ≡ field_at (layout_of n).root k
    unfolding old
    old-root r e = e ∙ all_named_lem (somes old.root) k ∙ ap (λ L. field_at L.root k) (sym (is-old n is))

    pub old-object : (i r table : ℕ) → r ≡ digit_of table i → i ≡ position (somes old.object) k
        → below (λ i. eqb (digit_of table i) (place_of_name old.object i)) (suc (length (somes old.object))) ≡ true → r ≡ field_at (layout_of n).object k
    old-object i r table d e t =
        let m = position-most (somes old.object) k in
        d ∙ digits (place_of_name old.object) table (suc (length (somes old.object))) t i (omega (arith, m, e))
        ∙ ap (place_of_name old.object) e ∙ place-of-name old.object k ∙ ap (λ L. field_at L.object k) (sym (is-old n is))

    pub old-component : (i r table : ℕ) → r ≡ digit_of table i → i ≡ position (somes old.component) k
        → below (λ i. eqb (digit_of table i) (place_of_name old.component i)) (suc (length (somes old.component))) ≡ true → r ≡ field_at (layout_of n).component k
    old-component i r table d e t =
        let m = position-most (somes old.component) k in
        d ∙ digits (place_of_name old.component) table (suc (length (somes old.component))) t i (omega (arith, m, e))
        ∙ ap (place_of_name old.component) e ∙ place-of-name old.component k ∙ ap (λ L. field_at L.component k) (sym (is-old n is))

    pub old-dtype : (r : ℕ) → r ≡ position old.dtypes k → r ≡ dtype_code (layout_of n) k
    old-dtype r e = storage-is old k r e ∙ ap (λ L. dtype_code L k) (sym (is-old n is))

  module _ (other : n ≡ 1 → ⊥) where
    pub new-root : (r : ℕ) → r ≡ position root_names k → r ≡ field_at (layout_of n).root k
    unfolding current
    new-root r e = e ∙ all_named_lem root_names k ∙ ap (λ L. field_at L.root k) (sym (is-current n other))

    pub new-object : (r : ℕ) → r ≡ position object_names k → r + 1 ≡ field_at (layout_of n).object k
    unfolding current field_at
    new-object r e = let h : r + 1 ≡ suc r = omega arith in h ∙ ap suc (e ∙ all_named_lem object_names k) ∙ ap (λ L. field_at L.object k) (sym (is-current n other))

    pub new-component : (r : ℕ) → r ≡ position component_names k → r ≡ field_at (layout_of n).component k
    unfolding current
    new-component r e = e ∙ all_named_lem component_names k ∙ ap (λ L. field_at L.component k) (sym (is-current n other))

    pub new-dtype : (r : ℕ) → r ≡ position storage_names k → r ≡ dtype_code (layout_of n) k
    unfolding current
    new-dtype r e = storage-is current k r e ∙ ap (λ L. dtype_code L k) (sym (is-current n other))

-- how great what was found is
module _ (k : List ℕ) (a b c : ℕ) {i : ℕ} where
  pub few-object : i ≡ found (rows_of (somes old.object)) a b c → Tells a b c (take (length k - 0) (drop 0 k)) → i < 16
  unfolding old
  few-object e t = let p = named (somes old.object) k a b c e t refl in let m = position-most (somes old.object) k in omega arith

  pub few-component : i ≡ found (rows_of (somes old.component)) a b c → Tells a b c (take (length k - 0) (drop 0 k)) → i < 16
  unfolding old
  few-component e t = let p = named (somes old.component) k a b c e t refl in let m = position-most (somes old.component) k in omega arith

  pub few-new-object : i ≡ found (rows_of object_names) a b c → Tells a b c (take (length k - 0) (drop 0 k)) → i + 1 < 18446744073709551616
  few-new-object e t = let p = named object_names k a b c e t refl in let m = position-most object_names k in omega arith

-- ---------------------------------------------------------------- the tables of document 01

pub one_name : (n k : List ℕ) (r : ℕ) → r ≡ position (n ∷ []) k → eqb r 0 ≡ same n k
unfolding position
one_name n k r e = rw e (go (same n k))
  where
    go : (t : Bool) → eqb (cond t 0 (suc 0)) 0 ≡ t
    go true = refl
    go false = refl

code_below : (k : List ℕ) (i : ℕ) (ss : List (List ℕ)) (c : ℕ) → code_from i ss k ≡ some c → c < i + length ss
unfolding code_from
code_below k i [] c e = let z : ◌≡◌ {A = ℕ} 0 1 = cc in absurd (omega arith)
code_below k i (s ∷ ss) c e = go (same s k) e (code_below k (suc i) ss c)
  where
    go : (t : Bool) → cond t (some i) (code_from (suc i) ss k) ≡ some c → (code_from (suc i) ss k ≡ some c → c < suc i + length ss) → c < i + suc (length ss)
    go true p ih = let x : i ≡ c = cc in omega arith
    go false p ih = let x = ih p in omega arith

-- for those who ask for a dtype: what the code says of meaning's `code_from`
module _ (L : Layout) (k : List ℕ) where
  pub dtype-known : (c : ℕ) → c ≡ dtype_code L k → c < 13 → code_from 0 L.dtypes k ≡ some c
  unfolding dtype_code code_or
  dtype-known c e h = go (code_from 0 L.dtypes k) refl
    where
      go : (o : Option ℕ) → code_from 0 L.dtypes k ≡ o → o ≡ some c
      go none p = let x : code_or 13 (code_from 0 L.dtypes k) ≡ 13 = rw p in absurd (omega arith)
      go (some d) p = let x : code_or 13 (code_from 0 L.dtypes k) ≡ d = rw p in ap (λ (n : ℕ). some n) (let y : d ≡ c = omega arith in y)

  pub dtype-none : 13 ≡ dtype_code L k → code_from 0 L.dtypes k ≡ none
  unfolding dtype_code code_or
  dtype-none e = go (code_from 0 L.dtypes k) refl
    where
      go : (o : Option ℕ) → code_from 0 L.dtypes k ≡ o → o ≡ none
      go none p = refl
      go (some d) p =
          let x : code_or 13 (code_from 0 L.dtypes k) ≡ d = rw p in let y = code_below k 0 L.dtypes d p in let n = thirteen-named L in
          absurd (omega (arith, x, y, n, e))

  pub dtype-most : dtype_code L k ≤ 13
  dtype-most = let x = storage-is L k (position L.dtypes k) refl in let y = position-most L.dtypes k in let n = thirteen-named L in omega (arith, x, y, n)

pub width_is : (c : ℕ) → get_or (map (λ s. s.width) storages) c 0 ≡ width_of c
unfolding width_of storage_of
width_is c = get_or-map (λ s. s.width) storages c (record { called = []; width = 0 })

pub width-by-digit : (c table : ℕ) {d : ℕ} → d ≡ digit_of table c → c < 13 → below (λ i. eqb (digit_of table i) (width_of i)) 13 ≡ true → d ≡ width_of c
width-by-digit c table e l t = e ∙ digits width_of table 13 t c l

pub width-none : (c : ℕ) → 13 ≤ c → 0 ≡ width_of c
unfolding storages
width-none c h = sym (get_or-eq_default (map (λ s. s.width) storages) 0 h) ∙ width_is c

module _ (k : List ℕ) (i : ℕ) (is : i ≡ position logical_names (take (length k - 0) (drop 0 k))) where
  type-is : listed logicals k ≡ get_elem? logicals i
  type-is = listed-position k logicals ∙ ap (get_elem? logicals) (sym (is ∙ ap (position logical_names) (part_to_end k 0)))

  module _ (d : Logical) (some-type : i < length logicals) where
    listed_in : listed logicals k ≡ some (get_or logicals i d)
    listed_in = type-is ∙ element-in logicals i d some-type

    fits_in : (c : ℕ) → eqb (get_or (map (λ l. l.needs) logicals) i d.needs) c ≡ fits_over c (listed logicals k)
    unfolding fits_over
    fits_in c = rw listed_in (ap (λ (n : ℕ). eqb n c) (get_or-map (λ l. l.needs) logicals i d))

    ratio-in : get_or (map (λ l. l.ratio) logicals) i d.ratio ≡ code_or 0 (ratio_of (listed logicals k))
    unfolding ratio_of code_or
    ratio-in = rw listed_in (get_or-map (λ l. l.ratio) logicals i d)

  -- a table's digit says it
  module _ (some-type : i < 6) (table : ℕ) {r : ℕ} (digit : r ≡ digit_of table i) where
    pub fits-by-digit : (c : ℕ) → below (λ i. eqb (digit_of table i) (get_or (map (λ l. l.needs) logicals) i 0)) 6 ≡ true → eqb r c ≡ fits_over c (listed logicals k)
    unfolding logicals
    fits-by-digit c t = ap (λ n. eqb n c) (digit ∙ digits (λ i. get_or (map (λ l. l.needs) logicals) i 0) table 6 t i some-type) ∙ fits_in (record { called = []; needs = 0; ratio = 0 }) some-type c

    pub ratio-by-digit : below (λ i. eqb (digit_of table i) (get_or (map (λ l. l.ratio) logicals) i 0)) 6 ≡ true → r ≡ code_or 0 (ratio_of (listed logicals k))
    unfolding logicals
    ratio-by-digit t = digit ∙ digits (λ i. get_or (map (λ l. l.ratio) logicals) i 0) table 6 t i some-type ∙ ratio-in (record { called = []; needs = 0; ratio = 0 }) some-type

  module _ (no-type : 6 ≤ i) where
    listed-out : listed logicals k ≡ none
    unfolding logicals
    listed-out = type-is ∙ element-out logicals i no-type

    pub fits_out : (c : ℕ) → true ≡ fits_over c (listed logicals k)
    unfolding fits_over
    fits_out c = rw listed-out

    pub ratio-out : 0 ≡ code_or 0 (ratio_of (listed logicals k))
    unfolding ratio_of code_or
    ratio-out = rw listed-out

-- ---------------------------------------------------------------- bounds, by a test of each table

most : (m : ℕ) (xs : List ℕ) (i : ℕ) → all (λ x. leb x m) xs ≡ true → get_or xs i 0 ≤ m
most m [] i e = omega arith
most m (x ∷ xs) zero e = leb-true x m (both_left (leb x m) (all (λ x. leb x m) xs) e)
most m (x ∷ xs) (suc i) e = most m xs i (both_right (leb x m) (all (λ x. leb x m) xs) e)

pub width-most : (c : ℕ) → width_of c ≤ 8
unfolding storages
width-most c = rw (width_is c) at (most 8 (map (λ s. s.width) storages) c refl)

-- a ratio that there is is 1 or 2
pub data Ratio : Option ℕ → Type 0 where
  unlisted : Ratio none
  between : {r : ℕ} → 1 ≤ r → r ≤ 2 → Ratio (some r)

ratio-in-list : (k : List ℕ) (ls : List Logical) → all (λ l. leb 1 l.ratio && leb l.ratio 2) ls ≡ true → Ratio (ratio_of (listed ls k))
unfolding listed ratio_of
ratio-in-list k [] e = unlisted
ratio-in-list k (l ∷ ls) e = pick (same l.called k) (both_left (leb 1 l.ratio && leb l.ratio 2) _ e) (ratio-in-list k ls (both_right (leb 1 l.ratio && leb l.ratio 2) _ e))
  where
    pick : (t : Bool) → (leb 1 l.ratio && leb l.ratio 2) ≡ true → Ratio (ratio_of (listed ls k)) → Ratio (ratio_of (cond t (some l) (listed ls k)))
    pick true a b = between (leb-true 1 l.ratio (both_left _ (leb l.ratio 2) a)) (leb-true l.ratio 2 (both_right (leb 1 l.ratio) _ a))
    pick false a b = b

pub ratio-is : (k : List ℕ) → Ratio (ratio_of (listed logicals k))
unfolding logicals
ratio-is k = ratio-in-list k logicals refl

pub width_small : (c : ℕ) {w : ℕ} → w ≡ width_of c → w ≤ 8
width_small c b = rw b (width-most c)

-- the answer of `unit_of`, from a ratio r, 0 for none, and a width
module _ (k : List ℕ) (c r w : ℕ) (a : r ≡ code_or 0 (ratio_of (listed logicals (take (length k - 0) (drop 0 k))))) (b : w ≡ width_of c) where
  ratio-here : r ≡ code_or 0 (ratio_of (listed logicals k))
  ratio-here = a ∙ ap (λ k. code_or 0 (ratio_of (listed logicals k))) (part_to_end k 0)

  pub unit-most : r * w ≤ 16
  unfolding code_or
  unit-most = mul-le-mul (go (ratio_of (listed logicals k)) (ratio-is k) ratio-here) (width_small c b)
    where
      go : (o : Option ℕ) → Ratio o → r ≡ code_or 0 o → r ≤ 2
      go o unlisted e = omega arith
      go o (between l h) e = omega arith

  pub unit-unlisted : r ≡ 0 → 256 + w ≡ unit_number (ratio_of (listed logicals k)) (width_of c)
  unfolding unit_number code_or
  unit-unlisted z = rw (← b) (go (ratio_of (listed logicals k)) (ratio-is k) ratio-here)
    where
      go : (o : Option ℕ) → Ratio o → r ≡ code_or 0 o → 256 + w ≡ unit_number o w
      go o unlisted e = refl
      go o (between l h) e = absurd (omega arith)

  pub unit-listed : (r ≡ 0 → ⊥) → r * w ≡ unit_number (ratio_of (listed logicals k)) (width_of c)
  unfolding unit_number code_or
  unit-listed n = rw (← b) (go (ratio_of (listed logicals k)) (ratio-is k) ratio-here)
    where
      go : (o : Option ℕ) → Ratio o → r ≡ code_or 0 o → r * w ≡ unit_number o w
      go o unlisted e = absurd (n e)
      go o (between l h) e = ap (λ (n : ℕ). n * w) e
