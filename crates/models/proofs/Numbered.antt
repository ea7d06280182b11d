-- Objects by their numbers, and the one that a name was matched with.
use Prim.Native.Nat.{ℕ, zero, suc, ◌+◌, ◌-◌, ◌*◌, ◌^◌, ◌≤◌, ◌<◌}
use native.Mathlib.Omega.{arith}
use native.Mathlib.Nat.{zero-add}
use mathlib.Core.List.{List, [], ◌∷◌}
use mathlib.Core.Option.{none, some, some-injective, none-ne-some}
use mathlib.Core.Path.{◌≡◌, refl, sym, ap, ◌∙◌}
use lib.ListN.{length, get_or, get_elem?, set, length-set}
use lib.Seq.{get_or-drop, get_or-set_same, get_or-set_other}
use Rattle.text.proofs.OrderIsTotal.{Which, less, more, equal, which}
use Rattle.meaning.specs.Columns.{object_width, component_width, name_column, name_length_column}
use Rattle.meaning.specs.Asked.{asked_object}
use Rattle.meaning.specs.Described.{DescribedObject, described_object}
use Rattle.put.specs.Wrote.{capped, Wrote}
use Rattle.put.proofs.PiecesInTurn.{Rest, rest-less, rest-none, nothing, then, as_bytes}
use Rattle.matching.specs.Named.{name_at, named}
use Rattle.std.specs.Prelude.{Some, None}
use Rattle.std.specs.Prelude as std
use Rattle.matching.specs.Matched.{First}
use Rattle.changes.specs.Changes.{Entry, entry, numbers, flat, across, object, of_object, if_absent, in_both}
use Rattle.changes.proofs.Lists.{seek-lacks}
use Rattle.parts.proofs.MatchedRows.{seek-first}
use Rattle.parts.proofs.Turns.{across-next, flat_append}
use Rattle.pairs.specs.Objects.{object_at, count_at}
use Rattle.models.specs.Tables.{start_of, Beside, object_of, objects_from, olds_from, news_from, changes_of}

module _ (file table : List ℕ) where
  object-name : (row first : ℕ) → (object_at file table row first).name ≡ name_at file table row
  unfolding object_at described_object asked_object name_at
  object-name row first = rw (get_or-drop row table name_column 0, get_or-drop row table name_length_column 0)

  module _ (n : ℕ) where
    objects-none : (j k : ℕ) → k ≤ 0 → objects_from file table n j k ≡ []
    unfolding objects_from
    objects-none j zero l = refl
    objects-none j (suc k) l = absurd (omega arith)

    -- of m, those from j on
    objects-step : (m j : ℕ) → j < m → objects_from file table n j (m - j) ≡ object_of file table n j ∷ objects_from file table n (j + 1) (m - (j + 1))
    unfolding objects_from
    objects-step m j l = let z : m - j ≡ suc (m - (j + 1)) = omega arith in let y : j + 1 ≡ suc j = omega arith in rw (z, y)

    object-elem : (j k i : ℕ) → i < k → get_elem? (objects_from file table n j k) i ≡ some (object_of file table n (j + i))
    unfolding objects_from
    object-elem j zero i l = absurd (omega arith)
    object-elem j (suc k) zero l = let z : j + 0 ≡ j = omega arith in rw z
    object-elem j (suc k) (suc i) l = let z : suc j + i ≡ j + suc i = omega arith in object-elem (suc j) k i (omega arith) ∙ ap (λ x. some (object_of file table n x)) z

    elem-object : (j k i : ℕ) (o : DescribedObject) → get_elem? (objects_from file table n j k) i ≡ some o → (i < k) × (object_of file table n (j + i) ≡ o)
    unfolding objects_from
    elem-object j zero i o h = absurd (none-ne-some o h)
    elem-object j (suc k) zero o h = let z : j + 0 ≡ j = omega arith in (omega arith, rw z (some-injective _ o h))
    elem-object j (suc k) (suc i) o h =
        let z : suc j + i ≡ j + suc i = omega arith in
        let r = elem-object (suc j) k i o h in
        (omega (arith, r.0), ap (object_of file table n) (sym z) ∙ r.1)

    called : (i : ℕ) → (object_of file table n i).name ≡ named file table 0 object_width i
    unfolding named
    called i = let z : 0 + object_width * i ≡ object_width * i = omega arith in object-name (object_width * i) (start_of table n i) ∙ ap (name_at file table) (sym z)

    at_zero : (j : ℕ) (o : DescribedObject) → get_elem? (objects_from file table n 0 n) j ≡ some o → (j < n) × (object_of file table n j ≡ o)
    at_zero j o h = let q = elem-object 0 n j o h in (q.0, ap (object_of file table n) (sym (zero-add j)) ∙ q.1)

    module _ {w : List ℕ} {k : ℕ} (f : (j : ℕ) → j < k → named file table 0 object_width j ≡ w → ⊥) where
      not-before : (j : ℕ) (o : DescribedObject) → get_elem? (objects_from file table n 0 n) j ≡ some o → o.name ≡ w → j < k → ⊥
      not-before j o h e l = let q = at_zero j o h in f j l (sym (called j) ∙ ap (λ (x : DescribedObject). x.name) q.1 ∙ e)

    pub object-beside : (w : List ℕ) (o : std.Option ℕ) → First (named file table 0 object_width) n w o → Beside w file table n o
    object-beside w (Some r) f = (
      f.below,
      seek-first (λ (o : DescribedObject). o.name) (objects_from file table n 0 n) w r (object_of file table n r)
          (object-elem 0 n r f.below ∙ ap (λ x. some (object_of file table n x)) (zero-add r)) (called r ∙ f.is) (λ j o m h e. not-before f.before j o h e m),
    )
    object-beside w None f = seek-lacks (λ (o : DescribedObject). o.name) (objects_from file table n 0 n) w (λ j o h e. not-before f j o h e (at_zero j o h).0)

-- ---- one object, beside those of the other model

module _ (first a : List ℕ) (m i : ℕ) (second b : List ℕ) (n : ℕ) {w : List ℕ} (is : w ≡ named first a 0 object_width i) where
  named-so : w ≡ (object_of first a m i).name
  named-so = is ∙ sym (called first a m i)

  module _ {r : ℕ} (f : (r < n) × (object w (objects_from second b n 0 n) ≡ some (record { index = r; it = object_of second b n r }))) where
    is_found : object (object_of first a m i).name (objects_from second b n 0 n) ≡ some (record { index = r; it = object_of second b n r })
    is_found = rw (← named-so) f.1

    module _ {at past : ℕ} {xs ys : List ℕ} where
      pub in_both_lem : Wrote (flat (in_both i r (object_of first a m i) (object_of second b n r))) at xs ys past
          → Wrote (flat (of_object i (object_of first a m i) (object (object_of first a m i).name (objects_from second b n 0 n)))) at xs ys past
      in_both_lem w = rw is_found w

    pub not_new : {at past : ℕ} {xs : List ℕ} → length xs * 8 < 2 ^ 63 → past ≡ capped at
        → Wrote (flat (if_absent (entry 2 0 i 0 0 0 0 0) (object (object_of first a m i).name (objects_from second b n 0 n)))) at xs xs past
    not_new room e = rw is_found (nothing _ (omega (arith, room)) e)

  module _ (f : object w (objects_from second b n 0 n) ≡ none) where
    is-absent : object (object_of first a m i).name (objects_from second b n 0 n) ≡ none
    is-absent = rw (← named-so) f

    module _ {at past : ℕ} {xs ys : List ℕ} where
      pub first-only : Wrote (numbers (entry 1 i 0 0 0 0 0 0)) at xs ys past → Wrote (flat (of_object i (object_of first a m i) (object (object_of first a m i).name (objects_from second b n 0 n)))) at xs ys past
      first-only w = rw is-absent w

      pub second-only : Wrote (numbers (entry 2 0 i 0 0 0 0 0)) at xs ys past
          → Wrote (flat (if_absent (entry 2 0 i 0 0 0 0 0) (object (object_of first a m i).name (objects_from second b n 0 n)))) at xs ys past
      second-only w = rw is-absent w

-- ---- where components' rows begin

starts-next : (table : List ℕ) (n j : ℕ) → start_of table n (j + 1) ≡ start_of table n j + component_width * count_at table (object_width * j)
unfolding start_of
starts-next table n j = let z : j + 1 ≡ suc j = omega arith in rw z

-- the first j are put
pub record Begun (table : List ℕ) (n j at : ℕ) (old starts : List ℕ) : Type 0 where
  pub most-of : j ≤ n
  pub here : at ≡ start_of table n j
  pub size : length starts ≡ length old
  pub is : (i : ℕ) → i < j → get_or starts i 0 ≡ start_of table n i

pub begun-none : (table : List ℕ) (n : ℕ) (old : List ℕ) → Begun table n 0 (object_width * n) old old
unfolding start_of
begun-none table n old = record { most-of = omega arith; here = refl; size = refl; is = λ i l. absurd (omega arith) }

pub begun_more : {table : List ℕ} {n j at : ℕ} {old starts : List ℕ} → n ≤ length old → Begun table n j at old starts → j < n
    → Begun table n (j + 1) (at + component_width * count_at table (object_width * j)) old (set starts j at)
begun_more {table} {n} {j} {at} {old} {starts} h b l = record {
  most-of = omega arith;
  here = ap (λ (x : ℕ). x + component_width * count_at table (object_width * j)) b.here ∙ sym (starts-next table n j);
  size = length-set starts j at ∙ b.size;
  is = λ i m. go i m (which i j);
}
  where
    go : (i : ℕ) → i < j + 1 → Which i j → get_or (set starts j at) i 0 ≡ start_of table n i
    go i m (less w) = get_or-set_other starts j i at 0 (λ z. omega arith) ∙ b.is i w
    go i m (more w) = absurd (omega arith)
    go i m (equal w) = rw w (get_or-set_same starts j at 0 (omega (arith, b.size)) ∙ b.here)

-- ---- a loop over the m objects of a table: of the object o whose number is x `f x o` is written; i of them are done

module _ (file table : List ℕ) (m : ℕ) (f : ℕ → DescribedObject → List Entry) where
  abbrev still : ℕ → List ℕ
  still i = flat (across (λ x o. f (i + x) o) (objects_from file table m i (m - i)))

  abbrev whole-list : List ℕ
  whole-list = flat (across (λ x o. f (0 + x) o) (objects_from file table m 0 m))

pub record Turned (f : ℕ → DescribedObject → List Entry) (file table : List ℕ) (m at : ℕ) (xs : List ℕ) (i past : ℕ) (ys : List ℕ) : Type 0 where
  pub within : i ≤ m
  pub rest : Rest (whole-list file table m f) at xs (still file table m f i) past ys

module _ {f : ℕ → DescribedObject → List Entry} {file table : List ℕ} {m at : ℕ} {xs : List ℕ} {i past : ℕ} {ys : List ℕ} (w : Turned f file table m at xs i past ys) where
  of-these : List DescribedObject → List ℕ
  of-these os = flat (across (λ x o. f (i + x) o) os)

  pub one_more : i < m → {zs : List ℕ} {r : ℕ} → Wrote (flat (f i (object_of file table m i))) past ys zs r → Turned f file table m at xs (i + 1) r zs
  unfolding of-these
  one_more l v = record {
    within = omega (arith, l);
    rest = rest-less w.rest (ap of-these (objects-step file table m m i l) ∙ across-next f i (object_of file table m i) (objects_from file table m (i + 1) (m - (i + 1)))) v;
  }

  module _ (end : m ≤ i) where
    all-turned : {q : ℕ} → q ≡ capped past → Wrote (whole-list file table m f) at xs ys q
    unfolding of-these
    all-turned e = rest-none _ w.rest (ap of-these (objects-none file table m i (m - i) (omega (arith, end)))) e

-- what is written of the first's object o beside the second's, and of the second's beside the first's
abbrev pub old : List DescribedObject → ℕ → DescribedObject → List Entry
old ps x o = of_object x o (object o.name ps)

abbrev pub new : List DescribedObject → ℕ → DescribedObject → List Entry
new os x p = if_absent (entry 2 0 x 0 0 0 0 0) (object p.name os)

module _ (others : List DescribedObject) {file table : List ℕ} {m at : ℕ} {xs : List ℕ} {i past : ℕ} {ys : List ℕ} where
  pub all-olds : Turned (old others) file table m at xs i past ys → m ≤ i → {q : ℕ} → q ≡ capped past → Wrote (flat (olds_from others 0 (objects_from file table m 0 m))) at xs ys q
  all-olds w end e = all-turned w end e

  pub all-news : Turned (new others) file table m at xs i past ys → m ≤ i → {q : ℕ} → q ≡ capped past → Wrote (flat (news_from others 0 (objects_from file table m 0 m))) at xs ys q
  all-news w end e = all-turned w end e

pub both-written : (os ps : List DescribedObject) {at q r : ℕ} {xs ys zs : List ℕ} → Wrote (flat (olds_from ps 0 os)) at xs ys q → Wrote (flat (news_from os 0 ps)) q ys zs r
    → Wrote (flat (changes_of os ps)) at xs zs r
both-written os ps w v = as_bytes (sym (flat_append (olds_from ps 0 os) (news_from os 0 ps))) (then w v)
