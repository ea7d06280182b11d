-- Turns of the loops over components: what is still to be written, and what is still to be seen.
use Prim.Native.Nat.{ℕ, suc, ◌+◌, ◌*◌, ◌^◌, ◌≤◌, ◌<◌}
use native.Mathlib.Omega.{arith}
use mathlib.Core.List.{List, [], ◌∷◌, ◌++◌}
use mathlib.Core.Bool.{Bool, true, false, cond, ◌||◌}
use mathlib.Core.Path.{◌≡◌, refl, ap, ap₂, ◌∙◌, subst}
use lib.ListN.{length}
use lib.Dec.{eqb}
use borrow.Author.Tests.{eqb-true}
use Rattle.meaning.specs.Described.{DescribedComponent}
use Rattle.meaning.specs.Columns.{component_width}
use Rattle.put.specs.Wrote.{capped, Wrote}
use Rattle.put.proofs.PiecesInTurn.{Rest, rest_all, rest-less, rest-none}
use Rattle.changes.specs.Changes.{Entry, entry, numbers, flat, across, bit, absent, found, lone, shared, part, of_part, if_absent, other_dtype, other_type, other_bytes}
use Rattle.differing.specs.Rows.{part_at}
use Rattle.parts.specs.declared.Seen.{Seen}
use Rattle.parts.specs.declared.Lone.{Lone}
use Rattle.parts.specs.Parts.{parts_at}
use Rattle.parts.specs.Seen.{PartSeen, PartsSeen, LoneSeen, LonesSeen}
use Rattle.parts.proofs.MatchedRows.{still, parts-begin, parts-end, parts-step}

-- ---- lists of entries

pub flat_append : (l m : List Entry) → flat (l ++ m) ≡ flat l ++ flat m
flat_append [] m = refl
flat_append (e ∷ l) m = ap (λ (r : List ℕ). numbers e ++ r) (flat_append l m)

pub across-same : {A B : Type 0} (f g : ℕ → A → List B) → ((x : ℕ) (a : A) → f x a ≡ g x a) → (l : List A) → across f l ≡ across g l
across-same f g h [] = refl
across-same f g h (a ∷ l) = ap₂ ◌++◌ (h 0 a) (across-same (λ i. f (suc i)) (λ i. g (suc i)) (λ x b. h (suc x) b) l)

-- what each gives with its index, from an index on
pub across-next : {A : Type 0} (f : ℕ → A → List Entry) (k : ℕ) (a : A) (l : List A)
    → flat (across (λ x b. f (k + x) b) (a ∷ l)) ≡ flat (f k a) ++ flat (across (λ x b. f (k + 1 + x) b) l)
across-next f k a l =
    flat_append (f (k + 0) a) (across (λ x b. f (k + suc x) b) l)
    ∙ ap₂ ◌++◌ (ap (λ x. flat (f x a)) (let z : k + 0 ≡ k = omega arith in z))
    (ap flat (across-same (λ x b. f (k + suc x) b) (λ x b. f (k + 1 + x) b) (λ x b. ap (λ y. f y b) (let z : k + suc x ≡ k + 1 + x = omega arith in z)) l))

-- ---- what is still to be seen: with what was seen, that makes all

abbrev Owes : ℕ → ℕ → Bool → Bool → Type 0
Owes n seen rest all = cond (eqb seen 0) (bit n rest) seen ≡ bit n all

module _ (n : ℕ) where
  owes-less : eqb n 0 ≡ false → (seen x r : ℕ) (s t all : Bool) → Owes n seen (s || t) all → x ≡ bit n s → r ≡ cond (eqb seen 0) x seen → Owes n r t all
  owes-less z seen x r s t all h e f = go (eqb seen 0) refl s h e f
    where
      go : (b : Bool) → eqb seen 0 ≡ b → (s : Bool) → cond b (bit n (s || t)) seen ≡ bit n all → x ≡ bit n s → r ≡ cond b x seen → Owes n r t all
      go false q s h e f = rw (f, q) h
      go true q true h e f = rw (f, e, z) h
      go true q false h e f = rw (f, e) h

  owes-none : (seen : ℕ) (all : Bool) → Owes n seen false all → seen ≡ bit n all
  owes-none seen all h = go (eqb seen 0) refl h
    where
      go : (b : Bool) → eqb seen 0 ≡ b → cond b 0 seen ≡ bit n all → seen ≡ bit n all
      go false q h = h
      go true q h = eqb-true seen 0 q ∙ h

-- ---- a loop over the m components of a table from p on, beside the components ds of the other model: k of them done

-- what is written, `f x c` of the component c whose number is x; and whether names differ
pub record Turned (f : ℕ → DescribedComponent → List Entry) (file table : List ℕ) (p m : ℕ) (ds : List DescribedComponent) (at : ℕ) (xs : List ℕ) (k past names : ℕ) (ys : List ℕ) : Type 0 where
  pub within : k ≤ m
  pub wrote : Rest (flat (across (λ x c. f (0 + x) c) (parts_at file table p m))) at xs (flat (across (λ x c. f (k + x) c) (still file table p m k))) past ys
  pub name : Owes 4 names (lone (still file table p m k) ds) (lone (parts_at file table p m) ds)

turned-all : (f : ℕ → DescribedComponent → List Entry) (file table : List ℕ) (p m : ℕ) (ds : List DescribedComponent) (at : ℕ) (xs : List ℕ) → length xs * 8 < 2 ^ 63
    → Turned f file table p m ds at xs 0 at 0 xs
turned-all f file table p m ds at xs room = record {
  within = omega arith;
  wrote = rw (parts-begin file table p m) (rest_all _ _ _ (omega (arith, room)));
  name = rw (parts-begin file table p m) refl;
}

module _ {f : ℕ → DescribedComponent → List Entry} {file table : List ℕ} {p m : ℕ} {ds : List DescribedComponent} {at : ℕ} {xs : List ℕ} {k past names : ℕ} {ys : List ℕ}
    (w : Turned f file table p m ds at xs k past names ys) where
  turned-less : k < m → {x r n : ℕ} {zs : List ℕ} → Wrote (flat (f k (part_at file table (p + component_width * k)))) past ys zs r
      → x ≡ bit 4 (absent (part (part_at file table (p + component_width * k)).name ds)) → n ≡ cond (eqb names 0) x names → Turned f file table p m ds at xs (k + 1) r n zs
  turned-less l {x} {r} {n} v e q =
      let c = part_at file table (p + component_width * k) in
      let s = parts-step file table p m k l in
      record {
        within = omega (arith, l);
        wrote = rest-less w.wrote (ap (λ (z : List DescribedComponent). flat (across (λ x a. f (k + x) a) z)) s ∙ across-next f k c (still file table p m (k + 1))) v;
        name =
            owes-less 4 refl names x n (absent (part c.name ds)) (lone (still file table p m (k + 1)) ds) (lone (parts_at file table p m) ds)
            (subst (λ (z : List DescribedComponent). Owes 4 names (lone z ds) (lone (parts_at file table p m) ds)) s w.name) e q;
      }

  module _ (end : m ≤ k) where
    turned_none : {q : ℕ} → q ≡ capped past → Wrote (flat (across (λ x c. f (0 + x) c) (parts_at file table p m))) at xs ys q
    turned_none e = rest-none _ w.wrote (ap (λ (z : List DescribedComponent). flat (across (λ x a. f (k + x) a) z)) (parts-end file table p m k end)) e

    turned-names : names ≡ bit 4 (lone (parts_at file table p m) ds)
    turned-names =
        owes-none 4 names (lone (parts_at file table p m) ds)
        (subst (λ (z : List DescribedComponent). Owes 4 names (lone z ds) (lone (parts_at file table p m) ds)) (parts-end file table p m k end) w.name)

-- whether the components that both have differ in what `other` compares
abbrev Differ : ℕ → ℕ → (DescribedComponent → DescribedComponent → Bool) → List ℕ → List ℕ → ℕ → ℕ → List DescribedComponent → ℕ → Type 0
Differ n seen other file table p m ds k = Owes n seen (shared other (still file table p m k) ds) (shared other (parts_at file table p m) ds)

module _ (n seen : ℕ) (other : DescribedComponent → DescribedComponent → Bool) (file table : List ℕ) (p m : ℕ) (ds : List DescribedComponent) (k : ℕ) where
  of-rest : {rest : List DescribedComponent} → Differ n seen other file table p m ds k → still file table p m k ≡ rest → Owes n seen (shared other rest ds) (shared other (parts_at file table p m) ds)
  of-rest d e = subst (λ (z : List DescribedComponent). Owes n seen (shared other z ds) (shared other (parts_at file table p m) ds)) e d

  differ-less : eqb n 0 ≡ false → Differ n seen other file table p m ds k → k < m → {x r : ℕ}
      → x ≡ bit n (found (other (part_at file table (p + component_width * k))) (part (part_at file table (p + component_width * k)).name ds)) → r ≡ cond (eqb seen 0) x seen
      → Differ n r other file table p m ds (k + 1)
  differ-less z d l {x} {r} e q =
      let c = part_at file table (p + component_width * k) in
      owes-less n z seen x r (found (other c) (part c.name ds)) (shared other (still file table p m (k + 1)) ds) (shared other (parts_at file table p m) ds)
      (of-rest d (parts-step file table p m k l)) e q

  differ-none : Differ n seen other file table p m ds k → m ≤ k → seen ≡ bit n (shared other (parts_at file table p m) ds)
  differ-none d end = owes-none n seen (shared other (parts_at file table p m) ds) (of-rest d (parts-end file table p m k end))

-- ---- the first's components

abbrev first_of : ℕ → ℕ → List DescribedComponent → ℕ → DescribedComponent → List Entry
first_of i j ds x c = of_part i j x c (part c.name ds)

pub record Firsts (file table : List ℕ) (p m : ℕ) (ds : List DescribedComponent) (i j at : ℕ) (xs : List ℕ) (k past names dtypes kinds bytes : ℕ) (ys : List ℕ) : Type 0 where
  pub turned : Turned (first_of i j ds) file table p m ds at xs k past names ys
  pub dtype : Differ 8 dtypes other_dtype file table p m ds k
  pub kind : Differ 16 kinds other_type file table p m ds k
  pub byte : Differ 32 bytes other_bytes file table p m ds k

module _ {file table : List ℕ} {p m : ℕ} {ds : List DescribedComponent} {i j at : ℕ} {xs : List ℕ} {k past n d t b : ℕ} {ys : List ℕ}
    (w : Firsts file table p m ds i j at xs k past n d t b ys) where
  pub one-more-first : k < m → {n' d' t' b' : ℕ} {zs : List ℕ} {s : Seen}
      → PartSeen (part_at file table (p + component_width * k)) (part (part_at file table (p + component_width * k)).name ds) i j k past ys zs s
      → n' ≡ cond (eqb n 0) s.names n → d' ≡ cond (eqb d 0) s.dtypes d → t' ≡ cond (eqb t 0) s.kinds t → b' ≡ cond (eqb b 0) s.bytes b
      → Firsts file table p m ds i j at xs (k + 1) s.at n' d' t' b' zs
  one-more-first l e en ed et eb = record {
    turned = turned-less w.turned l e.wrote e.names en;
    dtype = differ-less 8 d other_dtype file table p m ds k refl w.dtype l e.dtypes ed;
    kind = differ-less 16 t other_type file table p m ds k refl w.kind l e.kinds et;
    byte = differ-less 32 b other_bytes file table p m ds k refl w.byte l e.bytes eb;
  }

  pub all_firsts : m ≤ k → {q : ℕ} → q ≡ capped past → PartsSeen (parts_at file table p m) ds i j at xs ys (record { at = q; names = n; dtypes = d; kinds = t; bytes = b })
  all_firsts end e = record {
    wrote = turned_none w.turned end e;
    names = turned-names w.turned end;
    dtypes = differ-none 8 d other_dtype file table p m ds k w.dtype end;
    kinds = differ-none 16 t other_type file table p m ds k w.kind end;
    bytes = differ-none 32 b other_bytes file table p m ds k w.byte end;
  }

-- ---- the second's

abbrev second_of : ℕ → ℕ → List DescribedComponent → ℕ → DescribedComponent → List Entry
second_of i j cs x d = if_absent (entry 6 i j 0 x 0 0 0) (part d.name cs)

pub record Seconds (file table : List ℕ) (p m : ℕ) (cs : List DescribedComponent) (i j at : ℕ) (xs : List ℕ) (l past names : ℕ) (ys : List ℕ) : Type 0 where
  pub turned : Turned (second_of i j cs) file table p m cs at xs l past names ys

module _ {file table : List ℕ} {p m : ℕ} {cs : List DescribedComponent} {i j at : ℕ} {xs : List ℕ} {l past n : ℕ} {ys : List ℕ} (w : Seconds file table p m cs i j at xs l past n ys) where
  pub one-more-second : l < m → {n' : ℕ} {zs : List ℕ} {s : Lone} → LoneSeen (part_at file table (p + component_width * l)) cs i j l past ys zs s → n' ≡ cond (eqb n 0) s.names n
      → Seconds file table p m cs i j at xs (l + 1) s.at n' zs
  one-more-second h e en = record { turned = turned-less w.turned h e.wrote e.names en }

  pub all-seconds : m ≤ l → {q : ℕ} → q ≡ capped past → LonesSeen (parts_at file table p m) cs i j at xs ys (record { at = q; names = n })
  all-seconds end e = record { wrote = turned_none w.turned end e; names = turned-names w.turned end }

-- what differs adds at most its number
pub bit-small : (n : ℕ) (t : Bool) → bit n t ≤ n
bit-small n true = omega arith
bit-small n false = omega arith
