-- Over any list of fields: maps whose pairs are moved about, with unknown ones on either side, are refused alike for kind, keys and repeats, or have alike values in every field.
use Prim.Native.Nat.{ℕ, zero, suc, ◌≤◌}
use native.Mathlib.Omega.{arith}
use mathlib.Core.List.{List, [], ◌∷◌, map}
use mathlib.Core.Bool.{Bool, true, false, cond, ◌&&◌, not}
use mathlib.Core.Option.{Option, none, some}
use mathlib.Core.Path.{◌≡◌, refl, ap, ap₂, sym, ◌∙◌, subst}
use lib.Dec.{leb, T, leb→le}
use Rattle.meaning.specs.Tree.{Node, Pair, Pairs, dict, pair_list}
use Rattle.meaning.specs.Check.{Check, pass, refuse, ◌>>=◌, ◌>>◌, ◌unless◌, required, required_in}
use Rattle.meaning.specs.Text.{all, same, one_of}
use Rattle.meaning.specs.Refusal.{KEY, TWICE}
use Rattle.meaning.specs.Kind.{kind, a_mapping, as_mapping}
use Rattle.meaning.specs.Layouts.{Slots, slot, somes, Layout}
use Rattle.meaning.specs.Field.{is_some, is_key, key_of, named, count, get, field, fields}
use Rattle.meaning.specs.Drop.{is_unknown, known, holds}
use Rattle.meaning.specs.Moved.{Inserted, first, later, InMaps, alike, maps}
use Rattle.meaning.proofs.Alike.{Values, PairAlike, Rearranged, done, put, more, less}
use Rattle.meaning.proofs.SameText.{same_self, same-eq}

listed_more : (y x : List ℕ) (ys : List (List ℕ)) → one_of ys x ≡ true → one_of (y ∷ ys) x ≡ true
listed_more y x ys h = go (same y x)
  where
    go : (b : Bool) → cond b true (one_of ys x) ≡ true
    go true = refl
    go false = h

all_more : (y : List ℕ) (ys ns : List (List ℕ)) → all (one_of ys) ns ≡ true → all (one_of (y ∷ ys)) ns ≡ true
all_more y ys [] h = refl
all_more y ys (n ∷ ns) h = go (one_of ys n) refl h (all_more y ys ns)
  where
    go : (b : Bool) → one_of ys n ≡ b → (b && all (one_of ys) ns) ≡ true → (all (one_of ys) ns ≡ true → all (one_of (y ∷ ys)) ns ≡ true)
        → (one_of (y ∷ ys) n && all (one_of (y ∷ ys)) ns) ≡ true
    go true e h' r = rw (listed_more y n ys e) (r h')
    go false e h' r = cc

-- each of a list's names is one of them
all_listed : (ns : List (List ℕ)) → all (one_of ns) ns ≡ true
all_listed [] = refl
all_listed (n ∷ ns) = rw (same_self n) (all_more n ns ns (all_listed ns))

all-at : (q : List ℕ → Bool) (ns : List (List ℕ)) (n : List ℕ) → all q ns ≡ true → one_of ns n ≡ true → q n ≡ true
all-at q [] n h o = cc
all-at q (m ∷ ns) n h o = go (q m) (same m n) refl refl h o (all-at q ns n)
  where
    go : (b c : Bool) → q m ≡ b → same m n ≡ c → (b && all q ns) ≡ true → cond c true (one_of ns n) ≡ true → (all q ns ≡ true → one_of ns n ≡ true → q n ≡ true) → q n ≡ true
    go true true e f h' o' r = rw (same-eq m n f) at e
    go true false e f h' o' r = r h' o'
    go false c e f h' o' r = cc

-- the name of a place is in the list
pub slot-listed : (slots : Slots) (i : ℕ) (n : List ℕ) → slot i slots ≡ some n → one_of (somes slots) n ≡ true
slot-listed [] i n e = cc
slot-listed (none ∷ slots) zero n e = cc
slot-listed (some m ∷ slots) zero n e = let f : m ≡ n = cc in rw (f, same_self n)
slot-listed (none ∷ slots) (suc i) n e = slot-listed slots i n e
slot-listed (some m ∷ slots) (suc i) n e = listed_more m n (somes slots) (slot-listed slots i n e)

few : (n : ℕ) → leb n 1 ≡ true → n ≤ 1
few n h = leb→le n 1 (subst T (sym h) tt)

-- ---------------------------------------------------------------- one pair put in somewhere

and-swap : (a b c : Bool) → (a && (b && c)) ≡ (b && (a && c))
and-swap true true c = refl
and-swap true false c = refl
and-swap false true c = refl
and-swap false false c = refl

count-swap : (a b : Bool) (n : ℕ) → cond a (suc (cond b (suc n) n)) (cond b (suc n) n) ≡ cond b (suc (cond a (suc n) n)) (cond a (suc n) n)
count-swap true true n = refl
count-swap true false n = refl
count-swap false true n = refl
count-swap false false n = refl

fewer : (b : Bool) (n : ℕ) → cond b (suc n) n ≤ 1 → n ≤ 1
fewer true n h = omega arith
fewer false n h = h

all_inserted : {A : Type 0} (q : A → Bool) {a : A} {l m : List A} → Inserted a l m → all q m ≡ (q a && all q l)
all_inserted q first = refl
all_inserted q {a} (later {b = b} {l = l} {m = m} i) = ap (λ r. q b && r) (all_inserted q i) ∙ and-swap (q b) (q a) (all q l)

module _ {P : Type 0} where
  count-inserted : (n : List ℕ) {a : Pair P} {l m : List (Pair P)} → Inserted a l m → count n m ≡ cond (named n a) (suc (count n l)) (count n l)
  unfolding count
  count-inserted n first = refl
  count-inserted n {a} (later {b = b} {l = l} i) =
      ap (λ r. cond (named n b) (suc r) r) (count-inserted n i) ∙ count-swap (named n b) (named n a) (count n l)

  get-swap : (a b : Bool) (n : ℕ) (x y z : Option (Node P)) → cond b (suc (cond a (suc n) n)) (cond a (suc n) n) ≤ 1 → cond b y (cond a x z) ≡ cond a x (cond b y z)
  get-swap true true n x y z h = absurd (omega arith)
  get-swap true false n x y z h = refl
  get-swap false true n x y z h = refl
  get-swap false false n x y z h = refl

  -- where the field stands once at most
  get-inserted : (n : List ℕ) {a : Pair P} {l m : List (Pair P)} → Inserted a l m → count n m ≤ 1 → get n m ≡ cond (named n a) (some a.value) (get n l)
  unfolding get count
  get-inserted n first h = refl
  get-inserted n {a} (later {b = b} {l = l} {m = m} i) h =
      ap (λ r. cond (named n b) (some b.value) r) (get-inserted n i (fewer (named n b) (count n m) h))
      ∙ get-swap (named n a) (named n b) (count n l) (some a.value) (some b.value) (get n l) (rw (count-inserted n i) at h)

  -- ---------------------------------------------------------------- the pairs of a map

  pub named-key : (n : List ℕ) (p q : Pair P) → p.key ≡ q.key → named n p ≡ named n q
  unfolding named key_of
  named-key n p q e = rw e

  -- an unknown pair has a key, and it is none of the names
  unknown-key : (slots : Slots) (p : Pair P) → known slots p ≡ false → is_some (key_of p) ≡ true
  unfolding known is_unknown is_some
  unknown-key slots p = go (key_of p)
    where
      go : (k : Option (List ℕ)) → not (is_unknown (somes slots) k) ≡ false → is_some k ≡ true
      go none h = cc
      go (some k) h = refl

  pub unknown-other : (slots : Slots) (n : List ℕ) → one_of (somes slots) n ≡ true → (p : Pair P) → known slots p ≡ false → named n p ≡ false
  unfolding known named is_unknown is_key
  unknown-other slots n o p = go (key_of p)
    where
      go₂ : (k : List ℕ) (b : Bool) → same n k ≡ b → not (not (one_of (somes slots) k)) ≡ false → same n k ≡ false
      go₂ k true e h = let e₂ : n ≡ k = same-eq n k e in let c : not (not (one_of (somes slots) n)) ≡ false = rw e₂ h in cc
      go₂ k false e h = e

      go : (k : Option (List ℕ)) → not (is_unknown (somes slots) k) ≡ false → is_key n k ≡ false
      go none h = cc
      go (some k) h = go₂ k (same n k) refl h

pub data OptionAlike {A : Type 0} (R : A → A → Type 0) : Option A → Option A → Type 0 where
  nones : OptionAlike R none none
  both : {x y : A} → R x y → OptionAlike R (some x) (some y)

module _ {P : Type 0} (slots : Slots) (W : Values P) where
  keys-alike : {l m : List (Pair P)} → Rearranged slots W l m → all (λ p. is_some (key_of p)) l ≡ all (λ p. is_some (key_of p)) m
  unfolding key_of
  keys-alike done = refl
  keys-alike (put {p = p} {q = q} {l = l} {m = m} {n = n} a r i) = rw (all_inserted (λ p. is_some (key_of p)) i, keys-alike r, a.key)
  keys-alike (more {p = p} u r) = rw (unknown-key slots p u) (keys-alike r)
  keys-alike (less {q = q} u r i) = rw (all_inserted (λ p. is_some (key_of p)) i, unknown-key slots q u) (keys-alike r)

  module _ (n : List ℕ) (o : one_of (somes slots) n ≡ true) where
    count-alike : {l m : List (Pair P)} → Rearranged slots W l m → count n l ≡ count n m
    unfolding count
    count-alike done = refl
    count-alike (put {p = p} {q = q} a r i) = rw (count-inserted n i, count-alike r, named-key n p q a.key)
    count-alike (more {p = p} u r) = rw (unknown-other slots n o p u) (count-alike r)
    count-alike (less {q = q} u r i) = rw (count-inserted n i, unknown-other slots n o q u) (count-alike r)

    module _ (i : ℕ) (e : slot i slots ≡ some n) where
      holds_named : (p : Pair P) → named n p ≡ true → holds (slot i slots) p ≡ true
      unfolding holds
      holds_named p h = rw e h

      pick : {p q : Pair P} {x y : Option (Node P)} → PairAlike slots W p q → OptionAlike (W i) x y → (b : Bool) → named n p ≡ b
          → OptionAlike (W i) (cond b (some p.value) x) (cond b (some q.value) y)
      pick {p = p} a r true f = both (a.value i (holds_named p f))
      pick a r false f = r

      -- where the field stands once at most
      get_alike : {l m : List (Pair P)} → Rearranged slots W l m → count n m ≤ 1 → OptionAlike (W i) (get n l) (get n m)
      unfolding get
      get_alike done h = nones
      get_alike (put {p = p} {q = q} {m = m} a r j) h =
          rw (get-inserted n j h, ← named-key n p q a.key) (pick a (get_alike r (fewer (named n q) (count n m) (rw (count-inserted n j) at h))) (named n p) refl)
      get_alike (more {p = p} u r) h = rw (unknown-other slots n o p u) (get_alike r h)
      get_alike (less {q = q} {m = m} u r j) h =
          rw (get-inserted n j h, unknown-other slots n o q u) (get_alike r (fewer (named n q) (count n m) (rw (count-inserted n j) at h)))

  repeats-alike : {l m : List (Pair P)} → Rearranged slots W l m → (ns : List (List ℕ)) → all (one_of (somes slots)) ns ≡ true
      → all (λ n. leb (count n l) 1) ns ≡ all (λ n. leb (count n m) 1) ns
  repeats-alike r [] o = refl
  repeats-alike {l} {m} r (n ∷ ns) o = go (one_of (somes slots) n) refl o (repeats-alike r ns)
    where
      go : (b : Bool) → one_of (somes slots) n ≡ b → (b && all (one_of (somes slots)) ns) ≡ true
          → (all (one_of (somes slots)) ns ≡ true → all (λ n. leb (count n l) 1) ns ≡ all (λ n. leb (count n m) 1) ns)
          → (leb (count n l) 1 && all (λ n. leb (count n l) 1) ns) ≡ (leb (count n m) 1 && all (λ n. leb (count n m) 1) ns)
      go true e h s = ap₂ (λ a b. leb a 1 && b) (count-alike n e r) (s h)
      go false e h s = cc

  abbrev pub FieldsAlike : List (Pair P) → List (Pair P) → Type 0
  FieldsAlike l m = (i : ℕ) → OptionAlike (W i) (field (slot i slots) l) (field (slot i slots) m)

  field_alike : {l m : List (Pair P)} → Rearranged slots W l m → all (λ n. leb (count n m) 1) (somes slots) ≡ true → FieldsAlike l m
  unfolding field
  field_alike {l} {m} r h i = go (slot i slots) refl
    where
      go : (s : Option (List ℕ)) → slot i slots ≡ s → OptionAlike (W i) (field s l) (field s m)
      go none e = nones
      go (some n) e = let o = slot-listed slots i n e in get_alike n o i e r (few (count n m) (all-at (λ n. leb (count n m) 1) (somes slots) n h o))

-- two checks that refuse alike, or pass what is related
pub data Both {A : Type 0} (R : A → A → Type 0) : Check A → Check A → Type 0 where
  passes : {a b : A} → R a b → Both R (pass a) (pass b)
  refuses : {n o c : ℕ} → Both R (refuse n o c) (refuse n o c)

module _ {P : Type 0} (slots : Slots) (W : Values P) (self : (i : ℕ) (x : Node P) → W i x x) where
  option-self : (i : ℕ) (o : Option (Node P)) → OptionAlike (W i) o o
  option-self i none = nones
  option-self i (some x) = both (self i x)

  both-self : (c : Check (List (Pair P))) → Both (FieldsAlike slots W) c c
  both-self (pass ps) = passes (λ i. option-self i (field (slot i slots) ps))
  both-self (refuse n o c) = refuses

  -- kind, keys, repeats alike, and alike values at every place
  pub fields-alike : {t u : Node P} → InMaps (Rearranged slots W) t u → Both (FieldsAlike slots W) (fields slots t) (fields slots u)
  unfolding fields a_mapping as_mapping kind
  fields-alike {t} alike = both-self (fields slots t)
  fields-alike (maps {ps = ps} {qs = qs} r) =
      rw (keys-alike slots W r, repeats-alike slots W r (somes slots) (all_listed (somes slots)))
      (go (all (λ p. is_some (key_of p)) (pair_list qs)) (all (λ n. leb (count n (pair_list qs)) 1) (somes slots)) refl)
    where
      go : (k b : Bool) → all (λ n. leb (count n (pair_list qs)) 1) (somes slots) ≡ b
          → Both (FieldsAlike slots W) (KEY unless k >> (TWICE unless b >> pass (pair_list ps))) (KEY unless k >> (TWICE unless b >> pass (pair_list qs)))
      go true true e = passes (field_alike slots W r e)
      go true false e = refuses
      go false b e = refuses
