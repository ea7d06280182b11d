-- A walk that keeps the first odd key and the first second copy has found the leftmost, in the order of document 01's checks.
use Prim.Native.Nat.{ℕ, zero, suc, ◌+◌, ◌<◌}
use native.Mathlib.Omega.{arith}
use mathlib.Core.List.{List, [], ◌∷◌, ◌++◌}
use mathlib.Core.Bool.{Bool, true, false, cond, not, ◌&&◌}
use mathlib.Core.Option.{Option, none, some}
use mathlib.Core.Path.{◌≡◌, refl, ap, ap₂, sym, ◌∙◌}
use lib.ListN.{length, get_or}
use lib.Dec.{eqb, ltb}
use borrow.Author.Tests.{eq-eqb, ne_eqb, lt-ltb, le-ltb, ltb-true, ltb-false}
use Rattle.meaning.specs.Tree.{Node, Pair, note_of}
use Rattle.meaning.specs.Text.{same, one_of}
use Rattle.meaning.specs.Layouts.{Slots, somes}
use Rattle.meaning.specs.Field.{is_some, is_key, key_of, named, get}
use Rattle.meaning.proofs.SameText.{same-turned}
use Rattle.types.specs.Known.{field_at}
use Rattle.types.proofs.Codes.{field-most}
use Rattle.walk.specs.Reading.{Ends, foldl, left_at}
use Rattle.fields.specs.Slots.{slot_of, marks}
use Rattle.fields.proofs.Marks.{AllSome, field_is}
use Rattle.walk.proofs.Passed.{foldl-snoc}
use Rattle.explained.specs.Step.{first}
use Rattle.explained.specs.Order.{fresh, more, key_steps, repeat_steps}
use Rattle.explained.proofs.Repeat.{keys_after, keys-snoc}
use Rattle.keys.specs.Odd.{first_or, after_key, after_copy, left_first}

abbrev pub key_left : Pair Ends → ℕ
key_left q = length (note_of q.key).start

-- every key has a byte or more
abbrev pub KeysSome : List (Pair Ends) → Type 0
KeysSome [] = Unit {0}
KeysSome (q ∷ ps) = (0 < key_left q) × KeysSome ps

pub record State : Type 0 where
  pub slots : List ℕ
  pub key : ℕ
  pub again : ℕ

abbrev pub step : Slots → State → Pair Ends → State
step ns st q = record {
  slots = marks ns st.slots q;
  key = after_key (length ns) (slot_of ns (key_of q)) (key_left q) st.key;
  again = after_copy (length ns) (slot_of ns (key_of q)) (get_or st.slots (slot_of ns (key_of q)) 0) (key_left q) st.again;
}

first_then : (seen left later : ℕ) → 0 < left → first_or (first_or seen left) later ≡ first_or seen left
unfolding first_or
first_then seen left later h = go (eqb seen 0) refl
  where
    go : (b : Bool) → eqb seen 0 ≡ b → cond (eqb (cond b left seen) 0) later (cond b left seen) ≡ cond b left seen
    go true e = rw (ne_eqb left 0 (λ z. omega (arith, z, h)))
    go false e = rw e

known_is : (ns : Slots) (k : List ℕ) → ltb (field_at ns k) (length ns) ≡ one_of (somes ns) k
unfolding field_at
known_is [] k = refl
known_is (none ∷ ns) k = suc-ltb (field_at ns k) (length ns) ∙ known_is ns k
  where
    suc-ltb : (a b : ℕ) → ltb (suc a) (suc b) ≡ ltb a b
    suc-ltb a b = go (ltb a b) refl
      where
        go : (c : Bool) → ltb a b ≡ c → ltb (suc a) (suc b) ≡ c
        go true e = lt-ltb (suc a) (suc b) (let h = ltb-true a b e in omega (arith, h))
        go false e = le-ltb (suc a) (suc b) (let h = ltb-false a b e in omega (arith, h))
known_is (some n ∷ ns) k = go (same n k) (known_is ns k)
  where
    suc-ltb : (a b : ℕ) → ltb (suc a) (suc b) ≡ ltb a b
    suc-ltb a b = go' (ltb a b) refl
      where
        go' : (c : Bool) → ltb a b ≡ c → ltb (suc a) (suc b) ≡ c
        go' true e = lt-ltb (suc a) (suc b) (let h = ltb-true a b e in omega (arith, h))
        go' false e = le-ltb (suc a) (suc b) (let h = ltb-false a b e in omega (arith, h))

    go : (b : Bool) → ltb (field_at ns k) (length ns) ≡ one_of (somes ns) k → ltb (cond b 0 (suc (field_at ns k))) (suc (length ns)) ≡ cond b true (one_of (somes ns) k)
    go true h = lt-ltb 0 (suc (length ns)) (omega arith)
    go false h = suc-ltb (field_at ns k) (length ns) ∙ h

-- ---------------------------------------------------------------- keys

module _ (ns : Slots) where
  pub slots-are : (st : State) (ps : List (Pair Ends)) → (foldl (step ns) st ps).slots ≡ foldl (marks ns) st.slots ps
  slots-are st [] = refl
  slots-are st (q ∷ ps) = slots-are (step ns st q) ps

  none_more : (a : ℕ) → first_or a 0 ≡ a
  unfolding first_or
  none_more zero = refl
  none_more (suc a) = rw (ne_eqb (suc a) 0 (λ z. omega (arith, z)))

  odd_step : (q : Pair Ends) (seen : ℕ) (o : Option (List ℕ)) → key_of q ≡ o → after_key (length ns) (slot_of ns o) (key_left q) seen ≡ cond (is_some o) seen (first_or seen (key_left q))
  unfolding after_key slot_of is_some
  odd_step q seen none e = let z : suc (length ns) ≡ length ns + 1 = omega arith in ap (λ (b : Bool). cond b (first_or seen (key_left q)) seen) (eq-eqb (suc (length ns)) (length ns + 1) z)
  odd_step q seen (some k) e =
      ap (λ (b : Bool). cond b (first_or seen (key_left q)) seen) (ne_eqb (field_at ns k) (length ns + 1) (λ z. let h = field-most ns k in omega (arith, h, z)))

  pub key-is : (st : State) (ps : List (Pair Ends)) → KeysSome ps → (foldl (step ns) st ps).key ≡ first_or st.key (left_first (first (key_steps ps)))
  unfolding key_steps left_first
  key-is st [] h = sym (none_more st.key)
  key-is st (q ∷ ps) h = key-is (step ns st q) ps h.1 ∙ ap (λ x. first_or x (left_first (first (key_steps ps)))) (odd_step q st.key (key_of q) refl) ∙ go (is_some (key_of q))
    where
      go : (b : Bool) → first_or (cond b st.key (first_or st.key (key_left q))) (left_first (first (key_steps ps)))
          ≡ first_or st.key (left_first (cond b (first (key_steps ps)) (some (record { number = 9; object = 0; component = 0; object_name = none; component_name = none; place = note_of q.key; right = b }))))
      go true = refl
      go false = first_then st.key (key_left q) (left_first (first (key_steps ps))) h.0

-- ---------------------------------------------------------------- second copies

some_left : (k : List ℕ) (ps : List (Pair Ends)) → AllSome ps → eqb (left_at (get k ps)) 0 ≡ not (is_some (get k ps))
unfolding get is_some
some_left k [] h = refl
some_left k (q ∷ ps) h = go (named k q) (some_left k ps h.1)
  where
    go : (b : Bool) → eqb (left_at (get k ps)) 0 ≡ not (is_some (get k ps)) → eqb (left_at (cond b (some q.value) (get k ps))) 0 ≡ not (is_some (cond b (some q.value) (get k ps)))
    go true e = let l = h.0 in ne_eqb (length (note_of q.value).start) 0 (λ z. omega (arith, z, l))
    go false e = e

seen-is : (k : List ℕ) (before : List (List ℕ)) (ps : List (Pair Ends)) → one_of (keys_after before ps) k ≡ cond (one_of before k) true (is_some (get k ps))
unfolding keys_after get is_some named is_key more
seen-is k before [] = go (one_of before k)
  where
    go : (b : Bool) → b ≡ cond b true false
    go true = refl
    go false = refl
seen-is k before (q ∷ ps) = seen-is k (more before (key_of q)) ps ∙ go (key_of q)
  where
    two : (a b : Bool) (v : Node Ends) → cond (cond a true b) true (is_some (get k ps)) ≡ cond b true (is_some (cond a (some v) (get k ps)))
    two true true v = refl
    two true false v = refl
    two false b v = refl

    go : (o : Option (List ℕ)) → cond (one_of (more before o) k) true (is_some (get k ps)) ≡ cond (one_of before k) true (is_some (cond (is_key k o) (some q.value) (get k ps)))
    go none = refl
    go (some x) = two (same x k) (one_of before k) q.value ∙ ap (λ (b : Bool). cond (one_of before k) true (is_some (cond b (some q.value) (get k ps)))) (same-turned x k)

module _ (ns : Slots) (z : List ℕ) (none_yet : (j : ℕ) → get_or z j 0 ≡ 0) (l : length z ≡ length ns + 3) where
  -- what the slots say of a key, and what the checks say of it
  fresh-is : (done : List (Pair Ends)) → AllSome done → (o : Option (List ℕ))
      → fresh (somes ns) (keys_after [] done) o ≡ not (ltb (slot_of ns o) (length ns) && not (eqb (get_or (foldl (marks ns) z done) (slot_of ns o) 0) 0))
  unfolding fresh slot_of
  fresh-is done h none = ap (λ (b : Bool). not (b && not (eqb (get_or (foldl (marks ns) z done) (suc (length ns)) 0) 0))) (sym (le-ltb (suc (length ns)) (length ns) (omega arith)))
  fresh-is done h (some k) = go (ltb (field_at ns k) (length ns)) refl
    where
      not-not : (b : Bool) → not (not b) ≡ b
      not-not true = refl
      not-not false = refl

      go : (b : Bool) → ltb (field_at ns k) (length ns) ≡ b
          → not (one_of (somes ns) k && one_of (keys_after [] done) k) ≡ not (b && not (eqb (get_or (foldl (marks ns) z done) (field_at ns k) 0) 0))
      go true e =
          let held = field_is ns z none_yet l done h k (ltb-true (field_at ns k) (length ns) e) in
          let a : one_of (somes ns) k ≡ true = sym (known_is ns k) ∙ e in
          let b : eqb (get_or (foldl (marks ns) z done) (field_at ns k) 0) 0 ≡ not (is_some (get k done)) = ap (λ (x : ℕ). eqb x 0) held ∙ some_left k done h in
          ap₂ (λ (x y : Bool). not (x && y)) a (seen-is k [] done) ∙ ap (λ (x : Bool). not x) (sym (ap (λ (x : Bool). not x) b ∙ not-not (is_some (get k done))))
      go false e = ap (λ (x : Bool). not (x && one_of (keys_after [] done) k)) (sym (known_is ns k) ∙ e)

  all_snoc : (done : List (Pair Ends)) (q : Pair Ends) → AllSome done → 0 < length (note_of q.value).start → AllSome (done ++ q ∷ [])
  all_snoc [] q h k = (k, tt)
  all_snoc (p ∷ done) q h k = (h.0, all_snoc done q h.1 k)

  pub copy_is : (done : List (Pair Ends)) → AllSome done → (st : State) → st.slots ≡ foldl (marks ns) z done → (ps : List (Pair Ends)) → KeysSome ps → AllSome ps
      → (foldl (step ns) st ps).again ≡ first_or st.again (left_first (first (repeat_steps (somes ns) (keys_after [] done) ps)))
  unfolding repeat_steps left_first after_copy
  copy_is done h st e [] k v = sym (none_more ns st.again)
  copy_is done h st e (q ∷ ps) k v =
      copy_is (done ++ q ∷ []) (all_snoc done q h v.0) (step ns st q) (ap (λ p. marks ns p q) e ∙ sym (foldl-snoc (marks ns) z done q)) ps k.1 v.1
      ∙ ap₂ (λ (a : ℕ) (b : List (List ℕ)). first_or a (left_first (first (repeat_steps (somes ns) b ps)))) (ap (λ p. after_copy (length ns) (slot_of ns (key_of q)) (get_or p (slot_of ns (key_of q)) 0) (key_left q) st.again) e) (keys-snoc [] done q)
      ∙ go (fresh (somes ns) (keys_after [] done) (key_of q)) (ltb (slot_of ns (key_of q)) (length ns)) (eqb (get_or (foldl (marks ns) z done) (slot_of ns (key_of q)) 0) 0) (fresh-is done h (key_of q))
    where
      rest : ℕ
      rest = left_first (first (repeat_steps (somes ns) (more (keys_after [] done) (key_of q)) ps))

      go : (f a b : Bool) → f ≡ not (a && not b) → first_or (cond a (cond b st.again (first_or st.again (key_left q))) st.again) rest
          ≡ first_or st.again (left_first (cond f (first (repeat_steps (somes ns) (more (keys_after [] done) (key_of q)) ps)) (some (record { number = 11; object = 0; component = 0; object_name = none; component_name = none; place = note_of q.key; right = f }))))
      go true true true i = refl
      go true true false i = absurd (let y : ◌≡◌ {A = ℕ} 0 1 = cc in omega arith)
      go true false b i = refl
      go false true true i = absurd (let y : ◌≡◌ {A = ℕ} 0 1 = cc in omega arith)
      go false true false i = first_then st.again (key_left q) rest k.0
      go false false b i = absurd (let y : ◌≡◌ {A = ℕ} 0 1 = cc in omega arith)
