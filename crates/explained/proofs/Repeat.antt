-- Repeats: the leftmost second copy, against counting each known field, and against names that differ.
use Prim.Native.Nat.{ℕ, suc}
use mathlib.Core.List.{List, [], ◌∷◌, ◌++◌, map}
use mathlib.Core.Bool.{Bool, true, false, cond, not, ◌&&◌}
use mathlib.Core.Option.{Option, none, some}
use mathlib.Core.Path.{◌≡◌, refl, sym, ◌∙◌}
use lib.Dec.{leb, leb-zero, leb-suc-zero, leb-suc-suc}
use Rattle.meaning.specs.Tree.{Pair, note_of}
use Rattle.meaning.specs.Check.{pass, ◌unless◌}
use Rattle.meaning.specs.Text.{same, one_of, distinct, all}
use Rattle.meaning.specs.Model.{Named}
use Rattle.meaning.specs.Field.{is_key, key_of, named, count}
use Rattle.meaning.specs.Refusal.{TWICE}
use Rattle.meaning.proofs.Tests.{both_true}
use Rattle.meaning.proofs.SameText.{same-turned, same-eq}
use Rattle.explained.specs.Step
use Rattle.explained.specs.Step.{Step, ◌at◌unless◌, told}
use Rattle.explained.specs.Order.{fresh, more, repeat_steps, same_name_steps}
use Rattle.explained.proofs.Agree.{Agree, verdict, agree-nothing, one_more}

-- ---------------------------------------------------------------- known fields

-- how often a name may still stand, where these stand before
bound : List (List ℕ) → List ℕ → ℕ
bound before n = cond (one_of before n) 0 1

-- one name of the list and one key more
one_name : (before : List (List ℕ)) (m k : List ℕ) (c : ℕ)
    → leb (cond (same m k) (suc c) c) (bound before m) ≡ (not (same m k && one_of before k) && leb c (bound (k ∷ before) m))
unfolding bound
one_name before m k c = go (same m k) refl (same-turned m k)
  where
    at_same : (b : Bool) → leb (suc c) (cond b 0 1) ≡ (not b && leb c 0)
    at_same true = leb-suc-zero c
    at_same false = leb-suc-suc c 0

    go : (t : Bool) → same m k ≡ t → same m k ≡ same k m
        → leb (cond t (suc c) c) (cond (one_of before m) 0 1) ≡ (not (t && one_of before k) && leb c (cond (cond (same k m) true (one_of before m)) 0 1))
    go true e f = let h : same k m ≡ true = sym f ∙ e in rw (h, same-eq m k e) (at_same (one_of before k))
    go false e f = let h : same k m ≡ false = sym f ∙ e in rw h

mixed : (t b l o r : Bool) → ((not (t && b) && l) && (not (o && b) && r)) ≡ (not (cond t true o && b) && (l && r))
mixed true true l o r = refl
mixed true false true true r = refl
mixed true false true false r = refl
mixed true false false o r = refl
mixed false b true true r = refl
mixed false b true false r = refl
mixed false true false true r = refl
mixed false false false true r = refl
mixed false b false false r = refl

all-names : (before : List (List ℕ)) (k : List ℕ) (f : List ℕ → ℕ) (known : List (List ℕ))
    → all (λ n. leb (cond (same n k) (suc (f n)) (f n)) (bound before n)) known ≡ (not (one_of known k && one_of before k) && all (λ n. leb (f n) (bound (k ∷ before) n)) known)
all-names before k f [] = refl
all-names before k f (m ∷ ms) =
    rw (one_name before m k (f m), all-names before k f ms)
    (mixed (same m k) (one_of before k) (leb (f m) (bound (k ∷ before) m)) (one_of ms k) (all (λ n. leb (f n) (bound (k ∷ before) n)) ms))

none_yet : (before ms : List (List ℕ)) → all (λ n. leb 0 (bound before n)) ms ≡ true
none_yet before [] = refl
none_yet before (m ∷ ms) = rw (leb-zero (bound before m), none_yet before ms)

module _ {P : Type 0} where
  one_key : (known before : List (List ℕ)) (w : P) (ps : List (Pair P)) (key : Option (List ℕ))
      → ((b : List (List ℕ)) → Agree (repeat_steps known b ps) (TWICE unless all (λ n. leb (count n ps) (bound b n)) known))
      → Agree ((TWICE at w unless fresh known before key) ++ repeat_steps known (more before key) ps)
      (TWICE unless all (λ n. leb (cond (is_key n key) (suc (count n ps)) (count n ps)) (bound before n)) known)
  unfolding fresh more is_key
  one_key known before w ps none ih = record { same = (ih before).same }
  one_key known before w ps (some k) ih =
      rw (all-names before k (λ n. count n ps) known)
      (one_more (not (one_of known k && one_of before k)) (all (λ n. leb (count n ps) (bound (k ∷ before) n)) known) (ih (k ∷ before)))

  repeats-from : (known before : List (List ℕ)) (ps : List (Pair P)) → Agree (repeat_steps known before ps) (TWICE unless all (λ n. leb (count n ps) (bound before n)) known)
  unfolding repeat_steps count named
  repeats-from known before [] = rw (none_yet before known) (agree-nothing tt)
  repeats-from known before (p ∷ ps) = one_key known before (note_of p.key) ps (key_of p) (λ b. repeats-from known b ps)

  pub agree-repeats : (known : List (List ℕ)) (ps : List (Pair P)) → Agree (repeat_steps known [] ps) (TWICE unless all (λ n. leb (count n ps) 1) known)
  unfolding bound
  agree-repeats known ps = repeats-from known [] ps

-- ---------------------------------------------------------------- names

outside : (before : List (List ℕ)) (x : List ℕ) (xs : List (List ℕ))
    → all (λ y. not (one_of (x ∷ before) y)) xs ≡ (not (one_of xs x) && all (λ y. not (one_of before y)) xs)
outside before x [] = refl
outside before x (y ∷ ys) = rw (outside before x ys, same-turned x y) (go (same y x) (one_of before y) (one_of ys x) (all (λ z. not (one_of before z)) ys))
  where
    go : (t b o r : Bool) → (not (cond t true b) && (not o && r)) ≡ (not (cond t true o) && (not b && r))
    go true b o r = refl
    go false true true r = refl
    go false true false r = refl
    go false false true r = refl
    go false false false r = refl

all-outside : (xs : List (List ℕ)) → all (λ y. not (one_of [] y)) xs ≡ true
all-outside [] = refl
all-outside (x ∷ xs) = all-outside xs

apart : (b o r d : Bool) → (not b && ((not o && r) && d)) ≡ ((not b && r) && cond o false d)
apart true o r d = refl
apart false true true d = refl
apart false true false d = refl
apart false false true d = refl
apart false false false d = refl

module _ {P : Type 0} where
  same-names-from : (before : List (List ℕ)) (ns : List (Named P))
      → Agree (same_name_steps before ns) (TWICE unless (all (λ y. not (one_of before y)) (map (λ n. n.name.letters) ns) && distinct (map (λ n. n.name.letters) ns)))
  unfolding same_name_steps
  same-names-from before [] = agree-nothing tt
  same-names-from before (n ∷ ns) =
      rw (
        ← apart (one_of before n.name.letters) (one_of (map (λ n. n.name.letters) ns) n.name.letters) (all (λ y. not (one_of before y)) (map (λ n. n.name.letters) ns)) (distinct (map (λ n. n.name.letters) ns)),
        ← outside before n.name.letters (map (λ n. n.name.letters) ns),
      )
      (one_more (not (one_of before n.name.letters))
      (all (λ y. not (one_of (n.name.letters ∷ before) y)) (map (λ n. n.name.letters) ns) && distinct (map (λ n. n.name.letters) ns))
      (same-names-from (n.name.letters ∷ before) ns))

  pub agree-same-names : (ns : List (Named P)) → Agree (same_name_steps [] ns) (TWICE unless distinct (map (λ n. n.name.letters) ns))
  agree-same-names ns = rw (all-outside (map (λ n. n.name.letters) ns)) at (same-names-from [] ns)

-- ---------------------------------------------------------------- where all are right so far

told-right : {P : Type 0} (ss : List (Step P)) → all (λ s. s.right) ss ≡ true → told ss ≡ pass tt
told-right [] e = refl
told-right (x ∷ ss) e = go x.right e (told-right ss)
  where
    go : (b : Bool) → (b && all (λ s. s.right) ss) ≡ true → (all (λ s. s.right) ss ≡ true → told ss ≡ pass tt) → Step.refusal (cond b (Step.first ss) (some x)) ≡ pass tt
    go true e f = f e
    go false e f = cc

unless-true : (n : ℕ) (b : Bool) → pass tt ≡ verdict (n unless b) → b ≡ true
unless-true n true e = refl
unless-true n false e = cc

module _ {P : Type 0} where
  pub all-fresh : (known : List (List ℕ)) (ps : List (Pair P)) → all (λ s. s.right) (repeat_steps known [] ps) ≡ true → all (λ n. leb (count n ps) 1) known ≡ true
  all-fresh known ps e = unless-true TWICE (all (λ n. leb (count n ps) 1) known) (sym (told-right (repeat_steps known [] ps) e) ∙ (agree-repeats known ps).same)

  pub all_new : (ns : List (Named P)) → all (λ s. s.right) (same_name_steps [] ns) ≡ true → distinct (map (λ n. n.name.letters) ns) ≡ true
  all_new ns e = unless-true TWICE (distinct (map (λ n. n.name.letters) ns)) (sym (told-right (same_name_steps [] ns) e) ∙ (agree-same-names ns).same)

  -- the keys met after some pairs
  unfoldable pub keys_after : List (List ℕ) → List (Pair P) → List (List ℕ)
  keys_after before [] = before
  keys_after before (p ∷ ps) = keys_after (more before (key_of p)) ps

  pub keys-snoc : (before : List (List ℕ)) (l : List (Pair P)) (p : Pair P) → keys_after before (l ++ p ∷ []) ≡ more (keys_after before l) (key_of p)
  unfolding keys_after
  keys-snoc before [] p = refl
  keys-snoc before (q ∷ l) p = keys-snoc (more before (key_of q)) l p

  pub fresh-snoc : (known before : List (List ℕ)) (l : List (Pair P)) (p : Pair P) → all (λ s. s.right) (repeat_steps known before l) ≡ true
      → fresh known (keys_after before l) (key_of p) ≡ true → all (λ s. s.right) (repeat_steps known before (l ++ p ∷ [])) ≡ true
  unfolding repeat_steps keys_after
  fresh-snoc known before [] p e f = rw f
  fresh-snoc known before (q ∷ l) p e f =
      let h = both_true (fresh known before (key_of q)) (all (λ s. s.right) (repeat_steps known (more before (key_of q)) l)) e in
      rw (h.0, fresh-snoc known (more before (key_of q)) l p h.1 f)

  unfoldable pub names_after : List (List ℕ) → List (Named P) → List (List ℕ)
  names_after before [] = before
  names_after before (n ∷ ns) = names_after (n.name.letters ∷ before) ns

  pub names-snoc : (before : List (List ℕ)) (l : List (Named P)) (n : Named P) → names_after before (l ++ n ∷ []) ≡ n.name.letters ∷ names_after before l
  unfolding names_after
  names-snoc before [] n = refl
  names-snoc before (m ∷ l) n = names-snoc (m.name.letters ∷ before) l n

  pub new-snoc : (before : List (List ℕ)) (l : List (Named P)) (n : Named P) → all (λ s. s.right) (same_name_steps before l) ≡ true
      → not (one_of (names_after before l) n.name.letters) ≡ true → all (λ s. s.right) (same_name_steps before (l ++ n ∷ [])) ≡ true
  unfolding same_name_steps names_after
  new-snoc before [] n e f = rw f
  new-snoc before (m ∷ l) n e f =
      let h = both_true (not (one_of before m.name.letters)) (all (λ s. s.right) (same_name_steps (m.name.letters ∷ before) l)) e in
      rw (h.0, new-snoc (m.name.letters ∷ before) l n h.1 f)
