-- What the slots say after all pairs of a map, for any list of places: is every key whole text, does a known name stand twice, where does each field stand; a field that the
-- layout hasn't got stands nowhere.
use mathlib.Core.Path.{◌≡◌, refl, sym, ap, ap₂, ◌∙◌}
use mathlib.Core.List.{List, [], ◌∷◌}
use mathlib.Core.Bool.{Bool, true, false, cond, ◌&&◌}
use mathlib.Core.Option.{Option, none, some}
use Prim.Native.Nat.{ℕ, zero, suc, ◌+◌, ◌≤◌, ◌<◌}
use native.Mathlib.Omega.{arith}
use lib.ListN.{length, get_or, set}
use lib.Seq.{get_or-set_same, get_or-set_other}
use lib.Dec.{ltb, leb, eqb}
use borrow.Author.Tests.{eq-eqb, ne_eqb, eqb-true, eqb-false, lt-leb, ltb-true, ltb-false}
use Rattle.meaning.specs.Tree.{Pair, note_of}
use Rattle.meaning.specs.Text.{same, all, one_of, distinct}
use Rattle.meaning.specs.Layouts.{Slots, slot, somes}
use Rattle.meaning.specs.Field as field
use Rattle.meaning.proofs.FieldsAlike.{slot-listed}
use Rattle.meaning.proofs.Tests.{not-both}
use Rattle.meaning.proofs.SameText.{same-eq}
use Rattle.types.specs.Known.{field_at}
use Rattle.types.proofs.Codes.{field-most}
use Rattle.text.proofs.SameIsEqual.{eq-same, ne_same}
use Rattle.walk.specs.Reading.{Ends, left_at, foldl}
use Rattle.fields.specs.Slots.{slot_of, marks}
use Rattle.fields.proofs.MarkedSlots.{mark-late, mark-first, mark-again, marked-length}

-- equal positions of a name that is there are equal names
pub position-same : (ns : Slots) (n k : List ℕ) → field_at ns n < length ns → field_at ns n ≡ field_at ns k → n ≡ k
unfolding field_at
position-same [] n k l e = absurd (omega arith)
position-same (none ∷ ns) n k l e = position-same ns n k (omega arith) (omega arith)
position-same (some m ∷ ns) n k l e = go (same m n) refl (same m k) refl (position-same ns n k)
  where
    go : (a : Bool) → same m n ≡ a → (b : Bool) → same m k ≡ b → (field_at ns n < length ns → field_at ns n ≡ field_at ns k → n ≡ k) → n ≡ k
    go true a true b ih = sym (same-eq m n a) ∙ same-eq m k b
    go true a false b ih = absurd (let z : 0 ≡ suc (field_at ns k) = rw (a, b) at e in omega arith)
    go false a true b ih = absurd (let z : suc (field_at ns n) ≡ 0 = rw (a, b) at e in omega arith)
    go false a false b ih = let z : suc (field_at ns n) ≡ suc (field_at ns k) = rw (a, b) at e in let y : suc (field_at ns n) < suc (length ns) = rw a at l in ih (omega arith) (omega arith)

one_in : (ns : Slots) (n : List ℕ) → one_of (somes ns) n ≡ true → field_at ns n < length ns
unfolding field_at
one_in [] n e = absurd (not-both e refl)
one_in (none ∷ ns) n e = let h = one_in ns n e in omega arith
one_in (some m ∷ ns) n e = go (same m n) refl (one_in ns n)
  where
    go : (a : Bool) → same m n ≡ a → (one_of (somes ns) n ≡ true → field_at ns n < length ns) → cond (same m n) 0 (suc (field_at ns n)) < suc (length ns)
    go true a ih = rw a (omega arith)
    go false a ih = let x = ih (rw a at e) in rw a (omega arith)

in_one : (ns : Slots) (n : List ℕ) → field_at ns n < length ns → one_of (somes ns) n ≡ true
unfolding field_at
in_one [] n l = absurd (omega arith)
in_one (none ∷ ns) n l = in_one ns n (omega arith)
in_one (some m ∷ ns) n l = go (same m n) refl (in_one ns n)
  where
    go : (a : Bool) → same m n ≡ a → (field_at ns n < length ns → one_of (somes ns) n ≡ true) → cond (same m n) true (one_of (somes ns) n) ≡ true
    go true a ih = rw a
    go false a ih = let x : suc (field_at ns n) < suc (length ns) = rw a at l in rw a (ih (omega arith))

all-false : (f : List ℕ → Bool) (ns : List (List ℕ)) (n : List ℕ) → one_of ns n ≡ true → f n ≡ false → all f ns ≡ false
all-false f [] n e h = absurd (not-both e refl)
all-false f (m ∷ ns) n e h = go (same m n) refl (f m) refl (all-false f ns n)
  where
    go : (a : Bool) → same m n ≡ a → (b : Bool) → f m ≡ b → (one_of ns n ≡ true → f n ≡ false → all f ns ≡ false) → (f m && all f ns) ≡ false
    go true a b c ih = rw (ap f (same-eq m n a) ∙ h)
    go false a true c ih = rw c (ih (rw a at e) h)
    go false a false c ih = rw c

all_alike : (f g : List ℕ → Bool) (ns : List (List ℕ)) → ((n : List ℕ) → one_of ns n ≡ true → f n ≡ g n) → all f ns ≡ all g ns
all_alike f g [] h = refl
all_alike f g (m ∷ ns) h = ap₂ (λ (a b : Bool). a && b) (h m (rw (eq-same m m refl))) (all_alike f g ns (λ n e. h n (later n e (same m n) refl)))
  where
    later : (n : List ℕ) → one_of ns n ≡ true → (b : Bool) → same m n ≡ b → cond (same m n) true (one_of ns n) ≡ true
    later n e true a = rw a
    later n e false a = rw a e

-- ---------------------------------------------------------------- a turn, by the key

abbrev pub left_of : Pair Ends → ℕ
left_of q = length (note_of q.value).start

-- every value has a byte or more
abbrev pub AllSome : List (Pair Ends) → Type 0
AllSome [] = Unit {0}
AllSome (q ∷ ps) = (0 < left_of q) × AllSome ps

module _ (ns : Slots) where
  data Turn (p : List ℕ) (q : Pair Ends) : Type 0 where
    odd : field.key_of q ≡ none → marks ns p q ≡ set p (suc (length ns)) (left_of q) → Turn p q
    strange : (k : List ℕ) → field.key_of q ≡ some k → field_at ns k ≡ length ns → marks ns p q ≡ set p (length ns) (left_of q) → Turn p q
    first : (k : List ℕ) → field.key_of q ≡ some k → field_at ns k < length ns → get_or p (field_at ns k) 0 ≡ 0 → marks ns p q ≡ set p (field_at ns k) (left_of q) → Turn p q
    again : (k : List ℕ) → field.key_of q ≡ some k → field_at ns k < length ns → (get_or p (field_at ns k) 0 ≡ 0 → ⊥) → marks ns p q ≡ set p (length ns + 2) (left_of q) → Turn p q

  turn : (p : List ℕ) (q : Pair Ends) → Turn p q
  unfolding marks slot_of
  turn p q = go (field.key_of q) refl
    where
      l : ℕ
      l = left_of q

      known : (k : List ℕ) → field.key_of q ≡ some k → (a : Bool) → ltb (field_at ns k) (length ns) ≡ a → (b : Bool) → eqb (get_or p (field_at ns k) 0) 0 ≡ b → Turn p q
      known k e true a true b = first k e (ltb-true _ _ a) (eqb-true _ _ b) (rw e (sym (mark-first (length ns) p (field_at ns k) l (ltb-true _ _ a) (eqb-true _ _ b))))
      known k e true a false b = again k e (ltb-true _ _ a) (eqb-false _ _ b) (rw e (sym (mark-again (length ns) p (field_at ns k) l (ltb-true _ _ a) (eqb-false _ _ b))))
      known k e false a b c =
          let x : length ns ≤ field_at ns k = ltb-false _ _ a in let y = field-most ns k in let z : field_at ns k ≡ length ns = omega arith in
          strange k e z (rw e (sym (mark-late (length ns) p (field_at ns k) l x) ∙ ap (λ (i : ℕ). set p i l) z))

      go : (o : Option (List ℕ)) → field.key_of q ≡ o → Turn p q
      go none e = odd e (rw e (sym (mark-late (length ns) p (suc (length ns)) l (omega arith))))
      go (some k) e = known k e (ltb (field_at ns k) (length ns)) refl (eqb (get_or p (field_at ns k) 0) 0) refl

  named_none : (n : List ℕ) (q : Pair Ends) → field.key_of q ≡ none → field.named n q ≡ false
  unfolding field.named field.is_key
  named_none n q e = rw e

  named_some : (n k : List ℕ) (q : Pair Ends) → field.key_of q ≡ some k → field.named n q ≡ same n k
  unfolding field.named field.is_key
  named_some n k q e = rw e

  -- a name that is there, against another field_at
  named_other : (n k : List ℕ) (q : Pair Ends) → field.key_of q ≡ some k → (field_at ns n ≡ field_at ns k → ⊥) → field.named n q ≡ false
  named_other n k q e h = named_some n k q e ∙ ne_same n k (λ z. h (ap (field_at ns) z))

  named-this : (n k : List ℕ) (q : Pair Ends) → field.key_of q ≡ some k → n ≡ k → field.named n q ≡ true
  named-this n k q e h = named_some n k q e ∙ eq-same n k h

  marks-length : (p : List ℕ) (q : Pair Ends) → length (marks ns p q) ≡ length p
  unfolding marks
  marks-length p q = marked-length (length ns) p (slot_of ns (field.key_of q)) (left_at (some q.value))

  -- ---------------------------------------------------------------- where a field stands

  abbrev or_else : ℕ → ℕ → ℕ
  or_else x r = cond (eqb x 0) r x

  module _ (n : List ℕ) (in-ns : field_at ns n < length ns) where
    abbrev i : ℕ
    i = field_at ns n

    field_step : (p : List ℕ) (q : Pair Ends) (ps : List (Pair Ends)) → length p ≡ length ns + 3 → 0 < left_of q → or_else (get_or (marks ns p q) i 0) (left_at (field.get n ps)) ≡ or_else (get_or p i 0) (left_at (field.get n (q ∷ ps)))
    unfolding field.get
    field_step p q ps l some_left = go (turn p q)
      where
        at_other : (j : ℕ) → (i ≡ j → ⊥) → field.named n q ≡ false → marks ns p q ≡ set p j (left_of q) → or_else (get_or (marks ns p q) i 0) (left_at (field.get n ps)) ≡ or_else (get_or p i 0) (left_at (field.get n (q ∷ ps)))
        at_other j ne nn e = rw (e, nn, get_or-set_other p j i (left_of q) 0 ne) refl

        go : Turn p q → or_else (get_or (marks ns p q) i 0) (left_at (field.get n ps)) ≡ or_else (get_or p i 0) (left_at (field.get n (q ∷ ps)))
        go (odd e m) = at_other (suc (length ns)) (λ z. omega arith) (named_none n q e) m
        go (strange k e f m) = at_other (length ns) (λ z. omega arith) (named_other n k q e (λ z. omega arith)) m
        go (first k e f z m) = two (eqb i (field_at ns k)) refl
          where
            two : (b : Bool) → eqb i (field_at ns k) ≡ b → or_else (get_or (marks ns p q) i 0) (left_at (field.get n ps)) ≡ or_else (get_or p i 0) (left_at (field.get n (q ∷ ps)))
            two true b =
                let y : i ≡ field_at ns k = eqb-true _ _ b in
                let x : get_or (marks ns p q) i 0 ≡ left_of q = ap (λ u. get_or u i 0) (m ∙ ap (λ (j : ℕ). set p j (left_of q)) (sym y)) ∙ get_or-set_same p i (left_of q) 0 (omega arith) in
                let w : get_or p i 0 ≡ 0 = ap (λ (j : ℕ). get_or p j 0) y ∙ z in
                rw (x, w, named-this n k q e (position-same ns n k in-ns y), ne_eqb (left_of q) 0 (λ c. omega arith)) refl
            two false b = at_other (field_at ns k) (eqb-false _ _ b) (named_other n k q e (eqb-false _ _ b)) m
        go (again k e f z m) = two (eqb i (field_at ns k)) refl
          where
            x : get_or (marks ns p q) i 0 ≡ get_or p i 0
            x = ap (λ u. get_or u i 0) m ∙ get_or-set_other p (length ns + 2) i (left_of q) 0 (λ c. omega arith)

            two : (b : Bool) → eqb i (field_at ns k) ≡ b → or_else (get_or (marks ns p q) i 0) (left_at (field.get n ps)) ≡ or_else (get_or p i 0) (left_at (field.get n (q ∷ ps)))
            two true b =
                let y : i ≡ field_at ns k = eqb-true _ _ b in
                rw (x, ne_eqb (get_or p i 0) 0 (λ c. z (ap (λ (j : ℕ). get_or p j 0) (sym y) ∙ c))) refl
            two false b = at_other (length ns + 2) (λ c. omega arith) (named_other n k q e (eqb-false _ _ b)) m

    field-all : (p : List ℕ) (ps : List (Pair Ends)) → length p ≡ length ns + 3 → AllSome ps → get_or (foldl (marks ns) p ps) i 0 ≡ or_else (get_or p i 0) (left_at (field.get n ps))
    unfolding field.get
    field-all p [] l h = go (eqb (get_or p i 0) 0) refl
      where
        go : (b : Bool) → eqb (get_or p i 0) 0 ≡ b → get_or p i 0 ≡ or_else (get_or p i 0) 0
        go true e = rw (eqb-true (get_or p i 0) 0 e)
        go false e = rw e
    field-all p (q ∷ ps) l h = field-all (marks ns p q) ps (marks-length p q ∙ l) h.1 ∙ field_step p q ps l h.0

    pub field-left : (p : List ℕ) (ps : List (Pair Ends)) → length p ≡ length ns + 3 → AllSome ps → get_or p i 0 ≡ 0 → get_or (foldl (marks ns) p ps) i 0 ≡ left_at (field.get n ps)
    field-left p ps l h z = field-all p ps l h ∙ (rw (eq-eqb _ _ z) refl)

  -- ---------------------------------------------------------------- every key is whole text

  abbrev clear : List ℕ → ℕ → Bool
  clear p j = eqb (get_or p j 0) 0

  odd-all : (p : List ℕ) (ps : List (Pair Ends)) → length p ≡ length ns + 3 → AllSome ps → clear (foldl (marks ns) p ps) (suc (length ns)) ≡ (clear p (suc (length ns)) && all (λ q. field.is_some (field.key_of q)) ps)
  unfolding field.is_some
  odd-all p [] l h = go (clear p (suc (length ns)))
    where
      go : (b : Bool) → b ≡ (b && true)
      go true = refl
      go false = refl
  odd-all p (q ∷ ps) l h = odd-all (marks ns p q) ps (marks-length p q ∙ l) h.1 ∙ go (turn p q)
    where
      rest : Bool
      rest = all (λ q. field.is_some (field.key_of q)) ps

      goal : Type 0
      goal = (clear (marks ns p q) (suc (length ns)) && rest) ≡ (clear p (suc (length ns)) && (field.is_some (field.key_of q) && rest))

      elsewhere : (k : List ℕ) (j : ℕ) → field.key_of q ≡ some k → (suc (length ns) ≡ j → ⊥) → marks ns p q ≡ set p j (left_of q) → goal
      elsewhere k j e ne m = rw (m, e, get_or-set_other p j (suc (length ns)) (left_of q) 0 ne) refl

      here : field.key_of q ≡ none → marks ns p q ≡ set p (suc (length ns)) (left_of q) → goal
      here e m = let x = h.0 in rw (m, e, get_or-set_same p (suc (length ns)) (left_of q) 0 (omega arith), ne_eqb (left_of q) 0 (λ c. omega arith)) (two (clear p (suc (length ns))))
        where
          two : (b : Bool) → false ≡ (b && false)
          two true = refl
          two false = refl

      go : Turn p q → goal
      go (odd e m) = here e m
      go (strange k e f m) = elsewhere k (length ns) e (λ c. omega arith) m
      go (first k e f z m) = elsewhere k (field_at ns k) e (λ c. omega arith) m
      go (again k e f z m) = elsewhere k (length ns + 2) e (λ c. omega arith) m

  -- ---------------------------------------------------------------- no known field stands twice

  abbrev seen : List ℕ → List ℕ → ℕ
  seen p n = cond (clear p (field_at ns n)) 0 1

  abbrev once : List ℕ → List (Pair Ends) → List ℕ → Bool
  once p ps n = leb (field.count n ps + seen p n) 1

  twice-all : (p : List ℕ) (ps : List (Pair Ends)) → length p ≡ length ns + 3 → AllSome ps → clear (foldl (marks ns) p ps) (length ns + 2) ≡ (clear p (length ns + 2) && all (once p ps) (somes ns))
  unfolding field.count
  twice-all p [] l h = go (clear p (length ns + 2)) refl
    where
      fine : (n : List ℕ) → one_of (somes ns) n ≡ true → once p [] n ≡ true
      fine n e = two (clear p (field_at ns n))
        where
          two : (b : Bool) → leb (0 + cond b 0 1) 1 ≡ true
          two true = refl
          two false = refl

      trues : (ms : List (List ℕ)) → all (λ n. true) ms ≡ true
      trues [] = refl
      trues (m ∷ ms) = trues ms

      go : (b : Bool) → clear p (length ns + 2) ≡ b → clear p (length ns + 2) ≡ (clear p (length ns + 2) && all (once p []) (somes ns))
      go true e = rw (e, all_alike (once p []) (λ n. true) (somes ns) fine, trues (somes ns)) refl
      go false e = rw e refl
  twice-all p (q ∷ ps) l h = twice-all (marks ns p q) ps (marks-length p q ∙ l) h.1 ∙ go (turn p q)
    where
      goal : Type 0
      goal = (clear (marks ns p q) (length ns + 2) && all (once (marks ns p q) ps) (somes ns)) ≡ (clear p (length ns + 2) && all (once p (q ∷ ps)) (somes ns))

      -- the slot j isn't that of repeats, and every name is as often there
      same-else : (j : ℕ) → (length ns + 2 ≡ j → ⊥) → marks ns p q ≡ set p j (left_of q) → ((n : List ℕ) → one_of (somes ns) n ≡ true → once (marks ns p q) ps n ≡ once p (q ∷ ps) n) → goal
      same-else j ne m f = ap₂ (λ (a b : Bool). a && b) (ap (λ (x : ℕ). eqb x 0) (ap (λ u. get_or u (length ns + 2) 0) m ∙ get_or-set_other p j (length ns + 2) (left_of q) 0 ne)) (all_alike (once (marks ns p q) ps) (once p (q ∷ ps)) (somes ns) f)

      unnamed : (n : List ℕ) (j : ℕ) → (field_at ns n ≡ j → ⊥) → field.named n q ≡ false → marks ns p q ≡ set p j (left_of q) → once (marks ns p q) ps n ≡ once p (q ∷ ps) n
      unnamed n j ne e m = rw (m, e, get_or-set_other p j (field_at ns n) (left_of q) 0 ne) refl

      go : Turn p q → goal
      go (odd e m) = same-else (suc (length ns)) (λ c. omega arith) m (λ n o. let x = one_in ns n o in unnamed n (suc (length ns)) (λ c. omega arith) (named_none n q e) m)
      go (strange k e f m) = same-else (length ns) (λ c. omega arith) m (λ n o. let x = one_in ns n o in unnamed n (length ns) (λ c. omega arith) (named_other n k q e (λ c. omega arith)) m)
      go (first k e f z m) = same-else (field_at ns k) (λ c. omega arith) m (λ n o. two n (one_in ns n o) (eqb (field_at ns n) (field_at ns k)) refl)
        where
          two : (n : List ℕ) → field_at ns n < length ns → (b : Bool) → eqb (field_at ns n) (field_at ns k) ≡ b → once (marks ns p q) ps n ≡ once p (q ∷ ps) n
          two n o true b =
              let y : field_at ns n ≡ field_at ns k = eqb-true _ _ b in let lo = h.0 in
              let x : get_or (marks ns p q) (field_at ns n) 0 ≡ left_of q = ap (λ u. get_or u (field_at ns n) 0) (m ∙ ap (λ (j : ℕ). set p j (left_of q)) (sym y)) ∙ get_or-set_same p (field_at ns n) (left_of q) 0 (omega arith) in
              let w : get_or p (field_at ns n) 0 ≡ 0 = ap (λ (j : ℕ). get_or p j 0) y ∙ z in
              let c : field.count n ps + 1 ≡ suc (field.count n ps) + 0 = omega arith in
              rw (x, w, named-this n k q e (position-same ns n k o y), ne_eqb (left_of q) 0 (λ c. omega arith)) (ap (λ (u : ℕ). leb u 1) c)
          two n o false b = unnamed n (field_at ns k) (eqb-false _ _ b) (named_other n k q e (eqb-false _ _ b)) m
      go (again k e f z m) =
          let lo = h.0 in
          let x : clear (marks ns p q) (length ns + 2) ≡ false = ap (λ u. eqb (get_or u (length ns + 2) 0) 0) m ∙ ap (λ (u : ℕ). eqb u 0) (get_or-set_same p (length ns + 2) (left_of q) 0 (omega arith)) ∙ ne_eqb (left_of q) 0 (λ c. omega arith) in
          let y = all-false (once p (q ∷ ps)) (somes ns) k (in_one ns k f) over in
          rw (x, y) (two (clear p (length ns + 2)))
        where
          two : (b : Bool) → false ≡ (b && false)
          two true = refl
          two false = refl

          over : once p (q ∷ ps) k ≡ false
          over = rw (named-this k k q e refl, ne_eqb _ _ z) (lt-leb (suc (field.count k ps) + 1) 1 (omega arith))

  -- ---------------------------------------------------------------- from nothing

  module _ (p : List ℕ) (none_yet : (j : ℕ) → get_or p j 0 ≡ 0) (l : length p ≡ length ns + 3) (ps : List (Pair Ends)) (h : AllSome ps) where
    pub odd_is : eqb (get_or (foldl (marks ns) p ps) (suc (length ns)) 0) 0 ≡ all (λ q. field.is_some (field.key_of q)) ps
    odd_is = odd-all p ps l h ∙ (rw (none_yet (suc (length ns))) refl)

    pub twice-is : eqb (get_or (foldl (marks ns) p ps) (length ns + 2) 0) 0 ≡ all (λ n. leb (field.count n ps) 1) (somes ns)
    twice-is = twice-all p ps l h ∙ (rw (none_yet (length ns + 2)) (all_alike (once p ps) (λ n. leb (field.count n ps) 1) (somes ns) (λ n e. one n)))
      where
        one : (n : List ℕ) → once p ps n ≡ leb (field.count n ps) 1
        one n = let c : field.count n ps + 0 ≡ field.count n ps = omega arith in rw (none_yet (field_at ns n)) (ap (λ (u : ℕ). leb u 1) c)

    pub field_is : (n : List ℕ) → field_at ns n < length ns → get_or (foldl (marks ns) p ps) (field_at ns n) 0 ≡ left_at (field.get n ps)
    field_is n o = field-left n o p ps l h (none_yet (field_at ns n))

-- ---------------------------------------------------------------- by the place

-- the name of a place is found there
pub position-slot : (ms : Slots) → distinct (somes ms) ≡ true → (i : ℕ) (n : List ℕ) → slot i ms ≡ some n → field_at ms n ≡ i
unfolding field_at
position-slot [] d i n e = cc
position-slot (none ∷ ms) d zero n e = cc
position-slot (none ∷ ms) d (suc i) n e = ap suc (position-slot ms d i n e)
position-slot (some m ∷ ms) d zero n e = let f : m ≡ n = cc in rw (f, eq-same n n refl)
position-slot (some m ∷ ms) d (suc i) n e = go (same m n) refl (one_of (somes ms) m) refl d (position-slot ms)
  where
    go : (b : Bool) → same m n ≡ b → (c : Bool) → one_of (somes ms) m ≡ c → cond c false (distinct (somes ms)) ≡ true
        → (distinct (somes ms) ≡ true → (i : ℕ) (n : List ℕ) → slot i ms ≡ some n → field_at ms n ≡ i) → cond b 0 (suc (field_at ms n)) ≡ suc i
    go b f true o h r = cc
    go true f false o h r = let l : one_of (somes ms) m ≡ true = rw (same-eq m n f) (slot-listed ms i n e) in absurd (not-both l o)
    go false f false o h r = ap suc (r h i n e)

-- no name is found at a place without one
no_name : (ms : Slots) (j : ℕ) (k : List ℕ) → slot j ms ≡ none → j < length ms → j ≡ field_at ms k → ⊥
unfolding field_at
no_name [] j k e l f = omega arith
no_name (none ∷ ms) zero k e l f = omega arith
no_name (none ∷ ms) (suc j) k e l f = no_name ms j k e (omega arith) (omega arith)
no_name (some m ∷ ms) zero k e l f = let z : ◌≡◌ {A = ℕ} 0 1 = cc in omega arith
no_name (some m ∷ ms) (suc j) k e l f = go (same m k) f (no_name ms j k e)
  where
    go : (b : Bool) → suc j ≡ cond b 0 (suc (field_at ms k)) → (j < length ms → j ≡ field_at ms k → ⊥) → ⊥
    go true h r = omega arith
    go false h r = r (omega arith) (omega arith)

module _ (ns : Slots) where
  untouched : (j : ℕ) → slot j ns ≡ none → j < length ns → (p : List ℕ) (ps : List (Pair Ends)) → get_or (foldl (marks ns) p ps) j 0 ≡ get_or p j 0
  untouched j e l p [] = refl
  untouched j e l p (q ∷ ps) = untouched j e l (marks ns p q) ps ∙ go (turn ns p q)
    where
      other : (k : ℕ) → (j ≡ k → ⊥) → marks ns p q ≡ set p k (left_of q) → get_or (marks ns p q) j 0 ≡ get_or p j 0
      other k ne m = rw (m, get_or-set_other p k j (left_of q) 0 ne)

      go : Turn ns p q → get_or (marks ns p q) j 0 ≡ get_or p j 0
      go (odd f m) = other (suc (length ns)) (λ z. omega arith) m
      go (strange k f g m) = other (length ns) (λ z. omega arith) m
      go (first k f g z m) = other (field_at ns k) (no_name ns j k e l) m
      go (again k f g z m) = other (length ns + 2) (λ z. omega arith) m

  module _ (d : distinct (somes ns) ≡ true) (p : List ℕ) (none_yet : (j : ℕ) → get_or p j 0 ≡ 0) (l : length p ≡ length ns + 3) (ps : List (Pair Ends)) (h : AllSome ps) where
    -- where the field at the place i stands, 0 if the map or the layout hasn't got it
    pub slot_is : (i : ℕ) → i < length ns → get_or (foldl (marks ns) p ps) i 0 ≡ left_at (field.field (slot i ns) ps)
    unfolding field.field
    slot_is i o = go (slot i ns) refl
      where
        go : (s : Option (List ℕ)) → slot i ns ≡ s → get_or (foldl (marks ns) p ps) i 0 ≡ left_at (field.field s ps)
        go none e = untouched i e o p ps ∙ none_yet i
        go (some n) e = let at = position-slot ns d i n e in rw at at (field_is ns p none_yet l ps h n (omega arith))
