-- The list rises: the stated order, and no entry twice.
use Prim.Native.Nat.{ℕ, suc, ◌<◌}
use mathlib.Core.List.{List, [], ◌∷◌, ◌++◌}
use mathlib.Core.Bool.{Bool, true, false, cond}
use mathlib.Core.Option.{Option, none, some}
use mathlib.Core.Logic.{◌⊎◌, inl, inr}
use mathlib.Core.Path.{◌≡◌, refl, ap}
use native.Mathlib.Omega.{arith}
use lib.Dec.{eqb}
use Rattle.meaning.specs.Described.{DescribedComponent, DescribedObject, Described}
use Rattle.changes.specs.Changes.{Entry, entry, Found, across, part_what, object_what, unless_zero, if_absent, part_entry, of_part, firsts, seconds, in_both, of_object, olds, news, changes}
use Rattle.changes.specs.Changes as made
use Rattle.changes.specs.Differs.{In}
use Rattle.changes.specs.Order.{key, Less, Rising}
use Rattle.changes.proofs.Lists.{in_either, of-across}

rising-append : (l m : List Entry) → Rising l → Rising m → ((x y : Entry) → In x l → In y m → Less (key x) (key y)) → Rising (l ++ m)
rising-append [] m r s h = s
rising-append (x ∷ l) m (r, rs) s h = ((λ f u. go f (in_either f l m u)), rising-append l m rs s (λ y z u v. h y z (inr u) v))
  where
    go : (f : Entry) → In f l ⊎ In f m → Less (key x) (key f)
    go f (inl u) = r f u
    go f (inr u) = h x f (inl refl) u

rising-across : {A : Type 0} (f : ℕ → A → List Entry) (l : List A) → ((i : ℕ) (a : A) → Rising (f i a))
    → ((i j : ℕ) (a b : A) → i < j → (x y : Entry) → In x (f i a) → In y (f j b) → Less (key x) (key y)) → Rising (across f l)
rising-across f [] r h = tt
rising-across {A} f (a ∷ l) r h = rising-append (f 0 a) (across (λ i. f (suc i)) l) (r 0 a)
    (rising-across (λ i. f (suc i)) l (λ i. r (suc i)) (λ i j b c q. h (suc i) (suc j) b c (omega arith)))
    (λ x y u v. let w = of-across (λ i. f (suc i)) l y v in h 0 (suc w.0) a w.1 (omega arith) x y u w.3)

by-keys : (x y : Entry) (u v : List ℕ) → key x ≡ u → key y ≡ v → Less u v → Less (key x) (key y)
by-keys x y u v e f h = rw (e, f) h

rising-unless : (w : ℕ) (e : Entry) → Rising (unless_zero w e)
rising-unless w e = go (eqb w 0)
  where
    go : (t : Bool) → Rising (cond t [] (e ∷ []))
    go true = tt
    go false = ((λ f u. absurd u), tt)

unless-key : (w : ℕ) (e x : Entry) → In x (unless_zero w e) → key x ≡ key e
unless-key w e x h = go (eqb w 0) h
  where
    go : (t : Bool) → In x (cond t [] (e ∷ [])) → key x ≡ key e
    go true h = absurd h
    go false (inl h) = ap key h
    go false (inr h) = absurd h

rising-absent : {A : Type 0} (e : Entry) (r : Option A) → Rising (if_absent e r)
rising-absent e none = ((λ f u. absurd u), tt)
rising-absent e (some a) = tt

absent-key : {A : Type 0} (e x : Entry) (r : Option A) → In x (if_absent e r) → key x ≡ key e
absent-key e x none (inl h) = ap key h
absent-key e x none (inr h) = absurd h
absent-key e x (some a) h = absurd h

module _ (i j : ℕ) where
  rising_part : (k : ℕ) (c : DescribedComponent) (r : Option (Found DescribedComponent)) → Rising (of_part i j k c r)
  rising_part k c none = ((λ f u. absurd u), tt)
  rising_part k c (some f) = rising-unless (part_what c f.it) (part_entry i j k c f)

  part-key : (k : ℕ) (c : DescribedComponent) (r : Option (Found DescribedComponent)) (x : Entry) → In x (of_part i j k c r) → key x ≡ (0 ∷ i ∷ 1 ∷ k ∷ [])
  part-key k c none x (inl h) = ap key h
  part-key k c none x (inr h) = absurd h
  part-key k c (some f) x h = unless-key (part_what c f.it) (part_entry i j k c f) x h

  module _ (o p : DescribedObject) where
    firsts-key : (x : Entry) → In x (firsts i j o p) → (k : ℕ) × (key x ≡ (0 ∷ i ∷ 1 ∷ k ∷ []))
    firsts-key x h = let r = of-across (λ k c. of_part i j k c (made.part c.name p.components)) o.components x h
        in (r.0, part-key r.0 r.1 (made.part r.1.name p.components) x r.3)

    seconds-key : (x : Entry) → In x (seconds i j o p) → (l : ℕ) × (key x ≡ (0 ∷ i ∷ 2 ∷ l ∷ []))
    seconds-key x h = let r = of-across (λ l d. if_absent (entry 6 i j 0 l 0 0 0) (made.part d.name o.components)) p.components x h
        in (r.0, absent-key (entry 6 i j 0 r.0 0 0 0) x (made.part r.1.name o.components) r.3)

    rising-firsts : Rising (firsts i j o p)
    rising-firsts = rising-across (λ k c. of_part i j k c (made.part c.name p.components)) o.components (λ k c. rising_part k c (made.part c.name p.components))
        (λ k l c d q x y u v. by-keys x y (0 ∷ i ∷ 1 ∷ k ∷ []) (0 ∷ i ∷ 1 ∷ l ∷ []) (part-key k c (made.part c.name p.components) x u) (part-key l d (made.part d.name p.components) y v)
        (inr (refl, inr (refl, inr (refl, inl q)))))

    rising-seconds : Rising (seconds i j o p)
    rising-seconds = rising-across (λ l d. if_absent (entry 6 i j 0 l 0 0 0) (made.part d.name o.components)) p.components (λ l d. rising-absent _ (made.part d.name o.components))
        (λ k l c d q x y u v. by-keys x y (0 ∷ i ∷ 2 ∷ k ∷ []) (0 ∷ i ∷ 2 ∷ l ∷ []) (absent-key (entry 6 i j 0 k 0 0 0) x (made.part c.name o.components) u)
        (absent-key (entry 6 i j 0 l 0 0 0) y (made.part d.name o.components) v) (inr (refl, inr (refl, inr (refl, inl q)))))

    rest-key : (x : Entry) → In x (firsts i j o p ++ seconds i j o p) → (s k : ℕ) × (0 < s) × (key x ≡ (0 ∷ i ∷ s ∷ k ∷ []))
    rest-key x h = go (in_either x (firsts i j o p) (seconds i j o p) h)
      where
        go : In x (firsts i j o p) ⊎ In x (seconds i j o p) → (s k : ℕ) × (0 < s) × (key x ≡ (0 ∷ i ∷ s ∷ k ∷ []))
        go (inl u) = let r = firsts-key x u in (1, r.0, omega arith, r.1)
        go (inr u) = let r = seconds-key x u in (2, r.0, omega arith, r.1)

    rising-both : Rising (in_both i j o p)
    rising-both = rising-append (unless_zero (object_what o p) (entry 3 i j 0 0 (object_what o p) 0 0)) (firsts i j o p ++ seconds i j o p) (rising-unless (object_what o p) (entry 3 i j 0 0 (object_what o p) 0 0))
        (rising-append (firsts i j o p) (seconds i j o p) rising-firsts rising-seconds
        (λ x y u v. let r = firsts-key x u in let s = seconds-key y v in by-keys x y _ _ r.1 s.1 (inr (refl, inr (refl, inl (omega arith))))))
        (λ x y u v. let r = rest-key y v in by-keys x y (0 ∷ i ∷ 0 ∷ 0 ∷ []) (0 ∷ i ∷ r.0 ∷ r.1 ∷ []) (unless-key (object_what o p) (entry 3 i j 0 0 (object_what o p) 0 0) x u) r.3 (inr (refl, inr (refl, inl r.2))))

    both-key : (x : Entry) → In x (in_both i j o p) → (s k : ℕ) × (key x ≡ (0 ∷ i ∷ s ∷ k ∷ []))
    both-key x h = go (in_either x (unless_zero (object_what o p) (entry 3 i j 0 0 (object_what o p) 0 0)) (firsts i j o p ++ seconds i j o p) h)
      where
        go : In x (unless_zero (object_what o p) (entry 3 i j 0 0 (object_what o p) 0 0)) ⊎ In x (firsts i j o p ++ seconds i j o p) → (s k : ℕ) × (key x ≡ (0 ∷ i ∷ s ∷ k ∷ []))
        go (inl u) = (0, 0, unless-key (object_what o p) (entry 3 i j 0 0 (object_what o p) 0 0) x u)
        go (inr u) = let r = rest-key x u in (r.0, r.1, r.3)

rising-object : (i : ℕ) (o : DescribedObject) (r : Option (Found DescribedObject)) → Rising (of_object i o r)
rising-object i o none = ((λ f u. absurd u), tt)
rising-object i o (some f) = rising-both i f.index o f.it

object-key : (i : ℕ) (o : DescribedObject) (r : Option (Found DescribedObject)) (x : Entry) → In x (of_object i o r) → (s k : ℕ) × (key x ≡ (0 ∷ i ∷ s ∷ k ∷ []))
object-key i o none x (inl h) = (0, 0, ap key h)
object-key i o none x (inr h) = absurd h
object-key i o (some f) x h = both-key i f.index o f.it x h

module _ (a b : Described) where
  olds-key : (x : Entry) → In x (olds a b) → (i s k : ℕ) × (key x ≡ (0 ∷ i ∷ s ∷ k ∷ []))
  olds-key x h = let r = of-across (λ i o. of_object i o (made.object o.name b.objects)) a.objects x h
      in let q = object-key r.0 r.1 (made.object r.1.name b.objects) x r.3 in (r.0, q.0, q.1, q.2)

  news-key : (x : Entry) → In x (news a b) → (j : ℕ) × (key x ≡ (1 ∷ j ∷ []))
  news-key x h = let r = of-across (λ j p. if_absent (entry 2 0 j 0 0 0 0 0) (made.object p.name a.objects)) b.objects x h
      in (r.0, absent-key (entry 2 0 r.0 0 0 0 0 0) x (made.object r.1.name a.objects) r.3)

  rising-olds : Rising (olds a b)
  rising-olds = rising-across (λ i o. of_object i o (made.object o.name b.objects)) a.objects (λ i o. rising-object i o (made.object o.name b.objects))
      (λ i j o p q x y u v. let r = object-key i o (made.object o.name b.objects) x u in let s = object-key j p (made.object p.name b.objects) y v
      in by-keys x y _ _ r.2 s.2 (inr (refl, inl q)))

  rising-news : Rising (news a b)
  rising-news = rising-across (λ j p. if_absent (entry 2 0 j 0 0 0 0 0) (made.object p.name a.objects)) b.objects (λ j p. rising-absent _ (made.object p.name a.objects))
      (λ i j o p q x y u v. by-keys x y (1 ∷ i ∷ []) (1 ∷ j ∷ []) (absent-key (entry 2 0 i 0 0 0 0 0) x (made.object o.name a.objects) u)
      (absent-key (entry 2 0 j 0 0 0 0 0) y (made.object p.name a.objects) v) (inr (refl, inl q)))

  pub in_order : Rising (changes a b)
  unfolding changes
  in_order = rising-append (olds a b) (news a b) rising-olds rising-news
      (λ x y u v. let r = olds-key x u in let s = news-key y v in by-keys x y _ _ r.3 s.1 (inl (omega arith)))
