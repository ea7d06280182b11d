-- The list holds exactly the entries that are true of the two descriptions: complete, and nothing else.
use Prim.Native.Nat.{ℕ}
use mathlib.Core.List.{[], ◌∷◌, ◌++◌}
use mathlib.Core.Bool.{Bool, true, false, cond}
use mathlib.Core.Option.{Option, some}
use mathlib.Core.Logic.{◌⊎◌, inl, inr}
use mathlib.Core.Path.{◌≡◌, refl, sym, ◌∙◌, subst}
use lib.ListN.{get_elem?}
use lib.Dec.{eqb}
use borrow.Author.Tests.{eqb-true, eqb-false}
use Rattle.meaning.specs.Described.{DescribedComponent, DescribedObject, Described}
use Rattle.changes.specs.Changes.{Entry, entry, Found, across, position_apart, count_apart, part_what, object_what, unless_zero, if_absent, of_part, firsts, seconds, in_both, of_object, olds, news, changes}
use Rattle.changes.specs.Changes as made
use Rattle.changes.specs.Differs.{In, Both, part_name, object_name, Change, only_first, only_second, object, part, part_first, part_second, Named}
use Rattle.changes.proofs.Lists.{in_left, in_right, in_either, in-across, of-across, Seeking, somewhere, nowhere, seeking, seek-at, seek-lacks}
use Rattle.changes.proofs.Flags.{bytes-are, bytes_same}
use Rattle.changes.proofs.Whats.{part-what, part-what-same, object-what, object-what-same}

of-unless : (w : ℕ) (x e : Entry) → In x (unless_zero w e) → (w ≡ 0 → ⊥) × (x ≡ e)
of-unless w x e h = go (eqb w 0) refl h
  where
    go : (t : Bool) → eqb w 0 ≡ t → In x (cond t [] (e ∷ [])) → (w ≡ 0 → ⊥) × (x ≡ e)
    go true q h = absurd h
    go false q (inl h) = (eqb-false w 0 q, h)
    go false q (inr h) = absurd h

in-unless : (w : ℕ) (e : Entry) → (w ≡ 0 → ⊥) → In e (unless_zero w e)
in-unless w e h = go (eqb w 0) refl
  where
    go : (t : Bool) → eqb w 0 ≡ t → In e (cond t [] (e ∷ []))
    go true q = absurd (h (eqb-true w 0 q))
    go false q = inl refl

module _ (a b : Described) (named : Named b) where
  turn : (e f : Entry) → e ≡ f → Change a b f → Change a b e
  turn e f q c = subst (Change a b) (sym q) c

  -- ---------------------------------------------------------------- nothing else
  module _ (e : Entry) (i j : ℕ) (o p : DescribedObject) (both : Both object_name a.objects b.objects i j o p) where
    of_part_lem : (k : ℕ) (c : DescribedComponent) → get_elem? o.components k ≡ some c
        → (r : Option (Found DescribedComponent)) → Seeking part_name p.components c.name r → In e (of_part i j k c r) → Change a b e
    of_part_lem k c h r (nowhere g) (inl q) = turn e _ q (part_first i j o p both k c h g)
    of_part_lem k c h r (nowhere g) (inr q) = absurd q
    of_part_lem k c h r (somewhere f at is) m =
        let u = of-unless _ e _ m
        in turn e _ u.1 (part i j o p both k f.index c f.it (record { here = h; there = at; alike = sym is }) (part_what c f.it) _ _ (part-what c f.it) u.0
        (bytes-are c.blob f.it.blob))

    of-second : (l : ℕ) (d : DescribedComponent) → get_elem? p.components l ≡ some d
        → (r : Option (Found DescribedComponent)) → Seeking part_name o.components d.name r → In e (if_absent (entry 6 i j 0 l 0 0 0) r) → Change a b e
    of-second l d h r (nowhere g) (inl q) = turn e _ q (part_second i j o p both l d h g)
    of-second l d h r (nowhere g) (inr q) = absurd q
    of-second l d h r (somewhere f at is) m = absurd m

    of-both : In e (in_both i j o p) → Change a b e
    of-both m = first (in_either e (unless_zero (object_what o p) (entry 3 i j 0 0 (object_what o p) 0 0)) (firsts i j o p ++ seconds i j o p) m)
      where
        rest : In e (firsts i j o p) ⊎ In e (seconds i j o p) → Change a b e
        rest (inl u) = let r = of-across (λ k c. of_part i j k c (made.part c.name p.components)) o.components e u
            in of_part_lem r.0 r.1 r.2 (made.part r.1.name p.components) (seeking part_name p.components r.1.name) r.3
        rest (inr u) = let r = of-across (λ l d. if_absent (entry 6 i j 0 l 0 0 0) (made.part d.name o.components)) p.components e u
            in of-second r.0 r.1 r.2 (made.part r.1.name o.components) (seeking part_name o.components r.1.name) r.3

        first : In e (unless_zero (object_what o p) (entry 3 i j 0 0 (object_what o p) 0 0)) ⊎ In e (firsts i j o p ++ seconds i j o p) → Change a b e
        first (inl u) = let r = of-unless (object_what o p) e _ u
            in turn e _ r.1 (object i j o p both (object_what o p) (object-what o p (named.parts j p both.there)) r.0)
        first (inr u) = rest (in_either e (firsts i j o p) (seconds i j o p) u)

  of-first : (e : Entry) (i : ℕ) (o : DescribedObject) → get_elem? a.objects i ≡ some o
      → (r : Option (Found DescribedObject)) → Seeking object_name b.objects o.name r → In e (of_object i o r) → Change a b e
  of-first e i o h r (nowhere g) (inl q) = turn e _ q (only_first i o h g)
  of-first e i o h r (nowhere g) (inr q) = absurd q
  of-first e i o h r (somewhere f at is) m = of-both e i f.index o f.it (record { here = h; there = at; alike = sym is }) m

  of-rest : (e : Entry) (j : ℕ) (p : DescribedObject) → get_elem? b.objects j ≡ some p
      → (r : Option (Found DescribedObject)) → Seeking object_name a.objects p.name r → In e (if_absent (entry 2 0 j 0 0 0 0 0) r) → Change a b e
  of-rest e j p h r (nowhere g) (inl q) = turn e _ q (only_second j p h g)
  of-rest e j p h r (nowhere g) (inr q) = absurd q
  of-rest e j p h r (somewhere f at is) m = absurd m

  pub nothing-else : (e : Entry) → In e (changes a b) → Change a b e
  unfolding changes
  nothing-else e m = go (in_either e (olds a b) (news a b) m)
    where
      go : In e (olds a b) ⊎ In e (news a b) → Change a b e
      go (inl u) = let r = of-across (λ i o. of_object i o (made.object o.name b.objects)) a.objects e u
          in of-first e r.0 r.1 r.2 (made.object r.1.name b.objects) (seeking object_name b.objects r.1.name) r.3
      go (inr u) = let r = of-across (λ j p. if_absent (entry 2 0 j 0 0 0 0 0) (made.object p.name a.objects)) b.objects e u
          in of-rest e r.0 r.1 r.2 (made.object r.1.name a.objects) (seeking object_name a.objects r.1.name) r.3

  -- ---------------------------------------------------------------- complete
  -- an entry among those of an object in both
  in-object : (e : Entry) (i j : ℕ) (o p : DescribedObject) → Both object_name a.objects b.objects i j o p → In e (in_both i j o p) → In e (changes a b)
  unfolding changes
  in-object e i j o p h m =
      in_left e (olds a b) (news a b) (in-across (λ i o. of_object i o (made.object o.name b.objects)) a.objects i o h.here e
      (rw (seek-at object_name b.objects named.objects o.name j p h.there (sym h.alike)) m))

  in-firsts : (e : Entry) (i j : ℕ) (o p : DescribedObject) → In e (firsts i j o p) → In e (in_both i j o p)
  in-firsts e i j o p m = in_right e (unless_zero (object_what o p) (entry 3 i j 0 0 (object_what o p) 0 0)) (firsts i j o p ++ seconds i j o p) (in_left e (firsts i j o p) (seconds i j o p) m)

  in-seconds : (e : Entry) (i j : ℕ) (o p : DescribedObject) → In e (seconds i j o p) → In e (in_both i j o p)
  in-seconds e i j o p m = in_right e (unless_zero (object_what o p) (entry 3 i j 0 0 (object_what o p) 0 0)) (firsts i j o p ++ seconds i j o p) (in_right e (firsts i j o p) (seconds i j o p) m)

  of-object-what : (i j : ℕ) (o p : DescribedObject) (w : ℕ) → (w ≡ 0 → ⊥) → w ≡ object_what o p → In (entry 3 i j 0 0 w 0 0) (in_both i j o p)
  of-object-what i j o p w z q = rw q (in_left (entry 3 i j 0 0 (object_what o p) 0 0) (unless_zero (object_what o p) (entry 3 i j 0 0 (object_what o p) 0 0)) (firsts i j o p ++ seconds i j o p)
      (in-unless (object_what o p) (entry 3 i j 0 0 (object_what o p) 0 0) (λ y. z (q ∙ y))))

  of-part-what : (i j k l : ℕ) (c d : DescribedComponent) (w x n : ℕ) → (w ≡ 0 → ⊥) → w ≡ part_what c d → x ≡ position_apart c.blob d.blob → n ≡ count_apart c.blob d.blob
      → In (entry 4 i j k l w x n) (of_part i j k c (some (record { index = l; it = d })))
  of-part-what i j k l c d w x n z q r s = rw (q, r, s) (in-unless (part_what c d) _ (λ y. z (q ∙ y)))

  pub complete : (e : Entry) → Change a b e → In e (changes a b)
  unfolding changes
  complete e (only_first i o h g) = in_left _ (olds a b) (news a b) (in-across (λ i o. of_object i o (made.object o.name b.objects)) a.objects i o h _
      (rw (seek-lacks object_name b.objects o.name g) (inl refl)))
  complete e (only_second j p h g) = in_right _ (olds a b) (news a b) (in-across (λ j p. if_absent (entry 2 0 j 0 0 0 0 0) (made.object p.name a.objects)) b.objects j p h _
      (rw (seek-lacks object_name a.objects p.name g) (inl refl)))
  complete e (object i j o p h w s z) = in-object _ i j o p h (of-object-what i j o p w z (object-what-same o p w (object_what o p) s (object-what o p (named.parts j p h.there))))
  complete e (part i j o p h k l c d g w x n s z y) =
      let u = bytes_same c.blob d.blob x n _ _ y (bytes-are c.blob d.blob)
      in in-object _ i j o p h (in-firsts _ i j o p (in-across (λ k c. of_part i j k c (made.part c.name p.components)) o.components k c g.here _
      (rw (seek-at part_name p.components (named.parts j p h.there) c.name l d g.there (sym g.alike))
      (of-part-what i j k l c d w x n z (part-what-same c d w (part_what c d) s (part-what c d)) u.0 u.1))))
  complete e (part_first i j o p h k c g m) = in-object _ i j o p h (in-firsts _ i j o p (in-across (λ k c. of_part i j k c (made.part c.name p.components)) o.components k c g _
      (rw (seek-lacks part_name p.components c.name m) (inl refl))))
  complete e (part_second i j o p h l d g m) = in-object _ i j o p h (in-seconds _ i j o p (in-across (λ l d. if_absent (entry 6 i j 0 l 0 0 0) (made.part d.name o.components)) p.components l d g _
      (rw (seek-lacks part_name o.components d.name m) (inl refl))))
