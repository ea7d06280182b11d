-- An entry that is written after those that follow it; and objects that nothing tells apart have no entry.
use Prim.Native.Nat.{ℕ, zero, suc, ◌+◌, ◌≤◌, ◌<◌}
use native.Mathlib.Nat.{zero-add}
use native.Mathlib.Omega.{arith}
use mathlib.Core.List.{List, [], ◌∷◌, ◌++◌, map}
use mathlib.Core.Bool.{Bool, true, false, cond, ◌||◌}
use mathlib.Core.Option.{Option, none, some}
use mathlib.Core.Path.{◌≡◌, refl, sym, ap, ap₂, ◌∙◌}
use lib.ListN.{length, take, set}
use lib.Seq.{sets, set_comm, set_out, length-sets, get_or-drop, drop-drop}
use lib.Dec.{eqb}
use borrow.Author.Tests.{ne_eqb}
use Rattle.meaning.specs.Columns.{component_width, rank_column, shape_column, format_column, format_length_column}
use Rattle.meaning.specs.Asked.{asked_object, asked_component, each_row}
use Rattle.meaning.specs.Described.{DescribedComponent, DescribedObject, described_component, described_object}
use Rattle.rows.specs.Placed.{components_at}
use Rattle.put.specs.Wrote.{most, capped, Wrote}
use Rattle.put.proofs.PiecesInTurn.{then, nothing, as_bytes, by_place, capped-low, capped-high, still-short}
use Rattle.changes.specs.Changes.{Found, entry, numbers, flat, across, bit, absent, found, lone, shared, part, object_what, of_part, if_absent, in_both, firsts, seconds, other_dtype, other_type, other_bytes}
use Rattle.differing.specs.Rows.{part_at, shape_at, format_at}
use Rattle.differing.specs.Bits.{own_what}
use Rattle.parts.specs.declared.Seen.{Seen}
use Rattle.parts.specs.declared.Lone.{Lone}
use Rattle.parts.specs.Parts.{parts_at}
use Rattle.parts.specs.Seen.{PartsSeen, LonesSeen}
use Rattle.parts.proofs.Turns.{flat_append, across-same}
use Rattle.pairs.specs.Objects.{object_at, count_at, BothSeen}

-- ---- later first

set-sets : (l : List ℕ) (q : ℕ) (a p : ℕ) (r : List ℕ) → q < p → set (sets l p r) q a ≡ sets (set l q a) p r
set-sets l q a p [] h = refl
set-sets l q a p (b ∷ r) h =
    set-sets (set l p b) q a (suc p) r (omega arith)
    ∙ ap (λ (x : List ℕ). sets x (suc p) r) (set_comm l p q b a (λ e. omega (arith, e)))

sets-sets : (l : List ℕ) (q : ℕ) (e : List ℕ) (p : ℕ) (r : List ℕ) → q + length e ≤ p → sets (sets l p r) q e ≡ sets (sets l q e) p r
sets-sets l q [] p r h = refl
sets-sets l q (a ∷ e) p r h =
    ap (λ (x : List ℕ). sets x (suc q) e) (set-sets l q a p r (omega arith)) ∙ sets-sets (set l q a) (suc q) e p r (omega arith)

-- what follows an entry was written first
later_first : {es rs : List ℕ} {at : ℕ} {xs ys zs : List ℕ} {past r q : ℕ} → length es ≡ 8 → past ≡ capped (at + 8) → Wrote rs past xs ys r → Wrote es at ys zs q
    → Wrote (es ++ rs) at xs zs r
later_first {es} {rs} {at} {xs} {ys} {zs} {past} {r} {q} n e w v = go
  where
    -- as if the entry had been written first
    first : Wrote es at xs (sets xs at es) (capped (at + length es))
    first = record { short = w.short; stored = refl; past = refl }

    swapped : zs ≡ sets (sets xs at es) past rs
    swapped = v.stored ∙ ap (λ (l : List ℕ). sets l at es) w.stored ∙ by_place (at + 8) low high
      where
        low : at + 8 < most → sets (sets xs past rs) at es ≡ sets (sets xs at es) past rs
        low h = let z : past ≡ at + 8 = e ∙ capped-low (at + 8) h in sets-sets xs at es past rs (omega (arith, n, z))

        high : most ≤ at + 8 → sets (sets xs past rs) at es ≡ sets (sets xs at es) past rs
        high h =
            let z : past ≡ most = e ∙ capped-high (at + 8) h in
            let s = w.short in
            let out : (l : List ℕ) → length l < most → sets l past rs ≡ l = λ l k. sets-past l past rs (omega (arith, z)) in
            ap (λ (l : List ℕ). sets l at es) (out xs s) ∙ sym (out (sets xs at es) (omega (arith, length-sets xs at es)))
          where
            sets-past : (l : List ℕ) (i : ℕ) (bs : List ℕ) → length l ≤ i → sets l i bs ≡ l
            sets-past l i [] k = refl
            sets-past l i (b ∷ bs) k = ap (λ (x : List ℕ). sets x (suc i) bs) (set_out l i b k) ∙ sets-past l (suc i) bs (omega (arith, k))

    go : Wrote (es ++ rs) at xs zs r
    go =
        let p : past ≡ capped (at + length es) = e ∙ ap (λ (x : ℕ). capped (at + x)) (sym n) in
        then first (record { short = still-short first; stored = swapped ∙ ap (λ (x : ℕ). sets (sets xs at es) x rs) p; past = w.past ∙ ap (λ (x : ℕ). capped (x + length rs)) p })

-- ---- nothing differs

or-false : (s t : Bool) → (s || t) ≡ false → (s ≡ false) × (t ≡ false)
or-false true t h = absurd (let z : ◌≡◌ {A = ℕ} 0 1 = cc in omega arith)
or-false false t h = (refl, h)

bit-none : (n : ℕ) (t : Bool) → 0 < n → bit n t ≡ 0 → t ≡ false
bit-none n true h e = absurd (omega arith)
bit-none n false h e = refl

module _ (i j : ℕ) (ds : List DescribedComponent) where
  one-silent : (k : ℕ) (c : DescribedComponent) (o : Option (Found DescribedComponent))
      → absent o ≡ false → found (other_dtype c) o ≡ false → found (other_type c) o ≡ false → found (other_bytes c) o ≡ false → of_part i j k c o ≡ []
  one-silent k c none h d t b = absurd (let z : ◌≡◌ {A = ℕ} 0 1 = cc in omega arith)
  one-silent k c (some f) h d t b = rw (d, t, b)

  firsts-silent : (g : ℕ → ℕ) (cs : List DescribedComponent) → lone cs ds ≡ false → shared other_dtype cs ds ≡ false → shared other_type cs ds ≡ false → shared other_bytes cs ds ≡ false
      → across (λ x c. of_part i j (g x) c (part c.name ds)) cs ≡ []
  firsts-silent g [] h d t b = refl
  firsts-silent g (c ∷ cs) h d t b =
      let p = or-false (absent (part c.name ds)) (lone cs ds) h in
      let u = or-false (found (other_dtype c) (part c.name ds)) (shared other_dtype cs ds) d in
      let v = or-false (found (other_type c) (part c.name ds)) (shared other_type cs ds) t in
      let w = or-false (found (other_bytes c) (part c.name ds)) (shared other_bytes cs ds) b in
      ap₂ ◌++◌ (one-silent (g 0) c (part c.name ds) p.0 u.0 v.0 w.0) (firsts-silent (λ x. g (suc x)) cs p.1 u.1 v.1 w.1)

  seconds-silent : (g : ℕ → ℕ) (cs : List DescribedComponent) → lone cs ds ≡ false → across (λ x d. if_absent (entry 6 i j 0 (g x) 0 0 0) (part d.name ds)) cs ≡ []
  seconds-silent g [] h = refl
  seconds-silent g (c ∷ cs) h = let p = or-false (absent (part c.name ds)) (lone cs ds) h in ap₂ ◌++◌ (one (part c.name ds) p.0) (seconds-silent (λ x. g (suc x)) cs p.1)
    where
      one : (o : Option (Found DescribedComponent)) → absent o ≡ false → if_absent (entry 6 i j 0 (g 0) 0 0 0) o ≡ []
      one none h = absurd (let z : ◌≡◌ {A = ℕ} 0 1 = cc in omega arith)
      one (some f) h = refl

-- ---- an object's parts

parts_are : (file table : List ℕ) (q n : ℕ) → map (described_component file) (components_at n q table) ≡ parts_at file table q n
unfolding parts_at part_at each_row
parts_are file table q zero = refl
parts_are file table q (suc n) =
    ap₂ {C = List DescribedComponent} (λ c cs. c ∷ cs) refl (ap (λ (l : List ℕ). map (described_component file) (each_row asked_component component_width n l)) (drop-drop component_width q table) ∙ parts_are file table (q + component_width) n)

module _ (file table : List ℕ) (row first : ℕ) where
  components-are : (object_at file table row first).components ≡ parts_at file table first (count_at table row)
  unfolding object_at described_object
  components-are = parts_are file table first (count_at table row)

  shape_is : (object_at file table row first).shape ≡ shape_at table row
  unfolding object_at described_object asked_object shape_at
  shape_is = ap₂ (λ (n : ℕ) (l : List ℕ). take n l) (get_or-drop row table rank_column 0) (drop-drop shape_column row table)

  format-is : (object_at file table row first).format ≡ format_at file table row
  unfolding object_at described_object asked_object format_at
  format-is = rw (get_or-drop row table format_column 0, get_or-drop row table format_length_column 0)

-- ---- the pair

pub both-seen : {cs ds : List DescribedComponent} {i j at : ℕ} {xs ys zs : List ℕ} {f : Seen} {s : Lone} {e : ℕ} → PartsSeen cs ds i j at xs ys f → LonesSeen ds cs i j f.at ys zs s
    → e ≡ cond (eqb f.names 0) s.names f.names → BothSeen cs ds i j at xs zs (record { at = s.at; names = e; dtypes = f.dtypes; kinds = f.kinds; bytes = f.bytes })
both-seen {cs} {ds} hf hs he = record {
  wrote = then hf.wrote hs.wrote;
  names = he ∙ ap₂ (λ (x y : ℕ). cond (eqb x 0) y x) hf.names hs.names ∙ go (lone cs ds) (lone ds cs);
  dtypes = hf.dtypes;
  kinds = hf.kinds;
  bytes = hf.bytes;
}
  where
    go : (s t : Bool) → cond (eqb (bit 4 s) 0) (bit 4 t) (bit 4 s) ≡ bit 4 (s || t)
    go true t = refl
    go false t = refl

module _ (o p : DescribedObject) (i j at : ℕ) (xs : List ℕ) {past : ℕ} {zs : List ℕ} {s : Seen} {own : ℕ} (ep : past ≡ capped (at + 8))
    (hs : BothSeen o.components p.components i j past xs zs s) (ho : own ≡ own_what o.shape o.format p.shape p.format) where
  what-is : own + s.names + s.dtypes + s.kinds + s.bytes ≡ object_what o p
  what-is = rw (ho, hs.names, hs.dtypes, hs.kinds, hs.bytes) refl

  after-it : Wrote (flat (firsts i j o p) ++ flat (seconds i j o p)) past xs zs s.at
  after-it =
      as_bytes
      (ap₂ ◌++◌
      (ap flat (across-same (λ x c. of_part i j (0 + x) c (part c.name p.components)) (λ x c. of_part i j x c (part c.name p.components)) (λ x c. ap (λ (y : ℕ). of_part i j y c (part c.name p.components)) (zero-add x)) o.components))
      (ap flat (across-same (λ x d. if_absent (entry 6 i j 0 (0 + x) 0 0 0) (part d.name o.components)) (λ x d. if_absent (entry 6 i j 0 x 0 0 0) (part d.name o.components)) (λ x d. ap (λ (y : ℕ). if_absent (entry 6 i j 0 y 0 0 0) (part d.name o.components)) (zero-add x)) p.components)))
      hs.wrote

  pair-differs : (own + s.names + s.dtypes + s.kinds + s.bytes ≡ 0 → ⊥) → {ws : List ℕ} {q : ℕ}
      → Wrote (numbers (entry 3 i j 0 0 (own + s.names + s.dtypes + s.kinds + s.bytes) 0 0)) at zs ws q → Wrote (flat (in_both i j o p)) at xs ws s.at
  pair-differs z w =
      let n : eqb (object_what o p) 0 ≡ false = ne_eqb (object_what o p) 0 (λ h. z (what-is ∙ h)) in
      as_bytes (rw (n, flat_append (firsts i j o p) (seconds i j o p)) refl) (later_first {es = numbers (entry 3 i j 0 0 (object_what o p) 0 0)} refl ep after-it (rw what-is at w))

  pair_same : own + s.names + s.dtypes + s.kinds + s.bytes ≡ 0 → {q : ℕ} → q ≡ capped at → Wrote (flat (in_both i j o p)) at xs zs q
  pair_same z {q} h =
      let n : object_what o p ≡ 0 = sym what-is ∙ z in
      let l = or-false (lone o.components p.components) (lone p.components o.components) (bit-none 4 _ (omega arith) (sym hs.names ∙ (let v : s.names ≡ 0 = omega arith in v))) in
      let d = bit-none 8 (shared other_dtype o.components p.components) (omega arith) (sym hs.dtypes ∙ (let v : s.dtypes ≡ 0 = omega arith in v)) in
      let t = bit-none 16 (shared other_type o.components p.components) (omega arith) (sym hs.kinds ∙ (let v : s.kinds ≡ 0 = omega arith in v)) in
      let b = bit-none 32 (shared other_bytes o.components p.components) (omega arith) (sym hs.bytes ∙ (let v : s.bytes ≡ 0 = omega arith in v)) in
      let none₁ : firsts i j o p ≡ [] = firsts-silent i j p.components (λ x. x) o.components l.0 d t b in
      let none₂ : seconds i j o p ≡ [] = seconds-silent i j o.components (λ x. x) p.components l.1 in
      let zz : zs ≡ xs = after-it.stored ∙ (rw (none₁, none₂) refl) in
      let m : flat (in_both i j o p) ≡ [] = rw (n, none₁, none₂) refl in
      rw (zz, m) (nothing q after-it.short h)

-- ---- the objects that the rows count

module _ (first a : List ℕ) (p c : ℕ) (second b : List ℕ) (q d : ℕ) where
  seen-is : {i j past : ℕ} {xs zs : List ℕ} {s : Seen} → BothSeen (parts_at first a c (count_at a p)) (parts_at second b d (count_at b q)) i j past xs zs s
      → BothSeen (object_at first a p c).components (object_at second b q d).components i j past xs zs s
  seen-is h = rw (components-are first a p c, components-are second b q d) h

  own_is : {own : ℕ} → own ≡ own_what (shape_at a p) (format_at first a p) (shape_at b q) (format_at second b q)
      → own ≡ own_what (object_at first a p c).shape (object_at first a p c).format (object_at second b q d).shape (object_at second b q d).format
  own_is h = rw (shape_is first a p c, format-is first a p c, shape_is second b q d, format-is second b q d) h

module _ (first a : List ℕ) (p c : ℕ) (second b : List ℕ) (q d : ℕ) {i j at past own : ℕ} {xs zs : List ℕ} {s : Seen} (ep : past ≡ capped (at + 8))
    (hs : BothSeen (parts_at first a c (count_at a p)) (parts_at second b d (count_at b q)) i j past xs zs s)
    (ho : own ≡ own_what (shape_at a p) (format_at first a p) (shape_at b q) (format_at second b q)) where
  pub objects-differ : (own + s.names + s.dtypes + s.kinds + s.bytes ≡ 0 → ⊥) → {ws : List ℕ} {r : ℕ}
      → Wrote (numbers (entry 3 i j 0 0 (own + s.names + s.dtypes + s.kinds + s.bytes) 0 0)) at zs ws r
      → Wrote (flat (in_both i j (object_at first a p c) (object_at second b q d))) at xs ws s.at
  objects-differ z w = pair-differs (object_at first a p c) (object_at second b q d) i j at xs ep (seen-is first a p c second b q d hs) (own_is first a p c second b q d ho) z w

  pub objects-same : own + s.names + s.dtypes + s.kinds + s.bytes ≡ 0 → {r : ℕ} → r ≡ capped at → Wrote (flat (in_both i j (object_at first a p c) (object_at second b q d))) at xs zs r
  objects-same z h = pair_same (object_at first a p c) (object_at second b q d) i j at xs ep (seen-is first a p c second b q d hs) (own_is first a p c second b q d ho) z h
