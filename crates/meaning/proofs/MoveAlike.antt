-- In any layout, trees whose pairs are moved about within the root, an object or a component map are alike; also beside keys that are repeated or aren't text.
use Prim.Native.Nat.{ℕ}
use mathlib.Core.List.{List, [], ◌∷◌}
use mathlib.Core.Bool.{Bool, true}
use mathlib.Core.Path.{◌≡◌, refl, ap}
use Rattle.meaning.specs.Tree.{Node, Pair, pair_list}
use Rattle.meaning.specs.Text.{distinct}
use Rattle.meaning.specs.Layouts.{Slots, slot, somes, Layout, objects_at, components_at}
use Rattle.meaning.specs.Drop.{holds}
use Rattle.meaning.proofs.Alike.{Values, PairAlike, Rearranged, done, put, ComponentAlike, ObjectValue, ObjectAlike, RootValue, RootAlike}
use Rattle.meaning.specs.Moved.{Inserted, first, later, Entries, end, next, InMaps, alike, maps, Permuted, Under, whole, value, ComponentMoved, ObjectMoved, RootMoved}
use Rattle.meaning.specs.Moved
use Rattle.meaning.proofs.AlikeVerdict.{object-value-self, root-value-self}
use Rattle.meaning.proofs.DropAlike.{apart}

module _ {P : Type 0} where
  maps-follow : {R S : List (Pair P) → List (Pair P) → Type 0} → ((l m : List (Pair P)) → R l m → S l m) → {t u : Node P} → InMaps R t u → InMaps S t u
  maps-follow h alike = alike
  maps-follow h (maps {ps = ps} {qs = qs} r) = maps (h (pair_list ps) (pair_list qs) r)

  entries-follow : {R S : Node P → Node P → Type 0} → ((x y : Node P) → R x y → S x y) → {l m : List (Pair P)} → Entries R l m → Entries S l m
  entries-follow h end = end
  entries-follow h (next {p = p} {q = q} e r es) = next e (h p.value q.value r) (entries-follow h es)

  module _ (slots : Slots) (W : Values P) where
    moved-alike : {R : Pair P → Pair P → Type 0} → ((p q : Pair P) → R p q → PairAlike slots W p q) → {l m : List (Pair P)} → Permuted R l m → Rearranged slots W l m
    moved-alike h Moved.done = done
    moved-alike h (Moved.put {p = p} {q = q} r s i) = put (h p q r) (moved-alike h s) i

    module _ (self : (i : ℕ) (x : Node P) → W i x x) where
      same_alike : (p q : Pair P) → p ≡ q → PairAlike slots W p q
      same_alike p q e = rw e (record { key = refl; value = λ i h. self i q.value })

      under_alike : distinct (somes slots) ≡ true → (j : ℕ) {R : Node P → Node P → Type 0} → ((x y : Node P) → R x y → W j x y) → (p q : Pair P) → Under (slot j slots) R p q → PairAlike slots W p q
      under_alike d j h p q whole = same_alike p p refl
      under_alike d j h p q (value e k r) = record { key = k; value = λ i f. rw (apart slots d p i j f e) (h p.value q.value r) }

module _ {P : Type 0} (L : Layout) where
  component-moved : (t u : Node P) → ComponentMoved t u → ComponentAlike L t u
  component-moved t u = maps-follow λ l m. moved-alike L.component (λ i x y. x ≡ y) (same_alike L.component (λ i x y. x ≡ y) (λ i x. refl))

  object-moved : (t u : Node P) → ObjectMoved L t u → ObjectAlike L t u
  object-moved t u =
      maps-follow λ l m. moved-alike L.object (ObjectValue L)
      (under_alike L.object (ObjectValue L) (object-value-self L) L.object_apart components_at λ x y. maps-follow λ l m. entries-follow component-moved)

  pub root-moved : (t u : Node P) → RootMoved L t u → RootAlike L t u
  root-moved t u =
      maps-follow λ l m. moved-alike L.root (RootValue L)
      (under_alike L.root (RootValue L) (root-value-self L) L.root_apart objects_at λ x y. maps-follow λ l m. entries-follow object-moved)

-- ---------------------------------------------------------------- any permutation

-- permutations as they are usually defined: the swaps of neighbours, one after the other
pub data Shuffled {A : Type 0} : List A → List A → Type 0 where
  nothing : Shuffled [] []
  keep : {a : A} {l m : List A} → Shuffled l m → Shuffled (a ∷ l) (a ∷ m)
  swap : {a b : A} {l : List A} → Shuffled (a ∷ b ∷ l) (b ∷ a ∷ l)
  then : {l m n : List A} → Shuffled l m → Shuffled m n → Shuffled l n

-- two elements put in, in either order
exchange : {A : Type 0} {a b : A} {l m n : List A} → Inserted a l m → Inserted b m n → (k : List A) × Inserted b l k × Inserted a k n
exchange {b = b} {l = l} i first = (b ∷ l, first, later i)
exchange first (later {m = m} j) = (m, j, first)
exchange (later {b = c} i) (later j) = let r = exchange i j in (c ∷ r.0, later r.1, later r.2)

module _ {P : Type 0} where
  abbrev Perm : List (Pair P) → List (Pair P) → Type 0
  Perm = Permuted (λ p q. p ≡ q)

  same_perm : (l : List (Pair P)) → Perm l l
  same_perm [] = Moved.done
  same_perm (p ∷ l) = Moved.put refl (same_perm l) first

  taken : {a : Pair P} {l m n : List (Pair P)} → Inserted a l m → Perm m n → (k : List (Pair P)) × Perm l k × Inserted a k n
  taken first (Moved.put {m = m} e r j) = (m, r, rw (← e) at j)
  taken (later i) (Moved.put e r j) = let s = taken i r in let x = exchange s.2 j in (x.0, Moved.put e s.1 x.1, x.2)

  then-perm : {l m n : List (Pair P)} → Perm l m → Perm m n → Perm l n
  then-perm Moved.done s = s
  then-perm (Moved.put e r i) s = let x = taken i s in Moved.put e (then-perm r x.1) x.2

  pub shuffled-permuted : {l m : List (Pair P)} → Shuffled l m → Permuted (λ p q. p ≡ q) l m
  shuffled-permuted nothing = Moved.done
  shuffled-permuted (keep s) = Moved.put refl (shuffled-permuted s) first
  shuffled-permuted (swap {l = l}) = Moved.put refl (same_perm _) (later first)
  shuffled-permuted (then s t) = then-perm (shuffled-permuted s) (shuffled-permuted t)
