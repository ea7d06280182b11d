-- Dropping unknown fields keeps the relation of being moved about.
use Prim.Native.Nat.{ℕ}
use native.Mathlib.Omega.{arith}
use mathlib.Core.List.{List, [], ◌∷◌, map}
use mathlib.Core.Bool.{Bool, true, false, cond}
use mathlib.Core.Option.{Option}
use mathlib.Core.Path.{◌≡◌, refl, ap, sym, ◌∙◌}
use Rattle.meaning.specs.Tree.{Node, Pair, pairs, pair_list, pair_list-pairs, dict}
use Rattle.meaning.specs.Text.{filter, distinct}
use Rattle.meaning.specs.Layouts.{Slots, slot, somes, Layout, version_at, objects_at, components_at}
use Rattle.meaning.specs.Field.{key_of}
use Rattle.meaning.specs.Drop.{plain_version, known, holds, in_map, in_text, on_value, on_field, drop_component, drop_object, drop_root}
use Rattle.meaning.specs.Moved.{Inserted, first, later, Permuted, done, put, Entries, end, next, InMaps, alike, maps, Under, whole, value, ComponentMoved, ObjectMoved, RootMoved}
use Rattle.meaning.proofs.DropAlike.{apart, holds-key, map_same}

module _ {P : Type 0} where
  module _ (k : Pair P → Bool) (g : Pair P → Pair P) where
    abbrev rest : List (Pair P) → List (Pair P)
    rest l = map g (filter k l)

    inserted-kept : {q : Pair P} {m n : List (Pair P)} → k q ≡ true → Inserted q m n → Inserted (g q) (rest m) (rest n)
    inserted-kept e first = rw e first
    inserted-kept {q} e (later {b = b} {l = l} {m = m} i) = go (k b) (inserted-kept e i)
      where
        go : (c : Bool) → Inserted (g q) (rest l) (rest m) → Inserted (g q) (map g (cond c (b ∷ filter k l) (filter k l))) (map g (cond c (b ∷ filter k m) (filter k m)))
        go true r = later r
        go false r = r

    inserted-dropped : {q : Pair P} {m n : List (Pair P)} → k q ≡ false → Inserted q m n → rest m ≡ rest n
    inserted-dropped e first = rw e
    inserted-dropped e (later {b = b} {l = l} {m = m} i) = go (k b) (inserted-dropped e i)
      where
        go : (c : Bool) → rest l ≡ rest m → map g (cond c (b ∷ filter k l) (filter k l)) ≡ map g (cond c (b ∷ filter k m) (filter k m))
        go true r = rw r
        go false r = r

    module _ {R S : Pair P → Pair P → Type 0} (same : (p q : Pair P) → R p q → k p ≡ k q) (related : (p q : Pair P) → R p q → S (g p) (g q)) where
      permuted-kept : {l m : List (Pair P)} → Permuted R l m → Permuted S (rest l) (rest m)
      permuted-kept done = done
      permuted-kept (put {p = p} {q = q} {l = l} {m = m} {n = n} r s i) = go (k p) refl (permuted-kept s)
        where
          go : (c : Bool) → k p ≡ c → Permuted S (rest l) (rest m) → Permuted S (map g (cond c (p ∷ filter k l) (filter k l))) (rest n)
          go true e t = put (related p q r) t (inserted-kept (sym (same p q r) ∙ e) i)
          go false e t = rw (inserted-dropped (sym (same p q r) ∙ e) i) at t

  known-key : (slots : Slots) (p q : Pair P) → p.key ≡ q.key → known slots p ≡ known slots q
  unfolding known key_of
  known-key slots p q e = rw e

  in_map-moved : {R S : List (Pair P) → List (Pair P) → Type 0} (g : List (Pair P) → List (Pair P)) → ((l m : List (Pair P)) → R l m → S (g l) (g m)) → {t u : Node P}
      → InMaps R t u → InMaps S (in_map g t) (in_map g u)
  unfolding in_map
  in_map-moved g h alike = alike
  in_map-moved g h (maps {ps = ps} {qs = qs} r) =
      maps {ps = pairs (g (pair_list ps))} {qs = pairs (g (pair_list qs))} (rw (pair_list-pairs (g (pair_list ps)), pair_list-pairs (g (pair_list qs))) (h (pair_list ps) (pair_list qs) r))

  entries-moved : {R S : Node P → Node P → Type 0} (g : Node P → Node P) → ((x y : Node P) → R x y → S (g x) (g y)) → {l m : List (Pair P)} → Entries R l m → Entries S (map (on_value g) l) (map (on_value g) m)
  unfolding on_value
  entries-moved g h end = end
  entries-moved g h (next {p = p} {q = q} e r es) = next e (h p.value q.value r) (entries-moved g h es)

  under-key : {s : Option (List ℕ)} {R : Node P → Node P → Type 0} (p q : Pair P) → Under s R p q → p.key ≡ q.key
  under-key p q whole = refl
  under-key p q (value e k r) = k

  -- values of the field itself changed, and of another one
  under-field : (s : Option (List ℕ)) {R S : Node P → Node P → Type 0} (g : Node P → Node P) → ((x y : Node P) → R x y → S (g x) (g y)) → (p q : Pair P) → Under s R p q
      → Under s S (on_field s g p) (on_field s g q)
  unfolding on_field
  under-field s g h p q whole = whole
  under-field s g h p q (value e k r) =
      value {p = on_field s g p} {q = on_field s g q} (holds-key s (on_field s g p) p refl ∙ e) k (rw (e, sym (holds-key s p q k) ∙ e) (h p.value q.value r))

  under-other : (s v : Option (List ℕ)) {R : Node P → Node P → Type 0} (g : Node P → Node P) → ((p : Pair P) → holds s p ≡ true → holds v p ≡ false) → (p q : Pair P) → Under s R p q
      → Under s R (on_field v g p) (on_field v g q)
  unfolding on_field
  under-other s v g d p q whole = whole
  under-other s v g d p q (value e k r) =
      value {p = on_field v g p} {q = on_field v g q} (holds-key s (on_field v g p) p refl ∙ e) k (rw (d p e, d q (sym (holds-key s p q k) ∙ e)) r)

  elsewhere : (slots : Slots) → distinct (somes slots) ≡ true → (i j : ℕ) → (i ≡ j → ⊥) → (p : Pair P) → holds (slot i slots) p ≡ true → holds (slot j slots) p ≡ false
  elsewhere slots d i j ne p h = go (holds (slot j slots) p) refl
    where
      go : (b : Bool) → holds (slot j slots) p ≡ b → holds (slot j slots) p ≡ false
      go true e = absurd (ne (apart slots d p i j h e))
      go false e = e

module _ {P : Type 0} (L : Layout) where
  component-drop : (t u : Node P) → ComponentMoved t u → ComponentMoved (drop_component L t) (drop_component L u)
  unfolding drop_component
  component-drop t u =
      in_map-moved (filter (known L.component)) λ l m r.
      rw (map_same (filter (known L.component) l), map_same (filter (known L.component) m)) at
      (permuted-kept (known L.component) (λ p. p) {S = λ p q. p ≡ q} (λ p q e. ap (known L.component) e) (λ p q e. e) r)

  object-drop : (t u : Node P) → ObjectMoved L t u → ObjectMoved L (drop_object L t) (drop_object L u)
  unfolding drop_object
  object-drop t u =
      in_map-moved _ λ l m.
      permuted-kept (known L.object) _ (λ p q r. known-key L.object p q (under-key p q r))
      (under-field (slot components_at L.object) (in_map (map (on_value (drop_component L)))) λ x y.
      in_map-moved (map (on_value (drop_component L))) λ l m. entries-moved (drop_component L) component-drop)

  pub root-drop : (t u : Node P) → RootMoved L t u → RootMoved L (drop_root L t) (drop_root L u)
  unfolding drop_root
  root-drop t u =
      in_map-moved _ λ l m.
      permuted-kept (known L.root) _ (λ p q r. known-key L.root p q (under-key p q r)) λ p q r.
      under-other (slot objects_at L.root) (slot version_at L.root) (in_text plain_version) (elsewhere L.root L.root_apart objects_at version_at (λ e. omega arith)) _ _
      (under-field (slot objects_at L.root) (in_map (map (on_value (drop_object L)))) (λ x y.
      in_map-moved (map (on_value (drop_object L))) λ l m. entries-moved (drop_object L) object-drop) p q r)
