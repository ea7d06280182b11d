-- In any layout, a tree is alike to what is left of it when unknown fields are dropped and the version is read as 1.0.
use Prim.Native.Nat.{ℕ, zero, suc}
use native.Mathlib.Omega.{arith}
use mathlib.Core.List.{List, [], ◌∷◌, map}
use mathlib.Core.Bool.{Bool, true, false, cond, ◌&&◌}
use mathlib.Core.Option.{Option, none, some}
use mathlib.Core.Path.{◌≡◌, refl, ap, sym, ◌∙◌}
use Rattle.meaning.specs.Tree.{Node, uint, nint, bytes, text, chunked_bytes, chunked_text, array, dict, tag, simple, float, Pair, pairs, pair_list, pair_list-pairs}
use Rattle.meaning.specs.Text.{filter, same, one_of, distinct, ascii}
use Rattle.meaning.specs.Version.{version_shape, major_one}
use Rattle.meaning.specs.Layouts.{Slots, slot, somes, Layout, version_at, objects_at, components_at}
use Rattle.meaning.specs.Kind.{kind}
use Rattle.meaning.specs.Field.{is_key, key_of, named}
use Rattle.meaning.specs.Computed.{computed}
use Rattle.meaning.specs.Drop.{plain_version, known, holds, in_map, in_text, on_value, on_field, drop_component, drop_object, drop_root}
use Rattle.meaning.specs.Moved.{first, Entries, end, next, InMaps, alike, maps}
use Rattle.meaning.proofs.Alike.{Values, PairAlike, Rearranged, done, put, more, VersionAlike, versions, ComponentAlike, ObjectValue, ObjectAlike, RootValue, RootAlike}
use Rattle.meaning.proofs.Alike
use Rattle.meaning.proofs.FieldsAlike.{slot-listed}
use Rattle.meaning.proofs.AlikeVerdict.{object-value-self, root-value-self}
use Rattle.meaning.proofs.SameText.{same-eq}

once : (n : List ℕ) (ns : List (List ℕ)) → one_of ns n ≡ true → distinct (n ∷ ns) ≡ true → ◌≡◌ {A = ℕ} 0 1
once n ns o d = cc

distinct-rest : (n : List ℕ) (ns : List (List ℕ)) → distinct (n ∷ ns) ≡ true → distinct ns ≡ true
distinct-rest n ns = go (one_of ns n)
  where
    go : (b : Bool) → cond b false (distinct ns) ≡ true → distinct ns ≡ true
    go true h = cc
    go false h = h

one_alike : (version_shape (ascii "1.0") && major_one (ascii "1.0")) ≡ true
unfolding computed
one_alike = refl

pub map_same : {A : Type 0} (l : List A) → map (λ a. a) l ≡ l
map_same [] = refl
map_same {A} (a ∷ l) = ap {B = List A} (λ r. a ∷ r) (map_same l)

module _ {P : Type 0} where
  named-same : (m n : List ℕ) (p : Pair P) → named m p ≡ true → named n p ≡ true → m ≡ n
  unfolding named is_key
  named-same m n p = go (key_of p)
    where
      go : (k : Option (List ℕ)) → is_key m k ≡ true → is_key n k ≡ true → m ≡ n
      go none e f = cc
      go (some k) e f = same-eq m k e ∙ sym (same-eq n k f)

  holds-listed : (slots : Slots) (i : ℕ) (n : List ℕ) (p : Pair P) → holds (slot i slots) p ≡ true → named n p ≡ true → one_of (somes slots) n ≡ true
  unfolding holds
  holds-listed slots i n p h f = go (slot i slots) refl h
    where
      go : (s : Option (List ℕ)) → slot i slots ≡ s → holds s p ≡ true → one_of (somes slots) n ≡ true
      go none e h' = cc
      go (some m) e h' = rw (named-same m n p h' f) at (slot-listed slots i m e)

  -- a pair is of one field only
  pub apart : (slots : Slots) → distinct (somes slots) ≡ true → (p : Pair P) (i j : ℕ) → holds (slot i slots) p ≡ true → holds (slot j slots) p ≡ true → i ≡ j
  unfolding holds
  apart [] d p i j h f = cc
  apart (none ∷ slots) d p zero j h f = cc
  apart (none ∷ slots) d p (suc i) zero h f = cc
  apart (none ∷ slots) d p (suc i) (suc j) h f = ap suc (apart slots d p i j h f)
  apart (some n ∷ slots) d p zero zero h f = refl
  apart (some n ∷ slots) d p zero (suc j) h f = let e = once n (somes slots) (holds-listed slots j n p f h) d in absurd (omega arith)
  apart (some n ∷ slots) d p (suc i) zero h f = let e = once n (somes slots) (holds-listed slots i n p h f) d in absurd (omega arith)
  apart (some n ∷ slots) d p (suc i) (suc j) h f = ap suc (apart slots (distinct-rest n (somes slots) d) p i j h f)

  -- ---------------------------------------------------------------- what is changed is alike

  in_map-alike : (R : List (Pair P) → List (Pair P) → Type 0) (g : List (Pair P) → List (Pair P)) → ((l : List (Pair P)) → R l (g l)) → (t : Node P) → InMaps R t (in_map g t)
  unfolding in_map
  in_map-alike R g h (uint p n) = alike
  in_map-alike R g h (nint p n) = alike
  in_map-alike R g h (bytes p bs) = alike
  in_map-alike R g h (text p bs) = alike
  in_map-alike R g h (chunked_bytes p bs) = alike
  in_map-alike R g h (chunked_text p bs) = alike
  in_map-alike R g h (array p ns) = alike
  in_map-alike R g h (dict p ps) = maps {ps = ps} {qs = pairs (g (pair_list ps))} (rw (pair_list-pairs (g (pair_list ps))) (h (pair_list ps)))
  in_map-alike R g h (tag p n t) = alike
  in_map-alike R g h (simple p n) = alike
  in_map-alike R g h (float p w b) = alike

  plain-alike : (p : P) (v : List ℕ) → VersionAlike (text p v) (text p (plain_version v))
  unfolding plain_version
  plain-alike p v = go (version_shape v && major_one v) refl
    where
      go : (b : Bool) → (version_shape v && major_one v) ≡ b → VersionAlike (text p v) (text p (cond b (ascii "1.0") v))
      go true e = versions e one_alike
      go false e = Alike.same

  in_text-alike : (t : Node P) → VersionAlike t (in_text plain_version t)
  unfolding in_text
  in_text-alike (uint p n) = Alike.same
  in_text-alike (nint p n) = Alike.same
  in_text-alike (bytes p bs) = Alike.same
  in_text-alike (text p bs) = plain-alike p bs
  in_text-alike (chunked_bytes p bs) = Alike.same
  in_text-alike (chunked_text p bs) = Alike.same
  in_text-alike (array p ns) = Alike.same
  in_text-alike (dict p ps) = Alike.same
  in_text-alike (tag p n t) = Alike.same
  in_text-alike (simple p n) = Alike.same
  in_text-alike (float p w b) = Alike.same

  on_value-alike : (R : Node P → Node P → Type 0) (g : Node P → Node P) → ((x : Node P) → R x (g x)) → (l : List (Pair P)) → Entries R l (map (on_value g) l)
  unfolding on_value
  on_value-alike R g h [] = end
  on_value-alike R g h (p ∷ l) = next refl (h p.value) (on_value-alike R g h l)

  -- unknown pairs dropped, the others changed to alike ones
  kept-alike : (slots : Slots) (W : Values P) (g : Pair P → Pair P) → ((p : Pair P) → PairAlike slots W p (g p)) → (l : List (Pair P)) → Rearranged slots W l (map g (filter (known slots) l))
  kept-alike slots W g h [] = done
  kept-alike slots W g h (p ∷ l) = go (known slots p) refl (kept-alike slots W g h l)
    where
      go : (b : Bool) → known slots p ≡ b → Rearranged slots W l (map g (filter (known slots) l)) → Rearranged slots W (p ∷ l) (map g (cond b (p ∷ filter (known slots) l) (filter (known slots) l)))
      go true e r = put (h p) r first
      go false e r = more e r

  filter_alike : (slots : Slots) (W : Values P) → ((i : ℕ) (x : Node P) → W i x x) → (l : List (Pair P)) → Rearranged slots W l (filter (known slots) l)
  filter_alike slots W self l =
      rw (map_same (filter (known slots) l)) at (kept-alike slots W (λ p. p) (λ p. record { key = refl; value = λ i h. self i p.value }) l)

  pub holds-key : (s : Option (List ℕ)) (p q : Pair P) → p.key ≡ q.key → holds s p ≡ holds s q
  unfolding holds named key_of
  holds-key none p q e = refl
  holds-key (some n) p q e = rw e

  module _ (slots : Slots) (W : Values P) (self : (i : ℕ) (x : Node P) → W i x x) (d : distinct (somes slots) ≡ true) where
    on_field-alike : (j : ℕ) (g : Node P → Node P) → ((x : Node P) → W j x (g x)) → (p : Pair P) → PairAlike slots W p (on_field (slot j slots) g p)
    unfolding on_field
    on_field-alike j g h p = record { key = refl; value = λ i f. go i f (holds (slot j slots) p) refl }
      where
        go : (i : ℕ) → holds (slot i slots) p ≡ true → (b : Bool) → holds (slot j slots) p ≡ b → W i p.value (cond b (g p.value) p.value)
        go i f true e = rw (apart slots d p i j f e) (h p.value)
        go i f false e = self i p.value

    -- two fields at different places
    on_fields-alike : (j k : ℕ) → (j ≡ k → ⊥) → (g f : Node P → Node P) → ((x : Node P) → W j x (g x)) → ((x : Node P) → W k x (f x)) → (p : Pair P)
        → PairAlike slots W p (on_field (slot j slots) g (on_field (slot k slots) f p))
    unfolding on_field
    on_fields-alike j k ne g f hg hf p = record { key = refl; value = λ i h. rw (holds-key (slot j slots) (on_field (slot k slots) f p) p refl) (go i h (holds (slot j slots) p) (holds (slot k slots) p) refl refl) }
      where
        go : (i : ℕ) → holds (slot i slots) p ≡ true → (b c : Bool) → holds (slot j slots) p ≡ b → holds (slot k slots) p ≡ c
            → W i p.value (cond b (g (cond c (f p.value) p.value)) (cond c (f p.value) p.value))
        go i h true true e e₂ = absurd (ne (apart slots d p j k e e₂))
        go i h true false e e₂ = rw (apart slots d p i j h e) (hg p.value)
        go i h false true e e₂ = rw (apart slots d p i k h e₂) (hf p.value)
        go i h false false e e₂ = self i p.value

-- ---------------------------------------------------------------- dropping

module _ {P : Type 0} (L : Layout) where
  drop_component-alike : (t : Node P) → ComponentAlike L t (drop_component L t)
  unfolding drop_component
  drop_component-alike = in_map-alike _ _ (filter_alike L.component (λ i x y. x ≡ y) (λ i x. refl))

  drop_object-alike : (t : Node P) → ObjectAlike L t (drop_object L t)
  unfolding drop_object
  drop_object-alike =
      in_map-alike _ _ (kept-alike L.object (ObjectValue L) _
      (on_field-alike L.object (ObjectValue L) (object-value-self L) L.object_apart components_at (in_map (map (on_value (drop_component L))))
      (in_map-alike _ _ (on_value-alike (ComponentAlike L) (drop_component L) drop_component-alike))))

  pub drop_root-alike : (t : Node P) → RootAlike L t (drop_root L t)
  unfolding drop_root
  drop_root-alike =
      in_map-alike _ _ (kept-alike L.root (RootValue L) _
      (on_fields-alike L.root (RootValue L) (root-value-self L) L.root_apart version_at objects_at (λ e. omega arith) (in_text plain_version) (in_map (map (on_value (drop_object L)))) in_text-alike
      (in_map-alike _ _ (on_value-alike (ObjectAlike L) (drop_object L) drop_object-alike))))
