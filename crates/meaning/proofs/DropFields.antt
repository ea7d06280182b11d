-- Over any list of fields: what the fields of a map are once unknown ones are dropped, and once the values of one are changed.
use Prim.Native.Nat.{ℕ}
use mathlib.Core.List.{List, [], ◌∷◌, map}
use mathlib.Core.Bool.{Bool, true, false, cond}
use mathlib.Core.Option.{Option, none, some}
use mathlib.Core.Path.{◌≡◌, refl, ap, sym, ◌∙◌}
use lib.Dec.{eqb}
use Rattle.meaning.specs.Tree.{Node, uint, nint, bytes, text, chunked_bytes, chunked_text, array, dict, tag, simple, float, Pair, pair_list, pair_list-pairs}
use Rattle.meaning.specs.Check.{Check, pass, refuse}
use Rattle.meaning.specs.Text.{filter, distinct}
use Rattle.meaning.specs.Layouts.{Slots, slot, somes}
use Rattle.meaning.specs.Kind.{Kind, null, another, kind, a_mapping, as_mapping}
use Rattle.meaning.specs.Field.{named, get, field}
use Rattle.meaning.specs.Notes.{map_check, map_option}
use Rattle.meaning.specs.Drop.{known, holds, in_map, on_field}
use Rattle.meaning.proofs.FieldsAlike.{slot-listed, named-key, unknown-other}
use Rattle.meaning.proofs.DropAlike.{apart, holds-key}

module _ {P : Type 0} where
  -- ---------------------------------------------------------------- pairs left out

  get-filter : (n : List ℕ) (k : Pair P → Bool) → ((p : Pair P) → k p ≡ false → named n p ≡ false) → (l : List (Pair P)) → get n (filter k l) ≡ get n l
  unfolding get
  get-filter n k h [] = refl
  get-filter n k h (p ∷ l) = go (k p) refl (get-filter n k h l)
    where
      go : (b : Bool) → k p ≡ b → get n (filter k l) ≡ get n l → get n (cond b (p ∷ filter k l) (filter k l)) ≡ cond (named n p) (some p.value) (get n l)
      go true e r = rw r
      go false e r = rw (h p e, r)

  pub field-known : (slots : Slots) (i : ℕ) (l : List (Pair P)) → field (slot i slots) (filter (known slots) l) ≡ field (slot i slots) l
  unfolding field
  field-known slots i l = go (slot i slots) refl
    where
      go : (s : Option (List ℕ)) → slot i slots ≡ s → field s (filter (known slots) l) ≡ field s l
      go none e = refl
      go (some n) e = get-filter n (known slots) (unknown-other slots n (slot-listed slots i n e)) l

  -- ---------------------------------------------------------------- values changed

  -- u keeps keys, and makes g of the values of the field s
  module _ (s : Option (List ℕ)) (u : Pair P → Pair P) (g : Node P → Node P) (keys : (p : Pair P) → (u p).key ≡ p.key) (values : (p : Pair P) → holds s p ≡ true → (u p).value ≡ g p.value) where
    get-changed : (n : List ℕ) → s ≡ some n → (l : List (Pair P)) → get n (map u l) ≡ map_option g (get n l)
    unfolding get holds
    get-changed n is [] = refl
    get-changed n is (p ∷ l) = rw (named-key n (u p) p (keys p), get-changed n is l) (go (named n p) refl)
      where
        held : named n p ≡ true → holds s p ≡ true
        held e = rw is e

        go : (b : Bool) → named n p ≡ b → cond b (some (u p).value) (map_option g (get n l)) ≡ map_option g (cond b (some p.value) (get n l))
        go true e = ap some (values p (held e))
        go false e = refl

    pub field-changed : (l : List (Pair P)) → field s (map u l) ≡ map_option g (field s l)
    unfolding field
    field-changed l = go s refl
      where
        go : (o : Option (List ℕ)) → s ≡ o → field o (map u l) ≡ map_option g (field o l)
        go none e = refl
        go (some n) e = get-changed n e l

  pub value_same : (s : Option (List ℕ)) (g : Node P → Node P) (p : Pair P) → holds s p ≡ true → (on_field s g p).value ≡ g p.value
  unfolding on_field
  value_same s g p e = rw e

  value-other : (s : Option (List ℕ)) (g : Node P → Node P) (p : Pair P) → holds s p ≡ false → (on_field s g p).value ≡ p.value
  unfolding on_field
  value-other s g p e = rw e

  pub key-same : (s : Option (List ℕ)) (g : Node P → Node P) (p : Pair P) → (on_field s g p).key ≡ p.key
  unfolding on_field
  key-same s g p = refl

  -- a pair of one field is changed by no other's change
  pub value-apart : (slots : Slots) → distinct (somes slots) ≡ true → (i j : ℕ) → (i ≡ j → ⊥) → (g : Node P → Node P) (p q : Pair P) → p.key ≡ q.key
      → holds (slot i slots) p ≡ true → (on_field (slot j slots) g q).value ≡ q.value
  value-apart slots d i j ne g p q e h = value-other (slot j slots) g q (go (holds (slot j slots) q) refl)
    where
      go : (b : Bool) → holds (slot j slots) q ≡ b → holds (slot j slots) q ≡ false
      go true f = absurd (ne (apart slots d p i j h (holds-key (slot j slots) p q e ∙ f)))
      go false f = f

  -- ---------------------------------------------------------------- of a map

  pub a_table-in_map : (g : List (Pair P) → List (Pair P)) (t : Node P) → a_mapping (in_map g t) ≡ map_check g (a_mapping t)
  unfolding a_mapping as_mapping kind in_map
  a_table-in_map g (uint p n) = refl
  a_table-in_map g (nint p n) = refl
  a_table-in_map g (bytes p bs) = refl
  a_table-in_map g (text p bs) = refl
  a_table-in_map g (chunked_bytes p bs) = refl
  a_table-in_map g (chunked_text p bs) = refl
  a_table-in_map g (array p ns) = refl
  a_table-in_map g (dict p ps) = ap pass (pair_list-pairs (g (pair_list ps)))
  a_table-in_map g (tag p n t) = refl
  a_table-in_map g (simple p n) = go (eqb n 22)
    where
      go : (b : Bool) → as_mapping (cond {A = Kind P} b null another) ≡ map_check g (as_mapping (cond {A = Kind P} b null another))
      go true = refl
      go false = refl
  a_table-in_map g (float p w b) = refl
