-- Document 01, "Manifest fields": maps with known fields, and maps of names.
use Rattle.std.specs.Prelude.{ℕ, suc, List, [], ◌∷◌, map, Bool, true, false, cond, length, leb}
use Rattle.std.proofs.Math.Option.{Option, none, some}
use Rattle.meaning.specs.Tree.{Node, Pair}
use Rattle.meaning.specs.Check.{Check, pass, ◌>>=◌, ◌>>◌, ◌unless◌, fault, each}
use Rattle.meaning.specs.Text.{ascii, same, all, distinct, utf8}
use Rattle.meaning.specs.Refusal.{KEY, TEXT, TWICE, COUNT}
use Rattle.meaning.specs.Model.{Named, RootFields, ObjectFields, ComponentFields}
use Rattle.meaning.specs.Layouts.{Slots, slot, Layout, somes}
use Rattle.meaning.specs.Kind.{Kind, number, words, list, mapping, null, another, kind, a_mapping}

unfoldable pub is_some : {A : Type 0} → Option A → Bool
is_some none = false
is_some (some a) = true

unfoldable pub is_key : List ℕ → Option (List ℕ) → Bool
is_key n none = false
is_key n (some k) = same n k

module _ {P : Type 0} where
  -- a key that is whole text
  unfoldable pub key_kind : Kind P → Option (List ℕ)
  key_kind (number n) = none
  key_kind (words w) = some w.letters
  key_kind (list l) = none
  key_kind (mapping l) = none
  key_kind null = none
  key_kind another = none

  unfoldable pub key_of : Pair P → Option (List ℕ)
  key_of p = key_kind (kind p.key)

  unfoldable pub named : List ℕ → Pair P → Bool
  named n p = is_key n (key_of p)

  unfoldable pub count : List ℕ → List (Pair P) → ℕ
  count n [] = 0
  count n (p ∷ ps) = let r = count n ps in cond (named n p) (suc r) r

  unfoldable pub get : List ℕ → List (Pair P) → Option (Node P)
  get n [] = none
  get n (p ∷ ps) = let r = get n ps in cond (named n p) (some p.value) r

  -- a field that the layout may lack
  unfoldable pub field : Option (List ℕ) → List (Pair P) → Option (Node P)
  field none ps = none
  field (some n) ps = get n ps

  -- kind, keys, repeats
  unfoldable pub fields : Slots → Node P → Check (List (Pair P))
  fields known t = do
    ps ← a_mapping t
    KEY unless all (λ p. is_some (key_of p)) ps
    TWICE unless all (λ n. leb (count n ps) 1) (somes known)
    pass ps

  unfoldable pub root_fields : Slots → Node P → Check (RootFields P)
  root_fields known t = do
    ps ← fields known t
    pass (record { version = field (slot 0 known) ps; attributes = field (slot 1 known) ps; objects = field (slot 2 known) ps })

  unfoldable pub object_fields : Slots → Node P → Check (ObjectFields P)
  object_fields known t = do
    ps ← fields known t
    pass (record {
      dtype = field (slot 0 known) ps;
      shape = field (slot 1 known) ps;
      format = field (slot 2 known) ps;
      attributes = field (slot 3 known) ps;
      components = field (slot 4 known) ps;
    })

  unfoldable pub component_fields : Slots → Node P → Check (ComponentFields P)
  component_fields known t = do
    ps ← fields known t
    pass (record {
      dtype = field (slot 0 known) ps;
      type = field (slot 1 known) ps;
      offset = field (slot 2 known) ps;
      length = field (slot 3 known) ps;
      uncompressed-length = field (slot 4 known) ps;
      encoding = field (slot 5 known) ps;
      digest = field (slot 6 known) ps;
    })

  -- ---------------------------------------------------------------- maps of names

  unfoldable pub name_kind : Node P → Kind P → Check (Named P)
  name_kind v (number n) = fault KEY
  name_kind v (words w) = pass (record { name = w; value = v })
  name_kind v (list l) = fault KEY
  name_kind v (mapping l) = fault KEY
  name_kind v null = fault KEY
  name_kind v another = fault KEY

  unfoldable pub name_of : Pair P → Check (Named P)
  name_of p = name_kind p.value (kind p.key)

  -- kind, keys, UTF-8, count, repeats
  unfoldable pub names : ℕ → Node P → Check (List (Named P))
  names limit t = do
    ps ← a_mapping t
    ns ← each (λ i. name_of) 0 ps
    TEXT unless all (λ n. utf8 n.name.letters) ns
    COUNT unless leb (length ns) limit
    TWICE unless distinct (map (λ n. n.name.letters) ns)
    pass ns
