-- A component's entry is judged as its description says, and tells it back.
use Prim.Native.Nat.{ℕ, zero, suc, ◌+◌, ◌%◌, ◌<◌}
use native.Mathlib.Omega.{arith}
use mathlib.Core.List.{List, [], map}
use mathlib.Core.Bool.{Bool, true, false, ◌&&◌}
use mathlib.Core.Option.{Option, none, some}
use mathlib.Core.Path.{◌≡◌, refl, ap, sym, ◌∙◌, subst}
use lib.Dec.{eqb}
use lib.ListN.{length}
use borrow.Author.Tests.{eqb-true, eqb-false, eq-eqb, le-leb}
use Rattle.meaning.specs.Refusal.{TEXT, TYPE}
use Rattle.meaning.specs.Limit.{alignment}
use Rattle.meaning.specs.Text.{ascii, utf8}
use Rattle.meaning.specs.Check.{pass, ◌>>=◌, ◌>>◌, ◌unless◌, optional}
use Rattle.meaning.specs.Tree.{Node, Pair, text, uint, note_of}
use Rattle.meaning.specs.Notes.{map_option}
use Rattle.meaning.specs.Read.{Span}
use Rattle.meaning.specs.Model.{Word, Component}
use Rattle.meaning.specs.Kind as kinds
use Rattle.meaning.specs.Kind.{Kind}
use Rattle.meaning.specs.Field as field
use Rattle.meaning.specs.Types.{storages, storage_of, code_from, logicals, listed, fits_over}
use Rattle.meaning.specs.Judge as judge
use Rattle.meaning.specs.Judge.{component, letters_of}
use Rattle.meaning.specs.Described.{DescribedComponent, read_component}
use Rattle.meaning.specs.Manifest.{given}
use Rattle.meaning.specs.Layouts.{current}
use Rattle.meaning.proofs.Tests.{both_left, both_right}
use Rattle.readback.specs.Trees.{number_piece, text_piece, several, entry_piece, map_piece, component_piece}
use Rattle.readback.specs.Judged.{judged_type, judged_text, judged_component}
use Rattle.readback.specs.Agrees.{Agrees, passes, refuses}
use Rattle.readback.specs.Back.{BlobAt, Tells}
use Rattle.readback.proofs.Agreement.{agrees-bind, agrees-map}

-- ---- every code is found by its name

is_code : ℕ → Option ℕ → Bool
is_code i none = false
is_code i (some c) = eqb c i

is-code : (i : ℕ) (o : Option ℕ) → is_code i o ≡ true → o ≡ some i
unfolding is_code
is-code i none h = absurd (let z : ◌≡◌ {A = ℕ} 0 1 = cc in omega arith)
is-code i (some c) h = ap some (eqb-true c i h)

-- tested for each number below n
below : (ℕ → Bool) → ℕ → Bool
below p zero = true
below p (suc n) = p n && below p n

below_holds : (p : ℕ → Bool) (n i : ℕ) → below p n ≡ true → i < n → p i ≡ true
unfolding below
below_holds p zero i h l = absurd (omega arith)
below_holds p (suc n) i h l = go (eqb i n) refl (below_holds p n i (both_right (p n) (below p n) h))
  where
    go : (t : Bool) → eqb i n ≡ t → (i < n → p i ≡ true) → p i ≡ true
    go true e ih = rw (eqb-true i n e) (both_left (p n) (below p n) h)
    go false e ih = ih (omega (arith, eqb-false i n e))

pub dtype-back : (c : ℕ) → c < length storages → code_from 0 (map (λ s. s.called) storages) (storage_of c).called ≡ some c
unfolding storages storage_of code_from is_code below
dtype-back c h = is-code c (code_from 0 (map (λ s. s.called) storages) (storage_of c).called) (below_holds (λ i. is_code i (code_from 0 (map (λ s. s.called) storages) (storage_of i).called)) 13 c refl h)

-- ---- the fields

-- a text's node
abbrev node : Word Span → Node Span
node w = text w.note w.letters

-- the annotation of a field's value
unfoldable pub note_in : Option (Node Span) → Span
note_in none = record { place = 0; size = 0 }
note_in (some t) = note_of t

unfoldable pub field_note : List ℕ → Node Span → Span
field_note n t = note_in (field.get n (entries (kinds.kind t)))
  where
    entries : Kind Span → List (Pair Span)
    entries (kinds.number n) = []
    entries (kinds.words w) = []
    entries (kinds.list l) = []
    entries (kinds.mapping l) = l
    entries kinds.null = []
    entries kinds.another = []

record Found (offset : ℕ) (c : DescribedComponent) (t : Node Span) : Type 0 where
  type : Option (Word Span)
  digest : Option (Word Span)
  type-is : letters_of type ≡ c.type
  digest-is : letters_of digest ≡ c.digest
  is : field.component_fields current.component t ≡ pass (record {
    dtype = some (text (field_note (ascii "dtype") t) (storage_of c.dtype).called);
    type = map_option node type;
    offset = some (uint (field_note (ascii "offset") t) offset);
    length = some (uint (field_note (ascii "length") t) (length c.blob));
    uncompressed-length = none;
    encoding = none;
    digest = map_option node digest;
  })

module _ (note : List ℕ → List ℕ → Span) (offset : ℕ) (c : DescribedComponent) (x : List ℕ) where
  abbrev tree : Node Span
  tree = (component_piece note offset c).meant x

  abbrev word : List ℕ → List ℕ → Word Span
  word n w = record { note = field_note n tree; letters = w }

  fields-found : Found offset c tree
  unfolding component_piece map_piece several given entry_piece text_piece number_piece letters_of field_note note_in current field.field field.component_fields field.fields field.key_of field.key_kind field.is_some field.named field.is_key field.count field.get kinds.kind kinds.a_mapping kinds.as_mapping
  fields-found = go c.type c.digest refl refl
    where
      go : (t g : Option (List ℕ)) → c.type ≡ t → c.digest ≡ g → Found offset c tree
      go none none et eg = record { type = none; digest = none; type-is = sym et; digest-is = sym eg; is = rw (et, eg) }
      go none (some g) et eg = record { type = none; digest = some (word (ascii "digest") g); type-is = sym et; digest-is = sym eg; is = rw (et, eg) }
      go (some t) none et eg = record { type = some (word (ascii "type") t); digest = none; type-is = sym et; digest-is = sym eg; is = rw (et, eg) }
      go (some t) (some g) et eg = record { type = some (word (ascii "type") t); digest = some (word (ascii "digest") g); type-is = sym et; digest-is = sym eg; is = rw (et, eg) }

-- ---- the judgement

type-agrees : (d : ℕ) (w : Option (Word Span)) → Agrees (λ v. v ≡ w) (optional (judge.a_type d) (kinds.present (map_option node w))) (judged_type d (letters_of w))
unfolding kinds.present kinds.present_kind kinds.kind kinds.a_text kinds.a_word kinds.as_word judge.a_type letters_of judged_type
type-agrees d none = passes refl
type-agrees d (some w) = go (utf8 w.letters)
  where
    fits : (b : Bool) → Agrees (λ v. v ≡ some w) (((TYPE unless b) >> pass w) >>= λ v. pass (some v)) (TYPE unless b)
    fits true = passes refl
    fits false = refuses

    go : (b : Bool) → Agrees (λ v. v ≡ some w) ((((TEXT unless b) >> pass w) >>= λ v. (TYPE unless fits_over d (listed logicals v.letters)) >> pass v) >>= λ v. pass (some v))
        ((TEXT unless b) >> (TYPE unless fits_over d (listed logicals w.letters)))
    go true = fits (fits_over d (listed logicals w.letters))
    go false = refuses

digest-agrees : (w : Option (Word Span)) → Agrees (λ v. v ≡ w) (optional kinds.a_text (kinds.present (map_option node w))) (judged_text (letters_of w))
unfolding kinds.present kinds.present_kind kinds.kind kinds.a_text kinds.a_word kinds.as_word letters_of judged_text
digest-agrees none = passes refl
digest-agrees (some w) = go (utf8 w.letters)
  where
    go : (b : Bool) → Agrees (λ v. v ≡ some w) (((TEXT unless b) >> pass w) >>= λ v. pass (some v)) (TEXT unless b)
    go true = passes refl
    go false = refuses

type-agrees-as : (d : ℕ) (w : Option (Word Span)) {t : Option (List ℕ)} → letters_of w ≡ t
    → Agrees (λ v. v ≡ w) (optional (judge.a_type d) (kinds.present (map_option node w))) (judged_type d t)
type-agrees-as d w e = subst (λ (t : Option (List ℕ)). Agrees (λ v. v ≡ w) (optional (judge.a_type d) (kinds.present (map_option node w))) (judged_type d t)) e (type-agrees d w)

digest-agrees-as : (w : Option (Word Span)) {t : Option (List ℕ)} → letters_of w ≡ t → Agrees (λ v. v ≡ w) (optional kinds.a_text (kinds.present (map_option node w))) (judged_text t)
digest-agrees-as w e = subst (λ (t : Option (List ℕ)). Agrees (λ v. v ≡ w) (optional kinds.a_text (kinds.present (map_option node w))) (judged_text t)) e (digest-agrees w)

described-is : (c : DescribedComponent) {n b : List ℕ} {t g : Option (List ℕ)} → n ≡ c.name → t ≡ c.type → g ≡ c.digest → b ≡ c.blob
    → record { name = n; dtype = c.dtype; type = t; digest = g; blob = b } ≡ c
described-is c en et eg eb = rw (en, et, eg, eb)

module _ (file : List ℕ) (start : ℕ) (note : List ℕ → List ℕ → Span) (offset : ℕ) (c : DescribedComponent) (x : List ℕ)
    (w : Word Span) (e : w.letters ≡ c.name) (h : c.dtype < length storages) (b : BlobAt file start offset c.blob) where
  T : Node Span
  T = (component_piece note offset c).meant x

  found : Found offset c T
  unfolding T
  found = fields-found note offset c x

  -- the component that passes
  model : Option (Word Span) → Option (Word Span) → Component Span
  model t g = record { name = w; dtype = c.dtype; type = t; offset = offset; length = length c.blob; digest = g; entry = note_of T }

  tells : (t g : Option (Word Span)) → letters_of t ≡ c.type → letters_of g ≡ c.digest → Tells file offset c (model t g)
  unfolding model read_component
  tells t g et eg = record { same = described-is c e et eg b.stands; size = refl; place = refl }

  pub component-agrees : Agrees (Tells file offset c) (component current start none (record { name = w; value = (component_piece note offset c).meant x })) (judged_component c)
  unfolding current component judge.a_dtype judge.code_or judge.or_else kinds.a_number kinds.as_number kinds.a_word kinds.as_word kinds.kind kinds.present judged_component T model
  component-agrees =
      rw (found.is, dtype-back c.dtype h, eq-eqb (offset % alignment) 0 b.multiple, le-leb alignment offset b.low, le-leb (offset + length c.blob) start b.inside)
      (agrees-bind (type-agrees-as c.dtype found.type found.type-is) (λ t et. agrees-map (model t) (digest-agrees-as found.digest found.digest-is)
      (λ g eg. tells t g (ap letters_of et ∙ found.type-is) (ap letters_of eg ∙ found.digest-is))))
