-- The checks of values and of maps agree with the judgement's.
use Prim.Native.Nat.{ℕ}
use mathlib.Core.List.{List, ◌++◌}
use mathlib.Core.Bool.{Bool, true, false}
use mathlib.Core.Option.{Option, none, some}
use mathlib.Core.Path.{◌≡◌, refl}
use lib.ListN.{length}
use lib.Dec.{leb}
use Rattle.meaning.specs.Tree.{Node, Pair, note_of}
use Rattle.meaning.specs.Check.{Check, pass, refuse, ◌>>=◌, ◌>>◌, ◌unless◌, each}
use Rattle.meaning.specs.Text.{ascii, same, all, utf8}
use Rattle.meaning.specs.Version.{version_shape, major_one}
use Rattle.meaning.specs.Refusal.{KIND, KEY, TEXT, TWICE, VERSION, MAJOR, COUNT, DTYPE, ENCODING, TYPE}
use Rattle.meaning.specs.Limit.{rank_limit}
use Rattle.meaning.specs.Layouts.{Layout, Slots, somes}
use Rattle.meaning.specs.Kind.{Kind, number, words, list, mapping, null, another, kind, as_number, as_word, as_list, as_mapping, a_number, a_word, a_list, a_mapping, a_text}
use Rattle.meaning.specs.Field.{is_some, key_kind, key_of, count, fields, name_kind, name_of, names}
use Rattle.meaning.specs.Types.{code_from, logicals, listed, fits_over}
use Rattle.meaning.specs.Judge.{code_or, a_dtype, a_type, raw, attributes_of, shape_of, a_version}
use Rattle.explained.specs.Step
use Rattle.explained.specs.Step.{Step, ◌at◌unless◌, told, given, passes, every}
use Rattle.explained.specs.Order.{number_steps, word_steps, mapping_steps, text_steps, dtype_steps, type_steps, raw_steps, version_steps, shape_steps, key_steps, field_steps, name_steps}
use Rattle.explained.proofs.Agree.{Agree, agree_at, agree_then, agree-bind, agree-found, agree-given, agree-end, agree-every, agree-every-each}
use Rattle.explained.proofs.Repeat.{agree-repeats, agree-same-names}

shape-bind : {A B C : Type 0} (g : A → B) (k : B → Check C) (m : Check A) → ((m >>= λ a. pass (g a)) >>= k) ≡ (m >>= λ a. k (g a))
shape-bind g k (pass a) = refl
shape-bind g k (refuse n o c) = refl

module _ {P : Type 0} where
  -- ---------------------------------------------------------------- kinds

  of_number : (w : P) (k : Kind P) → Agree (KIND at w unless passes (as_number k)) (as_number k)
  unfolding as_number
  of_number w (number n) = record { same = refl }
  of_number w (words v) = record { same = refl }
  of_number w (list l) = record { same = refl }
  of_number w (mapping l) = record { same = refl }
  of_number w null = record { same = refl }
  of_number w another = record { same = refl }

  of_word : (w : P) (k : Kind P) → Agree (KIND at w unless passes (as_word k)) (as_word k)
  unfolding as_word
  of_word w (number n) = record { same = refl }
  of_word w (words v) = record { same = refl }
  of_word w (list l) = record { same = refl }
  of_word w (mapping l) = record { same = refl }
  of_word w null = record { same = refl }
  of_word w another = record { same = refl }

  of-list : (w : P) (k : Kind P) → Agree (KIND at w unless passes (as_list k)) (as_list k)
  unfolding as_list
  of-list w (number n) = record { same = refl }
  of-list w (words v) = record { same = refl }
  of-list w (list l) = record { same = refl }
  of-list w (mapping l) = record { same = refl }
  of-list w null = record { same = refl }
  of-list w another = record { same = refl }

  of-table : (w : P) (k : Kind P) → Agree (KIND at w unless passes (as_mapping k)) (as_mapping k)
  unfolding as_mapping
  of-table w (number n) = record { same = refl }
  of-table w (words v) = record { same = refl }
  of-table w (list l) = record { same = refl }
  of-table w (mapping l) = record { same = refl }
  of-table w null = record { same = refl }
  of-table w another = record { same = refl }

  of-key : (w : P) (v : Node P) (k : Kind P) → Agree (KEY at w unless is_some (key_kind k)) (name_kind v k)
  unfolding key_kind name_kind is_some
  of-key w v (number n) = record { same = refl }
  of-key w v (words u) = record { same = refl }
  of-key w v (list l) = record { same = refl }
  of-key w v (mapping l) = record { same = refl }
  of-key w v null = record { same = refl }
  of-key w v another = record { same = refl }

  pub agree-number : (t : Node P) → Agree (number_steps t) (a_number t)
  unfolding number_steps a_number
  agree-number t = of_number (note_of t) (kind t)

  pub agree-word : (t : Node P) → Agree (word_steps t) (a_word t)
  unfolding word_steps a_word
  agree-word t = of_word (note_of t) (kind t)

  agree-list : (t : Node P) → Agree (KIND at note_of t unless passes (a_list t)) (a_list t)
  unfolding a_list
  agree-list t = of-list (note_of t) (kind t)

  pub agree-table : (t : Node P) → Agree (mapping_steps t) (a_mapping t)
  unfolding mapping_steps a_mapping
  agree-table t = of-table (note_of t) (kind t)

  agree-name : (p : Pair P) → Agree (KEY at note_of p.key unless is_some (key_of p)) (name_of p)
  unfolding key_of name_of
  agree-name p = of-key (note_of p.key) p.value (kind p.key)

  -- ---------------------------------------------------------------- values

  pub agree-text : (t : Node P) → Agree (text_steps t) (a_text t)
  unfolding text_steps a_text
  agree-text t = agree-given (agree-word t) λ w. agree-end w (agree_at TEXT (note_of t) (utf8 w.letters))

  of_code : (w : P) (c : Option ℕ) → Agree (DTYPE at w unless is_some c) (code_or c)
  unfolding is_some code_or
  of_code w none = record { same = refl }
  of_code w (some c) = record { same = refl }

  pub agree-dtype : (L : Layout) (t : Node P) → Agree (dtype_steps L t) (a_dtype L t)
  unfolding dtype_steps a_dtype
  agree-dtype L t = agree-given (agree-word t) λ w. of_code (note_of t) (code_from 0 L.dtypes w.letters)

  pub agree-type : (d : ℕ) (t : Node P) → Agree (type_steps d t) (a_type d t)
  unfolding type_steps a_type
  agree-type d t = agree-given (agree-text t) λ w. agree-end w (agree_at TYPE (note_of t) (fits_over d (listed logicals w.letters)))

  pub agree-raw : (t : Node P) → Agree (raw_steps t) (raw t)
  unfolding raw_steps raw
  agree-raw t = agree-given (agree-word t) λ w. agree_at ENCODING (note_of t) (same (ascii "raw") w.letters)

  pub agree-attributes : (t : Node P) → Agree (mapping_steps t) (attributes_of t)
  unfolding attributes_of
  agree-attributes t = agree-end t (agree-table t)

  pub agree-version : (t : Node P) → Agree (version_steps t) (a_version t)
  unfolding version_steps a_version
  agree-version t = agree-given (agree-word t) λ w. agree_then (agree_at VERSION (note_of t) (version_shape w.letters)) (agree_at MAJOR (note_of t) (major_one w.letters))

  pub agree-shape_of : (t : Node P) → Agree (shape_steps t) (shape_of t)
  unfolding shape_steps shape_of number_steps
  agree-shape_of t =
      agree-given (agree-list t) λ dims.
      agree-given (agree-every-each agree-number 0 dims) λ s.
      agree-end s (agree_at COUNT (note_of t) (leb (length s) rank_limit))

  -- ---------------------------------------------------------------- maps

  agree-keys : (ps : List (Pair P)) → Agree (key_steps ps) (KEY unless all (λ p. is_some (key_of p)) ps)
  unfolding key_steps
  agree-keys = agree-every KEY (λ p. note_of p.key) (λ p. is_some (key_of p))

  pub agree-fields : (known : Slots) (t : Node P) → Agree (field_steps known t) (fields known t)
  unfolding field_steps fields
  agree-fields known t = agree-given (agree-table t) λ ps. agree_then (agree-keys ps) (agree-end ps (agree-repeats (somes known) ps))

  -- the pairs of a map whose fields are sound
  pub fields-pairs : (known : Slots) (t : Node P) (ps : List (Pair P)) → fields known t ≡ pass ps → given (a_mapping t) ≡ some ps
  unfolding fields
  fields-pairs known t ps = go (a_mapping t)
    where
      go₂ : (qs : List (Pair P)) (b c : Bool) → (KEY unless b >> (TWICE unless c >> pass qs)) ≡ pass ps → some qs ≡ some ps
      go₂ qs true true e = cc
      go₂ qs true false e = cc
      go₂ qs false c e = cc

      go : (m : Check (List (Pair P)))
          → (m >>= λ qs. KEY unless all (λ p. is_some (key_of p)) qs >> (TWICE unless all (λ n. leb (count n qs) 1) (somes known) >> pass qs)) ≡ pass ps → given m ≡ some ps
      go (pass qs) e = go₂ qs (all (λ p. is_some (key_of p)) qs) (all (λ n. leb (count n qs) 1) (somes known)) e
      go (refuse n o c) e = cc

  pub agree-in-fields : {A B : Type 0} (known : Slots) (t : Node P) (g : List (Pair P) → A) {r : List (Pair P) → List (Step P)} (k : A → Check B)
      → ((ps : List (Pair P)) → Agree (r ps) (k (g ps))) → Agree (field_steps known t ++ Step.◌>>=◌ (given (a_mapping t)) r) ((fields known t >>= λ ps. pass (g ps)) >>= k)
  agree-in-fields known t g {r} k f =
      rw (shape-bind g k (fields known t)) (agree-bind (agree-fields known t) λ ps e. agree-found r (fields-pairs known t ps e) (f ps))

  agree-name_keys : (ps : List (Pair P)) → Agree (key_steps ps) (each (λ i. name_of) 0 ps)
  unfolding key_steps
  agree-name_keys = agree-every-each agree-name 0

  pub agree-names : (limit : ℕ) (t : Node P) → Agree (name_steps limit t) (names limit t)
  unfolding name_steps names
  agree-names limit t =
      agree-given (agree-table t) λ ps.
      agree-given (agree-name_keys ps) λ ns.
      agree_then (agree-every TEXT (λ n. n.name.note) (λ n. utf8 n.name.letters) ns)
      (agree_then (agree_at COUNT (note_of t) (leb (length ns) limit))
      (agree-end ns (agree-same-names ns)))
