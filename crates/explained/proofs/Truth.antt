-- A check that is not right breaks, in the sense of the tree.
use Prim.Native.Nat.{ℕ, ◌+◌, ◌%◌}
use mathlib.Core.List.{List, [], ◌∷◌, ◌++◌}
use mathlib.Core.Bool.{Bool, true, false, cond, not, ◌&&◌}
use mathlib.Core.Option.{Option, none, some}
use mathlib.Core.Path.{◌≡◌, refl, ap, sym, ◌∙◌, subst}
use native.Mathlib.Omega.{arith}
use lib.ListN.{length}
use lib.Dec.{eqb, leb}
use Rattle.meaning.specs.Tree.{Node, Pair, note_of}
use Rattle.meaning.specs.Check.{pass, ◌>>◌, ◌unless◌, optional, each}
use Rattle.meaning.specs.Text.{ascii, same, one_of, all, utf8}
use Rattle.meaning.specs.Version.{version_shape, major_one}
use Rattle.meaning.specs.Refusal.{KIND, KEY, TEXT, TWICE, MISSING, VERSION, MAJOR, COUNT, DTYPE, ENCODING, TYPE, ALIGN, BOUNDS}
use Rattle.meaning.specs.Limit.{component_limit, rank_limit, alignment}
use Rattle.meaning.specs.Model.{Word, Named}
use Rattle.meaning.specs.Kind.{Kind, number, words, list, mapping, null, another, kind, a_number, a_word, a_list, a_mapping, a_text, present_kind, present}
use Rattle.meaning.specs.Layouts.{Layout, somes}
use Rattle.meaning.specs.Field.{is_some, key_of, field, name_of, names}
use Rattle.meaning.specs.Types.{code_from, logicals, listed, fits_over}
use Rattle.meaning.specs.Judge.{code_or, or_else, a_dtype}
use Rattle.meaning.proofs.SameText.{same-eq}
use Rattle.meaning.proofs.Checks.{passed_on, passed}
use Rattle.explained.specs.Step.{passes}
use Rattle.explained.specs.Order.{fresh, more, number_steps, word_steps, mapping_steps, text_steps, dtype_steps, type_steps, raw_steps, version_steps, shape_steps, key_steps, repeat_steps, field_steps, missing, missing_in, same_name_steps, name_steps, component_steps, components_steps}
use Rattle.explained.specs.Fields
use Rattle.explained.specs.Fields.{Level, known, dtype_on, attributes_on, version_of, objects_field, shape_field, format_of, components_field, type_of, offset_of, length_of, unpacked_of, encoding_of, digest_of}
use Rattle.explained.specs.Breaks
use Rattle.explained.specs.Breaks.{Among, here, there, Asked, entry, entries, Field, Under, Holder, Names, Known, Text, is, Breaks}
use Rattle.explained.proofs.Repeat.{all-fresh, all_new, keys_after, keys-snoc, fresh-snoc, names_after, names-snoc, new-snoc}
use Rattle.explained.proofs.Truly.{snoc, Truly, nothing, also, truly-at, truly-then, truly-some, truly-given, truly-every, truly-each, truly-in_component, no-some}

-- ---------------------------------------------------------------- lists

among-left : {A : Type 0} {a : A} {l : List A} (r : List A) → Among a l → Among a (l ++ r)
among-left r here = here
among-left r (there h) = there (among-left r h)

among-last : {A : Type 0} (l : List A) (a : A) → Among a (l ++ a ∷ [])
among-last [] a = here
among-last (b ∷ l) a = there (among-last l a)

both : (a b : Bool) → not (a && b) ≡ false → (a ≡ true) × (b ≡ true)
both true true e = (refl, refl)
both true false e = (cc, cc)
both false b e = (cc, cc)

not-false : (b : Bool) → not b ≡ false → b ≡ true
not-false true e = refl
not-false false e = cc

-- ---------------------------------------------------------------- what passes

code-some : (o : Option ℕ) (d : ℕ) → code_or o ≡ pass d → o ≡ some d
unfolding code_or
code-some none d e = cc
code-some (some c) d e = cc

module _ {P : Type 0} where
  pub a_text-word : (v : Node P) (w : Word P) → a_text v ≡ pass w → a_word v ≡ pass w
  unfolding a_text
  a_text-word v w e =
      let b = passed (a_word v) (λ w. TEXT unless utf8 w.letters >> pass w) w e in
      let h : pass b.value ≡ pass w = passed_on (TEXT unless utf8 b.value.letters) (pass b.value) w b.then in b.is ∙ h

  pub record Coded (L : Layout) (v : Node P) (d : ℕ) : Type 0 where
    pub word : Word P
    pub is_word : a_word v ≡ pass word
    pub code : code_from 0 L.dtypes word.letters ≡ some d

  a_dtype-coded : (L : Layout) (v : Node P) (d : ℕ) → a_dtype L v ≡ pass d → Coded L v d
  unfolding a_dtype
  a_dtype-coded L v d e =
      let b = passed (a_word v) (λ w. code_or (code_from 0 L.dtypes w.letters)) d e in
      record { word = b.value; is_word = b.is; code = code-some (code_from 0 L.dtypes b.value.letters) d b.then }

  -- a code that is there is that of a dtype that is there
  record Owned (L : Layout) (o : Option (Node P)) (d : ℕ) : Type 0 where
    at : Node P
    is_there : o ≡ some at
    code : a_dtype L at ≡ pass d

  owned : (L : Layout) (o : Option (Node P)) (d : ℕ) → optional (a_dtype L) o ≡ pass (some d) → Owned L o d
  owned L none d e = absurd (let z : ◌≡◌ {A = ℕ} 0 1 = cc in omega arith)
  owned L (some c) d e =
      let b = passed (a_dtype L c) (λ x. pass (some x)) (some d) e in
      let r = b.then in
      let h : b.value ≡ d = cc in
      record { at = c; is_there = refl; code = b.is ∙ ap pass h }

  ownless : (L : Layout) (o : Option (Node P)) → optional (a_dtype L) o ≡ pass none → o ≡ none
  ownless L none e = refl
  ownless L (some c) e =
      let b = passed (a_dtype L c) (λ x. pass (some x)) none e in
      let r = b.then in
      absurd (let z : ◌≡◌ {A = ℕ} 0 1 = cc in omega arith)

  present_kind-some : (u v : Node P) (k : Kind P) → present_kind u k ≡ some v → u ≡ v
  unfolding present_kind
  present_kind-some u v (number n) e = cc
  present_kind-some u v (words w) e = cc
  present_kind-some u v (list l) e = cc
  present_kind-some u v (mapping l) e = cc
  present_kind-some u v null e = absurd (let z : ◌≡◌ {A = ℕ} 0 1 = cc in omega arith)
  present_kind-some u v another e = cc

  present-some : (o : Option (Node P)) (v : Node P) → present o ≡ some v → (o ≡ some v) × (present (some v) ≡ some v)
  unfolding present
  present-some none v e = (cc, cc)
  present-some (some u) v e = let h : u ≡ v = present_kind-some u v (kind u) e in (ap some h, rw h at e)

  -- a key that stands among some pairs
  record Seen (left : List (Pair P)) (k : List ℕ) : Type 0 where
    pair : Pair P
    among : Among pair left
    called : key_of pair ≡ some k

  seen_more : (left : List (Pair P)) (before : List (List ℕ)) (p : Pair P) (key : Option (List ℕ)) → key_of p ≡ key
      → ((k : List ℕ) → one_of before k ≡ true → Seen left k) → (k : List ℕ) → one_of (more before key) k ≡ true → Seen (left ++ p ∷ []) k
  unfolding more
  seen_more left before p none h f k e = let s = f k e in record { pair = s.pair; among = among-left (p ∷ []) s.among; called = s.called }
  seen_more left before p (some x) h f k e = go (same x k) refl e
    where
      go : (b : Bool) → same x k ≡ b → cond b true (one_of before k) ≡ true → Seen (left ++ p ∷ []) k
      go true q r = record { pair = p; among = among-last left p; called = h ∙ ap some (same-eq x k q) }
      go false q r = let s = f k r in record { pair = s.pair; among = among-left (p ∷ []) s.among; called = s.called }

-- ---------------------------------------------------------------- values and maps

module _ {L : Layout} {P : Type 0} {t : Node P} {i j : ℕ} where
  dtype-known : (l : Level) {m v : Node P} → Holder L t l i j m → Field m (dtype_on L l) v → Known L t i j Breaks.word v
  unfolding entries field
  dtype-known Fields.root h f = absurd (let e = f.value in let z : ◌≡◌ {A = ℕ} 0 1 = cc in omega arith)
  dtype-known Fields.object h f = Breaks.in_field (entry (dtype_on L Fields.object) Breaks.word (is_some (dtype_on L Fields.object)) false) here refl h f
  dtype-known Fields.component h f = Breaks.in_field (entry (dtype_on L Fields.component) Breaks.word (is_some (dtype_on L Fields.component)) false) here refl h f

module _ (L : Layout) {P : Type 0} (start : ℕ) (t : Node P) {i j : ℕ} {B : ℕ → ℕ → ℕ → Option (Word P) → Option (Word P) → P → Type 0} (up : (n : ℕ) (w : P) → Breaks L start t n i j w → B n 0 0 none none w) where
  pub truth-number : {v : Node P} → Known L t i j Breaks.number v → Truly B (number_steps v)
  unfolding number_steps is
  truth-number {v} k = truly-at KIND (note_of v) (passes (a_number v)) λ e. up KIND (note_of v) (Breaks.kind k e)

  pub truth-word : {v : Node P} → Known L t i j Breaks.word v → Truly B (word_steps v)
  unfolding word_steps is
  truth-word {v} k = truly-at KIND (note_of v) (passes (a_word v)) λ e. up KIND (note_of v) (Breaks.kind k e)

  pub truth-table : {v : Node P} → Known L t i j Breaks.mapping v → Truly B (mapping_steps v)
  unfolding mapping_steps is
  truth-table {v} k = truly-at KIND (note_of v) (passes (a_mapping v)) λ e. up KIND (note_of v) (Breaks.kind k e)

  pub truth-text : {v : Node P} → Known L t i j Breaks.word v → Text L t i j v → Truly B (text_steps v)
  unfolding text_steps
  truth-text {v} k x =
      truly-then (truth-word k) (truly-given (a_word v) λ w e. truly-at TEXT (note_of v) (utf8 w.letters) λ f. up TEXT (note_of v) (Breaks.text x e f))

  pub truth-dtype : {l : Level} {m v : Node P} → Holder L t l i j m → Field m (dtype_on L l) v → Truly B (dtype_steps L v)
  unfolding dtype_steps
  truth-dtype {l} {m} {v} h f =
      truly-then (truth-word (dtype-known l h f))
      (truly-given (a_word v) λ w e. truly-at DTYPE (note_of v) (is_some (code_from 0 L.dtypes w.letters)) λ g.
      up DTYPE (note_of v) (Breaks.dtype h f e (no-some (code_from 0 L.dtypes w.letters) g)))

  pub truth-type : {m c v : Node P} {d : ℕ} → Holder L t Fields.component i j m → Field m (dtype_on L Fields.component) c → Coded L c d → Field m (type_of L) v → present (some v) ≡ some v → Truly B (type_steps d v)
  unfolding type_steps entries
  truth-type {m} {c} {v} {d} h q x f p =
      truly-then (truth-text (Breaks.nullable (entry (type_of L) Breaks.word false true) (there here) refl h f p) (Breaks.of_type h f))
      (truly-given (a_text v) λ w e. truly-at TYPE (note_of v) (fits_over d (listed logicals w.letters)) λ g.
      up TYPE (note_of v) (Breaks.type h q x.is_word x.code f (a_text-word v w e) g))

  pub truth-raw : {m v : Node P} → Holder L t Fields.component i j m → Field m (encoding_of L) v → Truly B (raw_steps v)
  unfolding raw_steps entries
  truth-raw {m} {v} h f =
      truly-then (truth-word (Breaks.in_field (entry (encoding_of L) Breaks.word false false) (there (there (there (there (there here))))) refl h f))
      (truly-given (a_word v) λ w e. truly-at ENCODING (note_of v) (same (ascii "raw") w.letters) λ g. up ENCODING (note_of v) (Breaks.encoding h f e g))

  -- ---------------------------------------------------------------- maps

  truth-repeats : {l : Level} {m : Node P} → Holder L t l i j m → (left : List (Pair P)) (before : List (List ℕ)) (ps : List (Pair P)) → a_mapping m ≡ pass (left ++ ps)
      → ((k : List ℕ) → one_of before k ≡ true → Seen left k) → before ≡ keys_after [] left → all (λ s. s.right) (repeat_steps (somes (known L l)) [] left) ≡ true
      → Truly B (repeat_steps (somes (known L l)) before ps)
  unfolding repeat_steps fresh
  truth-repeats h left before [] e f y r = nothing
  truth-repeats {l} {m} h left before (p ∷ ps) e f y r =
      also (broken (key_of p) refl)
      (λ g. truth-repeats h (left ++ p ∷ []) (more before (key_of p)) ps (e ∙ ap pass (snoc left p ps)) (seen_more left before p (key_of p) refl f)
      (ap (λ b. more b (key_of p)) y ∙ sym (keys-snoc [] left p))
      (fresh-snoc (somes (known L l)) [] left p r (subst (λ b. fresh (somes (known L l)) b (key_of p) ≡ true) y g)))
    where
      broken : (key : Option (List ℕ)) → key_of p ≡ key → fresh (somes (known L l)) before key ≡ false → B TWICE 0 0 none none (note_of p.key)
      broken none q g = absurd (let z : ◌≡◌ {A = ℕ} 0 1 = cc in omega arith)
      broken (some k) q g =
          let b = both (one_of (somes (known L l)) k) (one_of before k) g in
          let s = f k b.1 in up TWICE (note_of p.key) (Breaks.twice left ps p h e q b.0 s.among s.called (all-fresh (somes (known L l)) left r))

  pub truth-fields : {l : Level} {m : Node P} → Holder L t l i j m → Truly B (field_steps (known L l) m)
  unfolding field_steps key_steps repeat_steps keys_after
  truth-fields {l} {m} h =
      truly-then (truth-table (Breaks.holder h))
      (truly-given (a_mapping m) λ ps e.
      truly-then (truly-every KEY (λ p. note_of p.key) (λ p. is_some (key_of p)) ps λ left rest p a b g. up KEY (note_of p.key) (Breaks.key left rest p h (e ∙ ap pass a) b (no-some (key_of p) g)))
      (truth-repeats h [] [] ps e (λ k z. absurd (let y : ◌≡◌ {A = ℕ} 0 1 = cc in omega arith)) refl refl))

  pub truth-missing : {l : Level} {m : Node P} {ps : List (Pair P)} (e : Breaks.Entry) → Among e (entries L l) → e.needed ≡ true → Holder L t l i j m → a_mapping m ≡ pass ps
      → Truly B (missing m (field e.called ps))
  unfolding missing
  truth-missing {l} {m} {ps} e a q h f =
      truly-at MISSING (note_of m) (is_some (field e.called ps)) λ g. up MISSING (note_of m) (Breaks.missing e a q h f (no-some (field e.called ps) g))

  -- where the layout has the field
  pub truth-missing_in : {l : Level} {m : Node P} {ps : List (Pair P)} (e : Breaks.Entry) → Among e (entries L l) → e.needed ≡ is_some e.called → Holder L t l i j m → a_mapping m ≡ pass ps
      → Truly B (missing_in e.called m (field e.called ps))
  unfolding missing_in missing is_some
  truth-missing_in {l} {m} {ps} e a q h f = go e.called refl
    where
      go : (name : Option (List ℕ)) → e.called ≡ name → Truly B (missing_in name m (field name ps))
      go none w = nothing
      go (some n) w =
          truly-at MISSING (note_of m) (is_some (field (some n) ps)) λ g.
          up MISSING (note_of m) (Breaks.missing e a (q ∙ ap is_some w) h f (ap (λ x. field x ps) w ∙ no-some (field (some n) ps) g))

-- ---------------------------------------------------------------- names, the shape, the version

module _ {P : Type 0} where
  -- a name that stands among some
  record Taken (left : List (Named P)) (k : List ℕ) : Type 0 where
    named : Named P
    among : Among named left
    called : named.name.letters ≡ k

  taken_more : (left : List (Named P)) (before : List (List ℕ)) (n : Named P) → ((k : List ℕ) → one_of before k ≡ true → Taken left k)
      → (k : List ℕ) → one_of (n.name.letters ∷ before) k ≡ true → Taken (left ++ n ∷ []) k
  taken_more left before n f k e = go (same n.name.letters k) refl e
    where
      go : (b : Bool) → same n.name.letters k ≡ b → cond b true (one_of before k) ≡ true → Taken (left ++ n ∷ []) k
      go true q r = record { named = n; among = among-last left n; called = same-eq n.name.letters k q }
      go false q r = let s = f k r in record { named = s.named; among = among-left (n ∷ []) s.among; called = s.called }

module _ {L : Layout} {P : Type 0} {t : Node P} where
  names-known : {limit i : ℕ} {m : Node P} → Names L t limit i m → Known L t i 0 Breaks.mapping m
  unfolding entries
  names-known (Breaks.of_objects f) = Breaks.in_field (entry (objects_field L) Breaks.mapping true false) (there (there here)) refl Breaks.the_root f
  names-known (Breaks.of_components h f) = Breaks.in_field (entry (components_field L) Breaks.mapping true false) (there (there (there (there here)))) refl h f

module _ (L : Layout) {P : Type 0} (start : ℕ) (t : Node P) {i : ℕ} {B : ℕ → ℕ → ℕ → Option (Word P) → Option (Word P) → P → Type 0} (up : (n : ℕ) (w : P) → Breaks L start t n i 0 w → B n 0 0 none none w) where
  truth-same-names : {limit : ℕ} {m : Node P} {ps : List (Pair P)} → Names L t limit i m → a_mapping m ≡ pass ps → (left : List (Named P)) (before : List (List ℕ)) (ns : List (Named P))
      → each (λ k. name_of) 0 ps ≡ pass (left ++ ns) → ((k : List ℕ) → one_of before k ≡ true → Taken left k)
      → before ≡ names_after [] left → all (λ s. s.right) (same_name_steps [] left) ≡ true → Truly B (same_name_steps before ns)
  unfolding same_name_steps
  truth-same-names h a left before [] e f y r = nothing
  truth-same-names h a left before (n ∷ ns) e f y r =
      also (λ g. let s = f n.name.letters (not-false (one_of before n.name.letters) g) in
      up TWICE n.name.note (Breaks.name_twice left ns n h a e s.among s.called (all_new left r)))
      (λ g. truth-same-names h a (left ++ n ∷ []) (n.name.letters ∷ before) ns (e ∙ ap pass (snoc left n ns)) (taken_more left before n f)
      (ap {B = List (List ℕ)} (λ b. n.name.letters ∷ b) y ∙ sym (names-snoc [] left n))
      (new-snoc [] left n r (subst (λ b. not (one_of b n.name.letters) ≡ true) y g)))

  pub truth-names : {limit : ℕ} {m : Node P} → Names L t limit i m → Truly B (name_steps limit m)
  unfolding name_steps key_steps same_name_steps names_after
  truth-names {limit} {m} h =
      truly-then (truth-table L start t up (names-known h))
      (truly-given (a_mapping m) λ ps a.
      truly-then (truly-every KEY (λ p. note_of p.key) (λ p. is_some (key_of p)) ps λ left rest p q b g. up KEY (note_of p.key) (Breaks.name_key left rest p h (a ∙ ap pass q) b (no-some (key_of p) g)))
      (truly-given (each (λ k. name_of) 0 ps) λ ns e.
      truly-then (truly-every TEXT (λ n. n.name.note) (λ n. utf8 n.name.letters) ns λ left rest n q b g. up TEXT n.name.note (Breaks.name_text left rest n h a (e ∙ ap pass q) b g))
      (truly-then (truly-at COUNT (note_of m) (leb (length ns) limit) λ g. up COUNT (note_of m) (Breaks.many h a e g))
      (truth-same-names h a [] [] ns e (λ k z. absurd (let y : ◌≡◌ {A = ℕ} 0 1 = cc in omega arith)) refl refl))))

  pub truth-shape : {m v : Node P} → Holder L t Fields.object i 0 m → Field m (shape_field L) v → Truly B (shape_steps v)
  unfolding shape_steps is entries
  truth-shape {m} {v} h f =
      truly-then (truly-at KIND (note_of v) (passes (a_list v)) λ e. up KIND (note_of v) (Breaks.kind (Breaks.in_field (entry (shape_field L) Breaks.list true false) (there here) refl h f) e))
      (truly-given (a_list v) λ ds a.
      truly-then (truly-every KIND note_of (λ d. passes (a_number d)) ds λ left rest d q b e. up KIND (note_of d) (Breaks.element left rest d h f (a ∙ ap pass q) b e))
      (truly-given (each (λ k. a_number) 0 ds) λ s e. truly-at COUNT (note_of v) (leb (length s) rank_limit) λ g. up COUNT (note_of v) (Breaks.rank_count h f a e g)))

module _ (L : Layout) {P : Type 0} (start : ℕ) (t : Node P) {B : ℕ → ℕ → ℕ → Option (Word P) → Option (Word P) → P → Type 0} (up : (n : ℕ) (w : P) → Breaks L start t n 0 0 w → B n 0 0 none none w) where
  pub truth-version : {v : Node P} → Field t (version_of L) v → Truly B (version_steps v)
  unfolding version_steps entries
  truth-version {v} f =
      truly-then (truth-word L start t up (Breaks.in_field (entry (version_of L) Breaks.word true false) here refl Breaks.the_root f))
      (truly-given (a_word v) λ w e.
      truly-then (truly-at VERSION (note_of v) (version_shape w.letters) λ g. up VERSION (note_of v) (Breaks.version f e g))
      (truly-at MAJOR (note_of v) (major_one w.letters) λ g. up MAJOR (note_of v) (Breaks.major f e g)))

-- ---------------------------------------------------------------- a component

-- whose code a component has: its own; or its object's, where components have neither dtype nor type
pub data Codes (L : Layout) : Option ℕ → Type 0 where
  of_component : {n : List ℕ} → dtype_on L Fields.component ≡ some n → Codes L none
  of_object : {d : ℕ} → dtype_on L Fields.component ≡ none → type_of L ≡ none → Codes L (some d)

module _ {P : Type 0} where
  pub found : {m v : Node P} {ps : List (Pair P)} (name : Option (List ℕ)) → a_mapping m ≡ pass ps → field name ps ≡ some v → Field m name v
  found {m} {v} {ps} name a e = record { pairs = ps; is_map = a; value = e }

module _ (L : Layout) {P : Type 0} (start : ℕ) (t : Node P) {i j : ℕ} {B : ℕ → ℕ → ℕ → Option (Word P) → Option (Word P) → P → Type 0}
    (up : (n : ℕ) (w : P) → Breaks L start t n i j w → B n 0 0 none none w) where
  truth-code : {m : Node P} {ps : List (Pair P)} (own above : Option ℕ) → Codes L above → Holder L t Fields.component i j m → a_mapping m ≡ pass ps
      → optional (a_dtype L) (field (dtype_on L Fields.component) ps) ≡ pass own → Truly B (missing m (or_else own above))
  unfolding missing is_some or_else entries
  truth-code {m} {ps} none none (of_component w) h a e =
      truly-at MISSING (note_of m) false λ g.
      up MISSING (note_of m) (Breaks.missing (entry (dtype_on L Fields.component) Breaks.word (is_some (dtype_on L Fields.component)) false) here (ap is_some w) h a (ownless L (field (dtype_on L Fields.component) ps) e))
  truth-code {m} none (some d) z h a e = truly-at MISSING (note_of m) true λ g. absurd (let y : ◌≡◌ {A = ℕ} 0 1 = cc in omega arith)
  truth-code {m} (some c) above z h a e = truly-at MISSING (note_of m) true λ g. absurd (let y : ◌≡◌ {A = ℕ} 0 1 = cc in omega arith)

  truth-typed : {m v : Node P} {ps : List (Pair P)} {own above : Option ℕ} {d : ℕ} → Codes L above → Holder L t Fields.component i j m → a_mapping m ≡ pass ps
      → optional (a_dtype L) (field (dtype_on L Fields.component) ps) ≡ pass own → or_else own above ≡ some d → field (type_of L) ps ≡ some v → present (some v) ≡ some v → Truly B (type_steps d v)
  unfolding or_else field
  truth-typed {ps = ps} {own = none} {d = d} (of_component w) h a e c f p = absurd (let y : ◌≡◌ {A = ℕ} 0 1 = cc in omega arith)
  truth-typed {ps = ps} {own = some k} {d = d} (of_component w) h a e c f p =
      let o = owned L (field (dtype_on L Fields.component) ps) d (e ∙ ap pass c) in
      truth-type L start t up h (found (dtype_on L Fields.component) a o.is_there) (a_dtype-coded L o.at d o.code) (found (type_of L) a f) p
  truth-typed {v = v} {ps = ps} (of_object w y) h a e c f p = absurd (none-there (ap (λ x. field x ps) y) f)
    where
      none-there : field (type_of L) ps ≡ field none ps → field (type_of L) ps ≡ some v → ⊥
      none-there q r = let y : ◌≡◌ {A = ℕ} 0 1 = cc in omega arith

  -- the code is the component's own, or the object's where components have neither dtype nor type
  pub truth-component : (above : Option ℕ) (n : Named P) → Codes L above → Holder L t Fields.component i j n.value → Truly B (component_steps L start above n)
  unfolding component_steps entries
  truth-component above n z h =
      truly-then (truth-fields L start t up h)
      (truly-given (a_mapping n.value) λ ps a.
      truly-then (truth-missing_in L start t up (entry (dtype_on L Fields.component) Breaks.word (is_some (dtype_on L Fields.component)) false) here refl h a)
      (truly-then (truth-missing L start t up (entry (offset_of L) Breaks.number true false) (there (there here)) refl h a)
      (truly-then (truth-missing L start t up (entry (length_of L) Breaks.number true false) (there (there (there here))) refl h a)
      (truly-some (field (offset_of L) ps) λ offset ho.
      truly-some (field (length_of L) ps) λ length hl.
      truly-then (truly-some (field (dtype_on L Fields.component) ps) λ dtype hd. truth-dtype L start t up h (found (dtype_on L Fields.component) a hd))
      (truly-given (optional (a_dtype L) (field (dtype_on L Fields.component) ps)) λ own eo.
      truly-then (truth-code own above z h a eo)
      (truly-some (or_else own above) λ d ed.
      truly-then (truly-some (present (field (type_of L) ps)) λ v e. let q = present-some (field (type_of L) ps) v e in truth-typed z h a eo ed q.0 q.1)
      (truly-then (truth-number L start t up (Breaks.in_field (entry (offset_of L) Breaks.number true false) (there (there here)) refl h (found (offset_of L) a ho)))
      (truly-given (a_number offset) λ o eo.
      truly-then (truth-number L start t up (Breaks.in_field (entry (length_of L) Breaks.number true false) (there (there (there here))) refl h (found (length_of L) a hl)))
      (truly-given (a_number length) λ l el.
      truly-then (truly-some (present (field (unpacked_of L) ps)) λ v e. let q = present-some (field (unpacked_of L) ps) v e in
      truth-number L start t up
      (Breaks.nullable (entry (unpacked_of L) Breaks.number false true) (there (there (there (there here)))) refl h (found (unpacked_of L) a q.0) q.1))
      (truly-then (truly-some (field (encoding_of L) ps) λ v e. truth-raw L start t up h (found (encoding_of L) a e))
      (truly-then (truly-some (present (field (digest_of L) ps)) λ v e. let q = present-some (field (digest_of L) ps) v e in
      truth-text L start t up
      (Breaks.nullable (entry (digest_of L) Breaks.word false true) (there (there (there (there (there (there here)))))) refl h (found (digest_of L) a q.0) q.1)
      (Breaks.of_digest h (found (digest_of L) a q.0)))
      (truly-then (truly-at ALIGN (note_of offset) (eqb (o % alignment) 0) λ g. up ALIGN (note_of offset) (Breaks.align h (found (offset_of L) a ho) eo g))
      (truly-at BOUNDS (note_of offset) (leb alignment o && leb (o + l) start) λ g.
      up BOUNDS (note_of offset) (Breaks.bounds h (found (offset_of L) a ho) eo (found (length_of L) a hl) el g))))))))))))))

-- in an object whose map of components is cs: `up` for what belongs to the object, `upon` for a component
module _ (L : Layout) {P : Type 0} (start : ℕ) (t : Node P) {i : ℕ} {B : ℕ → ℕ → ℕ → Option (Word P) → Option (Word P) → P → Type 0}
    (up : (x : ℕ) (w : P) → Breaks L start t x i 0 w → B x 0 0 none none w) (cs : Node P)
    (upon : (x j : ℕ) (n : Named P) (w : P) → Under component_limit cs j n → Breaks L start t x i j w → B x 0 j none (some n.name) w) where
  pub truth-components : {m : Node P} (above : List ℕ → Option ℕ) → ((r : List ℕ) → Codes L (above r)) → Holder L t Fields.object i 0 m → Field m (components_field L) cs
      → Truly B (components_steps L start above cs)
  unfolding components_steps
  truth-components above z h f =
      truly-then (truth-names L start t up (Breaks.of_components h f))
      (truly-given (names component_limit cs) λ ns e.
      truly-each 0 ns λ j n at. let u : Under component_limit cs j n = record { every = ns; sound = e; this = at } in
      truly-in_component j (some n.name) (truth-component L start t (λ x w b. upon x j n w u b) (above n.name.letters) n (z n.name.letters) (Breaks.a_component h f u)))
