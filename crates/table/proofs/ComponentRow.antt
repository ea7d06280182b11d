-- The row of a component, a branch each: none where the judgement refuses it, else twelve numbers.
use Prim.Native.Nat.{ℕ, ◌+◌, ◌*◌, ◌^◌, ◌≤◌, ◌<◌}
use native.Mathlib.Omega.{arith}
use mathlib.Core.List.{List, [], ◌∷◌}
use mathlib.Core.Path.{◌≡◌, refl, ap, sym, ◌∙◌, subst}
use lib.ListN.{length}
use lib.Seq.{sets}
use borrow.Author.Rules.{part_to_end}
use Rattle.meaning.specs.Columns.{offset_column, entry_column}
use Rattle.meaning.specs.Tree.{Pair, note_of}
use Rattle.meaning.specs.Check.{Check, pass, refuse}
use Rattle.meaning.specs.Model.{Named, Component}
use Rattle.meaning.specs.Notes.{map_check}
use Rattle.meaning.specs.Kind as kinds
use Rattle.meaning.specs.Kind.{Kind, kind}
use Rattle.meaning.specs.Field.{name_of, name_kind}
use Rattle.meaning.specs.Judge.{inherited, component}
use Rattle.meaning.specs.Rows.{component_row}
use Rattle.meaning.specs.Layouts.{layout_of}
use Rattle.meaning.proofs.Checks.{pass_same}
use Rattle.types.specs.Known.{position, format_names, role_names}
use Rattle.cbor.specs.Ending.{FAULT}
use Rattle.walk.specs.Reading.{Ends}
use Rattle.naming.specs.NotedNames.{word_or}
use Rattle.component.specs.Value.{left_word, given}
use Rattle.component.specs.Verdict.{judged}
use Rattle.component.specs.declared.Judged.{Judged}
use Rattle.table.specs.Stored.{StorageIs, stored_as}
use Rattle.table.proofs.Storage.{with_code, stored-so}
use Rattle.table.proofs.Lettered.{named-so, type_at, digest-at, entered_so}
use Rattle.fields.proofs.Texts.{Here}
use Rattle.table.specs.declared.span.Span.{Span}
use Rattle.table.specs.Spans.{span_of, spanned, span_of_word, span_of_option, TextSpanIs, TextSpanAt, WholeFrom}
use Rattle.table.specs.Row.{twelve, row_in, RowPut}
use Rattle.table.proofs.Runs as laying
use Rattle.std.specs.Prelude.{Ok, Err, Result}
use Rattle.numbers.specs.declared.refusal.Refusal.{Refusal}
use Rattle.numbers.specs.Answered.{answered}

-- ---------------------------------------------------------------- a pair that has a name

pub record NamedSo (p : Pair Ends) (n : Named Ends) : Type 0 where
  pub word : kinds.a_word p.key ≡ pass n.name
  pub is : n ≡ record { name = n.name; value = p.value }
  pub anyway : word_or (note_of p.key) (kind p.key) ≡ n.name

pub named-pair : (p : Pair Ends) (n : Named Ends) → name_of p ≡ pass n → NamedSo p n
unfolding name_of name_kind kinds.a_word kinds.as_word
named-pair p n e = go (kind p.key) refl e
  where
    go : (k : Kind Ends) → kind p.key ≡ k → name_kind p.value k ≡ pass n → NamedSo p n
    go (kinds.number m) h e = absurd (let z : ◌≡◌ {A = ℕ} 0 1 = cc in omega arith)
    go (kinds.words w) h e =
        let z : record { name = w; value = p.value } ≡ n = cc in
        record {
          word = ap kinds.as_word h ∙ ap (λ (n : Named Ends). pass n.name) z;
          is = sym z ∙ ap (λ (n : Named Ends). record { name = n.name; value = p.value }) z;
          anyway = ap (word_or (note_of p.key)) h ∙ ap (λ (n : Named Ends). n.name) z;
        }
    go (kinds.list l) h e = absurd (let z : ◌≡◌ {A = ℕ} 0 1 = cc in omega arith)
    go (kinds.mapping l) h e = absurd (let z : ◌≡◌ {A = ℕ} 0 1 = cc in omega arith)
    go kinds.null h e = absurd (let z : ◌≡◌ {A = ℕ} 0 1 = cc in omega arith)
    go kinds.another h e = absurd (let z : ◌≡◌ {A = ℕ} 0 1 = cc in omega arith)

-- ---------------------------------------------------------------- ten numbers, and twelve

pub ten-put : (t t₁ t₂ : List ℕ) (i a b c d e f g h j k : ℕ) → t₁ ≡ sets t i (a ∷ b ∷ c ∷ d ∷ e ∷ []) → t₂ ≡ sets t₁ (i + 5) (f ∷ g ∷ h ∷ j ∷ k ∷ [])
    → t₂ ≡ sets t i (a ∷ b ∷ c ∷ d ∷ e ∷ f ∷ g ∷ h ∷ j ∷ k ∷ [])
ten-put t t₁ t₂ i a b c d e f g h j k x y =
    y ∙ ap (λ t. sets t (i + 5) (f ∷ g ∷ h ∷ j ∷ k ∷ [])) x ∙ sym (laying.sets-append (a ∷ b ∷ c ∷ d ∷ e ∷ []) (f ∷ g ∷ h ∷ j ∷ k ∷ []) t i)

pub twelve-put : (t t₁ t₂ t₃ : List ℕ) (i a b c d e f g h j k l m : ℕ) → t₁ ≡ sets t i (a ∷ b ∷ c ∷ d ∷ e ∷ []) → t₂ ≡ sets t₁ (i + offset_column) (f ∷ g ∷ h ∷ j ∷ k ∷ [])
    → t₃ ≡ sets t₂ (i + entry_column) (l ∷ m ∷ []) → t₃ ≡ sets t i (a ∷ b ∷ c ∷ d ∷ e ∷ f ∷ g ∷ h ∷ j ∷ k ∷ l ∷ m ∷ [])
twelve-put t t₁ t₂ t₃ i a b c d e f g h j k l m x y z =
    z ∙ ap (λ t. sets t (i + entry_column) (l ∷ m ∷ [])) (ten-put t t₁ t₂ i a b c d e f g h j k x y)
    ∙ sym (laying.sets-append (a ∷ b ∷ c ∷ d ∷ e ∷ f ∷ g ∷ h ∷ j ∷ k ∷ []) (l ∷ m ∷ []) t i)

-- ---------------------------------------------------------------- a component that passes, as it is judged with its object's own code

record Own (layout format code start : ℕ) (n : Named Ends) (k : Component Ends) : Type 0 where
  own : Component Ends
  is : component (layout_of layout) start (given code) n ≡ pass own
  recoded : with_code (stored_as layout format (position role_names n.name.letters) own.dtype) own ≡ k

own_of : (layout format code start : ℕ) (n : Named Ends) (f : List ℕ) → format ≡ position format_names f → (layout ≡ 1 → code < 13) → (k : Component Ends)
    → component (layout_of layout) start (inherited f (given code) n.name.letters) n ≡ pass k → Own layout format code start n k
own_of layout format code start n f fm has k passes = go (component (layout_of layout) start (given code) n) refl (sym (stored-so start n layout format code f fm has) ∙ passes)
  where
    go : (c : Check (Component Ends)) → component (layout_of layout) start (given code) n ≡ c
        → map_check (λ c. with_code (stored_as layout format (position role_names n.name.letters) c.dtype) c) c ≡ pass k → Own layout format code start n k
    go (pass c) e h = record { own = c; is = e; recoded = pass_same h }
    go (refuse m i j) e h = absurd (let z : ◌≡◌ {A = ℕ} 0 1 = cc in omega arith)

-- ---------------------------------------------------------------- the row

-- beyond the table's end nothing is put
pub row-beyond : (layout format : ℕ) (s c : List ℕ) (v : Result Judged Refusal) (size end owner i : ℕ) (before : List ℕ) → length before ≤ i → RowPut layout format s c v size end owner i before before
row-beyond layout format s c v size end owner i before h code start says p d q r key value sized n name f fm has k passes = sym (laying.sets-out (row_in end owner k) before i h)

module _ (layout format : ℕ) (s c : List ℕ) (v : Result Judged Refusal) (size end owner i : ℕ) (before after : List ℕ) where
  pub no_row : (m : Refusal) → v ≡ Err m → RowPut layout format s c v size end owner i before after
  no_row m e code start says p d q r key value sized n name f fm has k passes =
      let so = named-pair p n name in
      let own = own_of layout format code start n f fm has k passes in
      let j : answered (Err m) ≡ judged (pass own.own) = sym (ap answered e) ∙ says p.value r value n.name ∙ ap judged (ap (component (layout_of layout) start (given code)) (sym so.is) ∙ own.is) in
      absurd (let z : ◌≡◌ {A = ℕ} 0 1 = cc in omega arith)

  pub a-row : (jd : Judged) → v ≡ Ok jd → (x y z w : Span) → TextSpanIs (Here s 0) end x → TextSpanAt (Here c 0) jd.kind end y → TextSpanAt (Here c 0) jd.digest end z → WholeFrom (Here c 0) size end w
      → (kept : ℕ) → StorageIs layout format s jd.code kept → length c * 1 < 2 ^ 63
      → after ≡ sets before i (twelve (spanned x) kept (spanned y) jd.offset jd.length (spanned z) owner (spanned w)) → RowPut layout format s c v size end owner i before after
  unfolding component_row
  a-row jd e x y z w sx sy sz sw kept stored lent put above start says p d q r key value sized n name f fm has k passes =
      let room : length c < FAULT = omega arith in
      let so = named-pair p n name in
      let A = inherited f (given above) n.name.letters in
      let own = own_of layout format above start n f fm has k passes in
      let is : component (layout_of layout) start A (record { name = n.name; value = p.value }) ≡ pass k = ap (component (layout_of layout) start A) (sym so.is) ∙ passes in
      let j : answered (Ok (record { code = jd.code; kind = jd.kind; offset = jd.offset; length = jd.length; digest = jd.digest })) ≡ judged (pass own.own) = sym (ap answered e) ∙ says p.value r value n.name ∙ ap judged (ap (component (layout_of layout) start (given above)) (sym so.is) ∙ own.is) in
      let kept-is : kept ≡ stored_as layout format (position role_names n.name.letters) jd.code =
      stored d p.key q key ∙ ap (λ w. stored_as layout format (position role_names w.letters) jd.code) so.anyway in
      let own_code : jd.code ≡ own.own.dtype = cc in
      let own-type : left_word own.own.type ≡ jd.kind = cc in
      let own-offset : jd.offset ≡ own.own.offset = cc in
      let own-length : jd.length ≡ own.own.length = cc in
      let own-digest : left_word own.own.digest ≡ jd.digest = cc in
      let code_is : kept ≡ k.dtype = kept-is ∙ ap (stored_as layout format (position role_names n.name.letters)) own_code ∙ ap (λ (c : Component Ends). c.dtype) own.recoded in
      let type-is : left_word k.type ≡ jd.kind = ap (λ (c : Component Ends). left_word c.type) (sym own.recoded) ∙ own-type in
      let offset-is : jd.offset ≡ k.offset = own-offset ∙ ap (λ (c : Component Ends). c.offset) own.recoded in
      let length-is : jd.length ≡ k.length = own-length ∙ ap (λ (c : Component Ends). c.length) own.recoded in
      let digest-is : left_word k.digest ≡ jd.digest = ap (λ (c : Component Ends). left_word c.digest) (sym own.recoded) ∙ own-digest in
      let a : spanned x ≡ span_of_word end k.name =
      subst (λ u. TextSpanIs u end x) (part_to_end s 0) sx d p.key q key n.name so.word ∙ ap (span_of_word end) (named-so c room p.value r value (layout_of layout) A start n.name k is) in
      let b : spanned y ≡ span_of_option end k.type =
      subst (λ u. TextSpanAt u jd.kind end y) (part_to_end c 0) sy k.type (type_at c room p.value r value (layout_of layout) A start n.name k is) type-is in
      let f : spanned z ≡ span_of_option end k.digest =
      subst (λ u. TextSpanAt u jd.digest end z) (part_to_end c 0) sz k.digest (digest-at c room p.value r value (layout_of layout) A start n.name k is) digest-is in
      let m : spanned w ≡ span_of end k.entry =
      (subst (λ u. WholeFrom u size end w) (part_to_end c 0) sw).is 28 p.value r value sized ∙ ap (span_of end) (entered_so c room p.value r value (layout_of layout) A start n.name k is) in
      let same : twelve (spanned x) kept (spanned y) jd.offset jd.length (spanned z) owner (spanned w) ≡ row_in end owner k =
      ap (λ u. twelve u kept (spanned y) jd.offset jd.length (spanned z) owner (spanned w)) a
      ∙ ap (λ u. twelve (span_of_word end k.name) kept u jd.offset jd.length (spanned z) owner (spanned w)) b
      ∙ ap (λ u. twelve (span_of_word end k.name) kept (span_of_option end k.type) jd.offset jd.length u owner (spanned w)) f
      ∙ ap (λ u. twelve (span_of_word end k.name) kept (span_of_option end k.type) jd.offset jd.length (span_of_option end k.digest) owner u) m
      ∙ (rw (code_is, offset-is, length-is) refl) in
      put ∙ ap (sets before i) same
