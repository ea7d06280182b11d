-- A component that passes: the letters of its type and of its digest stand where its verdict says.
use Prim.Native.Nat.{ℕ, suc, ◌+◌, ◌-◌, ◌≤◌, ◌<◌}
use native.Mathlib.Omega.{arith}
use mathlib.Core.List.{List}
use mathlib.Core.Bool.{Bool, true, false, cond}
use mathlib.Core.Logic.{⊎_elim}
use lib.Dec.{eqb}
use mathlib.Core.Option.{Option, none, some}
use mathlib.Core.Path.{◌≡◌, refl, ap, sym, ◌∙◌, subst}
use lib.ListN.{length, get_or, drop, length-drop}
use lib.Seq.{drop-drop}
use Rattle.meaning.specs.Tree as tree
use Rattle.meaning.specs.Tree.{Node, Pair, note_of}
use Rattle.meaning.specs.Check.{Check, pass, fault, ◌unless◌, optional}
use Rattle.meaning.specs.Text.{utf8}
use Rattle.meaning.specs.Refusal.{KIND, TEXT, TYPE}
use Rattle.meaning.specs.Model.{Word, Component}
use Rattle.meaning.specs.Kind as kinds
use Rattle.meaning.specs.Kind.{Kind, kind, present, present_kind}
use Rattle.meaning.specs.Field.{field}
use Rattle.meaning.specs.Layouts.{slot, Layout}
use Rattle.meaning.specs.Types.{fits_over, listed, logicals}
use Rattle.meaning.specs.Judge.{component, a_type}
use Rattle.meaning.proofs.Checks.{pass_same, passed_on, passed}
use Rattle.cbor.specs.Ending.{FAULT, head_of}
use Rattle.endian.proofs.Which.{eq-or, lt-or}
use Rattle.walk.specs.Reading.{Ends, Reads, Chain}
use Rattle.walk.specs.Places.{OpenMap}
use Rattle.walk.proofs.Maps as maps
use Rattle.walk.proofs.ReadSays.{nothing_read}
use Rattle.walk.proofs.Chains.{ate}
use Rattle.fields.proofs.Stands.{field-found-stands}
use Rattle.table.specs.WordAt.{WordAt, bare, lettered}
use Rattle.table.proofs.Typed.{TextsFrom, texts-from}

-- ---------------------------------------------------------------- the pairs of a map stand in its bytes

pub record Chained (d : ℕ) (s : List ℕ) (ps : List (Pair Ends)) : Type 0 where
  pub at : ℕ
  pub within : at ≤ length s
  pub last : List ℕ
  pub chain : Chain d (drop at s) ps last

module _ (d : ℕ) (s : List ℕ) (room : length s < FAULT) (t : Node Ends) (r : List ℕ) (e : Reads (suc d) s t r) (ps : List (Pair Ends)) (is : kind t ≡ kinds.mapping ps) where
  a-map : kinds.a_mapping t ≡ pass ps
  unfolding kinds.a_mapping kinds.as_mapping
  a-map = rw is refl

  opened : {mode count size : ℕ} → OpenMap s mode count size → Chained d s ps
  opened {mode} {count} {size} o =
      let m = o.trees d t r e in
      let z : kinds.mapping m.pairs ≡ kinds.mapping ps = sym m.kind-is ∙ is in
      let y : m.pairs ≡ ps = cc in
      record { at = size; within = o.within; last = m.last; chain = subst (λ ps. Chain d (drop size s) ps m.last) y m.due.chain }

  here : 1 ≤ length s → 160 ≤ get_or s 0 0 → get_or s 0 0 < 192 → Chained d s ps
  here l x y = ⊎_elim (λ n. absurd (maps.no-head s l n d t r e)) (λ f. fits (f)) (lt-or (length s) (head_of s).size)
    where
      fits : (head_of s).size ≤ length s → Chained d s ps
      fits f = ⊎_elim (λ b. opened (maps.map-broken s l room b f)) (λ b. opened (maps.map-counted s l room x y b f)) (eq-or (get_or s 0 0) 191)

  pub pairs-chained : Chained d s ps
  pairs-chained = ⊎_elim (λ l. absurd (nothing_read d s t r (omega arith) e)) (λ l. ⊎_elim (λ x. absurd (not-here (λ _ y z. omega arith)))
      (λ x. ⊎_elim (λ y. here l x y) (λ y. absurd (not-here (λ _ z w. omega arith))) (lt-or (get_or s 0 0) 192)) (lt-or (get_or s 0 0) 160)) (lt-or (length s) 1)
    where
      not-here : (1 ≤ length s → 160 ≤ get_or s 0 0 → get_or s 0 0 < 192 → ⊥) → ⊥
      not-here n = let z : pass ps ≡ fault KIND = sym a-map ∙ maps.no-map s n d t r e in let y : ◌≡◌ {A = ℕ} 0 1 = cc in omega arith

-- ---------------------------------------------------------------- a word's own annotation

pub word-note : (t : Node Ends) (w : Word Ends) → kinds.a_word t ≡ pass w → w.note ≡ note_of t
unfolding kinds.a_word kinds.as_word kind
word-note (tree.uint p n) w e = absurd (let z : ◌≡◌ {A = ℕ} 0 1 = cc in omega arith)
word-note (tree.nint p n) w e = absurd (let z : ◌≡◌ {A = ℕ} 0 1 = cc in omega arith)
word-note (tree.bytes p b) w e = absurd (let z : ◌≡◌ {A = ℕ} 0 1 = cc in omega arith)
word-note (tree.text p b) w e = ap (λ (w : Word Ends). w.note) (sym (pass_same e))
word-note (tree.chunked_bytes p b) w e = absurd (let z : ◌≡◌ {A = ℕ} 0 1 = cc in omega arith)
word-note (tree.chunked_text p b) w e = absurd (let z : ◌≡◌ {A = ℕ} 0 1 = cc in omega arith)
word-note (tree.array p n) w e = absurd (let z : ◌≡◌ {A = ℕ} 0 1 = cc in omega arith)
word-note (tree.dict p n) w e = absurd (let z : ◌≡◌ {A = ℕ} 0 1 = cc in omega arith)
word-note (tree.tag p n t) w e = absurd (let z : ◌≡◌ {A = ℕ} 0 1 = cc in omega arith)
word-note (tree.simple p n) w e = go (eqb n 22) e
  where
    go : (b : Bool) → kinds.as_word (cond b kinds.null kinds.another) ≡ pass w → w.note ≡ p
    go true e = absurd (let z : ◌≡◌ {A = ℕ} 0 1 = cc in omega arith)
    go false e = absurd (let z : ◌≡◌ {A = ℕ} 0 1 = cc in omega arith)
word-note (tree.float p w b) v e = absurd (let z : ◌≡◌ {A = ℕ} 0 1 = cc in omega arith)

pub text-word : (t : Node Ends) (w : Word Ends) → kinds.a_text t ≡ pass w → kinds.a_word t ≡ pass w
unfolding kinds.a_text
text-word t w e =
    let c = passed (kinds.a_word t) _ w e in
    let g = passed_on (TEXT unless utf8 c.value.letters) (pass c.value) w c.then in
    c.is ∙ g

type-word : (d : ℕ) (t : Node Ends) (w : Word Ends) → a_type d t ≡ pass w → kinds.a_word t ≡ pass w
unfolding a_type
type-word d t w e =
    let a = passed (kinds.a_text t) _ w e in
    let b = passed_on (TYPE unless fits_over d (listed logicals a.value.letters)) (pass a.value) w a.then in
    text-word t w (a.is ∙ b)

present-kind : (u : Node Ends) (k : Kind Ends) (t : Node Ends) → present_kind u k ≡ some t → some u ≡ some t
unfolding present_kind
present-kind u (kinds.number n) t e = e
present-kind u (kinds.words w) t e = e
present-kind u (kinds.list l) t e = e
present-kind u (kinds.mapping l) t e = e
present-kind u kinds.null t e = absurd (let z : ◌≡◌ {A = ℕ} 0 1 = cc in omega arith)
present-kind u kinds.another t e = e

presence : (o : Option (Node Ends)) (t : Node Ends) → present o ≡ some t → o ≡ some t
unfolding present
presence none t e = absurd (let z : ◌≡◌ {A = ℕ} 0 1 = cc in omega arith)
presence (some u) t e = present-kind u (kind u) t e

-- ---------------------------------------------------------------- the type and the digest of a component

module _ (c : List ℕ) (room : length c < FAULT) (x : Node Ends) (q : List ℕ) (e : Reads 28 c x q) (L : Layout) (above : Option ℕ) (start : ℕ) (n : Word Ends) (k : Component Ends)
    (is : component L start above (record { name = n; value = x }) ≡ pass k) where
  from : TextsFrom L (record { name = n; value = x }) k
  from = texts-from L start above (record { name = n; value = x }) k is

  pub named-so : n ≡ k.name
  named-so = from.named

  pub entered_so : note_of x ≡ k.entry
  entered_so = from.entered

  -- the value of a field that is a text stands in c
  some_word : (i : ℕ) (o : Option (Word Ends)) (t : Node Ends) → field (slot i L.component) from.pairs ≡ some t → (w : Word Ends) → kinds.a_word t ≡ pass w → o ≡ some w → WordAt c o
  some_word i o t g w word typed =
      let h = pairs-chained 27 c room x q e from.pairs from.kind-is in
      let s = field-found-stands 27 (drop h.at c) (slot i L.component) from.pairs 0 (omega arith) h.last h.chain t g in
      let i = h.within in let j = s.within in
      let note : note_of t ≡ w.note = sym (word-note t w word) in
      let left : length (note_of t).start ≡ length w.note.start = ap (λ (p : Ends). length p.start) note in
      let z : h.at + (length (drop h.at c) - length (note_of t).start) ≡ length c - length w.note.start = omega (arith, length-drop h.at c) in
      let u : drop (length (drop h.at c) - length (note_of t).start) (drop h.at c) ≡ drop (length c - length w.note.start) c = drop-drop _ h.at c ∙ ap (λ i. drop i c) z in
      let r : Reads 27 (drop (length c - length w.note.start) c) t s.rest = subst (λ u. Reads 27 u t s.rest) u s.reads in
      let a = ate 27 (drop (length c - length w.note.start) c) t s.rest r in
      lettered w typed 26 t (omega (arith, a.some, a.fits, length-drop (length c - length w.note.start) c), record { rest = s.rest; within = omega (arith, length-drop h.at c); left_is = sym left; reads = r }) word

  -- a check F of such a field, which passes only words
  word_at : (i : ℕ) (F : Node Ends → Check (Word Ends)) → ((t : Node Ends) (w : Word Ends) → F t ≡ pass w → kinds.a_word t ≡ pass w) → (o : Option (Word Ends))
      → optional F (present (field (slot i L.component) from.pairs)) ≡ pass o → WordAt c o
  word_at i F words o = go (present (field (slot i L.component) from.pairs)) refl
    where
      go : (p : Option (Node Ends)) → present (field (slot i L.component) from.pairs) ≡ p → optional F p ≡ pass o → WordAt c o
      go none h t = bare (sym (pass_same t))
      go (some u) h t =
          let p = passed (F u) (λ b. pass (some b)) o t in
          some_word i o u (presence (field (slot i L.component) from.pairs) u h) p.value (words u p.value p.is) (sym (pass_same p.then))

  pub type_at : WordAt c k.type
  type_at = word_at 1 (a_type k.dtype) (type-word k.dtype) k.type from.typed

  pub digest-at : WordAt c k.digest
  digest-at = word_at 6 kinds.a_text text-word k.digest from.digested
