-- A component that passes: where its type and its digest come from.
use Prim.Native.Nat.{ℕ, ◌+◌, ◌%◌}
use mathlib.Core.List.{List}
use mathlib.Core.Path.{◌≡◌, ap, sym, ◌∙◌}
use Rattle.meaning.specs.Tree.{Node, Pair, note_of}
use Rattle.meaning.specs.Check.{Check, pass, ◌unless◌, required, required_in, optional, ◌>>=◌, ◌>>◌}
use mathlib.Core.Bool.{◌&&◌}
use mathlib.Core.Option.{Option}
use lib.Dec.{leb, eqb}
use Rattle.meaning.specs.Text.{all}
use Rattle.meaning.specs.Model.{Word, Named, Component, ComponentFields}
use Rattle.meaning.specs.Kind as kinds
use Rattle.meaning.specs.Kind.{kind, present}
use Rattle.meaning.specs.Refusal.{KEY, TWICE, ALIGN, BOUNDS}
use Rattle.meaning.specs.Limit.{alignment}
use Rattle.meaning.specs.Layouts.{Slots, slot, somes, Layout, dtype_at}
use Rattle.meaning.specs.Field.{component_fields, fields, field, count, is_some, key_of}
use Rattle.meaning.specs.Judge.{or_else, component, a_dtype, a_type, raw}
use Rattle.meaning.proofs.Checks.{pass_same, passed_on, passed}
use Rattle.meaning.proofs.KindIs.{table-kind}
use Rattle.walk.specs.Reading.{Ends}

fielded : (slots : Slots) (t : Node Ends) (ps : List (Pair Ends)) → fields slots t ≡ pass ps → kind t ≡ kinds.mapping ps
unfolding fields kinds.a_mapping
fielded slots t ps e =
    let b = passed (kinds.as_mapping (kind t)) _ ps e in
    let u = passed_on (KEY unless all (λ p. is_some (key_of p)) b.value) _ ps b.then in
    let v : pass b.value ≡ pass ps = passed_on (TWICE unless all (λ n. leb (count n b.value) 1) (somes slots)) _ ps u in
    table-kind (kind t) ps (b.is ∙ v)

pub record TextsFrom (L : Layout) (n : Named Ends) (k : Component Ends) : Type 0 where
  pub named : n.name ≡ k.name
  pub pairs : List (Pair Ends)
  pub kind-is : kind n.value ≡ kinds.mapping pairs
  pub typed : optional (a_type k.dtype) (present (field (slot 1 L.component) pairs)) ≡ pass k.type
  pub digested : optional kinds.a_text (present (field (slot 6 L.component) pairs)) ≡ pass k.digest
  pub entered : note_of n.value ≡ k.entry

-- what is asked of a component's fields, once they are found
abbrev asked : Layout → ℕ → Option ℕ → Word Ends → Ends → ComponentFields Ends → Check (Component Ends)
asked L start above n e c = do
  dtype ← required_in (slot dtype_at L.component) c.dtype
  offset ← required c.offset
  length ← required c.length
  own ← optional (a_dtype L) dtype
  d ← required (or_else own above)
  t ← optional (a_type d) (present c.type)
  o ← kinds.a_number offset
  l ← kinds.a_number length
  optional kinds.a_number (present c.uncompressed-length)
  optional raw c.encoding
  g ← optional kinds.a_text (present c.digest)
  ALIGN unless eqb (o % alignment) 0
  BOUNDS unless (leb alignment o && leb (o + l) start)
  pass (record { name = n; dtype = d; type = t; offset = o; length = l; digest = g; entry = e })

record Texts (n : Word Ends) (e : Ends) (c : ComponentFields Ends) (k : Component Ends) : Type 0 where
  named : n ≡ k.name
  typed : optional (a_type k.dtype) (present c.type) ≡ pass k.type
  digested : optional kinds.a_text (present c.digest) ≡ pass k.digest
  entered : e ≡ k.entry

texts-of : (L : Layout) (start : ℕ) (above : Option ℕ) (n : Word Ends) (entry : Ends) (c : ComponentFields Ends) (k : Component Ends) → asked L start above n entry c ≡ pass k → Texts n entry c k
texts-of L start above n entry c k e =
    let b = passed (required_in (slot dtype_at L.component) c.dtype) _ k e in
    let x = passed (required c.offset) _ k b.then in
    let y = passed (required c.length) _ k x.then in
    let own = passed (optional (a_dtype L) b.value) _ k y.then in
    let g = passed (required (or_else own.value above)) _ k own.then in
    let h = passed (optional (a_type g.value) (present c.type)) _ k g.then in
    let i = passed (kinds.a_number x.value) _ k h.then in
    let j = passed (kinds.a_number y.value) _ k i.then in
    let l = passed_on (optional kinds.a_number (present c.uncompressed-length)) _ k j.then in
    let m = passed_on (optional raw c.encoding) _ k l in
    let o = passed (optional kinds.a_text (present c.digest)) _ k m in
    let p = passed_on (ALIGN unless eqb (i.value % alignment) 0) _ k o.then in
    let whole = pass_same (passed_on (BOUNDS unless (leb alignment i.value && leb (i.value + j.value) start)) _ k p) in
    let code : g.value ≡ k.dtype = ap (λ (c : Component Ends). c.dtype) whole in
    record {
      named = ap (λ (c : Component Ends). c.name) whole;
      typed = ap (λ d. optional (a_type d) (present c.type)) (sym code) ∙ h.is ∙ ap (λ (c : Component Ends). pass c.type) whole;
      digested = o.is ∙ ap (λ (c : Component Ends). pass c.digest) whole;
      entered = ap (λ (c : Component Ends). c.entry) whole;
    }

pub texts-from : (L : Layout) (start : ℕ) (above : Option ℕ) (n : Named Ends) (k : Component Ends) → component L start above n ≡ pass k → TextsFrom L n k
unfolding component component_fields
texts-from L start above n k e =
    let c = passed (component_fields L.component n.value) (asked L start above n.name (note_of n.value)) k e in
    let a = passed (fields L.component n.value) _ c.value c.is in
    let same = pass_same a.then in
    let t = texts-of L start above n.name (note_of n.value) c.value k c.then in
    record {
      named = t.named;
      pairs = a.value;
      kind-is = fielded L.component n.value a.value a.is;
      typed = ap (λ (c : ComponentFields Ends). optional (a_type k.dtype) (present c.type)) same ∙ t.typed;
      digested = ap (λ (c : ComponentFields Ends). optional kinds.a_text (present c.digest)) same ∙ t.digested;
      entered = t.entered;
    }
