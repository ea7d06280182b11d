-- What a root is made of that passes up to its objects, whatever is then asked of these; and where its fields stand.
use Prim.Native.Nat.{ℕ, ◌-◌, ◌<◌}
use native.Mathlib.Omega.{arith}
use mathlib.Core.List.{List}
use mathlib.Core.Option.{Option, none, some}
use mathlib.Core.Path.{◌≡◌, refl, sym, ap, ◌∙◌, subst}
use lib.ListN.{length, drop}
use lib.Dec.{leb}
use Rattle.meaning.specs.Refusal.{KEY, TWICE}
use Rattle.meaning.specs.Tree.{Node, Pair, note_of}
use Rattle.meaning.specs.Text.{all}
use Rattle.meaning.specs.Check.{Check, pass, ◌>>=◌, ◌>>◌, ◌unless◌, required, optional}
use Rattle.meaning.specs.Model.{RootFields}
use Rattle.meaning.specs.Kind.{kind, mapping, a_mapping, as_mapping}
use Rattle.meaning.specs.Layouts.{Layout, slot, somes, objects_at}
use Rattle.meaning.specs.Field.{is_some, key_of, count, field, fields, root_fields}
use Rattle.meaning.specs.Judge.{attributes_of, a_version}
use Rattle.meaning.proofs.Checks.{pass_same, required-some, passed_on, passed}
use Rattle.meaning.proofs.KindIs.{table-kind, attributes-stay}
use Rattle.cbor.specs.Ending.{FAULT}
use Rattle.walk.specs.Reading.{Ends, Reads, left_at}
use Rattle.walk.proofs.Chains.{ate}
use Rattle.walk.proofs.ReadSays.{note-of}
use Rattle.fields.specs.Slots.{Holds}
use Rattle.fields.proofs.Stands.{field-found-stands, holds-whole}
use Rattle.table.proofs.Lettered.{pairs-chained}

-- the place of the attributes in a root's list
abbrev pub attributes_at : ℕ
attributes_at = 1

module _ {A : Type 0} (L : Layout) (t : Node Ends) (ask : Option (Node Ends) → Node Ends → Check A) (a : A) where
  pub record Rooted : Type 0 where
    pub pairs : List (Pair Ends)
    pub kind-is : kind t ≡ mapping pairs
    pub objects : Node Ends
    pub objects-there : field (slot objects_at L.root) pairs ≡ some objects
    pub then : ask (field (slot attributes_at L.root) pairs) objects ≡ pass a

  abbrev asked : Check A
  asked = do
    r ← root_fields L.root t
    version ← required r.version
    a_version version
    attributes ← optional attributes_of r.attributes
    objects ← required r.objects
    ask attributes objects

  pub rooted : asked ≡ pass a → Rooted
  unfolding root_fields fields a_mapping
  rooted e =
      let root = passed (root_fields L.root t) _ a e in
      let version = passed (required root.value.version) _ a root.then in
      let attributes = passed (optional attributes_of root.value.attributes) _ a (passed_on (a_version version.value) _ a version.then) in
      let objects = passed (required root.value.objects) _ a attributes.then in
      let listed = passed (fields L.root t) _ root.value root.is in
      let mapped = passed (as_mapping (kind t)) _ listed.value listed.is in
      let keyed = passed_on (KEY unless all (λ p. is_some (key_of p)) mapped.value) _ listed.value mapped.then in
      let pairs : mapped.value ≡ listed.value = pass_same (passed_on (TWICE unless all (λ n. leb (count n mapped.value) 1) (somes L.root)) _ listed.value keyed) in
      let fields = pass_same listed.then in
      let as-they-stand = attributes-stay root.value.attributes attributes.value attributes.is ∙ sym (ap (λ (r : RootFields Ends). r.attributes) fields) in
      record {
        pairs = listed.value;
        kind-is = table-kind (kind t) listed.value (mapped.is ∙ ap pass pairs);
        objects = objects.value;
        objects-there = ap (λ (r : RootFields Ends). r.objects) fields ∙ required-some root.value.objects objects.value objects.is;
        then = subst (λ (o : Option (Node Ends)). ask o objects.value ≡ pass a) as-they-stand objects.then;
      }

-- a field stands in the bytes of its map
pub field-holds : (m : List ℕ) → length m < FAULT → (t : Node Ends) (q : List ℕ) → Reads 32 m t q → (ps : List (Pair Ends)) → kind t ≡ mapping ps → (name : Option (List ℕ)) (o : Option (Node Ends))
    → field name ps ≡ o → Holds 31 m (left_at o) o
field-holds m room t q e ps is name none g = refl
field-holds m room t q e ps is name (some x) g =
    let h = pairs-chained 31 m room t q e ps is in
    let s = field-found-stands 31 (drop h.at m) name ps 0 (omega arith) h.last h.chain x g in
    let from : List ℕ = drop (length (drop h.at m) - length (note_of x).start) (drop h.at m) in
    let a = ate 31 from x s.rest s.reads in
    let n = ap (λ (e : Ends). length e.start) (note-of 31 from x s.rest s.reads) in
    let i = a.some in let j = a.fits in
    holds-whole 31 m h.at h.within (length (note_of x).start) (some x) (omega arith, s)
