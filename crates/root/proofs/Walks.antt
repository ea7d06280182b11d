-- The walk over a root: one value of its map, a branch each; its loop, which is that of every walk that keeps one field; and the whole value, lent whole to
-- `walk::map`, which answered x.
use Prim.Native.Nat.{ℕ, ◌+◌, ◌-◌, ◌*◌, ◌^◌, ◌≤◌, ◌<◌}
use native.Mathlib.Omega.{arith}
use mathlib.Core.List.{List}
use mathlib.Core.Bool.{Bool, true}
use mathlib.Core.Path.{◌≡◌, refl, sym, ◌∙◌, subst}
use lib.ListN.{length, get_or, drop, replicate}
use borrow.Author.Rules.{part_to_end}
use Rattle.meaning.specs.Check.{pass, fault}
use Rattle.meaning.specs.Refusal.{KIND}
use Rattle.meaning.specs.Kind.{mapping, a_mapping, as_mapping}
use Rattle.meaning.specs.Layouts.{Layout, layout_of, slot, objects_at}
use Rattle.meaning.specs.Field.{root_fields, fields, field}
use Rattle.meaning.specs.Judge.{objects_of, judge}
use Rattle.cbor.specs.Ending.{code, item_end, rest}
use Rattle.types.specs.Known.{field_at}
use Rattle.types.proofs.Codes.{field-most}
use Rattle.walk.specs.Places.{MapIs, Modes, EntryIs, TextIs}
use Rattle.walk.specs.declared.Entry.{Entry}
use Rattle.walk.specs.declared.Entry.TheVariants.{End, Value}
use Rattle.walk.specs.declared.Letters.{Letters}
use Rattle.walk.specs.declared.Opening.{Opening}
use Rattle.walk.proofs.Passed as passed
use Rattle.walk.proofs.Opens as opens
use Rattle.fields.specs.Slots.{SlotIs, Holds}
use Rattle.fields.proofs.Stands.{field-stands, holds-whole}
use Rattle.fields.proofs.Texts as texts
use Rattle.fields.proofs.Texts.{Here, letters}
use Rattle.fields.proofs.FieldLoop as keeping
use Rattle.objects.specs.declared.Found.{Found}
use Rattle.objects.specs.Found.{judging, objects_by, ObjectsIs}
use Rattle.root.specs.declared.Judged.{Judged}
use Rattle.root.specs.Walk.{Says, Walked, ValueIs}
use Rattle.root.specs.Verdict.{judge_by, judged, VerdictIs, WholeIs, RootIs, ObjectsAt}
use Rattle.std.specs.Prelude.{Some, None, Err, Result, Option}
use Rattle.numbers.specs.declared.fault.FileFault.{FileFault}
use Rattle.numbers.specs.declared.refusal.Refusal.TheVariants as refusals

-- ---------------------------------------------------------------- one value

module _ {k seen : ℕ} where
  pub first-objects : k ≡ 2 → seen ≡ 0 → (deep : Bool) (L : Layout) (start : ℕ) (c : List ℕ) (found found' : Result Found FileFault) → ObjectsIs deep L (Here c 0) start found' → ValueIs deep L start k seen c found found'
  first-objects a b deep L start c found found' h = record { first = λ x y. subst (λ u. ObjectsIs deep L u start found') (part_to_end c 0) h; other = λ n. absurd (n a b) }

  pub other-value : (k ≡ 2 → seen ≡ 0 → ⊥) → (deep : Bool) (L : Layout) (start : ℕ) (c : List ℕ) (found : Result Found FileFault) → ValueIs deep L start k seen c found found
  other-value n deep L start c found = record { first = λ x y. absurd (n x y); other = λ n. refl }

-- ---------------------------------------------------------------- the loop

objects-known : objects_at < 3
objects-known = omega arith

-- the slot of the key that begins s, lent whole to `walk::text`, which answered l
module _ (layout : ℕ) where
  pub slot-few : (k : ℕ) (u : List ℕ) → k ≡ field_at (layout_of layout).root u → k ≤ 4
  slot-few k u is = omega (arith, field-most (layout_of layout).root u, (layout_of layout).root_places)

  module _ (s : List ℕ) (l : Option Letters) (h : TextIs (Here s 0) l) where
    pub slot-odd : l ≡ None → SlotIs (layout_of layout).root s 4
    slot-odd e = texts.slot-odd s l h e (layout_of layout).root 3 (layout_of layout).root_places

    pub slot-known : (at n : ℕ) (e : l ≡ Some (record { at = at; size = n })) (k : ℕ) → k ≡ field_at (layout_of layout).root (letters s l h at n e) → SlotIs (layout_of layout).root s k
    slot-known at n e k is = (texts.slot-known s l h at n e (layout_of layout).root 3 (layout_of layout).root_places k is).1

-- up to `at`, with n items due, the slots p and what was found
abbrev pub Looping : Bool → Layout → ℕ → ℕ → ℕ → List ℕ → ℕ → ℕ → List ℕ → Result Found FileFault → Type 0
Looping deep L start = keeping.Looping L.root 3 objects_at (Says deep L start) 30

module _ (deep : Bool) (layout start : ℕ) {mode count : ℕ} {s : List ℕ} where
  pub loop-starts : {p : List ℕ} {found : Result Found FileFault} → Modes mode count → length s * 1 < 2 ^ 63 → p ≡ replicate 6 0 → Looping deep (layout_of layout) start mode count s 0 count p found
  loop-starts modes lent e = keeping.loop-starts (layout_of layout).root_places objects-known (layout_of layout).root_apart modes (omega arith) e

  module _ {at n : ℕ} {p : List ℕ} {found : Result Found FileFault} (w : Looping deep (layout_of layout) start mode count s at n p found) {x : Entry} (h : EntryIs 31 mode n (Here s at) x) where
    module _ {e : ℕ} (is : x ≡ End e) where
      pub entries-end-inside : e ≤ length s - at → at + e ≡ code (rest mode count 31 s)
      entries-end-inside l = (keeping.ends-inside w h is l).0

      pub entries-end-faulty : length s - at < e → e ≡ code (rest mode count 31 s)
      entries-end-faulty l = (keeping.ends-faulty w h is l).0

      pub all_noted : Walked deep (layout_of layout) start mode count s p found
      all_noted ps r d = (passed.holds-of-all w.walking h is ps r d).noted

    pub none-noted : {k : ℕ} → x ≡ Value k → {e : ℕ} → e ≡ code (item_end 31 (Here s (at + k))) → length s - (at + k) < e → (found' : Result Found FileFault) → Walked deep (layout_of layout) start mode count s p found'
    none-noted is ended l found' = passed.no_pairs w.walking h is ended l _

-- ---------------------------------------------------------------- the whole value

-- where the whole ends, if its entries end so
module _ (c : List ℕ) (lent : length c * 1 < 2 ^ 63) (x : Option Opening) (h : MapIs (Here c 0) x) (op : Opening) (is : x ≡ Some op)
    (e : ℕ) (passed : e ≡ code (rest op.mode op.count 31 (Here c op.size))) where
  pub ends-inside : e ≤ length c - op.size → op.size + e ≡ code (item_end 32 c)
  ends-inside = opens.ends-inside c x h op is 31 lent e passed

  pub ends-faulty : length c - op.size < e → e ≡ code (item_end 32 c)
  ends-faulty = opens.ends-faulty c x h op is 31 lent e passed

module _ (deep : Bool) (L : Layout) (c : List ℕ) (start : ℕ) (x : Option Opening) (h : MapIs (Here c 0) x) where
  pub no-map : x ≡ None → (k : FileFault) → k ≡ record { refusal = refusals.Kind; object = 0; component = 0 } → WholeIs deep L c start (Err k)
  unfolding judge_by root_fields fields
  no-map e k is-k t q r = rw is-k (rw (opens.opening c x h None e 31 t q r) refl)

  pub entries-judged : (op : Opening) → x ≡ Some op → (p : List ℕ) (found : Result Found FileFault) → Walked deep L start op.mode op.count (Here c op.size) p found
      → (v : Result Judged FileFault) → VerdictIs (Here c op.size) p found v → WholeIs deep L c start v
  entries-judged op is p found walked v judged t q r =
      let m = (opens.opened c x h op is).trees 31 t q r in
      let w = subst (λ u. Walked deep L start op.mode op.count u p found) (part_to_end c op.size) walked m.pairs m.last m.due in
      subst (λ u. VerdictIs u p found v) (part_to_end c op.size) judged deep L start 30 m.pairs m.last m.due.chain w t m.kind-is

  pub no-objects : x ≡ None → ObjectsAt L c 0
  unfolding a_mapping as_mapping
  no-objects e t q r ps is =
      let z : pass ps ≡ fault KIND = (rw is refl) ∙ opens.opening c x h None e 31 t q r in
      absurd (let y : ◌≡◌ {A = ℕ} 0 1 = cc in omega arith)

  pub objects-stand : (op : Opening) → x ≡ Some op → (p : List ℕ) (found : Result Found FileFault) → Walked deep L start op.mode op.count (Here c op.size) p found → (left : ℕ) → left ≡ get_or p 2 0 → ObjectsAt L c left
  objects-stand op is p found walked left e t q r ps kt =
      let o = opens.opened c x h op is in
      let m = o.trees 31 t q r in
      let z : mapping m.pairs ≡ mapping ps = sym m.kind-is ∙ kt in
      let y : m.pairs ≡ ps = cc in
      let w = subst (λ u. Walked deep L start op.mode op.count u p found) (part_to_end c op.size) walked m.pairs m.last m.due in
      let f = field-stands L.root 3 L.root_places 31 (drop op.size c) m.pairs m.last m.due.chain p w.0 L.root_apart objects_at objects-known in
      holds-whole 31 c op.size o.within left (field (slot objects_at L.root) ps) (subst (λ l. Holds 31 (drop op.size c) l (field (slot objects_at L.root) ps)) (sym e) (subst (λ ps. Holds 31 (drop op.size c) (get_or p 2 0) (field (slot objects_at L.root) ps)) y f))

-- ---------------------------------------------------------------- all judged, or the names alone

module _ (L : Layout) (c : List ℕ) (start : ℕ) where
  abbrev Told : (List ℕ → Result Judged FileFault → Type 0) → ℕ → Result Judged FileFault → ℕ → List ℕ → Type 0
  Told Is e v left s = (e ≡ code (item_end 32 s)) × Is s v × ObjectsAt L s left

  all-judged : (s : List ℕ) (v : Result Judged FileFault) → WholeIs true L s start v → RootIs L s start v
  unfolding judge_by objects_by judging judge objects_of
  all-judged s v h = h

  pub judged-whole : (e : ℕ) (v : Result Judged FileFault) (left : ℕ) → Told (λ s v. WholeIs true L s start v) e v left (Here c 0) → Told (λ s v. RootIs L s start v) e v left c
  judged-whole e v left h = let k = subst (Told (λ s v. WholeIs true L s start v) e v left) (part_to_end c 0) h in (k.0, all-judged c v k.1, k.2)

  pub opened-whole : (deep : Bool) (e : ℕ) (v : Result Judged FileFault) (left : ℕ) → Told (λ s v. WholeIs deep L s start v) e v left (Here c 0) → Told (λ s v. WholeIs deep L s start v) e v left c
  opened-whole deep e v left h = subst (Told (λ s v. WholeIs deep L s start v) e v left) (part_to_end c 0) h
