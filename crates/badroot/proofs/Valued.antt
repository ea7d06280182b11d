-- The version, the attributes and the objects of a root, a branch each.
use Prim.Native.Nat.{ℕ, suc, ◌-◌, ◌<◌}
use mathlib.Core.List.{List, ◌++◌}
use mathlib.Core.Bool.{Bool, true, false, cond}
use mathlib.Core.Option.{Option, some}
use mathlib.Core.Path.{◌≡◌, refl, ap, sym, ◌∙◌, subst}
use native.Mathlib.Omega.{arith}
use lib.ListN.{length, get_or, drop}
use borrow.Author.Rules.{part_to_end}
use Rattle.meaning.specs.Tree.{Node, Pair, note_of}
use Rattle.meaning.specs.Check.{Check, pass, fault, optional}
use Rattle.meaning.specs.Refusal.{KIND, MISSING, VERSION, MAJOR}
use Rattle.meaning.specs.Limit.{object_limit}
use Rattle.meaning.specs.Version.{version_shape, major_one}
use Rattle.meaning.specs.Kind.{a_word}
use Rattle.meaning.specs.Layouts.{Layout}
use Rattle.meaning.specs.Field.{is_some, field}
use Rattle.meaning.specs.Judge.{attributes_of, a_version}
use Rattle.walk.specs.Reading.{Ends, Reads}
use Rattle.walk.specs.Places.{TextIs}
use Rattle.walk.specs.declared.Letters.{Letters}
use Rattle.walk.proofs.Passed.{Here}
use Rattle.walk.proofs.ReadSays.{note-of}
use Rattle.fields.specs.Attributes.{AttributesAt}
use Rattle.fields.proofs.Stands.{Item, hold-none, hold-some}
use Rattle.fields.proofs.Texts.{no_word, word, letters}
use Rattle.explained.specs.Fields.{root, version_of, attributes_on, objects_field}
use Rattle.explained.specs.Step.{◌at◌unless◌, ◌>>=◌, first, given}
use Rattle.explained.specs.Order.{word_steps, version_steps, missing, name_steps}
use Rattle.explained.proofs.Parts.{agree-attributes, agree-version}
use Rattle.badfields.specs.Fields.{spot_of}
use Rattle.badfields.proofs.Firsts.{Each, no_more, and_so, each-++, each-found, Numbered, shown-here, shown-past}
use Rattle.badfields.proofs.Values.{one_table, one-version, held-left, value-shown, option-stops, option-passes}
use Rattle.badnames.specs.Keys.{Tells, NamesAt}
use Rattle.spot.specs.Shown.{spot, shown}
use Rattle.spot.specs.Shown.{Spot}
use Rattle.badroot.specs.Opening.{later_steps, value_steps, VersionIs, Stood, LaterIs, ValuesIs}
use Rattle.std.specs.Prelude.{Some, None, Option as Optional}

-- ---------------------------------------------------------------- the version

-- s is lent whole to `walk::text`, which answered l
module _ (s : List ℕ) (l : Optional Letters) (h : TextIs (Here s 0) l) where
  shown_by : (d : ℕ) (t : Node Ends) (q : List ℕ) → Reads (suc d) s t q → (m : Check (Unit {0})) → a_version t ≡ m → spot_of (length s) m ≡ shown (first (version_steps t))
  shown_by d t q r m e =
      sym (value-shown one-version agree-version (length s) t (sym (ap (λ (x : Ends). length x.start) (note-of (suc d) s t q r))) ∙ ap (spot_of (length s)) e)

  pub no_text : {r : Spot} → l ≡ None → r ≡ spot KIND (length s) → VersionIs s r
  unfolding a_version
  no_text e is d t q reads = is ∙ shown_by d t q reads (fault KIND) (rw (no_word s l h e d t q reads) refl)

  module _ (from n : ℕ) (e : l ≡ Some (record { at = from; size = n })) {b : Bool} (shaped : b ≡ version_shape (letters s l h from n e)) where
    pub no-version : {r : Spot} → b ≡ false → r ≡ spot VERSION (length s) → VersionIs s r
    unfolding a_version
    no-version y is d t q reads = is ∙ shown_by d t q reads (fault VERSION) (rw (word s l h from n e d t q reads) (rw (← shaped, y) refl))

    module _ (y : b ≡ true) {a : Bool} (major : a ≡ major_one (letters s l h from n e)) where
      pub other-major : {r : Spot} → a ≡ false → r ≡ spot MAJOR (length s) → VersionIs s r
      unfolding a_version
      other-major z is d t q reads = is ∙ shown_by d t q reads (fault MAJOR) (rw (word s l h from n e d t q reads) (rw (← shaped, y) (rw (← major, z) refl)))

      pub major-one : {r : Spot} → a ≡ true → r ≡ spot 0 0 → VersionIs s r
      unfolding a_version
      major-one z is d t q reads = is ∙ shown_by d t q reads (pass tt) (rw (word s l h from n e d t q reads) (rw (← shaped, y) (rw (← major, z) refl)))

numbered : {P : Type 0} (n : ℕ) (w : P) (b : Bool) → 0 < n → Each Numbered (n at w unless b)
numbered n w b l = and_so l no_more

version-numbered : (t : Node Ends) → Each Numbered (version_steps t)
unfolding version_steps word_steps
version-numbered t = each-++ (numbered KIND (note_of t) _ (omega arith)) (each-found (given (a_word t)) _ λ w. each-++ (numbered VERSION (note_of t) _ (omega arith)) (numbered MAJOR (note_of t) _ (omega arith)))

-- ---------------------------------------------------------------- attributes, objects

-- the objects, with room for `limit` names
pub names-limited : (s : List ℕ) {limit n : ℕ} {r : Spot} → limit ≡ object_limit → NamesAt 30 s limit n r → NamesAt 30 s object_limit n r
names-limited s {limit} {n} {r} e h = subst (λ i. NamesAt 30 s i n r) e h

found_first : (t : Node Ends) (v : Option (Node Ends)) (o : Node Ends) → v ≡ some o → first (missing t v ++ (v >>= name_steps object_limit)) ≡ first (name_steps object_limit o)
unfolding missing is_some
found_first t v o e = rw e refl

module _ (s p : List ℕ) (whole n : ℕ) (b : Bool) (asked : AttributesAt s (get_or p 1 0) b) where
  module _ (L : Layout) (ps : List (Pair Ends)) (stood : Stood L s p ps) where
    attributes-are : optional attributes_of (field (attributes_on L root) ps) ≡ cond b (pass (field (attributes_on L root) ps)) (fault KIND)
    attributes-are = asked 30 (field (attributes_on L root) ps) (stood 1 (omega arith))

    past-attributes : b ≡ true → (t : Node Ends) → first (later_steps L t ps) ≡ first (missing t (field (objects_field L) ps) ++ (field (objects_field L) ps >>= name_steps object_limit))
    unfolding later_steps
    past-attributes e t = option-passes one_table agree-attributes (missing t (field (objects_field L) ps) ++ (field (objects_field L) ps >>= name_steps object_limit)) (field (attributes_on L root) ps) (field (attributes_on L root) ps) (rw e at attributes-are)

  pub no-map : {r : Spot} → b ≡ false → r ≡ spot KIND (get_or p 1 0) → LaterIs s p whole n r
  unfolding later_steps
  no-map e is L t ps w stood by =
      is ∙ option-stops one_table agree-attributes (missing t (field (objects_field L) ps) ++ (field (objects_field L) ps >>= name_steps object_limit)) (get_or p 1 0) (field (attributes_on L root) ps)
      (held-left 31 s (get_or p 1 0) (field (attributes_on L root) ps) (stood 1 (omega arith))) KIND 0 0 (rw e at (attributes-are L ps stood))

  module _ (e : b ≡ true) where
    pub no-objects : {r : Spot} → get_or p 2 0 ≡ 0 → r ≡ spot MISSING whole → LaterIs s p whole n r
    unfolding missing is_some shown
    no-objects z is L t ps w stood by =
        let absent = hold-none 31 s (get_or p 2 0) (field (objects_field L) ps) (stood 2 (omega arith)) z in
        is ∙ ap (spot MISSING) (sym w) ∙ sym (ap shown (past-attributes L ps stood e t) ∙ (rw absent refl))

    pub objects-named : {r : Spot} → (get_or p 2 0 ≡ 0 → ⊥) → (o : ℕ) → o ≡ length s - get_or p 2 0 → NamesAt 30 (Here s o) object_limit n r → LaterIs s p whole n r
    objects-named {r} z o from named L t ps w stood =
        let i = hold-some 31 s (get_or p 2 0) (field (objects_field L) ps) (stood 2 (omega arith)) z in
        let tells = subst (λ u. NamesAt 30 u object_limit n r) (part_to_end s o ∙ ap (λ k. drop k s) from) named i.item i.stands.rest i.stands.reads in
        subst (λ f. Tells n f r) (sym (past-attributes L ps stood e t ∙ found_first t (field (objects_field L) ps) i.item i.is)) tells

-- ---------------------------------------------------------------- the version, then these

module _ (s p : List ℕ) (whole n : ℕ) where
  pub versionless : {r : Spot} → get_or p 0 0 ≡ 0 → r ≡ spot MISSING whole → ValuesIs s p whole n r
  unfolding value_steps missing is_some shown
  versionless z is L t ps w stood by =
      let absent = hold-none 31 s (get_or p 0 0) (field (version_of L) ps) (stood 0 (omega arith)) z in
      is ∙ ap (spot MISSING) (sym w) ∙ sym (rw absent refl)

  module _ (z : get_or p 0 0 ≡ 0 → ⊥) (v : ℕ) (from : v ≡ length s - get_or p 0 0) {r : Spot} (asked : VersionIs (Here s v) r) where
    module _ (L : Layout) (ps : List (Pair Ends)) (stood : Stood L s p ps) where
      item : Item 31 s (get_or p 0 0) (field (version_of L) ps)
      item = hold-some 31 s (get_or p 0 0) (field (version_of L) ps) (stood 0 (omega arith)) z

      version-shown : r ≡ shown (first (version_steps item.item))
      version-shown = subst (λ u. VersionIs u r) (part_to_end s v ∙ ap (λ k. drop k s) from) asked 30 item.item item.stands.rest item.stands.reads

      values-first : (t : Node Ends) → first (value_steps L t ps) ≡ first (version_steps item.item ++ later_steps L t ps)
      unfolding value_steps missing is_some
      values-first t = rw item.is refl

    pub version-breaks : (r.number ≡ 0 → ⊥) → {x : Spot} → x ≡ r → ValuesIs s p whole n x
    version-breaks broken same L t ps w stood by =
        same ∙ shown-here (version_steps (item L ps stood).item) r (version-shown L ps stood) (later_steps L t ps) broken ∙ ap shown (sym (values-first L ps stood t))

    pub version-passes : {x : Spot} → r.number ≡ 0 → LaterIs s p whole n x → ValuesIs s p whole n x
    version-passes {x} fine later L t ps w stood =
        let past = shown-past (version_steps (item L ps stood).item) r (version-shown L ps stood) (version-numbered (item L ps stood).item) fine (later_steps L t ps) in
        subst (λ f. Tells n f x) (sym (values-first L ps stood t ∙ past)) (later L t ps w stood)
