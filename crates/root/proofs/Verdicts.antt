-- A root's judgement from the slots of its pairs: keys, repeats, version, attributes, and then what was found among the objects.
use mathlib.Core.Path.{◌≡◌, refl, sym, ap, ◌∙◌, subst}
use mathlib.Core.List.{List}
use mathlib.Core.Bool.{Bool, true, false, cond, not}
use mathlib.Core.Option.{Option, none, some}
use Prim.Native.Nat.{ℕ, suc, ◌<◌}
use native.Mathlib.Omega.{arith}
use lib.ListN.{length, get_or}
use lib.Dec.{eqb, leb}
use borrow.Author.Tests.{eq-eqb, ne_eqb, eqb-true, eqb-false, not-true, not-false}
use borrow.Author.Rules.{part_to_end}
use Rattle.meaning.specs.Tree.{Node, Pair}
use Rattle.meaning.specs.Check.{Check, pass, refuse, fault, optional}
use Rattle.meaning.specs.Text.{all}
use Rattle.meaning.specs.Refusal.{KIND}
use Rattle.meaning.specs.Rows.{component_count}
use Rattle.meaning.specs.Model.{Object}
use Rattle.meaning.specs.Kind.{kind, mapping, a_mapping, as_mapping}
use Rattle.meaning.specs.Field as field
use Rattle.meaning.specs.Layouts.{slot, somes, Layout}
use Rattle.meaning.specs.Judge.{attributes_of, a_version}
use Rattle.walk.specs.Reading.{Ends, Chain, left_at}
use Rattle.fields.specs.Slots.{Holds}
use Rattle.fields.specs.Attributes.{AttributesAt}
use Rattle.fields.proofs.Stands.{hold-none, Item, hold-some, keys-are-text, none-twice, field-stands}
use Rattle.fields.proofs.Texts.{Here}
use Rattle.objects.specs.declared.Found.{Found}
use Rattle.objects.specs.Found as objects
use Rattle.objects.specs.Found.{objects_by}
use Rattle.root.specs.declared.Judged.{Judged}
use Rattle.root.specs.Walk.{Noted}
use Rattle.root.specs.Verdict.{known, VersionAt, counted, told, judge_by, judged, VerdictIs}
use Rattle.std.specs.Prelude.{Ok, Err, Result}
use Rattle.numbers.specs.declared.refusal.Refusal.{Refusal}
use Rattle.numbers.specs.declared.fault.FileFault.{FileFault}
use Rattle.numbers.specs.declared.refusal.Refusal.TheVariants as refusals
use Rattle.numbers.specs.Numbered.{number_of}
use Rattle.numbers.specs.Answered.{answered, in_file}

-- ---------------------------------------------------------------- what the slots say, a branch each

module _ (p : List ℕ) where
  pub odd-key : (get_or p 4 0 ≡ 0 → ⊥) → Err refusals.Key ≡ known p
  unfolding known
  odd-key e = rw (ne_eqb _ _ e)

  module _ (a : get_or p 4 0 ≡ 0) where
    pub repeated : (get_or p 5 0 ≡ 0 → ⊥) → Err refusals.Twice ≡ known p
    unfolding known
    repeated e = rw (eq-eqb _ _ a, ne_eqb _ _ e)

    module _ (b : get_or p 5 0 ≡ 0) where
      pub no-version : get_or p 0 0 ≡ 0 → Err refusals.Missing ≡ known p
      unfolding known
      no-version e = rw (eq-eqb _ _ a, eq-eqb _ _ b, eq-eqb _ _ e)

      pub all_known : (get_or p 0 0 ≡ 0 → ⊥) → (Ok tt) ≡ known p
      unfolding known
      all_known e = rw (eq-eqb _ _ a, eq-eqb _ _ b, ne_eqb _ _ e)

-- ---------------------------------------------------------------- attributes, objects missing, objects

module _ (map : Bool) (left at : ℕ) (found : Result Found FileFault) where
  pub no-map : not map ≡ true → (k : FileFault) → k ≡ record { refusal = refusals.Kind; object = 0; component = 0 } → Err k ≡ told map left at found
  no-map e k is = rw (not-true map e) (ap Err is)

  module _ (e : not map ≡ false) where
    pub no-objects : at ≡ 0 → (k : FileFault) → k ≡ record { refusal = refusals.Missing; object = 0; component = 0 } → Err k ≡ told map left at found
    no-objects z k is = rw (not-false map e, eq-eqb _ _ z) (ap Err is)

    objects-found : (at ≡ 0 → ⊥) → (f : Result Found FileFault) → found ≡ f → counted left f ≡ told map left at found
    objects-found z f is = rw (not-false map e, ne_eqb _ _ z) (ap (counted left) (sym is))

    pub objects-refused : (at ≡ 0 → ⊥) → (k : FileFault) → found ≡ Err k → (q : Result Judged FileFault) → q ≡ Err k → q ≡ told map left at found
    objects-refused z k is q e = e ∙ objects-found z (Err k) is

    pub objects-passed : (at ≡ 0 → ⊥) → (k : Found) → found ≡ Ok k → Ok (record { objects = k.objects; components = k.components; attributes = left }) ≡ told map left at found
    objects-passed z k is = objects-found z (Ok k) is

-- ---------------------------------------------------------------- the judgement of a map of these pairs

-- the field at the place i among these pairs
abbrev the : Layout → ℕ → List (Pair Ends) → Option (Node Ends)
the L i ps = field.field (slot i L.root) ps

module _ (deep : Bool) (L : Layout) (start : ℕ) (t : Node Ends) (ps : List (Pair Ends)) (kt : kind t ≡ mapping ps) where
  judged-odd : all (λ q. field.is_some (field.key_of q)) ps ≡ false → in_file (Err (record { refusal = refusals.Key; object = 0; component = 0 })) ≡ judged (judge_by deep L start t)
  unfolding judge_by field.root_fields field.fields a_mapping as_mapping
  judged-odd e = rw kt (rw e refl)

  module _ (a : all (λ q. field.is_some (field.key_of q)) ps ≡ true) where
    judged-twice : all (λ m. leb (field.count m ps) 1) (somes L.root) ≡ false → in_file (Err (record { refusal = refusals.Twice; object = 0; component = 0 })) ≡ judged (judge_by deep L start t)
    unfolding judge_by field.root_fields field.fields a_mapping as_mapping
    judged-twice e = rw kt (rw (a, e) refl)

    module _ (b : all (λ m. leb (field.count m ps) 1) (somes L.root) ≡ true) where
      judged-no-version : the L 0 ps ≡ none → in_file (Err (record { refusal = refusals.Missing; object = 0; component = 0 })) ≡ judged (judge_by deep L start t)
      unfolding judge_by field.root_fields field.fields a_mapping as_mapping
      judged-no-version e = rw kt (rw (a, b) (rw e refl))

      module _ (version : Node Ends) (g : the L 0 ps ≡ some version) where
        judged-version : (n : Refusal) → a_version version ≡ fault (number_of n) → in_file (Err (record { refusal = n; object = 0; component = 0 })) ≡ judged (judge_by deep L start t)
        unfolding judge_by field.root_fields field.fields a_mapping as_mapping
        judged-version n e = rw kt (rw (a, b) (rw g (rw e refl)))

        module _ (v : a_version version ≡ pass tt) where
          judged-attributes : optional attributes_of (the L 1 ps) ≡ fault KIND → in_file (Err (record { refusal = refusals.Kind; object = 0; component = 0 })) ≡ judged (judge_by deep L start t)
          unfolding judge_by field.root_fields field.fields a_mapping as_mapping
          judged-attributes e = rw kt (rw (a, b) (rw g (rw v (rw e refl))))

          module _ (w : optional attributes_of (the L 1 ps) ≡ pass (the L 1 ps)) where
            judged-no-objects : the L 2 ps ≡ none → in_file (Err (record { refusal = refusals.Missing; object = 0; component = 0 })) ≡ judged (judge_by deep L start t)
            unfolding judge_by field.root_fields field.fields a_mapping as_mapping
            judged-no-objects e = rw kt (rw (a, b) (rw g (rw v (rw w (rw e refl)))))

            module _ (o : Node Ends) (x : the L 2 ps ≡ some o) where
              judged-objects : (left : ℕ) → left ≡ left_at (the L 1 ps) → (k : Check (List (Object Ends))) → objects_by deep L start o ≡ k → (found : Result Found FileFault) → in_file found ≡ objects.judged k
                  → in_file (counted left found) ≡ judged (judge_by deep L start t)
              unfolding judge_by field.root_fields field.fields a_mapping as_mapping
              judged-objects left l (pass os) e (Ok f) is =
                  let same : f ≡ record { objects = length os; components = component_count os } = cc in
                  rw kt (rw (a, b) (rw g (rw v (rw w (rw x (rw e (rw (same, l) refl)))))))
              judged-objects left l (pass os) e (Err f) is = absurd (let z : ◌≡◌ {A = ℕ} 0 1 = cc in omega arith)
              judged-objects left l (refuse n i j) e (Ok f) is = absurd (let z : ◌≡◌ {A = ℕ} 0 1 = cc in omega arith)
              judged-objects left l (refuse n i j) e (Err f) is =
                  let number : number_of f.refusal ≡ n = cc in
                  let object : f.object ≡ i = cc in
                  let component : f.component ≡ j = cc in
                  rw kt (rw (a, b) (rw g (rw v (rw w (rw x (rw e (rw (number, object, component) refl)))))))

-- ---------------------------------------------------------------- from the slots

-- the place of what may be none is the number of bytes left there
left-of : (d : ℕ) (s : List ℕ) (l : ℕ) (o : Option (Node Ends)) → Holds d s l o → l ≡ left_at o
left-of d s l none h = h
left-of d s l (some t) h = h.1.left_is

module _ (s p : List ℕ) (found : Result Found FileFault) where
  module _ (deep : Bool) (L : Layout) (start d : ℕ) (ps : List (Pair Ends)) (q : List ℕ) (chain : Chain (suc d) s ps q) (noted : Noted deep L start p found ps)
      (t : Node Ends) (kt : kind t ≡ mapping ps) where
    keys : eqb (get_or p 4 0) 0 ≡ all (λ q. field.is_some (field.key_of q)) ps
    keys = keys-are-text L.root 3 L.root_places (suc d) s ps q chain p noted.0

    twice : eqb (get_or p 5 0) 0 ≡ all (λ m. leb (field.count m ps) 1) (somes L.root)
    twice = none-twice L.root 3 L.root_places (suc d) s ps q chain p noted.0

    stands : (i : ℕ) → i < 3 → Holds (suc d) s (get_or p i 0) (the L i ps)
    stands = field-stands L.root 3 L.root_places (suc d) s ps q chain p noted.0 L.root_apart

    -- a version stands there, and keys and repeats are right
    record Ready : Type 0 where
      pub text-keys : all (λ q. field.is_some (field.key_of q)) ps ≡ true
      pub no-repeats : all (λ m. leb (field.count m ps) 1) (somes L.root) ≡ true
      pub version : Item (suc d) s (get_or p 0 0) (the L 0 ps)

    abbrev Told : Result (Unit {0}) Refusal → Type 0
    Told (Err m) = in_file (Err (record { refusal = m; object = 0; component = 0 })) ≡ judged (judge_by deep L start t)
    Told (Ok tt) = Ready

    slots-told : Told (known p)
    unfolding known
    slots-told = go (eqb (get_or p 4 0) 0) refl (eqb (get_or p 5 0) 0) refl (eqb (get_or p 0 0) 0) refl
      where
        go : (x₁ : Bool) → eqb (get_or p 4 0) 0 ≡ x₁ → (x₂ : Bool) → eqb (get_or p 5 0) 0 ≡ x₂ → (x₃ : Bool) → eqb (get_or p 0 0) 0 ≡ x₃ → Told (cond x₁ (cond x₂ (cond x₃ (Err refusals.Missing) (Ok tt)) (Err refusals.Twice)) (Err refusals.Key))
        go false a x₂ b x₃ c = judged-odd deep L start t ps kt (sym keys ∙ a)
        go true a false b x₃ c = judged-twice deep L start t ps kt (sym keys ∙ a) (sym twice ∙ b)
        go true a true b true c = judged-no-version deep L start t ps kt (sym keys ∙ a) (sym twice ∙ b) (hold-none (suc d) s (get_or p 0 0) (the L 0 ps) (stands 0 (omega arith)) (eqb-true (get_or p 0 0) 0 c))
        go true a true b false c = record {
          text-keys = sym keys ∙ a;
          no-repeats = sym twice ∙ b;
          version = hold-some (suc d) s (get_or p 0 0) (the L 0 ps) (stands 0 (omega arith)) (eqb-false (get_or p 0 0) 0 c);
        }

    module _ (r : Ready) where
      version-told : (m : Refusal) → a_version r.version.item ≡ fault (number_of m) → in_file (Err (record { refusal = m; object = 0; component = 0 })) ≡ judged (judge_by deep L start t)
      version-told m e = judged-version deep L start t ps kt r.text-keys r.no-repeats r.version.item r.version.is m e

      all_told : a_version r.version.item ≡ pass tt → (map : Bool) → optional attributes_of (the L 1 ps) ≡ cond map (pass (the L 1 ps)) (fault KIND)
          → in_file (told map (get_or p 1 0) (get_or p 2 0) found) ≡ judged (judge_by deep L start t)
      all_told v false w = judged-attributes deep L start t ps kt r.text-keys r.no-repeats r.version.item r.version.is v w
      all_told v true w = go (eqb (get_or p 2 0) 0) refl
        where
          go : (x : Bool) → eqb (get_or p 2 0) 0 ≡ x → in_file (cond x (Err (record { refusal = refusals.Missing; object = 0; component = 0 })) (counted (get_or p 1 0) found)) ≡ judged (judge_by deep L start t)
          go true e = judged-no-objects deep L start t ps kt r.text-keys r.no-repeats r.version.item r.version.is v w (hold-none (suc d) s (get_or p 2 0) (the L 2 ps) (stands 2 (omega arith)) (eqb-true (get_or p 2 0) 0 e))
          go false e =
              let o = hold-some (suc d) s (get_or p 2 0) (the L 2 ps) (stands 2 (omega arith)) (eqb-false (get_or p 2 0) 0 e) in
              judged-objects deep L start t ps kt r.text-keys r.no-repeats r.version.item r.version.is v w o.item o.is
              (get_or p 1 0) (left-of (suc d) s (get_or p 1 0) (the L 1 ps) (stands 1 (omega arith))) (objects_by deep L start o.item) refl found (noted.1 o.item o.is)

  module _ (f : Result (Unit {0}) Refusal) (asked : f ≡ known (Here p 0)) where
    slots-say : f ≡ known p
    slots-say = asked ∙ ap known (part_to_end p 0)

    pub refused : (m : Refusal) → f ≡ Err m → (r : Result Judged FileFault) → r ≡ Err (record { refusal = m; object = 0; component = 0 }) → VerdictIs s p found r
    refused m e r is-r deep L start d ps q chain noted t kt = rw is-r (subst (Told deep L start d ps q chain noted t kt) (sym slots-say ∙ e) (slots-told deep L start d ps q chain noted t kt))

    module _ (e : f ≡ (Ok tt)) (v : Result (Unit {0}) Refusal) (versioned : VersionAt (Here s 0) (get_or p 0 0) v) where
      module _ (deep : Bool) (L : Layout) (start d : ℕ) (ps : List (Pair Ends)) (q : List ℕ) (chain : Chain (suc d) s ps q) (noted : Noted deep L start p found ps)
          (t : Node Ends) (kt : kind t ≡ mapping ps) where
        ready : Ready deep L start d ps q chain noted t kt
        ready = subst (Told deep L start d ps q chain noted t kt) (sym slots-say ∙ e) (slots-told deep L start d ps q chain noted t kt)

        version-is : (u : Result (Unit {0}) Refusal) → v ≡ u → a_version ready.version.item ≡ answered u
        version-is u z = subst (λ x. VersionAt x (get_or p 0 0) u) (part_to_end s 0) (rw z at versioned) d ready.version.item ready.version.stands

      pub version-refused : (m : Refusal) → v ≡ Err m → (r : Result Judged FileFault) → r ≡ Err (record { refusal = m; object = 0; component = 0 }) → VerdictIs s p found r
      version-refused m z r is-r deep L start d ps q chain noted t kt =
          rw is-r (version-told deep L start d ps q chain noted t kt (ready deep L start d ps q chain noted t kt) m (version-is deep L start d ps q chain noted t kt (Err m) z))

      pub as-told : v ≡ (Ok tt) → (map : Bool) → AttributesAt (Here s 0) (get_or p 1 0) map → (r : Result Judged FileFault) → r ≡ told map (get_or p 1 0) (get_or p 2 0) found → VerdictIs s p found r
      as-told z map w r h deep L start d ps q chain noted t kt =
          let a : AttributesAt s (get_or p 1 0) map = subst (λ x. AttributesAt x (get_or p 1 0) map) (part_to_end s 0) w in
          ap in_file h ∙ all_told deep L start d ps q chain noted t kt (ready deep L start d ps q chain noted t kt) (version-is deep L start d ps q chain noted t kt (Ok tt) z) map
          (a d (the L 1 ps) (stands deep L start d ps q chain noted t kt 1 (omega arith)))
