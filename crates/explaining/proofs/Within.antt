-- A manifest that is refused: the check that breaks first, from where the opening breaks, or from the object that the refusal belongs to.
use Prim.Native.Nat.{ℕ, ◌+◌, ◌-◌, ◌≤◌, ◌<◌}
use native.Mathlib.Omega.{arith}
use mathlib.Core.List.{List}
use mathlib.Core.Option.{Option, none, some}
use mathlib.Core.Path.{◌≡◌, refl, sym, ap, ◌∙◌, subst}
use lib.ListN.{length, drop, length-drop}
use lib.Seq.{drop-drop}
use borrow.Author.Rules.{part_to_end}
use Rattle.meaning.specs.Tree.{Node}
use Rattle.meaning.specs.Check.{Check, pass, refuse, in_object, each}
use Rattle.meaning.specs.Limit.{object_limit}
use Rattle.meaning.specs.Model.{Object}
use Rattle.meaning.specs.Notes.{map_option}
use Rattle.meaning.specs.Layouts.{Layout}
use Rattle.meaning.specs.Judge.{object, judge}
use Rattle.walk.specs.Reading.{Ends, Reads}
use Rattle.fields.specs.Slots.{Stands, Holds}
use Rattle.fields.proofs.Texts.{Here}
use Rattle.fields.proofs.Stands.{some_left}
use Rattle.component.specs.Value.{left_word}
use Rattle.table.specs.WordAt.{WordAt, bare, lettered}
use Rattle.table.proofs.Lettered.{word-note}
use Rattle.explained.specs.Step
use Rattle.explained.specs.Step.{Step, first, refusal}
use Rattle.explained.specs.Order.{manifest_steps, object_steps}
use Rattle.explained.specs.Explain as explain
use Rattle.explained.proofs.Agree.{Agree, verdict, agree-each, agree-in_object}
use Rattle.explained.proofs.Whole.{agree-object}
use Rattle.explained.proofs.Why.{Refused, manifest-refused}
use Rattle.explained.proofs.Jump.{ObjectBlamed, object-blamed}
use Rattle.spot.specs.Shown.{Spot}
use Rattle.spot.specs.Shown.{shown}
use Rattle.entry.specs.declared.Places.{Places}
use Rattle.entry.specs.Nth.{EntryIs}
use Rattle.met.specs.Met.{StandsIn}
use Rattle.met.proofs.Honest.{first-stands}
use Rattle.indexed.specs.Entry.{EntryAt}
use Rattle.indexed.proofs.Named.{named-entry}
use Rattle.badroot.specs.Opening.{opening_steps, each_object, ObjectsAt, Opened}
use Rattle.badroot.proofs.OpeningFirst.{opening-breaks, opening-passes}
use Rattle.pointed.specs.Pointed.{Met}
use Rattle.explaining.proofs.Bare.{opening-nameless, opening-unplaced, opening-numbered}

same_some : {A : Type 0} {a b : A} → some a ≡ some b → a ≡ b
same_some e = cc

-- what stands in a tail of s stands in s
pub stands_up : (d : ℕ) (s : List ℕ) (k l : ℕ) (t : Node Ends) → k ≤ length s → Stands d (drop k s) l t → Stands d s l t
stands_up d s k l t h x =
    let w : l ≤ length (drop k s) = x.within in
    let y : length (drop k s) ≡ length s - k = length-drop k s in
    let z : k + (length (drop k s) - l) ≡ length s - l = omega arith in
    record {
      rest = x.rest;
      within = omega arith;
      left_is = x.left_is;
      reads = subst (λ u. Reads d u t x.rest) (drop-drop (length (drop k s) - l) k s ∙ ap (λ (i : ℕ). drop i s) z) x.reads;
    }

module _ (L : Layout) (m : List ℕ) (start : ℕ) (t : Node Ends) (q : List ℕ) (reads : Reads 32 m t q) (n o c : ℕ) (refused : judge L start t ≡ refuse n o c) where
  abbrev pub why : Refused (manifest_steps L start t) n o c
  why = manifest-refused L start t n o c refused

  stood : StandsIn m why.this
  stood = first-stands m L start t q reads why.this why.shown

  -- what is said of the check is said of the first that breaks
  pub told : (f : Step Ends → explain.Explanation) (g : Option (Step Ends) → explain.Explanation) → ((s : Step Ends) → f s ≡ g (some s)) → f why.this ≡ g (first (manifest_steps L start t))
  told f g h = h why.this ∙ ap g (sym why.shown)

  opening-this : (x : Step Ends) → first (opening_steps L t) ≡ some x → x ≡ why.this
  opening-this x h = same_some (sym (opening-breaks L start t x h) ∙ why.shown)

  -- a check of the opening that breaks has the refusal's number
  pub opening-by-number : (x : Step Ends) → first (opening_steps L t) ≡ some x → x.number ≡ n
  opening-by-number x h = ap (λ s. s.number) (opening-this x h) ∙ why.number

  -- a refusal of an object other than the first, or of a component other than the first, is none of the opening's
  pub beyond-opening : 0 < o + c → Opened L start t
  beyond-opening l = opening-passes L start t (go (first (opening_steps L t)) refl)
    where
      go : (f : Option (Step Ends)) → first (opening_steps L t) ≡ f → first (opening_steps L t) ≡ none
      go none h = h
      go (some x) h =
          let z : x ≡ why.this = opening-this x h in
          let b = opening-unplaced L t x h in
          let u : o ≡ 0 = sym why.object ∙ ap (λ s. s.object) (sym z) ∙ b.0 in
          let v : c ≡ 0 = sym why.component ∙ ap (λ s. s.component) (sym z) ∙ b.1 in
          absurd (omega (arith, u, v, l))

  module _ (sp : Spot) (is : sp ≡ shown (first (opening_steps L t))) where
    pub met-opening : (sp.number ≡ 0 → ⊥) → Met m n o c 0 0 sp.left why.this
    unfolding shown
    met-opening nz = go (first (opening_steps L t)) refl is
      where
        go : (f : Option (Step Ends)) → first (opening_steps L t) ≡ f → sp ≡ shown f → Met m n o c 0 0 sp.left why.this
        go none h e = absurd (nz (ap (λ s. s.number) e))
        go (some x) h e =
            let z : x ≡ why.this = opening-this x h in
            let b = opening-nameless L t x h in
            let u : why.this.object_name ≡ none = ap (λ s. s.object_name) (sym z) ∙ b.0 in
            let v : why.this.component_name ≡ none = ap (λ s. s.component_name) (sym z) ∙ b.1 in
            record {
              stands = stood;
              number = why.number;
              of_object = why.object;
              of_component = why.component;
              name = bare u;
              name-left = ap left_word u;
              part = bare v;
              part_left = ap left_word v;
              place-left = ap (λ s. length s.place.start) (sym z) ∙ sym (ap (λ s. s.left) e);
            }

    pub past-opening : sp.number ≡ 0 → Opened L start t
    unfolding shown
    past-opening z = opening-passes L start t (go (first (opening_steps L t)) refl is)
      where
        go : (f : Option (Step Ends)) → first (opening_steps L t) ≡ f → sp ≡ shown f → first (opening_steps L t) ≡ none
        go none h e = h
        go (some x) h e =
            let a : 1 ≤ x.number = opening-numbered L t x h in
            let b : sp.number ≡ x.number = ap (λ s. s.number) e in
            absurd (omega arith)

  module _ (op : Opened L start t) where
    every-refuses : each (λ i x. in_object i (object L start x)) 0 op.named ≡ refuse n o c
    unfolding each_object
    every-refuses = go (each (λ i x. in_object i (object L start x)) 0 op.named) refl
      where
        agrees : Agree (each_object L start op.named) (each (λ i x. in_object i (object L start x)) 0 op.named)
        agrees = agree-each (λ i x. agree-in_object i (some x.name) (agree-object L start x)) 0 op.named

        go : (k : Check (List (Object Ends))) → each (λ i x. in_object i (object L start x)) 0 op.named ≡ k → each (λ i x. in_object i (object L start x)) 0 op.named ≡ refuse n o c
        go (pass l) h =
            let z : refusal (some why.this) ≡ pass tt = ap refusal (sym why.shown ∙ op.rest) ∙ agrees.same ∙ ap verdict h in
            absurd (let y : ◌≡◌ {A = ℕ} 0 1 = cc in omega arith)
        go (refuse x y z) h =
            let w : refusal (some why.this) ≡ refuse x y z = ap refusal (sym why.shown ∙ op.rest) ∙ agrees.same ∙ ap verdict h in
            let a : x ≡ n = (let v : why.this.number ≡ x = cc in sym v ∙ why.number) in
            let b : y ≡ o = (let v : why.this.object ≡ y = cc in sym v ∙ why.object) in
            let d : z ≡ c = (let v : why.this.component ≡ z = cc in sym v ∙ why.component) in
            h ∙ (rw (a, b, d) refl)

    pub owner : ObjectBlamed L start op.named n o c
    owner = object-blamed L start op.named n o c every-refuses

    -- the object's own check
    pub record Own : Type 0 where
      pub step : Step Ends
      pub is : first (object_steps L start owner.it) ≡ some step
      pub this : why.this ≡ Step.in_object o (some owner.it.name) step

    pub own : Own
    unfolding each_object
    own = go (first (object_steps L start owner.it)) refl
      where
        shows : some why.this ≡ map_option (Step.in_object o (some owner.it.name)) (first (object_steps L start owner.it))
        shows = sym why.shown ∙ op.rest ∙ owner.shown

        go : (f : Option (Step Ends)) → first (object_steps L start owner.it) ≡ f → Own
        go none h = absurd (let z : some why.this ≡ none = shows ∙ ap (map_option (Step.in_object o (some owner.it.name))) h in let y : ◌≡◌ {A = ℕ} 0 1 = cc in omega arith)
        go (some x) h = record { step = x; is = h; this = same_some (shows ∙ ap (map_option (Step.in_object o (some owner.it.name))) h) }

    -- the entry of that object
    module _ (at : ℕ) (stand : ObjectsAt L m at) (from : ℕ) (from_is : from ≡ length m - at) (e : Places) (found : EntryIs 30 (Here m from) o e) where
      there : Stands 31 m at op.objects
      there = (subst (Holds 31 m at) op.found (stand t q reads op.pairs op.kind-is)).1

      inside : from ≤ length m
      inside = omega arith

      entered : EntryAt 30 (drop from m) owner.it e
      entered =
          named-entry 30 (drop from m) op.objects there.rest (subst (λ (i : ℕ). Reads 31 (drop i m) op.objects there.rest) (sym from_is) there.reads) object_limit op.named op.names-are o
          owner.it owner.at e (subst (λ u. EntryIs 30 u o e) (part_to_end m from) found)

      -- its name
      key-stands : Stands 30 m e.key entered.key
      key-stands = stands_up 30 m from e.key entered.key inside entered.key-stands

      name-is : length owner.it.name.note.start ≡ e.key
      name-is = ap (λ x. length x.start) (word-note entered.key owner.it.name entered.spells) ∙ sym key-stands.left_is

      named : WordAt m (some owner.it.name)
      named =
          lettered owner.it.name refl 29 entered.key
          (subst (λ (i : ℕ). Holds 30 m i (some entered.key)) (sym name-is) (subst (λ (i : ℕ). 0 < i) (sym key-stands.left_is) (some_left 30 (drop (length m - e.key) m) entered.key key-stands.rest key-stands.reads), key-stands))
          entered.spells

      -- its value, where the object is looked into
      module _ (v : ℕ) (v-is : v ≡ length m - e.value) where
        pub value-stands : Stands 30 m e.value owner.it.value
        value-stands = stands_up 30 m from e.value owner.it.value inside entered.value-stands

        within : v ≤ length m
        within = omega arith

        pub value_read : Reads 30 (Here m v) owner.it.value value-stands.rest
        value_read = subst (λ u. Reads 30 u owner.it.value value-stands.rest) (ap (λ (i : ℕ). drop i m) (sym v-is) ∙ sym (part_to_end m v)) value-stands.reads

        -- what is told of the object's own check is told of the manifest's
        pub met-inside : (role left : ℕ) → WordAt m why.this.component_name → left_word own.step.component_name ≡ role → left ≡ length own.step.place.start
            → Met m n o c e.key role left why.this
        met-inside role left w r l = record {
          stands = stood;
          number = why.number;
          of_object = why.object;
          of_component = why.component;
          name = subst (WordAt m) (sym (ap (λ s. s.object_name) own.this)) named;
          name-left = ap (λ s. left_word s.object_name) own.this ∙ name-is;
          part = w;
          part_left = ap (λ s. left_word s.component_name) own.this ∙ r;
          place-left = ap (λ s. length s.place.start) own.this ∙ sym l;
        }
