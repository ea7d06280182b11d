-- The loop over an object's entries, as fields' law on walks that keep what they find in one field: here the components, with what was found in them, their rows and the table.
use Prim.Native.Nat.{ℕ, ◌+◌, ◌-◌, ◌*◌, ◌^◌, ◌≤◌, ◌<◌}
use native.Mathlib.Omega.{arith}
use mathlib.Core.List.{List, []}
use mathlib.Core.Bool.{Bool, true, false}
use mathlib.Core.Logic.{⊎_elim}
use mathlib.Core.Path.{◌≡◌, refl, ap, ap₂, sym, ◌∙◌, subst}
use lib.ListN.{length, get_or, replicate, length-drop}
use lib.Dec.{eqb}
use mir.Val.{Fits}
use mir.Syntax.{w64}
use borrow.Author.Tests.{eq-eqb, ne_eqb, eqb-true, eqb-false}
use borrow.Author.Rules.{part_to_end}
use Rattle.meaning.specs.Layouts.{layout_of}
use Rattle.meaning.specs.Judge.{inherited}
use Rattle.meaning.proofs.Tests.{not-both}
use Rattle.types.specs.Known.{field_at, position, format_names}
use Rattle.types.proofs.Codes.{field-most}
use Rattle.component.specs.Value.{given}
use Rattle.cbor.specs.Ending.{FAULT, code, item_end, rest}
use Rattle.cbor.proofs.Rest.{never-empty}
use Rattle.endian.proofs.Which.{eq-or}
use Rattle.walk.specs.Places.{Modes, EntryIs, TextIs}
use Rattle.walk.specs.declared.Letters.{Letters}
use Rattle.walk.specs.declared.Entry.{Entry}
use Rattle.walk.specs.declared.Entry.TheVariants.{End, Value}
use Rattle.walk.proofs.Passed as passed
use Rattle.fields.specs.Slots.{marked, SlotIs}
use Rattle.fields.specs.FieldWalk as keeping-is
use Rattle.fields.proofs.Texts as texts
use Rattle.fields.proofs.Texts.{Here, letters}
use Rattle.fields.proofs.FieldLoop as keeping
use Rattle.table.specs.Given.{offered}
use Rattle.table.specs.Rows.{RowsPut}
use Rattle.table.specs.declared.Place.{Place}
use Rattle.components.specs.Firsts.{ComponentsAre}
use Rattle.object.specs.Verdict.{waiting, ValueIs}
use Rattle.object.specs.Laying.{Tells, ValuePut, Walked}
use Rattle.object.proofs.Waiting.{waits-old, waits-not, waits-other, still-blank}
use Rattle.std.specs.Prelude.{Some, None, Result, Option}
use Rattle.numbers.specs.declared.fault.ObjectFault.{ObjectFault}

known : 4 < 5
known = omega arith

-- the slot of the key that begins s, lent whole to `walk::text`, which answered l
module _ (layout : ℕ) where
  pub slot-few : (k : ℕ) (u : List ℕ) → k ≡ field_at (layout_of layout).object u → k ≤ 6
  slot-few k u is = omega (arith, field-most (layout_of layout).object u, (layout_of layout).object_places)

  module _ (s : List ℕ) (l : Option Letters) (h : TextIs (Here s 0) l) where
    pub slot-odd : l ≡ None → SlotIs (layout_of layout).object s 6
    slot-odd e = texts.slot-odd s l h e (layout_of layout).object 5 (layout_of layout).object_places

    pub slot-known : (at n : ℕ) (e : l ≡ Some (record { at = at; size = n })) (k : ℕ) → k ≡ field_at (layout_of layout).object (letters s l h at n e) → SlotIs (layout_of layout).object s k
    slot-known at n e k is = (texts.slot-known s l h at n e (layout_of layout).object 5 (layout_of layout).object_places k is).1

-- ---------------------------------------------------------------- one value

-- no key and no code of an object in 1.2.0: nothing is given to its components
pub no-format : 4 ≡ position format_names []
unfolding position format_names
no-format = refl

module _ (layout start k seen : ℕ) (c : List ℕ) (found : Result ℕ ObjectFault) (rows : List ℕ) (b : Bool) (is : b ≡ waiting layout k seen) where
  not_so : b ≡ false → (layout ≡ 1 → ⊥) × (k ≡ 4) × (seen ≡ 0)
  unfolding waiting
  not_so e = go (eqb layout 1) refl (eqb k 4) refl (eqb seen 0) refl
    where
      go : (x : Bool) → eqb layout 1 ≡ x → (y : Bool) → eqb k 4 ≡ y → (z : Bool) → eqb seen 0 ≡ z → (layout ≡ 1 → ⊥) × (k ≡ 4) × (seen ≡ 0)
      go true p y q z r = absurd (not-both (is ∙ (rw p refl)) e)
      go false p false q z r = absurd (not-both (is ∙ (rw (p, q) refl)) e)
      go false p true q false r = absurd (not-both (is ∙ (rw (p, q, r) refl)) e)
      go false p true q true r = (eqb-false layout 1 p, eqb-true k 4 q, eqb-true seen 0 r)

  pub first-judged : b ≡ false → (found' : Result ℕ ObjectFault) (rows' : List ℕ) → ComponentsAre (offered layout 4 13) (Here c 0) start found' rows' → ValueIs layout start k seen c found rows found' rows'
  unfolding given inherited
  first-judged e found' rows' h = record {
    first = λ x y t r reads other. subst (λ u. ComponentsAre (offered layout 4 13) u start found' rows') (part_to_end c 0) h t r reads [] no-format (λ o. absurd (other o));
    other = λ n. absurd (n (not_so e).1 (not_so e).2);
  }

  -- it waits: only in layout 1.0 may these be the components
  pub as-found : b ≡ true → ValueIs layout start k seen c found rows found rows
  unfolding waiting
  as-found e = record {
    first = λ x y t r reads other. absurd (not-both e (is ∙ (rw (ne_eqb layout 1 other, eq-eqb k 4 x, eq-eqb seen 0 y) refl)));
    other = λ n. refl;
  }

-- ---------------------------------------------------------------- the loop

-- up to `at`, with n items due
pub record Looping (layout start : ℕ) (to : Place) (mode count : ℕ) (s before : List ℕ) (at n : ℕ) (p : List ℕ) (found : Result ℕ ObjectFault) (rows t : List ℕ) : Type 0 where
  pub keeps : keeping.Looping (layout_of layout).object 5 4 (Tells layout start to before) 28 mode count s at n p ((found, rows), t)
  pub slots : length p ≡ 8
  pub room : length rows ≡ 64
  pub long : length t ≡ length before
  -- before the components are met, the table is as it was
  pub fresh : get_or p 4 0 ≡ 0 → t ≡ before
  pub untouched : layout ≡ 1 → t ≡ before

module _ {layout start : ℕ} {to : Place} {mode count : ℕ} {s before : List ℕ} where
  pub loop-starts : {p : List ℕ} {found : Result ℕ ObjectFault} {rows : List ℕ} → Modes mode count → length s * 1 < 2 ^ 63 → p ≡ replicate 8 0 → length rows ≡ 64
      → Looping layout start to mode count s before 0 count p found rows before
  loop-starts modes lent e l = record {
    keeps = keeping.loop-starts (layout_of layout).object_places known (layout_of layout).object_apart modes (omega arith) e;
    slots = ap length e;
    room = l;
    long = refl;
    fresh = λ z. refl;
    untouched = λ z. refl;
  }

  module _ {at n : ℕ} {p : List ℕ} {found : Result ℕ ObjectFault} {rows t : List ℕ} (w : Looping layout start to mode count s before at n p found rows t) {x : Entry} (h : EntryIs 29 mode n (Here s at) x) where
    module _ {e : ℕ} (is : x ≡ End e) where
      pub ends-inside : e ≤ length s - at → at + e ≡ code (rest mode count 29 s)
      ends-inside l = (keeping.ends-inside w.keeps h is l).0

      pub ends-faulty : length s - at < e → e ≡ code (rest mode count 29 s)
      ends-faulty l = (keeping.ends-faulty w.keeps h is l).0

      pub all-walked : Walked layout start to mode count s before p found rows t
      all-walked = record { notes = λ ps r d. (passed.holds-of-all w.keeps.walking h is ps r d).noted; untouched = w.untouched }

    module _ {k : ℕ} (is : x ≡ Value k) {e : ℕ} (ended : e ≡ code (item_end 29 (Here s (at + k)))) where
      -- in layout 1.0 still no row is put
      as-untouched : {j seen : ℕ} {c t' : List ℕ} → ValuePut layout start to j seen c t t' → layout ≡ 1 → t' ≡ before
      as-untouched {j} {seen} put o = put.other (waits-old layout j seen o) ∙ w.untouched o

      -- then nothing is read, and whatever was found and put may be answered
      pub none-walked : {found' : Result ℕ ObjectFault} {rows' : List ℕ} {j seen : ℕ} {c t' : List ℕ} → length s - (at + k) < e → ValuePut layout start to j seen c t t'
          → Walked layout start to mode count s before p found' rows' t'
      none-walked {found'} {rows'} {t' = t'} l put =
          record { notes = (keeping.value-faulty w.keeps h is ended {kept' = ((found', rows'), t')} l).1; untouched = as-untouched put }

      module _ (l : e ≤ length s - (at + k)) where
        pub next_fits : Fits w64 (at + k + e)
        next_fits = let y = keeping.next-inside w.keeps h is ended l in let z = w.keeps.walking.short in record { fits = omega arith }

        -- where no byte is left no value is read
        some_left : 0 < length s - (at + k)
        some_left = ⊎_elim (λ z. absurd (none z)) (λ z. omega arith) (eq-or (length s - (at + k)) 0)
          where
            none : length s - (at + k) ≡ 0 → ⊥
            none z =
                let y = never-empty 29 (Here s (at + k)) (ap length (part_to_end s (at + k)) ∙ length-drop (at + k) s ∙ z) in
                let u : e ≡ FAULT + 6 = ended ∙ ap code y in omega arith

        module _ {j : ℕ} (slot : SlotIs (layout_of layout).object (Here s at) j) {found' : Result ℕ ObjectFault} {rows' : List ℕ} (sized : length rows' ≡ 64)
            (valued : ValueIs layout start j (get_or p 4 0) (Here s (at + k)) found rows found' rows') {t' : List ℕ} (same : length t' ≡ length t)
            (put : ValuePut layout start to j (get_or p 4 0) (Here s (at + k)) t t') {q : List ℕ} (m : q ≡ marked 5 p j (length s - (at + k))) where
          told : keeping-is.ValueIs (layout_of layout).object 5 4 (Tells layout start to before) 29 j (get_or p 4 0) (Here s (at + k)) ((found, rows), t) ((found', rows'), t')
          unfolding given inherited
          told = record {
            first = λ a b x r reads. (
              valued.first a b x r reads,
              λ other. subst (λ u. RowsPut (offered layout 4 13) (Here s (at + k)) start to.end to.owner to.from u t') (w.fresh b) (put.first (waits-not layout j (get_or p 4 0) other a b)) x r reads [] no-format (λ o. absurd (other o)),
            );
            other = λ h. ap₂ (λ (a : Result ℕ ObjectFault × List ℕ) (b : List ℕ). (a, b)) (valued.other h) (put.other (waits-other layout j (get_or p 4 0) h));
          }

          still-fresh : get_or q 4 0 ≡ 0 → t' ≡ before
          still-fresh z =
              let slots = w.slots in
              let b = still-blank 5 p j (length s - (at + k)) 4 some_left (omega arith) (omega arith) (ap (λ q. get_or q 4 0) (sym m) ∙ z) in
              put.other (waits-other layout j (get_or p 4 0) (λ a y. b.1 a)) ∙ w.fresh b.0

          pub loops-on : Looping layout start to mode count s before (at + k + e) (n - 2) q found' rows' t'
          loops-on =
              let z = keeping.loops-on w.keeps h is ended l slot told m in
              record { keeps = z; slots = z.slots; room = sized; long = same ∙ w.long; fresh = still-fresh; untouched = as-untouched put }
