-- The loop over a component's entries: the slots of the pairs passed.
use mathlib.Core.Path.{◌≡◌, refl, ap, ◌∙◌, subst}
use mathlib.Core.List.{List}
use Prim.Native.Nat.{ℕ, ◌+◌, ◌-◌, ◌*◌, ◌^◌, ◌≤◌, ◌<◌}
use native.Mathlib.Omega.{arith}
use lib.ListN.{length}
use borrow.Author.Rules.{part_to_end}
use Rattle.meaning.specs.Layouts.{layout_of}
use Rattle.cbor.specs.Ending.{code, item_end, rest}
use Rattle.types.specs.Known.{field_at}
use Rattle.types.proofs.Codes.{field-most}
use Rattle.walk.specs.Places.{EntryIs, Modes, TextIs}
use Rattle.walk.specs.declared.Letters.{Letters}
use Rattle.walk.specs.declared.Entry.{Entry}
use Rattle.walk.specs.declared.Entry.TheVariants.{End, Value}
use Rattle.walk.proofs.Passed as passed
use Rattle.walk.proofs.Passed.{Passed, Folds}
use Rattle.fields.specs.Slots.{marked, marks, SlotIs}
use Rattle.component.specs.Verdict.{Placed}
use Rattle.fields.proofs.MarkedSlots.{marks-step, marked-length}
use Rattle.fields.proofs.Texts as texts
use Rattle.fields.proofs.Texts.{Here, letters}
use Rattle.std.specs.Prelude.{Some, None, Option}

-- the slot of the key that begins s, lent whole to `walk::text`, which answered l
module _ (layout : ℕ) where
  pub slot-few : (k : ℕ) (u : List ℕ) → k ≡ field_at (layout_of layout).component u → k ≤ 8
  slot-few k u is = omega (arith, field-most (layout_of layout).component u, (layout_of layout).component_places)

  module _ (s : List ℕ) (l : Option Letters) (h : TextIs (Here s 0) l) where
    pub slot-odd : l ≡ None → SlotIs (layout_of layout).component s 8
    slot-odd e = texts.slot-odd s l h e (layout_of layout).component 7 (layout_of layout).component_places

    pub slot-known : (at n : ℕ) (e : l ≡ Some (record { at = at; size = n })) (k : ℕ) → k ≡ field_at (layout_of layout).component (letters s l h at n e) → SlotIs (layout_of layout).component s k
    slot-known at n e k is = (texts.slot-known s l h at n e (layout_of layout).component 7 (layout_of layout).component_places k is).1

-- up to `at`, with n items due and the slots p, from the slots z
pub record Noting (layout mode count : ℕ) (s z : List ℕ) (at n : ℕ) (p : List ℕ) : Type 0 where
  pub walking : Passed 27 mode count s at n (Folds (marks (layout_of layout).component) z p)
  pub slots : length p ≡ 10

module _ {layout mode count : ℕ} {s z : List ℕ} where
  pub noting-starts : Modes mode count → length s * 1 < 2 ^ 63 → length z ≡ 10 → Noting layout mode count s z 0 count z
  noting-starts modes lent l = record { walking = passed.passed-starts modes (omega arith) (record { is = refl }); slots = l }

  module _ {at n : ℕ} {p : List ℕ} (w : Noting layout mode count s z at n p) {x : Entry} (h : EntryIs 27 mode n (Here s at) x) where
    module _ {e : ℕ} (is : x ≡ End e) where
      pub ends-inside : e ≤ length s - at → at + e ≡ code (rest mode count 27 s)
      ends-inside l = (passed.ends-inside w.walking h is l).0

      pub ends-faulty : length s - at < e → e ≡ code (rest mode count 27 s)
      ends-faulty l = (passed.ends-faulty w.walking h is l).0

      pub all_noted : Placed (layout_of layout) mode count s z p
      all_noted ps r d = (passed.holds-of-all w.walking h is ps r d).is

    module _ {k : ℕ} (is : x ≡ Value k) {e : ℕ} (skipped : e ≡ code (item_end 27 (Here s (at + k)))) where
      pub none-noted : length s - (at + k) < e → Placed (layout_of layout) mode count s z p
      none-noted l = passed.no_pairs w.walking h is skipped l _

      pub noting-goes-on : e ≤ length s - (at + k) → {j : ℕ} {q : List ℕ} → SlotIs (layout_of layout).component (Here s at) j → q ≡ marked 7 p j (length s - (at + k))
          → Noting layout mode count s z (at + k + e) (n - 2) q
      noting-goes-on l {j} {q} slot m = record {
        walking =
            passed.folds-on w.walking h is skipped l
            (λ pair key value. marks-step (layout_of layout).component 7 (layout_of layout).component_places 26 s at (at + k) p q j (subst (λ u. SlotIs (layout_of layout).component u j) (part_to_end s at) slot) m pair _ _ key value);
        slots = ap length m ∙ marked-length 7 p j (length s - (at + k)) ∙ w.slots;
      }
