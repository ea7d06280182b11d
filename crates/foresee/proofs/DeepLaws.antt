-- Attributes that get too deep: by the code that skipping them gives, and object by object.
use Prim.Native.Nat.{ℕ, ◌+◌, ◌-◌, ◌*◌, ◌^◌, ◌≤◌, ◌<◌}
use native.Mathlib.Omega.{arith}
use mathlib.Core.List.{List}
use mathlib.Core.Bool.{Bool, true, false, cond, ◌&&◌}
use mathlib.Core.Path.{◌≡◌, refl, sym, ap, ◌∙◌}
use lib.ListN.{length, take, drop, get_or, length-take, length-drop}
use lib.Seq.{get_or-drop}
use lib.Dec.{eqb}
use borrow.Author.Tests.{ne_eqb}
use Rattle.meaning.specs.Columns.{object_width, attributes_column, attributes_length_column}
use Rattle.meaning.specs.Read.{Span, Outcome, got, refused, item, no_note}
use Rattle.meaning.specs.Asked.{AskedComponent, asked_object, each_row, present_at}
use Rattle.meaning.specs.Described.{described_object, described_objects}
use Rattle.cbor.specs.Ending.{FAULT, code, ending}
use Rattle.readback.specs.Trees.{is_deep, deep_at}
use Rattle.readback.specs.Judged.{deep_option, any_too_deep}
use Rattle.rows.specs.Placed.{objects_at}
use Rattle.rows.proofs.Both.{same-equality}
use Rattle.rows.proofs.EachRow.{no_row, next-row-at}
use Rattle.foresee.proofs.TextLaws.{nothing-there, something-there}

deep-code : {A : Type 0} (s : List ℕ) (o : Outcome A) → length s < FAULT → eqb (code (ending s o)) (FAULT + 7) ≡ is_deep o
unfolding is_deep
deep-code s (got t r) short = ne_eqb (length s - length r) (FAULT + 7) (λ z. omega (arith, short, z))
deep-code s (refused n q) short = same-equality (FAULT + n) (FAULT + 7) n 7 (λ z. omega (arith, z)) (λ z. omega (arith, z))

module _ (buffer : List ℕ) (place size levels : ℕ) {n : Bool} (absent : n ≡ (eqb place 0 && eqb size 0)) where
  abbrev range : Span
  range = record { place = place; size = size }

  pub never-deep : n ≡ true → false ≡ deep_option levels (present_at buffer range)
  unfolding deep_option
  never-deep e = rw (nothing-there buffer place size absent e) refl

  -- its bytes are s, and passing over an item of them answered r
  pub skipped-deep : n ≡ false → {s : List ℕ} → s ≡ take size (drop place buffer) → length buffer * 1 < 2 ^ 63 → {r : ℕ} → r ≡ code (ending s (item no_note levels s))
      → eqb r (FAULT + 7) ≡ deep_option levels (present_at buffer range)
  unfolding deep_option deep_at
  skipped-deep e {s} is short skipped =
      let l : length s < FAULT = omega (arith, short, ap length is ∙ length-take size (drop place buffer), length-drop place buffer) in
      rw (something-there buffer place size absent e, ← is) (ap (λ (n : ℕ). eqb n (FAULT + 7)) skipped ∙ deep-code s (item no_note levels s) l)

-- the loop over n objects' rows, whatever their components: `left` of them to go, from the place `at` on
abbrev any_from : List ℕ → List ℕ → ℕ → ℕ → List AskedComponent → Bool
any_from buffer rows left at cs = any_too_deep (described_objects buffer (objects_at left at rows) cs)

abbrev any_of : List ℕ → List ℕ → ℕ → List AskedComponent → Bool
any_of buffer rows n cs = any_too_deep (described_objects buffer (each_row asked_object object_width n rows) cs)

pub record NoneDeep (buffer rows : List ℕ) (n at left : ℕ) : Type 0 where
  pub lie : at + object_width * left ≤ length rows
  pub so_far : (r : Bool) → ((cs : List AskedComponent) → r ≡ any_from buffer rows left at cs) → (cs : List AskedComponent) → r ≡ any_of buffer rows n cs

module _ {buffer rows : List ℕ} {n : ℕ} where
  pub none_yet : object_width * n ≤ length rows → NoneDeep buffer rows n 0 n
  none_yet h = record { lie = omega (arith, h); so_far = λ r f. f }

  module _ {at left : ℕ} (w : NoneDeep buffer rows n at left) where
    pub none_deep : left ≤ 0 → (cs : List AskedComponent) → false ≡ any_of buffer rows n cs
    unfolding any_too_deep described_objects
    none_deep h = w.so_far false none
      where
        none : (cs : List AskedComponent) → false ≡ any_from buffer rows left at cs
        none cs = rw (no_row asked_object object_width left (drop at rows) h) refl

    -- `deep` said r of the attributes of the object whose row stands at `at`
    module _ (more : 0 < left) {r : Bool} (is : r ≡ deep_option 29 (present_at buffer (record { place = get_or rows (at + attributes_column) 0; size = get_or rows (at + attributes_length_column) 0 }))) where
      first-and-others : (cs : List AskedComponent) → any_from buffer rows left at cs ≡ cond r true (any_from buffer rows (left - 1) (at + object_width) (drop (asked_object (drop at rows)).count cs))
      unfolding any_too_deep described_objects described_object asked_object
      first-and-others cs = rw (next-row-at asked_object object_width left at rows more, get_or-drop at rows attributes_column 0, get_or-drop at rows attributes_length_column 0, is) refl

      pub one-deep : r ≡ true → (cs : List AskedComponent) → true ≡ any_of buffer rows n cs
      one-deep e = w.so_far true (λ cs. sym (rw e at (first-and-others cs)))

      pub none-deep-yet : r ≡ false → NoneDeep buffer rows n (at + object_width) (left - 1)
      none-deep-yet e = record {
        lie = (let l = w.lie in omega (arith, more, l));
        so_far = λ b f. w.so_far b (λ cs. f (drop (asked_object (drop at rows)).count cs) ∙ sym (rw e at (first-and-others cs)));
      }
