-- The whole text that begins s, as `walk::text` answers it for s lent whole: for every tree that is read there, and for the slot of a key.
use mathlib.Core.Path.{◌≡◌, refl, ap, ◌∙◌, subst}
use mathlib.Core.List.{List}
use Prim.Native.Nat.{ℕ, suc, ◌+◌, ◌-◌, ◌≤◌}
use native.Mathlib.Omega.{arith}
use lib.ListN.{length, take, drop}
use borrow.Author.Rules.{part_to_end}
use Rattle.meaning.specs.Check.{pass, fault}
use Rattle.meaning.specs.Refusal.{KIND}
use Rattle.meaning.specs.Kind as kinds
use Rattle.meaning.specs.Kind.{kind}
use Rattle.meaning.specs.Layouts.{Slots}
use Rattle.meaning.proofs.KindIs.{key-of-word, key-of-none}
use Rattle.types.specs.Known.{field_at}
use Rattle.types.proofs.Codes.{field-most}
use Rattle.walk.specs.Reading.{ends}
use Rattle.walk.specs.Places.{Whatever, text_at, TextIs, Inside}
use Rattle.std.specs.Prelude.{Some, None, Option}
pub use Rattle.walk.proofs.Passed.{Here}
use Rattle.walk.specs.declared.Letters.{Letters}
use Rattle.fields.specs.Slots.{slot_of, SlotIs}

module _ (s : List ℕ) (l : Option Letters) where
  pub letters-in : Inside (Here s 0) l → (at n : ℕ) → l ≡ Some (record { at = at; size = n }) → at + n ≤ length s
  letters-in h at n e = rw (part_to_end s 0) at (rw e at h)

  module _ (h : TextIs (Here s 0) l) where
    whole : TextIs s l
    whole = subst (λ u. TextIs u l) (part_to_end s 0) h

    module _ (e : l ≡ None) where
      pub no_word : Whatever s λ d t r. kinds.a_word t ≡ fault KIND
      no_word d t r q = whole d t r q ∙ ap (text_at s r) e

      pub slot-odd : (slots : Slots) (m : ℕ) → length slots ≡ m → SlotIs slots s (suc m)
      unfolding slot_of kinds.a_word
      slot-odd slots m places d t r q = rw (key-of-none (kind t) (no_word d t r q), ← places) refl

    module _ (at n : ℕ) (e : l ≡ Some (record { at = at; size = n })) where
      -- its letters, as they are lent
      abbrev pub letters : List ℕ
      letters = take (at + n - at) (drop at s)

      pub word : Whatever s λ d t r. kinds.a_word t ≡ pass (record { note = ends s r; letters = letters })
      word d t r q =
          let z : n ≡ at + n - at = omega arith in
          whole d t r q ∙ ap (text_at s r) e ∙ ap (λ (i : ℕ). pass (record { note = ends s r; letters = take i (drop at s) })) z

      pub slot-known : (slots : Slots) (m : ℕ) → length slots ≡ m → (k : ℕ) → k ≡ field_at slots letters → (k ≤ suc m) × SlotIs slots s k
      unfolding slot_of kinds.a_word
      slot-known slots m places k is = (omega (arith, field-most slots letters, places, is), λ d t r q. rw (key-of-word (kind t) _ (word d t r q)) is)
