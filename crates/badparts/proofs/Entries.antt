-- A component of an index, as `entry` finds it: a branch each. s is lent whole.
use Prim.Native.Nat.{ℕ, ◌-◌}
use mathlib.Core.List.{List}
use mathlib.Core.Path.{◌≡◌, refl, ap, sym, ◌∙◌, subst}
use native.Mathlib.Omega.{arith}
use lib.ListN.{length, drop}
use borrow.Author.Rules.{part_to_end}
use Rattle.meaning.specs.Tree.{Node, note_of}
use Rattle.meaning.specs.Check.{pass}
use Rattle.meaning.specs.Limit.{component_limit}
use Rattle.meaning.specs.Kind.{Kind, number, words, list, mapping, null, another, kind, a_word, as_word}
use Rattle.meaning.specs.Layouts.{layout_of}
use Rattle.meaning.specs.Model.{Word, Named}
use Rattle.meaning.specs.Field.{names}
use Rattle.walk.specs.Reading.{Ends, Reads}
use Rattle.walk.proofs.Passed.{Here}
use Rattle.component.specs.Value as value
use Rattle.entry.specs.declared.Places.{Places}
use Rattle.entry.specs.Nth.{EntryIs}
use Rattle.explained.specs.Breaks.{At}
use Rattle.indexed.specs.Entry.{EntryAt}
use Rattle.indexed.proofs.Named.{named-entry}
use Rattle.spot.specs.Shown.{spot}
use Rattle.spot.specs.Shown.{Spot}
use Rattle.badnames.proofs.NameChecks.{word-noted}
use Rattle.badcomponent.specs.Steps as component
use Rattle.badparts.specs.Parts.{Owned}
use Rattle.badparts.specs.Parts.{owned, key_of, InsideIs, ValueIs, LengthIs}

passed-word-noted : (t : Node Ends) (w : Word Ends) → a_word t ≡ pass w → w.note ≡ note_of t
unfolding a_word as_word
passed-word-noted t w e = go (kind t) refl e
  where
    go : (k : Kind Ends) → kind t ≡ k → as_word k ≡ pass w → w.note ≡ note_of t
    go (number n) h e = absurd (let z : ◌≡◌ {A = ℕ} 0 1 = cc in omega arith)
    go (words v) h e = let z : v ≡ w = cc in word-noted t w (h ∙ ap words z)
    go (list l) h e = absurd (let z : ◌≡◌ {A = ℕ} 0 1 = cc in omega arith)
    go (mapping l) h e = absurd (let z : ◌≡◌ {A = ℕ} 0 1 = cc in omega arith)
    go null h e = absurd (let z : ◌≡◌ {A = ℕ} 0 1 = cc in omega arith)
    go another h e = absurd (let z : ◌≡◌ {A = ℕ} 0 1 = cc in omega arith)

module _ (s : List ℕ) (c : ℕ) (e : Places) (h : EntryIs 28 s c e) where
  found : (t : Node Ends) (q : List ℕ) → Reads 29 s t q → (ns : List (Named Ends)) → names component_limit t ≡ pass ns → (n : Named Ends) → At c n 0 ns → EntryAt 28 s n e
  found t q r ns k n at = named-entry 28 s t q r component_limit ns k c n at e (h)

  key-is : (n : Named Ends) → EntryAt 28 s n e → e.key ≡ key_of n
  key-is n x = x.key-stands.left_is ∙ sym (ap (λ (i : Ends). length i.start) (passed-word-noted x.key n.name x.spells))

  pub at_value : (z : Spot) → z ≡ spot 22 e.value → (r : Owned) → r ≡ owned z e.key → ValueIs s c r
  at_value z i r k t q y ns m n at = let x = found t q y ns m n at in k ∙ (rw (i, x.value-stands.left_is, key-is n x) refl)

  module _ (v : ℕ) (is-v : v ≡ length s - e.value) where
    value-reads : (n : Named Ends) (x : EntryAt 28 s n e) → Reads 28 (Here s v) n.value x.value-stands.rest
    value-reads n x = subst (λ u. Reads 28 u n.value x.value-stands.rest) (sym (part_to_end s v ∙ ap (λ (i : ℕ). drop i s) is-v)) x.value-stands.reads

    pub in-component : (layout code start : ℕ) (z : Spot) → component.ComponentIs (layout_of layout) (value.given code) (Here s v) start z → (r : Owned) → r ≡ owned z e.key → InsideIs layout code s start c r
    in-component layout code start z i r k t q y ns m n at = let x = found t q y ns m n at in k ∙ (rw (i n.value x.value-stands.rest (value-reads n x) n.name, key-is n x) refl)

    pub at_length : (layout l : ℕ) → component.LengthIs (layout_of layout) (Here s v) l → (z : Spot) → z ≡ spot 23 l → (r : Owned) → r ≡ owned z e.key → LengthIs layout s c r
    at_length layout l i z j r k t q y ns m n at = let x = found t q y ns m n at in k ∙ (rw (j, i n.value x.value-stands.rest (value-reads n x) n.name, key-is n x) refl)
