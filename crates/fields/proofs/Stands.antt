-- Pairs that are read one after the other: every value stands at its place; and what the slots of such pairs say.
use mathlib.Core.Path.{◌≡◌, refl, sym, ap, ◌∙◌, subst}
use mathlib.Core.List.{List, [], ◌∷◌}
use mathlib.Core.Bool.{Bool, true, false, cond}
use mathlib.Core.Option.{Option, none, some}
use Prim.Native.Nat.{ℕ, zero, suc, ◌+◌, ◌-◌, ◌≤◌, ◌<◌}
use native.Mathlib.Omega.{arith}
use lib.ListN.{length, get_or, drop, length-drop, length-replicate, replicate}
use lib.Seq.{drop-drop}
use lib.Dec.{leb, eqb}
use Rattle.meaning.specs.Tree.{Node, Pair, note_of}
use Rattle.meaning.specs.Text.{all, distinct}
use Rattle.meaning.specs.Layouts.{Slots, slot, somes}
use Rattle.meaning.specs.Field as field
use Rattle.walk.specs.Reading.{Ends, Reads, Chain, left_at, foldl}
use Rattle.walk.proofs.Chains.{ate}
use Rattle.walk.proofs.ReadSays.{note-of}
use Rattle.fields.specs.Slots.{marks, Stands, Holds}
use Rattle.fields.proofs.Marks.{AllSome, odd_is, twice-is, slot_is}

blank : (k j : ℕ) → ◌≡◌ {A = ℕ} (get_or (replicate {A = ℕ} k 0) j 0) 0
blank zero j = refl
blank (suc k) zero = refl
blank (suc k) (suc j) = blank k j

module _ (d : ℕ) where
  -- an item that is read takes a byte at least
  pub some_left : (m : List ℕ) (t : Node Ends) (r : List ℕ) → Reads d m t r → 0 < length (note_of t).start
  some_left m t r e = let a = ate d m t r e in let l : length (note_of t).start ≡ length m = ap (λ n. length n.start) (note-of d m t r e) in omega (arith, a.some, a.fits)

  all-some : (m : List ℕ) (ps : List (Pair Ends)) (r : List ℕ) → Chain d m ps r → AllSome ps
  all-some m [] r h = tt
  all-some m (p ∷ ps) r h = (some_left h.0 p.value h.1 h.3, all-some h.1 ps r h.4)

  module _ (s : List ℕ) where
    -- an item that is read at a part of s
    pub stands_at : (at : ℕ) → at ≤ length s → (t : Node Ends) (r : List ℕ) → Reads d (drop at s) t r → Stands d s (length (note_of t).start) t
    stands_at at l t r e =
        let x : length (note_of t).start ≡ length s - at = ap (λ n. length n.start) (note-of d (drop at s) t r e) ∙ length-drop at s in
        let y : at ≡ length s - length (note_of t).start = omega arith in
        record { rest = r; within = omega arith; left_is = refl; reads = subst (λ i. Reads d (drop i s) t r) y e }

    module _ (name : List ℕ) where
      pub get-stands : (ps : List (Pair Ends)) (at : ℕ) → at ≤ length s → (r : List ℕ) → Chain d (drop at s) ps r → (t : Node Ends) → field.get name ps ≡ some t → Stands d s (length (note_of t).start) t
      unfolding field.get
      get-stands [] at l r h t e = let z : ◌≡◌ {A = ℕ} 0 1 = cc in absurd (omega arith)
      get-stands (p ∷ ps) at l r h t e =
          let k = ate d (drop at s) p.key h.0 h.2 in
          let a : h.0 ≡ drop (at + k.size) s = k.is ∙ drop-drop k.size at s in
          let x : Reads d (drop (at + k.size) s) p.value h.1 = subst (λ m. Reads d m p.value h.1) a h.3 in
          let v = ate d (drop (at + k.size) s) p.value h.1 x in
          let b : h.1 ≡ drop (at + k.size + v.size) s = v.is ∙ drop-drop v.size (at + k.size) s in
          let i : at + k.size ≤ length s = omega (arith, k.fits, length-drop at s) in
          let j : at + k.size + v.size ≤ length s = omega (arith, v.fits, length-drop (at + k.size) s) in
          go (field.named name p) e (stands_at (at + k.size) i p.value h.1 x) (get-stands ps (at + k.size + v.size) j r (subst (λ m. Chain d m ps r) b h.4) t)
        where
          go : (b : Bool) → cond b (some p.value) (field.get name ps) ≡ some t → Stands d s (length (note_of p.value).start) p.value
              → (field.get name ps ≡ some t → Stands d s (length (note_of t).start) t) → Stands d s (length (note_of t).start) t
          go true e h ih = let x : p.value ≡ t = cc in subst (λ (u : Node Ends). Stands d s (length (note_of u).start) u) x h
          go false e h ih = ih e

      holds_of : (o : Option (Node Ends)) → ((t : Node Ends) → o ≡ some t → Stands d s (length (note_of t).start) t) → Holds d s (left_at o) o
      holds_of none h = refl
      holds_of (some t) h = let x = h t refl in (some_left (drop (length s - length (note_of t).start) s) t x.rest x.reads, x)

-- a place is 0 where nothing stands
pub hold-none : (d : ℕ) (s : List ℕ) (l : ℕ) (o : Option (Node Ends)) → Holds d s l o → l ≡ 0 → o ≡ none
hold-none d s l none h e = refl
hold-none d s l (some t) h e = let x = h.0 in absurd (omega arith)

pub record Item (d : ℕ) (s : List ℕ) (l : ℕ) (o : Option (Node Ends)) : Type 0 where
  pub item : Node Ends
  pub is : o ≡ some item
  pub stands : Stands d s l item

pub hold-some : (d : ℕ) (s : List ℕ) (l : ℕ) (o : Option (Node Ends)) → Holds d s l o → (l ≡ 0 → ⊥) → Item d s l o
hold-some d s l none h n = absurd (n h)
hold-some d s l (some t) h n = record { item = t; is = refl; stands = h.1 }

-- the slots of pairs that are read from s on, by a list with n places
module _ (slots : Slots) (n : ℕ) (places : length slots ≡ n) (d : ℕ) (s : List ℕ) (ps : List (Pair Ends)) (r : List ℕ) (chain : Chain d s ps r)
    (p : List ℕ) (is : p ≡ foldl (marks slots) (replicate (n + 3) 0) ps) where
  abbrev zeros : List ℕ
  zeros = replicate (n + 3) 0

  sized : length zeros ≡ length slots + 3
  sized = length-replicate (n + 3) 0 ∙ ap (λ (m : ℕ). m + 3) (sym places)

  pub keys-are-text : eqb (get_or p (suc n) 0) 0 ≡ all (λ q. field.is_some (field.key_of q)) ps
  keys-are-text =
      ap (λ p. eqb (get_or p (suc n) 0) 0) is ∙ ap (λ (m : ℕ). eqb (get_or (foldl (marks slots) zeros ps) (suc m) 0) 0) (sym places)
      ∙ odd_is slots zeros (blank (n + 3)) sized ps (all-some d s ps r chain)

  pub none-twice : eqb (get_or p (n + 2) 0) 0 ≡ all (λ n. leb (field.count n ps) 1) (somes slots)
  none-twice =
      ap (λ p. eqb (get_or p (n + 2) 0) 0) is ∙ ap (λ (m : ℕ). eqb (get_or (foldl (marks slots) zeros ps) (m + 2) 0) 0) (sym places)
      ∙ twice-is slots zeros (blank (n + 3)) sized ps (all-some d s ps r chain)

  -- where the field at the place i stands; nowhere if the map or the layout hasn't got it
  pub field-stands : distinct (somes slots) ≡ true → (i : ℕ) → i < n → Holds d s (get_or p i 0) (field.field (slot i slots) ps)
  unfolding field.field
  field-stands apart i l =
      let x : get_or p i 0 ≡ left_at (field.field (slot i slots) ps) =
      ap (λ p. get_or p i 0) is ∙ slot_is slots apart zeros (blank (n + 3)) sized ps (all-some d s ps r chain) i (omega (arith, l, places)) in
      subst (λ j. Holds d s j (field.field (slot i slots) ps)) (sym x) (holds (slot i slots))
    where
      holds : (o : Option (List ℕ)) → Holds d s (left_at (field.field o ps)) (field.field o ps)
      holds none = refl
      holds (some m) = holds_of d s m (field.get m ps) (get-stands d s m ps 0 (omega arith) r chain)

-- a field of pairs that are read one after the other
pub field-found-stands : (d : ℕ) (s : List ℕ) (o : Option (List ℕ)) (ps : List (Pair Ends)) (at : ℕ) → at ≤ length s → (r : List ℕ) → Chain d (drop at s) ps r → (t : Node Ends)
    → field.field o ps ≡ some t → Stands d s (length (note_of t).start) t
unfolding field.field
field-found-stands d s none ps at l r h t e = absurd (let z : ◌≡◌ {A = ℕ} 0 1 = cc in omega arith)
field-found-stands d s (some n) ps at l r h t e = get-stands d s n ps at l r h t e

-- what stands in a part that runs to the end stands in the whole
pub holds-whole : (d : ℕ) (c : List ℕ) (a : ℕ) → a ≤ length c → (left : ℕ) (o : Option (Node Ends)) → Holds d (drop a c) left o → Holds d c left o
holds-whole d c a l left none h = h
holds-whole d c a l left (some t) (there, x) =
    let w : left ≤ length (drop a c) = x.within in
    let n = length-drop a c in
    let z : a + (length (drop a c) - left) ≡ length c - left = omega arith in
    (there, record { rest = x.rest; within = omega arith; left_is = x.left_is; reads = subst (λ u. Reads d u t x.rest) (drop-drop (length (drop a c) - left) a c ∙ ap (λ i. drop i c) z) x.reads })
