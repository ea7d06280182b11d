-- One pair more at the end of the pairs passed: the fold over them, the first field of a name, and what its slot says of it. For any list of known names.
use mathlib.Core.Path.{◌≡◌, refl, sym, ap, ◌∙◌}
use mathlib.Core.List.{List, [], ◌∷◌, ◌++◌}
use mathlib.Core.Bool.{Bool, true, false, cond}
use mathlib.Core.Option.{Option, none, some}
use Prim.Native.Nat.{ℕ, ◌+◌, ◌<◌}
use native.Mathlib.Omega.{arith}
use lib.ListN.{length, get_or, replicate}
use Rattle.meaning.specs.Tree.{Node, Pair}
use Rattle.meaning.specs.Text.{distinct}
use Rattle.meaning.specs.Layouts.{Slots, slot, somes}
use Rattle.meaning.specs.Field as field
use Rattle.meaning.specs.Field.{key_of, get}
use Rattle.meaning.proofs.SameText.{same-eq}
use Rattle.types.specs.Known.{field_at}
use Rattle.walk.specs.Reading.{Ends, Chain, foldl}
use Rattle.fields.specs.Slots.{slot_of, marks, Holds}
use Rattle.fields.proofs.Marks.{position-slot}
use Rattle.fields.proofs.Stands.{hold-none, hold-some, field-stands}

-- ---------------------------------------------------------------- the first field of a name

module _ (name : List ℕ) (q : Pair Ends) where
  -- the first wins
  pub get-kept : (ps : List (Pair Ends)) (t : Node Ends) → get name ps ≡ some t → get name (ps ++ q ∷ []) ≡ some t
  unfolding get
  get-kept [] t e = absurd (let z : ◌≡◌ {A = ℕ} 0 1 = cc in omega arith)
  get-kept (p ∷ ps) t e = go (field.named name p) e (get-kept ps t)
    where
      go : (b : Bool) → cond b (some p.value) (get name ps) ≡ some t → (get name ps ≡ some t → get name (ps ++ q ∷ []) ≡ some t) → cond b (some p.value) (get name (ps ++ q ∷ [])) ≡ some t
      go true e ih = e
      go false e ih = ih e

  -- none before: only the last can be it
  pub get-last : (ps : List (Pair Ends)) → get name ps ≡ none → get name (ps ++ q ∷ []) ≡ cond (field.named name q) (some q.value) none
  unfolding get
  get-last [] e = refl
  get-last (p ∷ ps) e = go (field.named name p) e (get-last ps)
    where
      go : (b : Bool) → cond b (some p.value) (get name ps) ≡ none → (get name ps ≡ none → get name (ps ++ q ∷ []) ≡ cond (field.named name q) (some q.value) none)
          → cond b (some p.value) (get name (ps ++ q ∷ [])) ≡ cond (field.named name q) (some q.value) none
      go true e ih = absurd (let z : ◌≡◌ {A = ℕ} 0 1 = cc in omega arith)
      go false e ih = ih e

  -- the last is another field
  pub get_other : (ps : List (Pair Ends)) → field.named name q ≡ false → get name (ps ++ q ∷ []) ≡ get name ps
  unfolding get
  get_other [] e = rw e refl
  get_other (p ∷ ps) e = ap (cond (field.named name p) (some p.value)) (get_other ps e)

  pub last-is : (ps : List (Pair Ends)) → get name ps ≡ none → (t : Node Ends) → get name (ps ++ q ∷ []) ≡ some t → q.value ≡ t
  last-is ps e t g = go (field.named name q) (sym (get-last ps e) ∙ g)
    where
      go : (b : Bool) → cond b (some q.value) none ≡ some t → q.value ≡ t
      go true h = cc
      go false h = absurd (let z : ◌≡◌ {A = ℕ} 0 1 = cc in omega arith)

-- ---------------------------------------------------------------- its slot

module _ (slots : Slots) (n : ℕ) (places : length slots ≡ n) (i : ℕ) (known : i < n) (apart : distinct (somes slots) ≡ true) where
  -- a key of the name at the place i has the slot i
  slot-named : (name : List ℕ) → slot i slots ≡ some name → (q : Pair Ends) → field.named name q ≡ true → slot_of slots (key_of q) ≡ i
  unfolding field.named field.is_key slot_of
  slot-named name at q = go (key_of q)
    where
      go : (k : Option (List ℕ)) → field.is_key name k ≡ true → slot_of slots k ≡ i
      go none e = absurd (let z : ◌≡◌ {A = ℕ} 0 1 = cc in omega arith)
      go (some k) e = ap (field_at slots) (sym (same-eq name k e)) ∙ position-slot slots apart i name at

  -- the slots p of pairs that are read one after the other from s on
  module _ (d : ℕ) (s : List ℕ) (ps : List (Pair Ends)) (r : List ℕ) (chain : Chain d s ps r) (p : List ℕ) (is : p ≡ foldl (marks slots) (replicate (n + 3) 0) ps) where
    stands : Holds d s (get_or p i 0) (field.field (slot i slots) ps)
    stands = field-stands slots n places d s ps r chain p is apart i known

    -- the slot was free: the field, if it stands there now, is the last pair's
    pub first-is : (q : Pair Ends) → get_or p i 0 ≡ 0 → (t : Node Ends) → field.field (slot i slots) (ps ++ q ∷ []) ≡ some t → q.value ≡ t
    unfolding field.field
    first-is q e t = go (slot i slots) stands
      where
        go : (o : Option (List ℕ)) → Holds d s (get_or p i 0) (field.field o ps) → field.field o (ps ++ q ∷ []) ≡ some t → q.value ≡ t
        go none h g = absurd (let z : ◌≡◌ {A = ℕ} 0 1 = cc in omega arith)
        go (some name) h g = last-is name q ps (hold-none d s (get_or p i 0) (get name ps) h e) t g

    -- another slot than the last pair's, or one that was taken: the field is the one from before
    pub as_before : (q : Pair Ends) → (slot_of slots (key_of q) ≡ i → get_or p i 0 ≡ 0 → ⊥) → (t : Node Ends) → field.field (slot i slots) (ps ++ q ∷ []) ≡ some t
        → field.field (slot i slots) ps ≡ some t
    unfolding field.field
    as_before q h t = go (slot i slots) refl stands
      where
        by_name : (name : List ℕ) → slot i slots ≡ some name → Holds d s (get_or p i 0) (get name ps) → (b : Bool) → field.named name q ≡ b → get name (ps ++ q ∷ []) ≡ some t → get name ps ≡ some t
        by_name name at there true e g =
            let x = hold-some d s (get_or p i 0) (get name ps) there (h (slot-named name at q e)) in
            x.is ∙ sym (get-kept name q ps x.item x.is) ∙ g
        by_name name at there false e g = sym (get_other name q ps e) ∙ g

        go : (o : Option (List ℕ)) → slot i slots ≡ o → Holds d s (get_or p i 0) (field.field o ps) → field.field o (ps ++ q ∷ []) ≡ some t → field.field o ps ≡ some t
        go none at there g = absurd (let z : ◌≡◌ {A = ℕ} 0 1 = cc in omega arith)
        go (some name) at there g = by_name name at there (field.named name q) refl g
