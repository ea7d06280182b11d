-- The shape of an object, read where it stands, and its dimensions, put over zeros.
use Prim.Native.Nat.{ℕ, zero, suc, ◌-◌, ◌≤◌, ◌<◌}
use native.Mathlib.Omega.{arith}
use mathlib.Core.List.{List, [], ◌∷◌}
use mathlib.Core.Logic.{⊎_elim}
use mathlib.Core.Path.{◌≡◌, refl, ap, sym, ◌∙◌, subst}
use lib.ListN.{get_or, length, take, drop, replicate, get_or-replicate}
use lib.Seq.{get_or-take, length-take-le}
use borrow.Author.Rules.{part_to_end}
use Rattle.meaning.specs.Tree.{Node}
use Rattle.meaning.specs.Check.{Check, pass, fault}
use Rattle.meaning.specs.Limit.{rank_limit}
use Rattle.meaning.specs.Judge.{shape_of}
use Rattle.meaning.specs.Rows.{dimensions}
use Rattle.meaning.proofs.Checks.{pass_same}
use Rattle.endian.proofs.Which.{lt-or}
use Rattle.walk.specs.Reading.{Ends, Reads}
use Rattle.fields.specs.Slots.{Stands}
use Rattle.fields.proofs.Texts.{Here}
use Rattle.shape.specs.Shape.{ShapeIs, ShapeRead}
use Rattle.table.specs.Object.{eight}
use Rattle.object.specs.declared.judge.Measured.{Measured}
use Rattle.object.specs.Place.{ShapeAt, DimensionsAt}
use Rattle.object.specs.Laying.{Once}
use Rattle.std.specs.Prelude.{Ok, Err, Result}
use Rattle.numbers.specs.declared.refusal.Refusal.{Refusal}
use Rattle.numbers.specs.declared.fault.ObjectFault.{ObjectFault}
use Rattle.numbers.specs.Numbered.{number_of}

-- ---------------------------------------------------------------- unused ones

past-taken : (rank : ℕ) (l : List ℕ) (k : ℕ) → rank ≤ k → ◌≡◌ {A = ℕ} (get_or (take rank l) k 0) 0
past-taken zero l k h = refl
past-taken (suc rank) [] k h = refl
past-taken (suc rank) (x ∷ l) zero h = absurd (omega arith)
past-taken (suc rank) (x ∷ l) (suc k) h = past-taken rank l k (omega arith)

eight-of : (s : List ℕ) → length s ≤ rank_limit → eight s ≡ dimensions s
unfolding dimensions
eight-of [] h = refl
eight-of (a ∷ []) h = refl
eight-of (a ∷ b ∷ []) h = refl
eight-of (a ∷ b ∷ c ∷ []) h = refl
eight-of (a ∷ b ∷ c ∷ d ∷ []) h = refl
eight-of (a ∷ b ∷ c ∷ d ∷ e ∷ []) h = refl
eight-of (a ∷ b ∷ c ∷ d ∷ e ∷ f ∷ []) h = refl
eight-of (a ∷ b ∷ c ∷ d ∷ e ∷ f ∷ g ∷ []) h = refl
eight-of (a ∷ b ∷ c ∷ d ∷ e ∷ f ∷ g ∷ i ∷ []) h = refl
eight-of (a ∷ b ∷ c ∷ d ∷ e ∷ f ∷ g ∷ i ∷ j ∷ s) h = absurd (omega arith)

eight-same : (d e : List ℕ) → ((j : ℕ) → j < 8 → get_or d j 0 ≡ get_or e j 0) → eight d ≡ eight e
eight-same d e h =
    rw (h 0 (omega arith), h 1 (omega arith), h 2 (omega arith), h 3 (omega arith), h 4 (omega arith), h 5 (omega arith), h 6 (omega arith), h 7 (omega arith)) refl

-- ---------------------------------------------------------------- the shape where it stands

module _ (s : List ℕ) (left at : ℕ) (is : at ≡ length s - left) (before dims : List ℕ) (zeros : before ≡ replicate 8 0) (r : Result ℕ Refusal) (h : ShapeRead 28 (Here s at) before dims r) where
  said : (t : Node Ends) → Stands 29 s left t → ShapeIs dims r (shape_of t)
  said t st = h.trees t st.rest (subst (λ u. Reads 29 u t st.rest) (sym (part_to_end s at ∙ ap (λ (i : ℕ). drop i s) is)) st.reads)

  module _ (rank : ℕ) (e : r ≡ Ok rank) where
    taken : (j : ℕ) → j < rank → get_or dims j 0 ≡ get_or (take rank dims) j 0
    taken j l = sym (get_or-take rank dims j 0 l)

    beyond : (j : ℕ) → j < 8 → rank ≤ j → get_or dims j 0 ≡ get_or (take rank dims) j 0
    beyond j m l = h.others rank e j l ∙ ap (λ (d : List ℕ). get_or d j 0) zeros ∙ get_or-replicate 8 j 0 0 m ∙ sym (past-taken rank dims j l)

  put-so : (x : Result ℕ Refusal) → r ≡ x → (c : Check (List ℕ)) → ShapeIs dims x c → (d : List ℕ) → c ≡ pass d → eight dims ≡ dimensions d
  put-so (Err n) e c k d p = absurd (let z : pass d ≡ fault (number_of n) = sym p ∙ k in let y : ◌≡◌ {A = ℕ} 0 1 = cc in omega arith)
  put-so (Ok rank) e c k d p =
      let same : take rank dims ≡ d = pass_same (sym k.0 ∙ p) in
      let few = k.1 in
      let room = h.room in
      let size : length d ≡ rank = ap length (sym same) ∙ length-take-le rank dims (omega arith) in
      eight-same dims (take rank dims) (λ j l. ⊎_elim (taken rank e j) (beyond rank e j l) (lt-or j rank)) ∙ ap eight same ∙ eight-of d (omega arith)

  pub shape-there : ShapeAt s left dims r
  shape-there = record { room = h.room; items = said; dimensions = record { are = λ t st. put-so r refl (shape_of t) (said t st) } }

-- ---------------------------------------------------------------- lent whole

pub dimensions-there : (s : List ℕ) (left : ℕ) (dims : List ℕ) (r : Result ℕ Refusal) → ShapeAt (Here s 0) left dims r → DimensionsAt s left dims
dimensions-there s left dims r h = subst (λ u. DimensionsAt u left dims) (part_to_end s 0) h.dimensions

pub dimensions-whole : (s p dims : List ℕ) (v : Result Measured ObjectFault) → Once v (DimensionsAt (Here s 0) (get_or (Here p 0) 1 0) dims) → Once v (DimensionsAt s (get_or p 1 0) dims)
dimensions-whole s p dims v h m e =
    subst (λ u. DimensionsAt s (get_or u 1 0) dims) (part_to_end p 0) (subst (λ u. DimensionsAt u (get_or (Here p 0) 1 0) dims) (part_to_end s 0) (h m e))
