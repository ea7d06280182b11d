-- Copied attributes are read as a map that stands where its span says.
use Prim.Native.Nat.{ℕ, zero, suc, ◌+◌, ◌-◌, ◌/◌}
use native.Mathlib.Omega.{arith}
use mathlib.Core.List.{List, [], ◌∷◌, ◌++◌, append_assoc}
use mathlib.Core.Bool.{Bool, true, false}
use mathlib.Core.Option.{Option, none, some}
use mathlib.Core.Path.{◌≡◌, refl, ap, sym, ◌∙◌, subst}
use lib.Dec.{eqb}
use lib.ListN.{length, drop, length-append}
use borrow.Author.Tests.{eqb-true}
use Rattle.meaning.specs.Check.{pass, optional}
use Rattle.meaning.specs.Tree.{Node, Pair, dict, pairs, note_of}
use Rattle.meaning.specs.Read.{Outcome, got, refused, Reader, after, ◌>>=◌, here, byte, times, to_break, Argument, known, indefinite, argument, major_of, info_of, map_of, close, pair, content, item, no_note, Span, bytes_at, span_to}
use Rattle.meaning.specs.Notes.{map_option}
use Rattle.meaning.specs.Kind as kinds
use Rattle.meaning.specs.Judge.{attributes_of}
use Rattle.meaning.specs.Sound.{a_map, begins_as_map, fills_or_deep, absent_or}
use Rattle.readback.specs.Piece.{Piece, Ends, all_written}
use Rattle.readback.specs.Trees.{deep_at, copied_piece}
use Rattle.readback.specs.Judged.{deep_option}
use Rattle.meaning.proofs.Over.{between}
use Rattle.meaning.proofs.Tests.{false-not, both_left}
use Rattle.readback.proofs.PiecesAreRead.{copied-goes}

-- ---- what begins as a map is one, with the annotation of its place

module _ {P : Type 0} (note : List ℕ → List ℕ → P) where
  record IsMap (start : List ℕ) (t : Node P) (r : List ℕ) : Type 0 where
    entries : List (Pair P)
    is : t ≡ dict (note start r) (pairs entries)

  map-closed : (start : List ℕ) (m : Reader (List (Pair P))) (s : List ℕ) (t : Node P) (r : List ℕ) → (m >>= λ xs. close note start (λ p. dict p (pairs xs))) s ≡ got t r → IsMap start t r
  unfolding close
  map-closed start m s t r = go (m s)
    where
      go : (o : Outcome (List (Pair P))) → after o (λ xs. close note start (λ p. dict p (pairs xs))) ≡ got t r → IsMap start t r
      go (got xs s') e =
          let k : s' ≡ r = cc in
          let q : dict (note start s') (pairs xs) ≡ t = cc in
          record { entries = xs; is = sym q ∙ ap (λ (z : List ℕ). dict (note start z) (pairs xs)) k }
      go (refused n q) e = absurd (let z : ◌≡◌ {A = ℕ} 0 1 = cc in omega arith)

  map-content : (it : Reader (Node P)) (start : List ℕ) (a : Argument) (s : List ℕ) (t : Node P) (r : List ℕ) → content note it start map_of a s ≡ got t r → IsMap start t r
  unfolding content
  map-content it start (known w n) s t r e = map-closed start (times (pair note it) n) s t r e
  map-content it start indefinite s t r e = map-closed start (to_break (pair note it)) s t r e

  map_read : (d b : ℕ) (s : List ℕ) (t : Node P) (r : List ℕ) → eqb (b / 32) 5 ≡ true → item note (suc d) (b ∷ s) ≡ got t r → IsMap (b ∷ s) t r
  unfolding item here byte major_of
  map_read d b s t r h e = go (argument (b ∷ s) (info_of b) s) (rw (eqb-true (b / 32) 5 h) at e)
    where
      go : (o : Outcome Argument) → after o (λ a. content note (item note d) (b ∷ s) map_of a) ≡ got t r → IsMap (b ∷ s) t r
      go (got a s') e = map-content (item note d) (b ∷ s) a s' t r e
      go (refused n q) e = absurd (let z : ◌≡◌ {A = ℕ} 0 1 = cc in omega arith)

  -- attributes that aren't too deep
  copied-is-map : (d : ℕ) (bs x : List ℕ) → a_map (suc d) bs ≡ true → deep_at (suc d) bs ≡ false → IsMap (bs ++ x) ((copied_piece note (suc d) bs).meant x) x
  unfolding a_map begins_as_map copied_piece
  copied-is-map d [] x h k = absurd (false-not h)
  copied-is-map d (b ∷ s) x h k =
      let T : Node P = (copied_piece note (suc d) (b ∷ s)).meant x in
      map_read d b (s ++ x) T x (both_left (eqb (b / 32) 5) (fills_or_deep (item no_note (suc d) (b ∷ s))) h)
      (subst (λ (q : Bool). Ends q (item note (suc d) (b ∷ (s ++ x))) T x) k (copied-goes note (suc d) (b ∷ s) h x))

-- ---- where they stand

-- bytes that the manifest ends with
pub record Suffix (M s : List ℕ) : Type 0 where
  pub before : List ℕ
  pub is : M ≡ before ++ s

pub suffix-past : (M a s : List ℕ) → Suffix M (a ++ s) → Suffix M s
suffix-past M a s h = record { before = h.before ++ a; is = h.is ∙ sym (append_assoc h.before a s) }

-- without its first part
pub suffix-rest : (M a b s : List ℕ) → Suffix M (a ++ b ++ s) → Suffix M (b ++ s)
suffix-rest M a b s h = suffix-past M a (b ++ s) (subst (Suffix M) (append_assoc a b s) h)

pub suffix-pieces : {A : Type 0} (M : List ℕ) (k : ℕ) (ps : List (Piece A)) (x : List ℕ) → Suffix M (all_written ps ++ x) → Suffix M (all_written (drop k ps) ++ x)
suffix-pieces M zero ps x h = h
suffix-pieces M (suc k) [] x h = h
suffix-pieces M (suc k) (p ∷ ps) x h = suffix-pieces M k ps x (suffix-rest M p.written (all_written ps) x h)

module _ (file pre M post : List ℕ) (split : file ≡ pre ++ (M ++ post)) where
  abbrev pub end : ℕ
  end = length pre + length M

  suffix-bytes : (bs x : List ℕ) → Suffix M (bs ++ x) → bytes_at file (span_to end (bs ++ x) x) ≡ bs
  unfolding span_to
  suffix-bytes bs x h =
      let A : List ℕ = h.before in
      let e₁ : length (bs ++ x) - length x ≡ length bs = omega (arith, length-append bs x) in
      let e₂ : end - length (bs ++ x) ≡ length (pre ++ A) = omega (arith, length-append pre A, length-append A (bs ++ x), ap length h.is) in
      let e₃ : file ≡ (pre ++ A) ++ (bs ++ (x ++ post)) = split ∙ ap (λ (m : List ℕ). pre ++ (m ++ post)) h.is ∙ rejoin A bs x in
      rw (e₁, e₂, e₃) (between (pre ++ A) bs (x ++ post) (length (pre ++ A)) refl)
    where
      rejoin : (a b c : List ℕ) → pre ++ ((a ++ (b ++ c)) ++ post) ≡ (pre ++ a) ++ (b ++ (c ++ post))
      rejoin a b c = simp append_assoc

  -- the node of copied attributes before x
  abbrev pub copied : ℕ → List ℕ → List ℕ → Node Span
  copied d x bs = (copied_piece (span_to end) (suc d) bs).meant x

  copied-back : (d : ℕ) (bs x : List ℕ) → a_map (suc d) bs ≡ true → deep_at (suc d) bs ≡ false → Suffix M (bs ++ x) → bytes_at file (note_of (copied d x bs)) ≡ bs
  copied-back d bs x h k s =
      ap (λ (t : Node Span). bytes_at file (note_of t)) (copied-is-map (span_to end) d bs x h k).is ∙ suffix-bytes bs x s

  copied-passes : (d : ℕ) (bs x : List ℕ) → a_map (suc d) bs ≡ true → deep_at (suc d) bs ≡ false → attributes_of (copied d x bs) ≡ pass (copied d x bs)
  unfolding attributes_of kinds.a_mapping kinds.as_mapping kinds.kind
  copied-passes d bs x h k = rw (copied-is-map (span_to end) d bs x h k).is

  abbrev pub Within : List ℕ → Option (List ℕ) → Type 0
  Within x none = Unit {0}
  Within x (some bs) = Suffix M (bs ++ x)

  pub attributes-pass : (d : ℕ) (a : Option (List ℕ)) (x : List ℕ) → absent_or (a_map (suc d)) a ≡ true → deep_option (suc d) a ≡ false
      → optional attributes_of (map_option (copied d x) a) ≡ pass (map_option (copied d x) a)
  unfolding absent_or deep_option
  attributes-pass d none x h k = refl
  attributes-pass d (some bs) x h k = rw (copied-passes d bs x h k)

  pub attributes-back : (d : ℕ) (a : Option (List ℕ)) (x : List ℕ) → absent_or (a_map (suc d)) a ≡ true → deep_option (suc d) a ≡ false → Within x a
      → map_option (λ t. bytes_at file (note_of t)) (map_option (copied d x) a) ≡ a
  unfolding absent_or deep_option
  attributes-back d none x h k s = refl
  attributes-back d (some bs) x h k s = ap some (copied-back d bs x h k s)
