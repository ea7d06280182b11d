-- Parts of the shared numbers that were lent: to be zeroed, to hold a state, and to the reader, from the table's beginning or to its end.
use Prim.Native.Nat.{ℕ, zero, suc, ◌+◌, ◌-◌, ◌*◌, ◌≤◌}
use native.Mathlib.Omega.{arith}
use mathlib.Core.List.{List, [], ◌∷◌, ◌++◌}
use mathlib.Core.Path.{◌≡◌, refl, sym, ap, ap₂, ◌∙◌}
use lib.ListN.{length, take, drop, replicate, length-drop, length-replicate, take-append-drop}
use lib.Seq.{sets, length-take-le}
use borrow.Rule.Slice.PartMut.{put_mid, post_of, put_same}
use Rattle.meaning.specs.Check.{Check, pass, refuse}
use Rattle.meaning.specs.Columns.{object_width, component_width}
use Rattle.meaning.specs.Frame.{Reading}
use Rattle.meaning.specs.Layouts.{layout_of}
use Rattle.meaning.specs.Rows.{rows, read_into, table_after}
use Rattle.reader.specs.Answer as read
use Rattle.reader.specs.Answer.{laid_over, placed, end_after}
use Rattle.reader.specs.declared.into.Answer.{Answer}
use Rattle.engines.specs.Calls.{needed, layout_number}
use Rattle.sharing.specs.EngineAnswers.{rows_at, laid, state_with}
use Rattle.engines.proofs.Kept.{rows-needed}
use Rattle.sharing.proofs.Lent.{lent_is, front-is, end_is}
use Rattle.sharing.proofs.Loads.{read_fits}

-- eight numbers, or any
pub lent-part : (a n : ℕ) (l v : List ℕ) → length v ≡ n → a + n ≤ length l → (q : List ℕ) → q ≡ v → put_mid a (a + n - a) l q ≡ sets l a v
lent-part a n l v e h q f = ap (λ (x : List ℕ). put_mid a (a + n - a) l x) f ∙ lent_is a (a + n) l v (ap (λ (i : ℕ). a + i) e) h

pub part-long : (a n : ℕ) (l : List ℕ) → a + n ≤ length l → length (take (a + n - a) (drop a l)) ≡ n
part-long a n l h =
    let z : a + n - a ≡ n = omega arith in
    let d : length (drop a l) ≡ length l - a = length-drop a l in
    length-take-le (a + n - a) (drop a l) (omega (arith, d, h)) ∙ z

pub lent-zeros : (a n : ℕ) (l q : List ℕ) → a + n ≤ length l → q ≡ replicate (length (take (a + n - a) (drop a l))) 0 → put_mid a (a + n - a) l q ≡ sets l a (replicate n 0)
lent-zeros a n l q h e = lent-part a n l (replicate n 0) (length-replicate n 0) h q (e ∙ ap (λ (i : ℕ). replicate {A = ℕ} i 0) (part-long a n l h))

-- an engine's state, in its place
pub settled : (size engine layout o c s p z : ℕ) (l q : List ℕ) (at y : ℕ) → engine ≤ 1 → length l ≡ size + 16 → at ≡ size + 8 * engine → y ≡ layout_number layout
    → q ≡ 1 ∷ (object_width * o + component_width * c) ∷ o ∷ c ∷ s ∷ p ∷ z ∷ y ∷ [] → put_mid at (at + 8 - at) l q ≡ sets l (size + 8 * engine) (state_with layout o c s p z)
unfolding state_with
settled size engine layout o c s p z l q at y k w e f g =
    lent-part at 8 l (1 ∷ (object_width * o + component_width * c) ∷ o ∷ c ∷ s ∷ p ∷ z ∷ y ∷ []) refl (omega (arith, k, w, e)) q g
    ∙ ap₂ {A = ℕ} {B = ℕ} (λ i j. sets l i (1 ∷ (object_width * o + component_width * c) ∷ o ∷ c ∷ s ∷ p ∷ z ∷ j ∷ [])) e f

module _ (size free layout : ℕ) (file l : List ℕ) where
  abbrev into : List ℕ → Check Reading
  into t = read_into (layout_of layout) file (length t)

  into-is : (t : List ℕ) → length t ≡ free → into t ≡ read_into (layout_of layout) file free
  into-is t e = ap (λ (n : ℕ). read_into (layout_of layout) file n) e

  abbrev Fitting : Check Reading → Type 0
  Fitting k = (r : Reading) → k ≡ pass r → needed r ≤ free

  fitting : Fitting (read_into (layout_of layout) file free)
  fitting r e = read_fits (layout_of layout) file free r e

  module _ (room : free ≤ size) (lent : length l ≡ size + 16) where
    -- the first engine's
    abbrev front : List ℕ
    front = take (free - 0) (drop 0 l)

    in-front : free ≤ length l
    in-front = omega (arith, room, lent)

    front_read : into front ≡ read_into (layout_of layout) file free
    front_read = let n : free - 0 ≡ free = omega arith in into-is front (ap (λ (i : ℕ). length (take i l)) n ∙ length-take-le free l in-front)

    pub first-told : (a : Answer) → a ≡ read.answered (into front) → a ≡ read.answered (read_into (layout_of layout) file free)
    first-told a answers = answers ∙ ap read.answered front_read

    module _ (engine : ℕ) (z : engine ≡ 0) where
      first-laid : (k : Check Reading) → Fitting k → table_after (take free l) k ++ drop free l ≡ laid size engine l k
      unfolding table_after laid rows_at
      first-laid (refuse n o c) f = take-append-drop free l
      first-laid (pass r) f =
          front-is free (needed r) l (rows r.model) (rows-needed r) (f r refl) in-front ∙ ap (λ (e : ℕ). sets l (rows_at size e (needed r)) (rows r.model)) (sym z)

      pub first-left : (q : List ℕ) → q ≡ table_after front (into front) → q ++ post_of 0 (free - 0) l ≡ laid size engine l (read_into (layout_of layout) file free)
      first-left q after =
          let n : free - 0 ≡ free = omega arith in
          ap (λ (x : List ℕ). x ++ post_of 0 (free - 0) l) after
          ∙ ap₂ {A = ℕ} {B = Check Reading} (λ i k. table_after (take i l) k ++ drop i l) n front_read ∙ first-laid (read_into (layout_of layout) file free) fitting

    -- the second's
    abbrev tail : List ℕ
    tail = take (size - (size - free)) (drop (size - free) l)

    tail-long : length (take free (drop (size - free) l)) ≡ free
    tail-long =
        let d : length (drop (size - free) l) ≡ length l - (size - free) = length-drop (size - free) l in
        length-take-le free (drop (size - free) l) (omega (arith, d, room, lent))

    size_back : size - (size - free) ≡ free
    size_back = omega (arith, room)

    tail-read : into tail ≡ read_into (layout_of layout) file free
    tail-read = into-is tail (ap (λ (i : ℕ). length (take i (drop (size - free) l))) size_back ∙ tail-long)

    pub last-told : (a : Answer) → a ≡ read.answered (into tail) → a ≡ read.answered (read_into (layout_of layout) file free)
    last-told a answers = answers ∙ ap read.answered tail-read

    module _ (engine : ℕ) (z : engine ≡ 0 → ⊥) where
      second-rows : (e n : ℕ) → (e ≡ 0 → ⊥) → rows_at size e n ≡ size - n
      unfolding rows_at
      second-rows zero n f = absurd (f refl)
      second-rows (suc e) n f = refl

      second-laid : (k : Check Reading) → Fitting k → put_mid (size - free) free l (end_after (take free (drop (size - free) l)) k) ≡ laid size engine l k
      unfolding laid placed laid_over
      second-laid (refuse n o c) f = put_same (size - free) free l
      second-laid (pass r) f =
          let n : ℕ = needed r in
          let i = f r refl in
          let m : size - free + (free - n) ≡ rows_at size engine n = let y = second-rows engine n z in omega (arith, y, i, room) in
          ap (λ (j : ℕ). put_mid (size - free) free l (take (j - n) (take free (drop (size - free) l)) ++ rows r.model)) tail-long
          ∙ end_is (size - free) free n l (rows r.model) (rows-needed r) i (omega (arith, room, lent)) ∙ ap (λ (j : ℕ). sets l j (rows r.model)) m

      pub last-left : (q : List ℕ) → q ≡ end_after tail (into tail) → put_mid (size - free) (size - (size - free)) l q ≡ laid size engine l (read_into (layout_of layout) file free)
      last-left q after =
          ap (λ (x : List ℕ). put_mid (size - free) (size - (size - free)) l x) after
          ∙ ap₂ {A = ℕ} {B = Check Reading} (λ i k. put_mid (size - free) i l (end_after (take i (drop (size - free) l)) k)) size_back tail-read
          ∙ second-laid (read_into (layout_of layout) file free) fitting
