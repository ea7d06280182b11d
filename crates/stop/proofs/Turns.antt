-- One turn of a walk over a slice s, at the place `at`, towards what its reading is refused for.
use Prim.Native.Nat.{ℕ, zero, suc, ◌+◌, ◌-◌, ◌*◌, ◌/◌, ◌%◌, ◌≤◌, ◌<◌}
use native.Mathlib.Omega.{arith}
use mathlib.Core.List.{List, [], ◌∷◌}
use mathlib.Core.Path.{◌≡◌, refl, ap, sym, ◌∙◌, subst}
use lib.ListN.{length, get_or, take, drop, length-drop}
use borrow.Author.Rules.{part_to_end}
use lib.Seq.{drop-drop}
use mir.Syntax.{w8}
use mir.Val.{Fits}
use Rattle.meaning.specs.Read as read
use Rattle.meaning.specs.Read.{got, refused, Reader, item, no_note, chunk, to_break}
use Rattle.meaning.proofs.ReadPrefix.{item-exact, item-hungry, chunk-hungry}
use Rattle.cbor.specs.Ending.{FAULT, code, item_end}
use Rattle.cbor.proofs.Ends.{got-what, refused-what}
use Rattle.cbor.proofs.Loops.{passes, fails, takes-a-byte}
use Rattle.stop.specs.Stop.{LeftBy, OfString, ChunksStop, head_left, PlainStops}
use Rattle.stop.proofs.Stuck.{same_left, Stuck, break-stuck, stuck-refused, stuck-got}
use Rattle.stop.proofs.Heads as heads

-- what is known of the length of a slice that is lent
abbrev pub Lent : List ℕ → Type 0
Lent s = length s * 1 < FAULT

-- ---------------------------------------------------------------- the bytes from a place on

-- as they are lent
abbrev pub onwards : List ℕ → ℕ → List ℕ
onwards s at = take (length s - at) (drop at s)

pub from_at : (s : List ℕ) (at : ℕ) → at < length s → drop at s ≡ get_or s at 0 ∷ drop (suc at) s
from_at [] at l = absurd (omega arith)
from_at (b ∷ s) zero l = refl
from_at (b ∷ s) (suc at) l = from_at s at (omega arith)

pub none-at : (s : List ℕ) (at : ℕ) → length s ≤ at → drop at s ≡ []
none-at [] zero l = refl
none-at [] (suc at) l = refl
none-at (b ∷ s) zero l = absurd (omega arith)
none-at (b ∷ s) (suc at) l = none-at s at (omega arith)

left_at : (s : List ℕ) (at : ℕ) → at ≤ length s → length s - at ≡ length (drop at s)
left_at s at l = sym (length-drop at s)

-- ---------------------------------------------------------------- heads

pub no_bytes : (s : List ℕ) → length s ≡ 0 → 0 ≡ head_left s
unfolding head_left
no_bytes [] e = refl
no_bytes (b ∷ s) e = absurd (omega arith)

pub at_first : (s : List ℕ) (i : ℕ) → (length s ≡ 0 → ⊥) → i ≡ get_or s 0 0 % 32 → 28 ≤ i → length s ≡ head_left s
at_first [] i n e l = absurd (n refl)
at_first (b ∷ s) i n e l = sym (heads.late-left b s (omega (arith, e, l)))

pub cut_off : (s : List ℕ) (i : ℕ) → (length s ≡ 0 → ⊥) → i ≡ get_or s 0 0 % 32 → i < 28 → 0 ≡ head_left s
cut_off [] i n e l = absurd (n refl)
cut_off (b ∷ s) i n e l = sym (heads.cut_left b s (omega (arith, e, l)))

-- ---------------------------------------------------------------- runs

-- what a reading of all is refused for stops the run of m's from `at` on
pub record Inv {A B : Type 0} (all : Reader B) (m : Reader A) (s : List ℕ) (at : ℕ) : Type 0 where
  pub within : at ≤ length s
  pub run : (n : ℕ) (q : List ℕ) → all s ≡ refused n q → Stuck m q (drop at s)

module _ {A B : Type 0} {all : Reader B} {m : Reader A} {s : List ℕ} {at : ℕ} (i : Inv all m s at) where
  -- the part here is refused where it begins
  pub stops-here : {n : ℕ} → at < length s → m (get_or s at 0 ∷ drop (suc at) s) ≡ refused n (get_or s at 0 ∷ drop (suc at) s) → LeftBy all s (length s - at)
  stops-here l f n q e =
      let z = from_at s at l in
      let k : Stuck m q (get_or s at 0 ∷ drop (suc at) s) = subst (Stuck m q) z (i.run n q e) in
      left_at s at i.within ∙ ap length z ∙ ap length (sym (stuck-refused m f (λ n. n) k))

  pub stops_at : {c : ℕ} {p : List ℕ} {r : ℕ} → at < length s → m (drop at s) ≡ refused c p → r ≡ length p → LeftBy all s r
  stops_at l f h n q e = h ∙ ap length (sym (stuck-refused m f (λ n. absurd (let z = length-drop at s in let y = ap length n in omega (arith, z, y, l))) (i.run n q e)))

  pub goes_on : {a : A} (k : ℕ) → at < length s → m (drop at s) ≡ got a (drop k (drop at s)) → at + k ≤ length s → Inv all m s (at + k)
  goes_on k l f h = record {
    within = h;
    run = λ n q e. subst (Stuck m q) (drop-drop k at s) (stuck-got m f (let z = length-drop at s in omega (arith, z, l)) (i.run n q e));
  }

  pub at-end : {c : ℕ} → length s ≤ at → m [] ≡ refused c [] → LeftBy all s 0
  at-end l f n q e = ap length (sym (stuck-refused m f (λ n. n) (subst (Stuck m q) (none-at s at l) (i.run n q e))))

-- ---------------------------------------------------------------- chunks

module _ (m : ℕ) (s : List ℕ) where
  pub chunks-begin : Inv (to_break (chunk m)) (chunk m) s 0
  chunks-begin = record { within = omega arith; run = λ n q e. break-stuck (chunk m) (chunk-hungry m) s e }

  no_chunk : chunk m [] ≡ refused 6 []
  unfolding chunk read.here read.byte
  no_chunk = refl

  module _ {at : ℕ} (i : Inv (to_break (chunk m)) (chunk m) s at) where
    pub chunks-missing : length s ≤ at → LeftBy (to_break (chunk m)) s 0
    chunks-missing l = at-end i l no_chunk

    module _ (l : at < length s) (j : ℕ) (h : j ≡ get_or s at 0 / 32) where
      pub other-type : (j ≡ m → ⊥) → LeftBy (to_break (chunk m)) s (length s - at)
      other-type n = stops-here i l (heads.chunk-other m (get_or s at 0) (drop (suc at) s) (λ e. n (h ∙ e)))

      module _ (g : j ≡ m) (k : ℕ) (y : k ≡ get_or s at 0 % 32) where
        pub odd-head : 28 ≤ k → LeftBy (to_break (chunk m)) s (length s - at)
        odd-head z = stops-here i l (heads.chunk-late m (get_or s at 0) (drop (suc at) s) (sym h ∙ g) (omega (arith, y, z))).is

        module _ (of : OfString m) (z : k < 28) (lent : Lent s) (r : ℕ) (said : r ≡ code (item_end 1 (onwards s at))) where
          room : length s < FAULT
          room = omega arith

          is : r ≡ code (item_end 1 (drop at s))
          is = said ∙ ap (λ u. code (item_end 1 u)) (part_to_end s at)

          as_first : {o : read.Outcome _} → item no_note 1 (drop at s) ≡ o → item no_note 1 (get_or s at 0 ∷ drop (suc at) s) ≡ o
          as_first e = ap (item no_note 1) (sym (from_at s at l)) ∙ e

          pub cut-chunk : length s - at < r → LeftBy (to_break (chunk m)) s 0
          cut-chunk w =
              let f = fails (item no_note 1) (item-exact 1) (item-hungry 1) s room at i.within r is w in
              let e = refused-what (item no_note 1) (item-exact 1) (drop at s) f.number f.is-fault in
              let c = heads.chunk-cut m (get_or s at 0) (drop (suc at) s) of (sym h ∙ g) (omega (arith, y, z)) (as_first e.is) in
              stops_at i l (ap (chunk m) (from_at s at l) ∙ c.is) refl

          pub next-chunk : r ≤ length s - at → Inv (to_break (chunk m)) (chunk m) s (at + r)
          next-chunk w =
              let e = got-what (item no_note 1) (item-exact 1) (drop at s) r (passes (item no_note 1) (item-exact 1) (item-hungry 1) s room at i.within r is w) in
              let c = heads.chunk_whole m (get_or s at 0) (drop (suc at) s) of (sym h ∙ g) (omega (arith, y, z)) (as_first e.is) in
              goes_on i r l (ap (chunk m) (from_at s at l) ∙ c.is) (let v = i.within in omega (arith, v, w))

          pub fewer-left : r ≤ length s - at → length s - (at + r) < length s - at
          fewer-left w = omega (arith, takes-a-byte (item no_note 1) (item-exact 1) (item-hungry 1) s room at i.within r is w)

-- ---------------------------------------------------------------- items that hold no other

pub plain-none : (s : List ℕ) → length s ≡ 0 → PlainStops s 0
unfolding item read.here read.byte
plain-none [] l d h n q e = ap length (same_left e)
plain-none (b ∷ s) l d h n q e = absurd (omega arith)

-- the chunks from the second byte on
module _ (s : List ℕ) (r : ℕ) (some : length s ≡ 0 → ⊥) where
  pub plain-bytes : get_or s 0 0 ≡ 95 → ChunksStop 2 (onwards s 1) r → PlainStops s r
  plain-bytes e f = go s some e (subst (λ u. ChunksStop 2 u r) (part_to_end s 1) f)
    where
      go : (s : List ℕ) → (length s ≡ 0 → ⊥) → get_or s 0 0 ≡ 95 → ChunksStop 2 (drop 1 s) r → PlainStops s r
      go [] n e f d h c q g = absurd (n refl)
      go (b ∷ s) n e f d h c q g = f c q (heads.open-bytes d s (ap (λ b. item no_note (suc d) (b ∷ s)) (sym e) ∙ g))

  pub plain-text : get_or s 0 0 ≡ 127 → ChunksStop 3 (onwards s 1) r → PlainStops s r
  plain-text e f = go s some e (subst (λ u. ChunksStop 3 u r) (part_to_end s 1) f)
    where
      go : (s : List ℕ) → (length s ≡ 0 → ⊥) → get_or s 0 0 ≡ 127 → ChunksStop 3 (drop 1 s) r → PlainStops s r
      go [] n e f d h c q g = absurd (n refl)
      go (b ∷ s) n e f d h c q g = f c q (heads.open-text d s (ap (λ b. item no_note (suc d) (b ∷ s)) (sym e) ∙ g))

pub plain-one : (s : List ℕ) → get_or s 0 0 ≡ 248 → length s ≡ 1 → PlainStops s 0
plain-one [] e l d h c q g = absurd (omega arith)
plain-one (b ∷ []) e l d h c q g = (heads.two-byte d [] (ap (λ b. item no_note (suc d) (b ∷ [])) (sym e) ∙ g)).0 refl
plain-one (b ∷ x ∷ s) e l d h c q g = absurd (omega arith)

pub plain-two : (s : List ℕ) → (length s ≡ 0 → ⊥) → get_or s 0 0 ≡ 248 → (length s ≡ 1 → ⊥) → PlainStops s (length s)
plain-two [] n e l d h c q g = absurd (n refl)
plain-two (b ∷ []) n e l d h c q g = absurd (l refl)
plain-two (b ∷ x ∷ s) n e l d h c q g = (heads.two-byte d (x ∷ s) (ap (λ b. item no_note (suc d) (b ∷ x ∷ s)) (sym e) ∙ g)).1 (omega arith)

pub plain-head : (s : List ℕ) (r : ℕ) → (length s ≡ 0 → ⊥) → ((i : ℕ) → Fits w8 (get_or s i 0)) → (get_or s 0 0 ≡ 95 → ⊥) → (get_or s 0 0 ≡ 127 → ⊥) → (get_or s 0 0 ≡ 248 → ⊥) → r ≡ head_left (onwards s 0) → PlainStops s r
plain-head s r n k x y z f = go s n (omega (arith, k 0)) x y z (f ∙ ap head_left (part_to_end s 0))
  where
    go : (s : List ℕ) → (length s ≡ 0 → ⊥) → get_or s 0 0 < 256 → (get_or s 0 0 ≡ 95 → ⊥) → (get_or s 0 0 ≡ 127 → ⊥) → (get_or s 0 0 ≡ 248 → ⊥) → r ≡ head_left s → PlainStops s r
    go [] n k x y z f d h c q g = absurd (n refl)
    go (b ∷ s) n k x y z f d h c q g = f ∙ heads.plain-left d b s g h k x y z
