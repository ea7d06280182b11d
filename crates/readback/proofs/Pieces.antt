-- Readers over pieces: one after the other, several, and what follows a head.
use Prim.Native.Nat.{ℕ, suc, ◌+◌, ◌*◌, ◌^◌, ◌<◌}
use mathlib.Core.List.{List, [], ◌∷◌, ◌++◌, append_assoc}
use mathlib.Core.Bool.{Bool, true, false, cond}
use mathlib.Core.Path.{◌≡◌, refl, ap, sym, ◌∙◌, subst}
use lib.Dec.{ltb}
use lib.ListN.{length, get_or}
use borrow.Author.Tests.{ltb-true}
use Rattle.meaning.specs.Read.{Outcome, got, Reader, after, ◌>>=◌, pure, here, byte, times, known, argument, majors, major_of, special, content, item}
use Rattle.meaning.specs.Encoding.{big, inside, one, two, four, eight, Head, head}
use Rattle.meaning.specs.Manifest.{shortest_head}
use Rattle.meaning.proofs.ReadPrefix.{bind-got}
use Rattle.meaning.proofs.ExactEvery.{low_reads, low_fits, major-at, info-at}
use Rattle.meaning.specs.Every.{Every}
use Rattle.readback.specs.Piece.{Piece, Ends, all_written, all_meant, any_deep, Goes}

module _ {A B : Type 0} where
  pub ends-bind : (b c : Bool) (m : Reader A) (k : A → Reader B) (s s' x : List ℕ) (a : A) (z : B)
      → Ends b (m s) a s' → Ends c (k a s') z x → Ends (cond b true c) ((m >>= k) s) z x
  ends-bind true c m k s s' x a z h g = record { left = h.left; is = ap (λ (o : Outcome A). after o k) h.is }
  ends-bind false c m k s s' x a z h g = subst (λ (o : Outcome B). Ends c o z x) (sym (bind-got m k s h)) g

  -- what is done afterwards always succeeds
  pub ends-then : (b : Bool) (m : Reader A) (k : A → Reader B) (s s' x : List ℕ) (a : A) (z : B) → Ends b (m s) a s' → k a s' ≡ got z x → Ends b ((m >>= k) s) z x
  ends-then true m k s s' x a z h g = record { left = h.left; is = ap (λ (o : Outcome A). after o k) h.is }
  ends-then false m k s s' x a z h g = bind-got m k s h ∙ g

module _ {A : Type 0} (m : Reader A) where
  pub times_goes : (ps : List (Piece A)) → Every (Goes m) ps → (x : List ℕ) → Ends (any_deep ps) (times m (length ps) (all_written ps ++ x)) (all_meant ps x) x
  unfolding times
  times_goes [] h x = refl
  times_goes (p ∷ ps) (h, hs) x =
      let W : List ℕ = all_written ps in
      rw (append_assoc p.written W x)
      (ends-bind p.deep (any_deep ps) m (λ y. times m (length ps) >>= λ ys. pure (y ∷ ys)) (p.written ++ (W ++ x)) (W ++ x) x (p.meant (W ++ x)) (all_meant (p ∷ ps) x)
      (h (W ++ x))
      (ends-then (any_deep ps) (times m (length ps)) (λ ys. pure (p.meant (W ++ x) ∷ ys)) (W ++ x) x x (all_meant ps x) (all_meant (p ∷ ps) x) (times_goes ps hs x) refl))

-- ---- heads

pub record Shortest (m n : ℕ) : Type 0 where
  pub width : ℕ
  pub head : Head m width n (shortest_head m n)

pub shortest-is-head : (m n : ℕ) → n < 256 ^ 8 → Shortest m n
unfolding shortest_head
shortest-is-head m n h = below-24 (ltb n 24) refl
  where
    below-4 : (t : Bool) → ltb n 24 ≡ false → ltb n (256 ^ 1) ≡ false → ltb n (256 ^ 2) ≡ false → ltb n (256 ^ 4) ≡ t → Shortest m n
    below-4 true e₀ e₁ e₂ e = record { width = 4; head = rw (e₀, e₁, e₂, e) (head (four (ltb-true n (256 ^ 4) e))) }
    below-4 false e₀ e₁ e₂ e = record { width = 8; head = rw (e₀, e₁, e₂, e) (head (eight h)) }

    below-2 : (t : Bool) → ltb n 24 ≡ false → ltb n (256 ^ 1) ≡ false → ltb n (256 ^ 2) ≡ t → Shortest m n
    below-2 true e₀ e₁ e = record { width = 2; head = rw (e₀, e₁, e) (head (two (ltb-true n (256 ^ 2) e))) }
    below-2 false e₀ e₁ e = below-4 (ltb n (256 ^ 4)) e₀ e₁ e refl

    below-1 : (t : Bool) → ltb n 24 ≡ false → ltb n (256 ^ 1) ≡ t → Shortest m n
    below-1 true e₀ e = record { width = 1; head = rw (e₀, e) (head (one (ltb-true n (256 ^ 1) e))) }
    below-1 false e₀ e = below-2 (ltb n (256 ^ 2)) e₀ e refl

    below-24 : (t : Bool) → ltb n 24 ≡ t → Shortest m n
    below-24 true e = record { width = 0; head = rw e (head (inside (ltb-true n 24 e))) }
    below-24 false e = below-1 (ltb n (256 ^ 1)) e refl

-- what follows a head
pub item-at : {P : Type 0} (note : List ℕ → List ℕ → P) (d : ℕ) {m w n : ℕ} {hs : List ℕ} → Head m w n hs → (s : List ℕ)
    → item note (suc d) (hs ++ s) ≡ content note (item note d) (hs ++ s) (get_or majors m special) (known w n) s
unfolding item here byte major_of
item-at note d {m} (head {w} {n} {l} low) s =
    let o : List ℕ = (m * 32 + l) ∷ (big w n ++ s) in
    rw (info-at m l (low_fits low), major-at m l (low_fits low))
    (bind-got (argument o l) (λ a. content note (item note d) o (get_or majors m special) a) (big w n ++ s) (low_reads low o s))
