-- What code stores: a load writes the rows and the engine's eight numbers and nothing else, a drop zeros in their places.
use Prim.Native.Nat.{ℕ, ◌+◌, ◌-◌}
use native.Mathlib.Omega.{arith}
use mathlib.Core.List.{List, [], ◌++◌, append_assoc, append-nil}
use mathlib.Core.Path.{◌≡◌, refl, sym, ap, ap₂, ◌∙◌}
use lib.ListN.{length, take, drop, replicate, length-append, length-drop, length-replicate, take-append-drop}
use lib.Seq.{length-take-le, take_at, drop_at, sets, sets-eq}
use Rattle.meaning.specs.Check.{pass}
use Rattle.meaning.specs.Frame.{Reading}
use Rattle.meaning.proofs.Lengths.{none_left}
use Rattle.engines.specs.Shared.{first, second, Engine, held_of, nothing, Shared, closed}
use Rattle.engines.specs.Calls.{needed, engine_of, taken, given}
use Rattle.engines.proofs.Kept.{Ok, Fits, idle-holds-none, rows-needed, engine-ok}

overwrite : (p q q' r : List ℕ) (n : ℕ) → length p ≡ n → length q ≡ length q' → sets (p ++ (q ++ r)) n q' ≡ p ++ (q' ++ r)
overwrite p q q' r n e f =
    let a : length (p ++ (q ++ r)) ≡ length p + length (q ++ r) = length-append p (q ++ r) in
    let b : length (q ++ r) ≡ length q + length r = length-append q r in
    let c : length (p ++ q) ≡ n + length q' = length-append p q ∙ ap₂ {A = ℕ} {B = ℕ} (λ x y. x + y) e f in
    sets-eq q' (p ++ (q ++ r)) n (omega (arith, a, b, e, f)) ∙ append_assoc (take n (p ++ (q ++ r))) q' (drop (n + length q') (p ++ (q ++ r)))
    ∙ ap₂ {A = List ℕ} {B = List ℕ} (λ x y. x ++ (q' ++ y)) (take_at p (q ++ r) n e) (ap (drop (n + length q')) (sym (append_assoc p q r)) ∙ drop_at (p ++ q) r (n + length q') c)

-- a part of the table, and a part of the states
both : (p q q' r u v v' x : List ℕ) (n m : ℕ) → length p ≡ n → length q ≡ length q' → length (p ++ (q ++ r)) + length u ≡ m → length v ≡ length v'
    → sets (sets ((p ++ (q ++ r)) ++ (u ++ (v ++ x))) n q') m v' ≡ (p ++ (q' ++ r)) ++ (u ++ (v' ++ x))
both p q q' r u v v' x n m e f g h =
    let y : List ℕ = u ++ (v ++ x) in
    let one : sets ((p ++ (q ++ r)) ++ y) n q' ≡ (p ++ (q' ++ r)) ++ y =
    ap (λ (l : List ℕ). sets l n q') (append_assoc p (q ++ r) y ∙ ap (λ (l : List ℕ). p ++ l) (append_assoc q r y)) ∙ overwrite p q q' (r ++ y) n e f
    ∙ sym (append_assoc p (q' ++ r) y ∙ ap (λ (l : List ℕ). p ++ l) (append_assoc q' r y)) in
    let t : List ℕ = p ++ (q' ++ r) in
    let a : length t ≡ length p + length (q' ++ r) = length-append p (q' ++ r) in
    let b : length (q' ++ r) ≡ length q' + length r = length-append q' r in
    let c : length (p ++ (q ++ r)) ≡ length p + length (q ++ r) = length-append p (q ++ r) in
    let d : length (q ++ r) ≡ length q + length r = length-append q r in
    let k : length (t ++ u) ≡ length t + length u = length-append t u in
    ap (λ (l : List ℕ). sets l m v') (one ∙ sym (append_assoc t u (v ++ x))) ∙ overwrite (t ++ u) v v' x m (omega (arith, a, b, c, d, k, f, g)) h
    ∙ append_assoc t u (v' ++ x)

-- the same at the end of both
both_end : (a f q q' u v v' : List ℕ) (n m : ℕ) → length a + length f ≡ n → length q ≡ length q' → length (a ++ (f ++ q)) + length u ≡ m → length v ≡ length v'
    → sets (sets ((a ++ (f ++ q)) ++ (u ++ v)) n q') m v' ≡ (a ++ (f ++ q')) ++ (u ++ v')
both_end a f q q' u v v' n m e g h i =
    let w : (x : List ℕ) → (a ++ f) ++ (x ++ []) ≡ a ++ (f ++ x) = λ x. ap (λ (l : List ℕ). (a ++ f) ++ l) (append-nil x) ∙ append_assoc a f x in
    sym (ap₂ {A = List ℕ} {B = List ℕ} (λ x y. sets (sets (x ++ (u ++ y)) n q') m v') (w q) (append-nil v))
    ∙ both (a ++ f) q q' [] u v v' [] n m (length-append a f ∙ e) g (ap (λ (l : List ℕ). length l + length u) (w q) ∙ h) i
    ∙ ap₂ {A = List ℕ} {B = List ℕ} (λ x y. x ++ (u ++ y)) (w q') (append-nil v')

is-rows : (layout : ℕ) (r : Reading) → length (engine_of layout r).rows ≡ needed r
unfolding engine_of
is-rows layout r = rows-needed r

module _ (size : ℕ) (s : Shared) (k : Ok size s) where
  filled : length (s.front.rows ++ (s.free ++ s.back.rows)) ≡ size
  filled =
      let a : length (s.front.rows ++ (s.free ++ s.back.rows)) ≡ length s.front.rows + length (s.free ++ s.back.rows) = length-append s.front.rows (s.free ++ s.back.rows) in
      let b : length (s.free ++ s.back.rows) ≡ length s.free + length s.back.rows = length-append s.free s.back.rows in
      omega (arith, a, b, k.fills)

  -- engine 0 drops
  pub first-drop-writes : closed (given first s) ≡ sets (sets (closed s) 0 (replicate (held_of s.front.state) 0)) size (replicate 8 0)
  unfolding closed given nothing
  first-drop-writes =
      let n : ℕ = length s.front.rows in
      ap (λ (l : List ℕ). l ++ (replicate {A = ℕ} 8 0 ++ s.back.state)) (append_assoc (replicate {A = ℕ} n 0) s.free s.back.rows)
      ∙ sym (both [] s.front.rows (replicate n 0) (s.free ++ s.back.rows) [] s.front.state (replicate 8 0) s.back.state 0 size refl (sym (length-replicate n 0)) (let z = filled in omega (arith, z)) k.front.eight)
      ∙ ap (λ (j : ℕ). sets (sets (closed s) 0 (replicate {A = ℕ} j 0)) size (replicate {A = ℕ} 8 0)) (sym k.front.held)

  -- engine 0 loads
  pub first-load-writes : (layout : ℕ) (r : Reading) → Fits s.front (length s.free) r
      → closed (taken first layout (pass r) s) ≡ sets (sets (closed s) 0 (engine_of layout r).rows) size (engine_of layout r).state
  unfolding closed taken
  first-load-writes layout r f =
      let e : Engine = engine_of layout r in
      let z : s.front.rows ≡ [] = none_left s.front.rows (idle-holds-none s.front k.front f.idle) in
      let n : ℕ = needed r in
      let t : length (take n s.free) ≡ n = length-take-le n s.free f.room in
      let w : take n s.free ++ (drop n s.free ++ s.back.rows) ≡ s.front.rows ++ (s.free ++ s.back.rows) =
      sym (append_assoc (take n s.free) (drop n s.free) s.back.rows) ∙ ap (λ (l : List ℕ). l ++ s.back.rows) (take-append-drop n s.free) ∙ ap (λ (l : List ℕ). l ++ (s.free ++ s.back.rows)) (sym z) in
      sym (ap (λ (l : List ℕ). sets (sets (l ++ (s.front.state ++ s.back.state)) 0 e.rows) size e.state) (sym w)
      ∙ both [] (take n s.free) e.rows (drop n s.free ++ s.back.rows) [] s.front.state e.state s.back.state 0 size refl (t ∙ sym (is-rows layout r))
      (let y = ap length w ∙ filled in omega (arith, y)) (k.front.eight ∙ sym (engine-ok layout r).eight))

  -- engine 1 drops
  pub second-drop-writes : closed (given second s) ≡ sets (sets (closed s) (size - held_of s.back.state) (replicate (held_of s.back.state) 0)) (size + 8) (replicate 8 0)
  unfolding closed given nothing
  second-drop-writes =
      let n : ℕ = length s.back.rows in
      let c : length s.front.rows + length s.free ≡ size - held_of s.back.state = omega (arith, k.fills, k.back.held) in
      let d : length (s.front.rows ++ (s.free ++ s.back.rows)) + length s.front.state ≡ size + 8 = let z = filled in omega (arith, z, k.front.eight) in
      ap (λ (l : List ℕ). (s.front.rows ++ l) ++ (s.front.state ++ replicate {A = ℕ} 8 0)) (append-nil (s.free ++ replicate {A = ℕ} n 0))
      ∙ sym (both_end s.front.rows s.free s.back.rows (replicate n 0) s.front.state s.back.state (replicate 8 0) (size - held_of s.back.state) (size + 8) c (sym (length-replicate n 0)) d k.back.eight)
      ∙ ap (λ (j : ℕ). sets (sets (closed s) (size - held_of s.back.state) (replicate {A = ℕ} j 0)) (size + 8) (replicate {A = ℕ} 8 0)) (sym k.back.held)

  -- engine 1 loads
  pub second-load-writes : (layout : ℕ) (r : Reading) → Fits s.back (length s.free) r
      → closed (taken second layout (pass r) s) ≡ sets (sets (closed s) (size - needed r) (engine_of layout r).rows) (size + 8) (engine_of layout r).state
  unfolding closed taken
  second-load-writes layout r f =
      let e : Engine = engine_of layout r in
      let o : length s.back.rows ≡ 0 = idle-holds-none s.back k.back f.idle in
      let z : s.back.rows ≡ [] = none_left s.back.rows o in
      let n : ℕ = length s.free - needed r in
      let t : length (take n s.free) ≡ n = length-take-le n s.free (omega arith) in
      let q : length (drop n s.free) ≡ length s.free - n = length-drop n s.free in
      let w : s.front.rows ++ (s.free ++ s.back.rows) ≡ s.front.rows ++ (take n s.free ++ drop n s.free) =
      ap (λ (l : List ℕ). s.front.rows ++ l) (ap (λ (l : List ℕ). s.free ++ l) z ∙ append-nil s.free ∙ sym (take-append-drop n s.free)) in
      let d : length (s.front.rows ++ (take n s.free ++ drop n s.free)) + length s.front.state ≡ size + 8 = let y = ap length (sym w) ∙ filled in omega (arith, y, k.front.eight) in
      sym (ap (λ (l : List ℕ). sets (sets (l ++ (s.front.state ++ s.back.state)) (size - needed r) e.rows) (size + 8) e.state) w
      ∙ both_end s.front.rows (take n s.free) (drop n s.free) e.rows s.front.state s.back.state e.state (size - needed r) (size + 8)
      (omega (arith, t, o, k.fills, f.room)) (let y = is-rows layout r in omega (arith, y, q, f.room)) d (k.back.eight ∙ sym (engine-ok layout r).eight))
