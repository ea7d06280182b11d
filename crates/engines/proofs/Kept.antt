-- Sound states: each engine's state fits its rows, and rows and free numbers fill the table. Every call keeps that, and keeps free numbers zeros.
use Prim.Native.Nat.{ℕ, zero, suc, ◌+◌, ◌-◌, ◌*◌, ◌≤◌}
use native.Mathlib.Omega.{arith}
use mathlib.Core.List.{List, [], ◌∷◌, ◌++◌}
use mathlib.Core.Bool.{Bool, true, false, cond, ◌&&◌}
use mathlib.Core.Path.{◌≡◌, refl, sym, ap, ap₂, ◌∙◌, subst}
use lib.Dec.{eqb, leb}
use lib.ListN.{length, take, drop, get_or, replicate, length-append, length-drop, length-replicate, replicate-append-replicate}
use lib.Seq.{length-take-le}
use borrow.Author.Tests.{leb-true, eqb-true, eq-eqb}
use Rattle.meaning.specs.Check.{Check, pass, refuse, ◌>>=◌, ◌>>◌, ◌unless◌}
use Rattle.meaning.specs.Text.{all}
use Rattle.meaning.specs.Frame.{Reading}
use Rattle.meaning.specs.Columns.{object_width, component_width}
use Rattle.meaning.specs.Rows.{rows, room_for}
use Rattle.meaning.proofs.Tests.{both_left, both_right}
use Rattle.meaning.proofs.Lengths.{rows_fill, none_left}
use Rattle.engines.specs.Shared.{Who, first, second, Engine, flag_of, held_of, objects_of, components_of, layout_column, state_sound, nothing, Shared, own, none_loaded}
use Rattle.engines.specs.Calls.{Call, load, drops, holds, view, list, needed, layout_number, engine_of, reading_as, loading, taken, given, after}

pub record OkEngine (a : Engine) : Type 0 where
  pub eight : length a.state ≡ 8
  pub held : held_of a.state ≡ length a.rows
  pub sound : state_sound a.state ≡ true

pub record Ok (size : ℕ) (s : Shared) : Type 0 where
  pub front : OkEngine s.front
  pub back : OkEngine s.back
  pub fills : length s.front.rows + length s.free + length s.back.rows ≡ size

-- the free numbers are zeros
abbrev pub Clean : Shared → Type 0
Clean s = s.free ≡ replicate (length s.free) 0

-- ---- engines

pub nothing_ok : OkEngine nothing
unfolding nothing state_sound
nothing_ok = record { eight = refl; held = refl; sound = refl }

pub eqb_same : (n : ℕ) → eqb n n ≡ true
eqb_same n = eq-eqb n n refl

pub rows-needed : (r : Reading) → length (rows r.model) ≡ needed r
rows-needed r = rows_fill r.model

layout-small : (n : ℕ) → leb (layout_number n) 1 ≡ true
unfolding layout_number
layout-small n = go (eqb n 1)
  where
    go : (b : Bool) → leb (cond b 1 0) 1 ≡ true
    go true = refl
    go false = refl

pub engine-ok : (layout : ℕ) (r : Reading) → OkEngine (engine_of layout r)
unfolding engine_of state_sound room_for
engine-ok layout r = record {
  eight = refl;
  held = sym (rows-needed r);
  sound = rw (layout-small layout, eqb_same (needed r));
}

-- ---- zeros

drop-zeros : (n k : ℕ) → drop {A = ℕ} k (replicate {A = ℕ} n 0) ≡ replicate {A = ℕ} (n - k) 0
drop-zeros n zero = let e : n ≡ n - 0 = omega arith in ap (λ (j : ℕ). replicate {A = ℕ} j 0) e
drop-zeros zero (suc k) = let e : 0 ≡ 0 - suc k = omega arith in ap (λ (j : ℕ). replicate {A = ℕ} j 0) e
drop-zeros (suc n) (suc k) = let e : n - k ≡ suc n - suc k = omega arith in drop-zeros n k ∙ ap (λ (j : ℕ). replicate {A = ℕ} j 0) e

take-zeros : (n k : ℕ) → k ≤ n → take {A = ℕ} k (replicate {A = ℕ} n 0) ≡ replicate {A = ℕ} k 0
take-zeros n zero h = refl
take-zeros zero (suc k) h = absurd (omega arith)
take-zeros (suc n) (suc k) h = ap {B = List ℕ} (λ r. 0 ∷ r) (take-zeros n k (omega arith))

pub zeros-are : (l : List ℕ) (n : ℕ) → l ≡ replicate n 0 → l ≡ replicate (length l) 0
zeros-are l n e = e ∙ ap (λ (k : ℕ). replicate k 0) (sym (ap length e ∙ length-replicate n 0))

-- ---- calls

-- ---- an engine that has nothing loaded holds nothing

all-zero : (l : List ℕ) → all (λ n. eqb n 0) l ≡ true → (i : ℕ) → get_or l i 0 ≡ 0
all-zero [] h i = refl
all-zero (n ∷ l) h zero = eqb-true n 0 (both_left (eqb n 0) (all (λ n. eqb n 0) l) h)
all-zero (n ∷ l) h (suc i) = all-zero l (both_right (eqb n 0) (all (λ n. eqb n 0) l) h) i

idle-zeros : (a : Engine) → OkEngine a → eqb (flag_of a.state) 0 ≡ true → all (λ n. eqb n 0) a.state ≡ true
unfolding state_sound
idle-zeros a k e =
    let z : cond (eqb (flag_of a.state) 0) (all (λ n. eqb n 0) a.state) true ≡ true =
    both_right (leb (flag_of a.state) 1 && leb (layout_column a.state) 1 && eqb (held_of a.state) (object_width * objects_of a.state + component_width * components_of a.state))
    (cond (eqb (flag_of a.state) 0) (all (λ n. eqb n 0) a.state) true) k.sound in
    ap (λ (b : Bool). cond b (all (λ n. eqb n 0) a.state) true) (sym e) ∙ z

pub idle-holds-none : (a : Engine) → OkEngine a → eqb (flag_of a.state) 0 ≡ true → length a.rows ≡ 0
idle-holds-none a k e = sym k.held ∙ all-zero a.state (idle-zeros a k e) 1

zeros_of : (l : List ℕ) → all (λ n. eqb n 0) l ≡ true → l ≡ replicate (length l) 0
zeros_of [] h = refl
zeros_of (n ∷ l) h =
    ap₂ {A = ℕ} {B = List ℕ} (λ x y. x ∷ y) (eqb-true n 0 (both_left (eqb n 0) (all (λ n. eqb n 0) l) h)) (zeros_of l (both_right (eqb n 0) (all (λ n. eqb n 0) l) h))

pub idle-is-nothing : (a : Engine) → OkEngine a → eqb (flag_of a.state) 0 ≡ true → a ≡ nothing
unfolding nothing
idle-is-nothing a k e =
    ap₂ {A = List ℕ} {B = List ℕ} (λ x y. record { state = x; rows = y })
    (zeros_of a.state (idle-zeros a k e) ∙ ap (λ (n : ℕ). replicate {A = ℕ} n 0) k.eight) (none_left a.rows (idle-holds-none a k e))

-- ---- calls

-- a load that passes found the engine idle, and room
pub record Fits (a : Engine) (free : ℕ) (r : Reading) : Type 0 where
  pub idle : eqb (flag_of a.state) 0 ≡ true
  pub room : needed r ≤ free

pub loading-fits : (a : Engine) (free layout : ℕ) (file : List ℕ) (r : Reading) → loading a free layout file ≡ pass r → Fits a free r
unfolding loading
loading-fits a free layout file r = go (eqb (flag_of a.state) 0) (reading_as layout file) refl
  where
    last : (b : Bool) (q : Reading) → leb (needed q) free ≡ b → ◌≡◌ {A = Check Reading} ((24 unless b) >> pass q) (pass r) → needed r ≤ free
    last true q e h = let z : q ≡ r = cc in subst (λ (x : Reading). needed x ≤ free) z (leb-true (needed q) free e)
    last false q e h = absurd (let z : ◌≡◌ {A = ℕ} 0 1 = cc in omega arith)

    go : (b : Bool) (m : Check Reading) → eqb (flag_of a.state) 0 ≡ b → ◌≡◌ {A = Check Reading} ((28 unless b) >> (m >>= λ q. (24 unless leb (needed q) free) >> pass q)) (pass r) → Fits a free r
    go true (pass q) e h = record { idle = e; room = last (leb (needed q) free) q refl h }
    go true (refuse n o c) e h = absurd (let z : ◌≡◌ {A = ℕ} 0 1 = cc in omega arith)
    go false m e h = absurd (let z : ◌≡◌ {A = ℕ} 0 1 = cc in omega arith)

module _ (size : ℕ) where
  pub none-ok : Ok size (none_loaded size)
  unfolding none_loaded nothing
  none-ok = record { front = nothing_ok; back = nothing_ok; fills = let z : length (replicate {A = ℕ} size 0) ≡ size = length-replicate size 0 in omega (arith, z) }

  pub none-clean : Clean (none_loaded size)
  unfolding none_loaded
  none-clean = zeros-are (replicate size 0) size refl

  pub given-ok : (w : Who) (s : Shared) → Ok size s → Ok size (given w s)
  unfolding given nothing
  given-ok first s k =
      let n : ℕ = length s.front.rows in
      let a : length (replicate {A = ℕ} n 0 ++ s.free) ≡ n + length s.free = length-append (replicate {A = ℕ} n 0) s.free ∙ ap (λ (x : ℕ). x + length s.free) (length-replicate n 0) in
      record { front = nothing_ok; back = k.back; fills = omega (arith, a, k.fills) }
  given-ok second s k =
      let n : ℕ = length s.back.rows in
      let a : length (s.free ++ replicate {A = ℕ} n 0) ≡ length s.free + n = length-append s.free (replicate {A = ℕ} n 0) ∙ ap (λ (x : ℕ). length s.free + x) (length-replicate n 0) in
      record { front = k.front; back = nothing_ok; fills = omega (arith, a, k.fills) }

  pub taken-ok : (w : Who) (layout : ℕ) (m : Check Reading) (s : Shared) → ((r : Reading) → m ≡ pass r → Fits (own w s) (length s.free) r) → Ok size s → Ok size (taken w layout m s)
  unfolding taken engine_of
  taken-ok first layout (refuse n o c) s h k = k
  taken-ok second layout (refuse n o c) s h k = k
  taken-ok first layout (pass r) s h k =
      let f : Fits s.front (length s.free) r = h r refl in
      let z : length s.front.rows ≡ 0 = idle-holds-none s.front k.front f.idle in
      let a : length (drop (needed r) s.free) ≡ length s.free - needed r = length-drop (needed r) s.free in
      record { front = engine-ok layout r; back = k.back; fills = omega (arith, rows-needed r, a, z, f.room, k.fills) }
  taken-ok second layout (pass r) s h k =
      let f : Fits s.back (length s.free) r = h r refl in
      let z : length s.back.rows ≡ 0 = idle-holds-none s.back k.back f.idle in
      let n : ℕ = length s.free - needed r in
      let a : length (take n s.free) ≡ n = length-take-le n s.free (omega arith) in
      record { front = k.front; back = engine-ok layout r; fills = omega (arith, rows-needed r, a, z, f.room, k.fills) }

  pub after-ok : (w : Who) (c : Call) (s : Shared) → Ok size s → Ok size (after w c s)
  unfolding after
  after-ok w (load layout file) s k = taken-ok w layout (loading (own w s) (length s.free) layout file) s (loading-fits (own w s) (length s.free) layout file) k
  after-ok w drops s k = given-ok w s k
  after-ok w holds s k = k
  after-ok w (view file index) s k = k
  after-ok w (list file room) s k = k

-- ---- free numbers stay zeros

given-clean : (w : Who) (s : Shared) → Clean s → Clean (given w s)
unfolding given
given-clean first s k =
    let n : ℕ = length s.front.rows in
    zeros-are (replicate n 0 ++ s.free) (n + length s.free) (ap (λ (x : List ℕ). replicate {A = ℕ} n 0 ++ x) k ∙ replicate-append-replicate n (length s.free) 0)
given-clean second s k =
    let n : ℕ = length s.back.rows in
    zeros-are (s.free ++ replicate n 0) (length s.free + n) (ap (λ (x : List ℕ). x ++ replicate {A = ℕ} n 0) k ∙ replicate-append-replicate (length s.free) n 0)

taken-clean : (w : Who) (layout : ℕ) (m : Check Reading) (s : Shared) → Clean s → Clean (taken w layout m s)
unfolding taken
taken-clean first layout (refuse n o c) s k = k
taken-clean second layout (refuse n o c) s k = k
taken-clean first layout (pass r) s k = zeros-are (drop (needed r) s.free) (length s.free - needed r) (ap (drop (needed r)) k ∙ drop-zeros (length s.free) (needed r))
taken-clean second layout (pass r) s k =
    let n : ℕ = length s.free - needed r in
    zeros-are (take n s.free) n (ap (take n) k ∙ take-zeros (length s.free) n (omega arith))

pub after-clean : (w : Who) (c : Call) (s : Shared) → Clean s → Clean (after w c s)
unfolding after
after-clean w (load layout file) s k = taken-clean w layout (loading (own w s) (length s.free) layout file) s k
after-clean w drops s k = given-clean w s k
after-clean w holds s k = k
after-clean w (view file index) s k = k
after-clean w (list file room) s k = k
