-- Shared numbers that are sound come apart as they were put together; so a state left by calls is never refused.
use Prim.Native.Nat.{ℕ, ◌+◌, ◌-◌, ◌≤◌}
use native.Mathlib.Omega.{arith}
use mathlib.Core.List.{List, ◌++◌, append_assoc, append-nil}
use mathlib.Core.Bool.{Bool, true, false}
use mathlib.Core.Path.{◌≡◌, refl, sym, ap, ap₂, ◌∙◌, subst}
use lib.Dec.{eqb, leb}
use lib.ListN.{length, take, drop, replicate, length-append, length-drop, replicate-append-replicate, take-append-drop}
use lib.Seq.{length-take-le, take_at, drop_at, drop-drop}
use borrow.Author.Tests.{leb-true, eqb-true, eq-eqb, le-leb}
use Rattle.meaning.specs.Check.{Check, pass, ◌>>◌, ◌unless◌}
use Rattle.meaning.specs.Refusal.{INDEX}
use Rattle.meaning.proofs.Tests.{four-true}
use Rattle.engines.specs.Shared.{Who, first, second, Engine, held_of, state_sound, nothing, Shared, own, closed, part_of, usable, apart, opened, none_loaded, zeros}
use Rattle.engines.proofs.Kept.{Ok}

engine-is : (a : Engine) (st rs : List ℕ) → st ≡ a.state → rs ≡ a.rows → ◌≡◌ {A = Engine} (record { state = st; rows = rs }) a
engine-is a st rs e f = ap₂ {A = List ℕ} {B = List ℕ} (λ x y. record { state = x; rows = y }) e f

module _ (size : ℕ) (s : Shared) (k : Ok size s) where
  abbrev table : List ℕ
  table = s.front.rows ++ (s.free ++ s.back.rows)

  abbrev states : List ℕ
  states = s.front.state ++ s.back.state

  table-length : length table ≡ size
  table-length =
      let a : length table ≡ length s.front.rows + length (s.free ++ s.back.rows) = length-append s.front.rows (s.free ++ s.back.rows) in
      let b : length (s.free ++ s.back.rows) ≡ length s.free + length s.back.rows = length-append s.free s.back.rows in
      omega (arith, a, b, k.fills)

  is-table : take size (closed s) ≡ table
  unfolding closed
  is-table = take_at table states size table-length

  is-states : drop size (closed s) ≡ states
  unfolding closed
  is-states = drop_at table states size table-length

  is-front-state : take 8 (drop size (closed s)) ≡ s.front.state
  is-front-state = ap (take 8) is-states ∙ take_at s.front.state s.back.state 8 k.front.eight

  is-back-state : drop 8 (drop size (closed s)) ≡ s.back.state
  is-back-state = ap (drop 8) is-states ∙ drop_at s.front.state s.back.state 8 k.front.eight

  is-back-rows : drop (size - held_of s.back.state) table ≡ s.back.rows
  is-back-rows =
      let a : length (s.front.rows ++ s.free) ≡ length s.front.rows + length s.free = length-append s.front.rows s.free in
      ap (drop (size - held_of s.back.state)) (sym (append_assoc s.front.rows s.free s.back.rows))
      ∙ drop_at (s.front.rows ++ s.free) s.back.rows (size - held_of s.back.state) (omega (arith, a, k.fills, k.back.held))

  -- an engine's part is what the engine has
  pub part-is : (w : Who) → part_of size w (closed s) ≡ own w s
  unfolding part_of
  part-is first =
      engine-is s.front _ _ is-front-state
      (ap₂ {A = ℕ} {B = List ℕ} (λ n l. take n l) (ap held_of is-front-state ∙ k.front.held) is-table ∙ take_at s.front.rows (s.free ++ s.back.rows) (length s.front.rows) refl)
  part-is second =
      engine-is s.back _ _ is-back-state
      (ap₂ {A = ℕ} {B = List ℕ} (λ n l. drop (size - n) l) (ap held_of is-back-state) is-table ∙ is-back-rows)

  is-usable : usable size (closed s) s.front s.back ≡ true
  unfolding usable closed
  is-usable =
      let a : length (table ++ states) ≡ length table + length states = length-append table states in
      let b : length states ≡ length s.front.state + length s.back.state = length-append s.front.state s.back.state in
      let e : eqb (length (table ++ states)) (size + 16) ≡ true = eq-eqb (length (table ++ states)) (size + 16) (omega (arith, a, b, table-length, k.front.eight, k.back.eight)) in
      let f : leb (held_of s.front.state + held_of s.back.state) size ≡ true = le-leb (held_of s.front.state + held_of s.back.state) size (omega (arith, k.fills, k.front.held, k.back.held)) in
      rw (e, k.front.sound, k.back.sound, f)

  is_free : take (size - held_of s.front.state - held_of s.back.state) (drop (held_of s.front.state) (take size (closed s))) ≡ s.free
  is_free =
      let c : drop (held_of s.front.state) (take size (closed s)) ≡ s.free ++ s.back.rows =
      ap (drop (held_of s.front.state)) is-table ∙ drop_at s.front.rows (s.free ++ s.back.rows) (held_of s.front.state) (sym k.front.held) in
      ap (take (size - held_of s.front.state - held_of s.back.state)) c
      ∙ take_at s.free s.back.rows (size - held_of s.front.state - held_of s.back.state) (omega (arith, k.fills, k.front.held, k.back.held))

  pub closed-opens : opened size (closed s) ≡ pass s
  unfolding opened apart
  closed-opens =
      ap₂ {A = Engine} {B = Engine} (λ a b. apart size (closed s) a b) (part-is first) (part-is second)
      ∙ ap (λ (b : Bool). (INDEX unless b) >> pass (record { front = s.front; free = take (size - held_of s.front.state - held_of s.back.state) (drop (held_of s.front.state) (take size (closed s))); back = s.back })) is-usable
      ∙ ap (λ (l : List ℕ). pass (record { front = s.front; free = l; back = s.back })) is_free

-- ---- and the other way: any list that comes apart is put together again as it was

pub record Opened (size : ℕ) (l : List ℕ) (s : Shared) : Type 0 where
  pub ok : Ok size s
  pub is : l ≡ closed s

module _ (size : ℕ) (l : List ℕ) where
  abbrev a : Engine
  a = part_of size first l

  abbrev b : Engine
  b = part_of size second l

  abbrev h₀ : ℕ
  h₀ = held_of a.state

  abbrev h₁ : ℕ
  h₁ = held_of b.state

  abbrev parts : Shared
  parts = record { front = a; free = take (size - h₀ - h₁) (drop h₀ (take size l)); back = b }

  parts-opened : length l ≡ size + 16 → state_sound a.state ≡ true → state_sound b.state ≡ true → h₀ + h₁ ≤ size → Opened size l parts
  unfolding part_of closed
  parts-opened n p q h =
      let t : length (take size l) ≡ size = length-take-le size l (omega (arith, n)) in
      let u : length (drop size l) ≡ 16 = let z : length (drop size l) ≡ length l - size = length-drop size l in omega (arith, z, n) in
      let v : length (drop 8 (drop size l)) ≡ 8 = let z : length (drop 8 (drop size l)) ≡ length (drop size l) - 8 = length-drop 8 (drop size l) in omega (arith, z, u) in
      let r₀ : length (take h₀ (take size l)) ≡ h₀ = length-take-le h₀ (take size l) (omega (arith, t, h)) in
      let d : length (drop h₀ (take size l)) ≡ size - h₀ = let z : length (drop h₀ (take size l)) ≡ length (take size l) - h₀ = length-drop h₀ (take size l) in omega (arith, z, t) in
      let f : length (take (size - h₀ - h₁) (drop h₀ (take size l))) ≡ size - h₀ - h₁ = length-take-le (size - h₀ - h₁) (drop h₀ (take size l)) (omega (arith, d)) in
      let r₁ : length (drop (size - h₁) (take size l)) ≡ h₁ =
      let z : length (drop (size - h₁) (take size l)) ≡ length (take size l) - (size - h₁) = length-drop (size - h₁) (take size l) in omega (arith, z, t, h) in
      let e : h₀ + (size - h₀ - h₁) ≡ size - h₁ = omega (arith, h) in
      let g : drop (size - h₁) (take size l) ≡ drop (size - h₀ - h₁) (drop h₀ (take size l)) = sym (drop-drop (size - h₀ - h₁) h₀ (take size l) ∙ ap (λ (j : ℕ). drop j (take size l)) e) in
      record {
        ok = record {
          front = record { eight = length-take-le 8 (drop size l) (omega (arith, u)); held = sym r₀; sound = p };
          back = record { eight = v; held = sym r₁; sound = q };
          fills = omega (arith, r₀, f, r₁, h);
        };
        is =
            sym (ap₂ {A = List ℕ} {B = List ℕ} (λ x y. x ++ y)
            (ap (λ (x : List ℕ). take h₀ (take size l) ++ (take (size - h₀ - h₁) (drop h₀ (take size l)) ++ x)) g
            ∙ ap (λ (x : List ℕ). take h₀ (take size l) ++ x) (take-append-drop (size - h₀ - h₁) (drop h₀ (take size l))) ∙ take-append-drop h₀ (take size l))
            (take-append-drop 8 (drop size l)) ∙ take-append-drop size l);
      }

  pub opened-closed : (s : Shared) → opened size l ≡ pass s → Opened size l s
  unfolding opened apart usable
  opened-closed s = go (usable size l a b) refl
    where
      tests : usable size l a b ≡ true → Opened size l parts
      tests e =
          let x : (eqb (length l) (size + 16) ≡ true) × ((state_sound a.state ≡ true) × ((state_sound b.state ≡ true) × (leb (h₀ + h₁) size ≡ true))) =
          four-true (eqb (length l) (size + 16)) (state_sound a.state) (state_sound b.state) (leb (h₀ + h₁) size) e in
          parts-opened (eqb-true (length l) (size + 16) x.0) x.1.0 x.1.1.0 (leb-true (h₀ + h₁) size x.1.1.1)

      go : (u : Bool) → usable size l a b ≡ u → ◌≡◌ {A = Check Shared} ((INDEX unless u) >> pass parts) (pass s) → Opened size l s
      go true e h = let z : parts ≡ s = cc in subst (Opened size l) z (tests e)
      go false e h = absurd (let z : ◌≡◌ {A = ℕ} 0 1 = cc in omega arith)

-- nobody has loaded: all numbers are zeros
pub zeros-closed : (size : ℕ) → closed (none_loaded size) ≡ zeros size
unfolding closed none_loaded nothing zeros
zeros-closed size =
    ap (λ (a : List ℕ). a ++ replicate {A = ℕ} 16 0) (append-nil (replicate size 0)) ∙ replicate-append-replicate size 16 0
