-- What calls of both engines leave from zeros: never refused, and all zeros again once both have dropped.
use Prim.Native.Nat.{ℕ}
use native.Mathlib.Omega.{arith}
use mathlib.Core.List.{List, [], ◌∷◌}
use mathlib.Core.Path.{◌≡◌, refl, sym, ap, ap₂, ◌∙◌}
use lib.ListN.{length, replicate}
use Rattle.meaning.specs.Check.{pass}
use Rattle.engines.specs.Shared.{Who, first, second, Engine, nothing, Shared, own, other, closed, part_of, opened, none_loaded, zeros}
use Rattle.engines.specs.Calls.{Call, drops, given, after, leaves}
use Rattle.engines.specs.Runs.{Turn, number_of, final}
use Rattle.engines.proofs.Kept.{Ok, Clean, none-ok, none-clean, after-ok, after-clean}
use Rattle.engines.proofs.Opens.{Opened, opened-closed, closed-opens, part-is, zeros-closed}
use Rattle.engines.proofs.EachCall.{leaves-is, leaves-opens}

module _ (size : ℕ) where
  -- numbers that calls leave: they come apart, and what is free is zeros
  pub record Left (l : List ℕ) : Type 0 where
    pub shared : Shared
    pub opens : opened size l ≡ pass shared
    pub clean : Clean shared

  pub zeros-left : Left (zeros size)
  zeros-left = record {
    shared = none_loaded size;
    opens = ap (opened size) (sym (zeros-closed size)) ∙ closed-opens size (none_loaded size) (none-ok size);
    clean = none-clean size;
  }

  -- every call keeps sound states
  pub call-left : (w : Who) (c : Call) (l : List ℕ) → Left l → Left (leaves size (number_of w) c l)
  call-left w c l h = record { shared = after w c h.shared; opens = leaves-opens size w c l h.shared h.opens; clean = after-clean w c h.shared h.clean }

  pub run-left : (ts : List Turn) (l : List ℕ) → Left l → Left (final size ts l)
  unfolding final
  run-left [] l h = h
  run-left (t ∷ ts) l h = run-left ts (leaves size (number_of t.who) t.call l) (call-left t.who t.call l h)

  -- a state left by calls is never refused
  pub never-refused : (ts : List Turn) → Left (final size ts (zeros size))
  never-refused ts = run-left ts (zeros size) zeros-left

  -- ---- both drop

  idle-closed : (f : List ℕ) → length f ≡ size → f ≡ replicate (length f) 0 → closed (record { front = nothing; free = f; back = nothing }) ≡ zeros size
  unfolding none_loaded
  idle-closed f e c = ap (λ (x : List ℕ). closed (record { front = nothing; free = x; back = nothing })) (c ∙ ap (λ (n : ℕ). replicate {A = ℕ} n 0) e) ∙ zeros-closed size

  idle-zeros : (s : Shared) → Ok size s → Clean s → s.front ≡ nothing → s.back ≡ nothing → closed s ≡ zeros size
  unfolding nothing
  idle-zeros s k c e f =
      let a : length s.front.rows ≡ 0 = ap (λ (x : Engine). length x.rows) e in
      let b : length s.back.rows ≡ 0 = ap (λ (x : Engine). length x.rows) f in
      ap₂ {A = Engine} {B = Engine} (λ x y. closed (record { front = x; free = s.free; back = y })) e f ∙ idle-closed s.free (omega (arith, k.fills, a, b)) c

  -- once neither has rows, all is zeros
  pub idle-left : (l : List ℕ) → Left l → part_of size first l ≡ nothing → part_of size second l ≡ nothing → l ≡ zeros size
  idle-left l h e f =
      let o : Opened size l h.shared = opened-closed size l h.shared h.opens in
      let a : part_of size first l ≡ h.shared.front = ap (part_of size first) o.is ∙ part-is size h.shared o.ok first in
      let b : part_of size second l ≡ h.shared.back = ap (part_of size second) o.is ∙ part-is size h.shared o.ok second in
      o.is ∙ idle-zeros h.shared o.ok h.clean (sym a ∙ e) (sym b ∙ f)

  gone-own : (w : Who) (s : Shared) → own w (after w drops s) ≡ nothing
  unfolding after given
  gone-own first s = refl
  gone-own second s = refl

  gone-both : (w : Who) (s : Shared) → own w (after (other w) drops (after w drops s)) ≡ nothing
  unfolding after given
  gone-both first s = refl
  gone-both second s = refl

  -- in either order
  pub both-dropped : (w : Who) (ts : List Turn) → leaves size (number_of (other w)) drops (leaves size (number_of w) drops (final size ts (zeros size))) ≡ zeros size
  both-dropped w ts =
      let h : Left (final size ts (zeros size)) = never-refused ts in
      let s : Shared = h.shared in
      let l : List ℕ = final size ts (zeros size) in
      let o : Opened size l s = opened-closed size l s h.opens in
      let k : Ok size (after (other w) drops (after w drops s)) = after-ok size (other w) drops (after w drops s) (after-ok size w drops s o.ok) in
      let c : Clean (after (other w) drops (after w drops s)) = after-clean (other w) drops (after w drops s) (after-clean w drops s h.clean) in
      leaves-is size (other w) drops (leaves size (number_of w) drops l) (after w drops s) (leaves-opens size w drops l s h.opens) ∙ go w s k c
    where
      go : (w : Who) (s : Shared) → Ok size (after (other w) drops (after w drops s)) → Clean (after (other w) drops (after w drops s)) → closed (after (other w) drops (after w drops s)) ≡ zeros size
      go first s k c = idle-zeros (after second drops (after first drops s)) k c (gone-both first s) (gone-own second (after first drops s))
      go second s k c = idle-zeros (after first drops (after second drops s)) k c (gone-own first (after second drops s)) (gone-both second s)
