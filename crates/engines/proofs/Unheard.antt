-- Non-interference: what an engine is answered, and its rows and state, are a function of its own calls and of the numbers that the other holds where it loads.
use Prim.Native.Nat.{ℕ}
use native.Mathlib.Omega.{arith}
use mathlib.Core.List.{List, [], ◌∷◌}
use mathlib.Core.Path.{◌≡◌, refl, sym, ap, ap₂, ◌∙◌}
use lib.ListN.{length}
use Rattle.meaning.specs.Check.{Check, pass, refuse}
use Rattle.meaning.specs.Frame.{Reading}
use Rattle.engines.specs.Shared.{Who, first, second, Engine, held_of, Shared, own, other, part_of, zeros}
use Rattle.engines.specs.Calls.{Call, load, drops, holds, view, list, Said, loading, told, taken, given, after, answered, leaves}
use Rattle.engines.specs.Runs.{Turn, Heard, heard, mine, number_of, final, history, replies}
use Rattle.engines.specs.Alone.{takes, free_beside, alone_after, alone, alone_final}
use Rattle.engines.proofs.Kept.{Ok}
use Rattle.engines.proofs.Opens.{opened-closed}
use Rattle.engines.proofs.EachCall.{answered-is, part-opened, part-after, other-untouched}
use Rattle.engines.proofs.Left.{Left, zeros-left, call-left}

module _ (size : ℕ) where
  -- ---- one call

  abbrev beside : Who → Shared → ℕ
  beside w s = held_of (own (other w) s).state

  free-beside : (w : Who) (s : Shared) → Ok size s → length s.free ≡ free_beside size w (own w s) (beside w s)
  free-beside first s k = omega (arith, k.fills, k.front.held, k.back.held)
  free-beside second s k = omega (arith, k.fills, k.front.held, k.back.held)

  told-alone : (w : Who) (c : Call) (s : Shared) → Ok size s → told size w (own w s) (length s.free) c ≡ told size w (own w s) (free_beside size w (own w s) (heard c (beside w s))) c
  unfolding told
  told-alone w (load layout file) s k = ap (λ (n : ℕ). told size w (own w s) n (load layout file)) (free-beside w s k)
  told-alone w drops s k = refl
  told-alone w holds s k = refl
  told-alone w (view file index) s k = refl
  told-alone w (list file room) s k = refl

  own-taken : (w : Who) (layout : ℕ) (m : Check Reading) (s : Shared) → own w (taken w layout m s) ≡ takes layout (own w s) m
  unfolding taken takes
  own-taken first layout (pass r) s = refl
  own-taken first layout (refuse n o c) s = refl
  own-taken second layout (pass r) s = refl
  own-taken second layout (refuse n o c) s = refl

  own_alone : (w : Who) (c : Call) (s : Shared) → Ok size s → own w (after w c s) ≡ alone_after size w (own w s) (heard c (beside w s)) c
  unfolding after alone_after given
  own_alone w (load layout file) s k =
      own-taken w layout (loading (own w s) (length s.free) layout file) s ∙ ap (λ (n : ℕ). takes layout (own w s) (loading (own w s) n layout file)) (free-beside w s k)
  own_alone first drops s k = refl
  own_alone second drops s k = refl
  own_alone w holds s k = refl
  own_alone w (view file index) s k = refl
  own_alone w (list file room) s k = refl

  -- the same of a list of numbers
  abbrev heard_in : Who → Call → List ℕ → ℕ
  heard_in w c l = heard c (held_of (part_of size (other w) l).state)

  module _ (w : Who) (c : Call) (l : List ℕ) (h : Left size l) where
    beside-is : beside w h.shared ≡ held_of (part_of size (other w) l).state
    beside-is = ap (λ (a : Engine). held_of a.state) (sym (part-opened size (other w) l h.shared h.opens))

    answer-alone : answered size (number_of w) c l ≡ told size w (part_of size w l) (free_beside size w (part_of size w l) (heard_in w c l)) c
    answer-alone =
        answered-is size w c l h.shared h.opens ∙ told-alone w c h.shared (opened-closed size l h.shared h.opens).ok
        ∙ ap₂ {A = Engine} {B = ℕ} (λ a n. told size w a (free_beside size w a (heard c n)) c) (sym (part-opened size w l h.shared h.opens)) beside-is

    after-alone : part_of size w (leaves size (number_of w) c l) ≡ alone_after size w (part_of size w l) (heard_in w c l) c
    after-alone =
        part-after size w w c l h.shared h.opens ∙ own_alone w c h.shared (opened-closed size l h.shared h.opens).ok
        ∙ ap₂ {A = Engine} {B = ℕ} (λ a n. alone_after size w a (heard c n) c) (sym (part-opened size w l h.shared h.opens)) beside-is

  -- ---- a run: an engine is answered, and ends, as if it were alone

  abbrev heard_as : Who → Call → List ℕ → Heard
  heard_as w c l = record { call = c; held = heard_in w c l }

  turn-replies : (w v : Who) (c : Call) (l : List ℕ) (h : Left size l) (R : List (Check Said)) (H : List Heard)
      → R ≡ alone size w (part_of size w (leaves size (number_of v) c l)) H → mine w v (answered size (number_of v) c l) R ≡ alone size w (part_of size w l) (mine w v (heard_as w c l) H)
  unfolding alone
  turn-replies first first c l h R H e =
      ap₂ {A = Check Said} {B = List (Check Said)} (λ x y. x ∷ y) (answer-alone first c l h) (e ∙ ap (λ (a : Engine). alone size first a H) (after-alone first c l h))
  turn-replies first second c l h R H e = e ∙ ap (λ (a : Engine). alone size first a H) (other-untouched size second c l)
  turn-replies second first c l h R H e = e ∙ ap (λ (a : Engine). alone size second a H) (other-untouched size first c l)
  turn-replies second second c l h R H e =
      ap₂ {A = Check Said} {B = List (Check Said)} (λ x y. x ∷ y) (answer-alone second c l h) (e ∙ ap (λ (a : Engine). alone size second a H) (after-alone second c l h))

  turn-final : (w v : Who) (c : Call) (l : List ℕ) (h : Left size l) (X : Engine) (H : List Heard)
      → X ≡ alone_final size w (part_of size w (leaves size (number_of v) c l)) H → X ≡ alone_final size w (part_of size w l) (mine w v (heard_as w c l) H)
  unfolding alone_final
  turn-final first first c l h X H e = e ∙ ap (λ (a : Engine). alone_final size first a H) (after-alone first c l h)
  turn-final first second c l h X H e = e ∙ ap (λ (a : Engine). alone_final size first a H) (other-untouched size second c l)
  turn-final second first c l h X H e = e ∙ ap (λ (a : Engine). alone_final size second a H) (other-untouched size first c l)
  turn-final second second c l h X H e = e ∙ ap (λ (a : Engine). alone_final size second a H) (after-alone second c l h)

  abbrev next : Turn → List ℕ → List ℕ
  next t l = leaves size (number_of t.who) t.call l

  pub replies-alone : (w : Who) (ts : List Turn) (l : List ℕ) → Left size l → replies size w ts l ≡ alone size w (part_of size w l) (history size w ts l)
  unfolding replies history alone
  replies-alone w [] l h = refl
  replies-alone w (t ∷ ts) l h =
      turn-replies w t.who t.call l h (replies size w ts (next t l)) (history size w ts (next t l)) (replies-alone w ts (next t l) (call-left size t.who t.call l h))

  pub final-alone : (w : Who) (ts : List Turn) (l : List ℕ) → Left size l → part_of size w (final size ts l) ≡ alone_final size w (part_of size w l) (history size w ts l)
  unfolding final history alone_final
  final-alone w [] l h = refl
  final-alone w (t ∷ ts) l h =
      turn-final w t.who t.call l h (part_of size w (final size ts (next t l))) (history size w ts (next t l)) (final-alone w ts (next t l) (call-left size t.who t.call l h))

  -- ---- non-interference: two runs, from zeros, in which an engine makes the same calls, and the other holds as many numbers wherever it loads

  module _ (w : Who) (ts us : List Turn) (same : history size w ts (zeros size) ≡ history size w us (zeros size)) where
    pub same-replies : replies size w ts (zeros size) ≡ replies size w us (zeros size)
    same-replies = replies-alone w ts (zeros size) (zeros-left size) ∙ ap (alone size w (part_of size w (zeros size))) same ∙ sym (replies-alone w us (zeros size) (zeros-left size))

    pub same-part : part_of size w (final size ts (zeros size)) ≡ part_of size w (final size us (zeros size))
    same-part = final-alone w ts (zeros size) (zeros-left size) ∙ ap (alone_final size w (part_of size w (zeros size))) same ∙ sym (final-alone w us (zeros size) (zeros-left size))
