-- A drop: of an idle engine it does nothing, of a loaded one it stores zeros over its rows and its state.
use Prim.Native.Nat.{ℕ, ◌+◌, ◌-◌, ◌*◌, ◌≤◌}
use native.Mathlib.Omega.{arith}
use mathlib.Core.List.{List, ◌++◌, append-nil}
use mathlib.Core.Bool.{true}
use mathlib.Core.Path.{◌≡◌, sym, ap, ap₂, ◌∙◌}
use lib.Dec.{eqb}
use lib.ListN.{length, replicate}
use lib.Seq.{sets, length-sets}
use Rattle.engines.specs.Shared.{Who, first, second, Engine, flag_of, held_of, nothing, Shared, own, closed}
use Rattle.engines.specs.Calls.{drops, place_of, told, given, after, answered, leaves}
use Rattle.engines.specs.Runs.{number_of}
use Rattle.sharing.specs.EngineAnswers.{number}
use Rattle.states.specs.Places.{standing}
use Rattle.states.specs.declared.Place.TheVariants.{Nowhere, Idle, Loaded}
use Rattle.engines.proofs.Kept.{Ok, idle-is-nothing}
use Rattle.engines.proofs.Opens.{Opened, opened-closed}
use Rattle.engines.proofs.EachCall.{leaves-is, answered-is}
use Rattle.states.proofs.Stands.{LoadedAt, idle-at, loaded_at, nowhere-at, told-there, inside, whole}
use Rattle.engines.proofs.Writes.{first-drop-writes, second-drop-writes}

-- an engine's number is 0 or 1
pub small : (w : Who) {n : ℕ} → n ≡ number_of w → n ≤ 1
small first e = omega (arith, e)
small second e = omega (arith, e)

given-idle : (size : ℕ) (w : Who) (s : Shared) → Ok size s → eqb (flag_of (own w s).state) 0 ≡ true → given w s ≡ s
unfolding given nothing
given-idle size first s k e = let z = idle-is-nothing s.front k.front e in ap (λ (a : Engine). record { front = nothing; free = replicate (length a.rows) 0 ++ s.free; back = s.back }) z ∙ ap (λ (a : Engine). record { front = a; free = s.free; back = s.back }) (sym z)
given-idle size second s k e =
    let z = idle-is-nothing s.back k.back e in
    ap (λ (a : Engine). record { front = s.front; free = s.free ++ replicate (length a.rows) 0; back = nothing }) z
    ∙ ap₂ {A = List ℕ} {B = Engine} (λ f a. record { front = s.front; free = f; back = a }) (append-nil s.free) (sym z)

module _ (size engine : ℕ) (l : List ℕ) where
  abbrev Dropped : ℕ → List ℕ → Type 0
  Dropped r after = (r ≡ number (answered size engine drops l)) × (after ≡ leaves size engine drops l)

  pub nowhere-drops : standing size engine l ≡ Nowhere → Dropped 26 l
  unfolding number
  nowhere-drops h = let z = nowhere-at size l engine drops h in (sym (ap number z.answers), sym z.keeps)

  pub idle-drops : (free : ℕ) → standing size engine l ≡ Idle free → Dropped 0 l
  unfolding number told after
  idle-drops free h =
      let i = idle-at size l engine free h in
      let o : Opened size l i.shared = opened-closed size l i.shared i.opens in (
        sym (ap number (ap (λ (n : ℕ). answered size n drops l) i.number_is ∙ answered-is size i.who drops l i.shared i.opens)),
        sym (ap (λ (n : ℕ). leaves size n drops l) i.number_is ∙ leaves-is size i.who drops l i.shared i.opens
            ∙ ap closed (given-idle size i.who i.shared o.ok i.idle) ∙ sym o.is),
      )

  module _ (p q o c : ℕ) (h : standing size engine l ≡ Loaded p q o c) where
    abbrev at : LoadedAt size engine l p q o c
    at = loaded_at size l engine p q o c h

    pub loaded-small : engine ≤ 1
    loaded-small = small at.who at.number_is

    pub rows-low : p + q ≤ size
    rows-low = inside size engine l p q o c at

    -- both parts lie in the list
    pub rows_inside : p + q ≤ length l
    rows_inside = let z = rows-low in let y = whole size l engine p q o c h in omega (arith, z, y)

    pub state-fits : (r : ℕ) → r ≡ size + 8 * engine → r + 8 ≤ length l
    state-fits r e = let y = whole size l engine p q o c h in let w = loaded-small in omega (arith, y, w, e)

    pub state-inside : (x : List ℕ) → x ≡ sets l p (replicate q 0) → (r : ℕ) → r ≡ size + 8 * engine → r + 8 ≤ length x
    state-inside x f r e = let n : length x ≡ length l = ap length f ∙ length-sets l p (replicate q 0) in let y = state-fits r e in omega (arith, n, y)

    drop-writes : (w : Who) (s : Shared) → Opened size l s → engine ≡ number_of w → p ≡ place_of size w (own w s) → q ≡ held_of (own w s).state
        → closed (given w s) ≡ sets (sets l p (replicate q 0)) (size + 8 * engine) (replicate 8 0)
    unfolding place_of
    drop-writes first s k n e f =
        let z : size ≡ size + 8 * engine = omega (arith, n) in
        first-drop-writes size s k.ok ∙ ap₂ {A = List ℕ} {B = ℕ} (λ x j. sets (sets x 0 (replicate {A = ℕ} j 0)) size (replicate {A = ℕ} 8 0)) (sym k.is) (sym f)
        ∙ ap₂ {A = ℕ} {B = ℕ} (λ i j. sets (sets l i (replicate {A = ℕ} q 0)) j (replicate {A = ℕ} 8 0)) (sym e) z
    drop-writes second s k n e f =
        let z : size + 8 ≡ size + 8 * engine = omega (arith, n) in
        second-drop-writes size s k.ok
        ∙ ap₂ {A = List ℕ} {B = ℕ} (λ x j. sets (sets x (size - held_of s.back.state) (replicate {A = ℕ} j 0)) (size + 8) (replicate {A = ℕ} 8 0)) (sym k.is) (sym f)
        ∙ ap₂ {A = ℕ} {B = ℕ} (λ i j. sets (sets l i (replicate {A = ℕ} q 0)) j (replicate {A = ℕ} 8 0)) (sym e) z

    pub loaded-drops : (x : List ℕ) → x ≡ sets l p (replicate q 0) → (r : ℕ) → r ≡ size + 8 * engine → (y : List ℕ) → y ≡ sets x r (replicate 8 0) → Dropped 0 y
    unfolding number told after
    loaded-drops x f r e y g = (
      sym (ap number (told-there size engine l p q o c at drops)),
      g ∙ ap₂ {A = List ℕ} {B = ℕ} (λ a i. sets a i (replicate {A = ℕ} 8 0)) f e ∙ sym (ap (λ (n : ℕ). leaves size n drops l) at.number_is ∙ leaves-is size at.who drops l at.shared at.opens
          ∙ drop-writes at.who at.shared (opened-closed size l at.shared at.opens) at.number_is at.place_is at.held-is),
    )
