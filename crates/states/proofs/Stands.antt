-- From where an engine's rows stand, as the code finds it, to what a call is answered and leaves.
use Prim.Native.Nat.{ℕ, zero, suc, ◌+◌, ◌-◌, ◌≤◌}
use native.Mathlib.Omega.{arith}
use mathlib.Core.List.{List, [], ◌∷◌, ◌++◌, append_assoc}
use mathlib.Core.Bool.{Bool, true, false, cond}
use mathlib.Core.Path.{◌≡◌, refl, sym, ap, ap₂, ◌∙◌}
use lib.Dec.{eqb}
use lib.ListN.{length, take, drop, get_or, length-append}
use lib.Seq.{take_at, drop_at}
use Rattle.meaning.specs.Check.{Check, pass, refuse, ◌>>◌, ◌unless◌}
use Rattle.meaning.specs.Refusal.{INDEX}
use Rattle.engines.specs.Shared.{Who, first, second, flag_of, held_of, objects_of, components_of, Shared, own, closed, part_of, usable, apart, opened}
use Rattle.engines.specs.Calls.{Call, place_of, told, answered, leaves}
use Rattle.engines.specs.Runs.{number_of}
use Rattle.states.specs.Places.{stands_by, stands, standing}
use Rattle.states.specs.declared.Place.{Place}
use Rattle.states.specs.declared.Place.TheVariants.{Nowhere, Idle, Loaded}
use Rattle.engines.proofs.Kept.{Ok}
use Rattle.engines.proofs.Opens.{Opened, opened-closed}
use Rattle.engines.proofs.EachCall.{leaves-refused, answered-is, stranger-changes-nothing, stranger-is-refused}

pub record IdleAt (size engine : ℕ) (l : List ℕ) (free : ℕ) : Type 0 where
  pub who : Who
  pub number_is : engine ≡ number_of who
  pub shared : Shared
  pub opens : opened size l ≡ pass shared
  pub idle : eqb (flag_of (own who shared).state) 0 ≡ true
  pub free-is : free ≡ length shared.free

pub record LoadedAt (size engine : ℕ) (l : List ℕ) (place held objects components : ℕ) : Type 0 where
  pub who : Who
  pub number_is : engine ≡ number_of who
  pub shared : Shared
  pub opens : opened size l ≡ pass shared
  pub loaded : eqb (flag_of (own who shared).state) 0 ≡ false
  pub place_is : place ≡ place_of size who (own who shared)
  pub held-is : held ≡ held_of (own who shared).state
  pub objects-is : objects ≡ objects_of (own who shared).state
  pub components-is : components ≡ components_of (own who shared).state

-- what a place says, by kind: the kinds differ, and each says its numbers
abbrev kind_of : Place → ℕ
kind_of Nowhere = 0
kind_of (Idle f) = 1
kind_of (Loaded p h o c) = 2

abbrev free_of : Place → ℕ
free_of Nowhere = 0
free_of (Idle f) = f
free_of (Loaded p h o c) = 0

abbrev numbers_of : Place → List ℕ
numbers_of Nowhere = []
numbers_of (Idle f) = []
numbers_of (Loaded p h o c) = p ∷ h ∷ o ∷ c ∷ []

abbrev nth : ℕ → List ℕ → ℕ
nth i l = get_or l i 0

module _ (size : ℕ) (l : List ℕ) where
  idle-by : (free : ℕ) (w : Who) (s : Shared) (b : Bool) → eqb (flag_of (own w s).state) 0 ≡ b → opened size l ≡ pass s
      → cond b (Idle (length s.free)) (Loaded (place_of size w (own w s)) (held_of (own w s).state) (objects_of (own w s).state) (components_of (own w s).state)) ≡ Idle free → IdleAt size (number_of w) l free
  idle-by free w s true b e h = record { who = w; number_is = refl; shared = s; opens = e; idle = b; free-is = sym (ap free_of h) }
  idle-by free w s false b e h = absurd (let z : ◌≡◌ {A = ℕ} 2 1 = ap kind_of h in omega (arith, z))

  idle-of : (free : ℕ) (w : Who) (m : Check Shared) → opened size l ≡ m → stands size w m ≡ Idle free → IdleAt size (number_of w) l free
  unfolding stands stands_by
  idle-of free w (pass s) e h = idle-by free w s (eqb (flag_of (own w s).state) 0) refl e h
  idle-of free w (refuse n o c) e h = absurd (let z : ◌≡◌ {A = ℕ} 0 1 = ap kind_of h in omega (arith, z))

  pub idle-at : (engine free : ℕ) → standing size engine l ≡ Idle free → IdleAt size engine l free
  unfolding standing
  idle-at zero free h = idle-of free first (opened size l) refl h
  idle-at (suc zero) free h = idle-of free second (opened size l) refl h
  idle-at (suc (suc n)) free h = absurd (let z : ◌≡◌ {A = ℕ} 0 1 = ap kind_of h in omega (arith, z))

  loaded-by : (p q o c : ℕ) (w : Who) (s : Shared) (b : Bool) → eqb (flag_of (own w s).state) 0 ≡ b → opened size l ≡ pass s
      → cond b (Idle (length s.free)) (Loaded (place_of size w (own w s)) (held_of (own w s).state) (objects_of (own w s).state) (components_of (own w s).state)) ≡ Loaded p q o c
      → LoadedAt size (number_of w) l p q o c
  loaded-by p q o c w s true b e h = absurd (let z : ◌≡◌ {A = ℕ} 1 2 = ap kind_of h in omega (arith, z))
  loaded-by p q o c w s false b e h =
      let z = ap numbers_of h in
      record {
        who = w;
        number_is = refl;
        shared = s;
        opens = e;
        loaded = b;
        place_is = sym (ap (nth 0) z);
        held-is = sym (ap (nth 1) z);
        objects-is = sym (ap (nth 2) z);
        components-is = sym (ap (nth 3) z);
      }

  loaded-of : (p q o c : ℕ) (w : Who) (m : Check Shared) → opened size l ≡ m → stands size w m ≡ Loaded p q o c → LoadedAt size (number_of w) l p q o c
  unfolding stands stands_by
  loaded-of p q o c w (pass s) e h = loaded-by p q o c w s (eqb (flag_of (own w s).state) 0) refl e h
  loaded-of p q o c w (refuse n i k) e h = absurd (let z : ◌≡◌ {A = ℕ} 0 2 = ap kind_of h in omega (arith, z))

  pub loaded_at : (engine p q o c : ℕ) → standing size engine l ≡ Loaded p q o c → LoadedAt size engine l p q o c
  unfolding standing
  loaded_at zero p q o c h = loaded-of p q o c first (opened size l) refl h
  loaded_at (suc zero) p q o c h = loaded-of p q o c second (opened size l) refl h
  loaded_at (suc (suc n)) p q o c h = absurd (let z : ◌≡◌ {A = ℕ} 0 2 = ap kind_of h in omega (arith, z))

  -- ---- nothing sound: INDEX, and nothing changed

  refused-index : (n o k : ℕ) → opened size l ≡ refuse n o k → opened size l ≡ refuse INDEX 0 0
  unfolding opened apart
  refused-index n o k = by (usable size l (part_of size first l) (part_of size second l)) _
    where
      by : (b : Bool) (s : Shared) → ((INDEX unless b) >> pass s) ≡ refuse n o k → ((INDEX unless b) >> pass s) ≡ refuse INDEX 0 0
      by true s h = absurd (let z : ◌≡◌ {A = ℕ} 0 1 = cc in omega arith)
      by false s h = refl

  pub record Refused (engine : ℕ) (c : Call) : Type 0 where
    pub answers : answered size engine c l ≡ refuse INDEX 0 0
    pub keeps : leaves size engine c l ≡ l

  refused-by : (w : Who) (c : Call) → opened size l ≡ refuse INDEX 0 0 → answered size (number_of w) c l ≡ refuse INDEX 0 0
  unfolding answered
  refused-by first c e = rw e refl
  refused-by second c e = rw e refl

  nowhere-by : (c : Call) (w : Who) (b : Bool) (s : Shared) → cond b (Idle (length s.free)) (Loaded (place_of size w (own w s)) (held_of (own w s).state) (objects_of (own w s).state) (components_of (own w s).state)) ≡ Nowhere → Refused (number_of w) c
  nowhere-by c w true s h = absurd (let z : ◌≡◌ {A = ℕ} 1 0 = ap kind_of h in omega (arith, z))
  nowhere-by c w false s h = absurd (let z : ◌≡◌ {A = ℕ} 2 0 = ap kind_of h in omega (arith, z))

  nowhere-of : (c : Call) (w : Who) (m : Check Shared) → opened size l ≡ m → stands size w m ≡ Nowhere → Refused (number_of w) c
  unfolding stands stands_by
  nowhere-of c w (pass s) e h = nowhere-by c w (eqb (flag_of (own w s).state) 0) s h
  nowhere-of c w (refuse n o k) e h = let z = refused-index n o k e in record { answers = refused-by w c z; keeps = leaves-refused size w c l z }

  pub nowhere-at : (engine : ℕ) (c : Call) → standing size engine l ≡ Nowhere → Refused engine c
  unfolding standing
  nowhere-at zero c h = nowhere-of c first (opened size l) refl h
  nowhere-at (suc zero) c h = nowhere-of c second (opened size l) refl h
  nowhere-at (suc (suc n)) c h = record { answers = stranger-is-refused size n c l; keeps = stranger-changes-nothing size n c l }

-- ---- a loaded engine's rows are a part of the list

module _ (size : ℕ) (s : Shared) (k : Ok size s) where
  pub rows-first : take (held_of s.front.state) (closed s) ≡ s.front.rows
  unfolding closed
  rows-first =
      ap (take (held_of s.front.state)) (append_assoc s.front.rows (s.free ++ s.back.rows) (s.front.state ++ s.back.state))
      ∙ take_at s.front.rows ((s.free ++ s.back.rows) ++ (s.front.state ++ s.back.state)) (held_of s.front.state) (sym k.front.held)

  pub rows-second : take (held_of s.back.state) (drop (size - held_of s.back.state) (closed s)) ≡ s.back.rows
  unfolding closed
  rows-second =
      let a : length (s.front.rows ++ s.free) ≡ length s.front.rows + length s.free = length-append s.front.rows s.free in
      let e : (s.front.rows ++ (s.free ++ s.back.rows)) ++ (s.front.state ++ s.back.state) ≡ (s.front.rows ++ s.free) ++ (s.back.rows ++ (s.front.state ++ s.back.state)) =
      ap (λ (x : List ℕ). x ++ (s.front.state ++ s.back.state)) (sym (append_assoc s.front.rows s.free s.back.rows))
      ∙ append_assoc (s.front.rows ++ s.free) s.back.rows (s.front.state ++ s.back.state) in
      ap (λ (x : List ℕ). take (held_of s.back.state) (drop (size - held_of s.back.state) x)) e
      ∙ ap (take (held_of s.back.state))
      (drop_at (s.front.rows ++ s.free) (s.back.rows ++ (s.front.state ++ s.back.state)) (size - held_of s.back.state) (omega (arith, a, k.fills, k.back.held)))
      ∙ take_at s.back.rows (s.front.state ++ s.back.state) (held_of s.back.state) (sym k.back.held)

module _ (size engine : ℕ) (l : List ℕ) (p q o c : ℕ) (h : LoadedAt size engine l p q o c) where
  abbrev s : Shared
  s = h.shared

  okay : Opened size l s
  okay = opened-closed size l s h.opens

  rows-by : (w : Who) → p ≡ place_of size w (own w s) → q ≡ held_of (own w s).state → take q (drop p l) ≡ (own w s).rows
  unfolding place_of
  rows-by first e f = ap₂ {A = ℕ} {B = ℕ} (λ i j. take j (drop i l)) e f ∙ ap (take (held_of s.front.state)) okay.is ∙ rows-first size s okay.ok
  rows-by second e f =
      ap₂ {A = ℕ} {B = ℕ} (λ i j. take j (drop i l)) e f ∙ ap (λ (x : List ℕ). take (held_of s.back.state) (drop (size - held_of s.back.state) x)) okay.is ∙ rows-second size s okay.ok

  pub rows-there : take (p + q - p) (drop p l) ≡ (own h.who s).rows
  rows-there = let e : p + q - p ≡ q = omega arith in ap (λ (i : ℕ). take i (drop p l)) e ∙ rows-by h.who h.place_is h.held-is

  inside-by : (w : Who) → p ≡ place_of size w (own w s) → q ≡ held_of (own w s).state → p + q ≤ size
  unfolding place_of
  inside-by first e f = let k = okay.ok in omega (arith, e, f, k.fills, k.front.held)
  inside-by second e f = let k = okay.ok in omega (arith, e, f, k.fills, k.back.held)

  pub inside : p + q ≤ size
  inside = inside-by h.who h.place_is h.held-is

  -- what the engine is told
  pub told-there : (call : Call) → answered size engine call l ≡ told size h.who (own h.who s) (length s.free) call
  told-there call = ap (λ (n : ℕ). answered size n call l) h.number_is ∙ answered-is size h.who call l s h.opens

-- a list that opens has all its numbers
pub opened-whole : (size : ℕ) (l : List ℕ) (s : Shared) → opened size l ≡ pass s → length l ≡ size + 16
unfolding closed
opened-whole size l s h =
    let k : Opened size l s = opened-closed size l s h in
    let t : List ℕ = s.front.rows ++ (s.free ++ s.back.rows) in
    let u : List ℕ = s.front.state ++ s.back.state in
    let a : length (t ++ u) ≡ length t + length u = length-append t u in
    let b : length t ≡ length s.front.rows + length (s.free ++ s.back.rows) = length-append s.front.rows (s.free ++ s.back.rows) in
    let d : length (s.free ++ s.back.rows) ≡ length s.free + length s.back.rows = length-append s.free s.back.rows in
    let e : length u ≡ length s.front.state + length s.back.state = length-append s.front.state s.back.state in
    let m = k.ok in
    ap length k.is ∙ (omega (arith, a, b, d, e, m.fills, m.front.eight, m.back.eight))

pub whole : (size : ℕ) (l : List ℕ) (engine p q o c : ℕ) → standing size engine l ≡ Loaded p q o c → length l ≡ size + 16
whole size l engine p q o c h = let i = loaded_at size l engine p q o c h in opened-whole size l i.shared i.opens
