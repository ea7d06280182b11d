-- A load: refused, nothing changes; accepted, the rows are stored next to the engine's end of the table, then its state.
use Prim.Native.Nat.{ℕ, ◌+◌, ◌-◌, ◌*◌, ◌≤◌, ◌<◌}
use native.Mathlib.Omega.{arith}
use mathlib.Core.List.{List}
use mathlib.Core.Bool.{Bool, true, false}
use mathlib.Core.Path.{◌≡◌, refl, sym, ap, ap₂, ◌∙◌, subst}
use lib.Dec.{eqb, leb}
use lib.ListN.{length}
use lib.Seq.{sets, length-sets}
use borrow.Author.Tests.{leb-true, eq-eqb, ne_eqb}
use Rattle.meaning.specs.Check.{Check, pass, refuse, ◌>>=◌, ◌>>◌, ◌unless◌}
use Rattle.meaning.specs.Refusal.{ROOM, BUSY}
use Rattle.meaning.specs.Columns.{object_width, component_width}
use Rattle.meaning.specs.Frame.{Reading, reading}
use Rattle.meaning.specs.Layouts.{Layout, layout_of}
use Rattle.meaning.specs.Rows.{rows, room_for, roomy, read_into, answer}
use Rattle.frame.proofs.Frames.{size_back_lem}
use Rattle.reader.specs.Answer as read
use Rattle.reader.specs.declared.into.Answer.{Answer}
use Rattle.shown.proofs.AfterReading.{read-zero}
use Rattle.engines.specs.Shared.{Who, first, second, Engine, flag_of, Shared, own, closed}
use Rattle.engines.specs.Calls.{Call, load, took, reading_as, needed, layout_number, engine_of, loading, told, taken, after, answered, leaves}
use Rattle.engines.specs.Runs.{number_of}
use Rattle.sharing.specs.EngineAnswers as is
use Rattle.sharing.specs.EngineAnswers.{rows_at, laid, state_with}
use Rattle.states.specs.Places.{standing}
use Rattle.states.specs.declared.Place.TheVariants.{Nowhere, Idle, Loaded}
use Rattle.engines.proofs.Kept.{Fits}
use Rattle.engines.proofs.Opens.{Opened, opened-closed}
use Rattle.engines.proofs.EachCall.{leaves-is, answered-is, refused-changes-nothing}
use Rattle.states.proofs.Stands.{IdleAt, idle-at, loaded_at, nowhere-at, told-there, opened-whole}
use Rattle.engines.proofs.Writes.{first-load-writes, second-load-writes}
use Rattle.sharing.proofs.Drops.{small}

-- what is read into a table fits it
pub read_fits : (L : Layout) (file : List ℕ) (room : ℕ) (r : Reading) → read_into L file room ≡ pass r → needed r ≤ room
unfolding read_into roomy
read_fits L file room r = by (reading L file)
  where
    fits : (q : Reading) (b : Bool) → leb (needed q) room ≡ b → ◌≡◌ {A = Check Reading} ((ROOM unless b) >> pass q) (pass r) → needed r ≤ room
    fits q true e h = let z : q ≡ r = cc in subst (λ (x : Reading). needed x ≤ room) z (leb-true (needed q) room e)
    fits q false e h = absurd (let z : ◌≡◌ {A = ℕ} 0 1 = cc in omega arith)

    by : (k : Check Reading) → ◌≡◌ {A = Check Reading} (k >>= λ q. (ROOM unless leb (room_for q.model) room) >> pass q) (pass r) → needed r ≤ room
    by (pass q) h = fits q (leb (needed q) room) refl h
    by (refuse n o c) h = absurd (let z : ◌≡◌ {A = ℕ} 0 1 = cc in omega arith)

-- the layout as it was given
pub layout-one : (layout : ℕ) → layout ≡ 1 → 1 ≡ layout_number layout
unfolding layout_number
layout-one layout e = rw (eq-eqb layout 1 e) refl

pub layout-other : (layout : ℕ) → (layout ≡ 1 → ⊥) → 0 ≡ layout_number layout
unfolding layout_number
layout-other layout e = rw (ne_eqb layout 1 e) refl

-- an idle engine's load is a reading into the free numbers
idle-loading : (a : Engine) (free layout : ℕ) (file : List ℕ) → eqb (flag_of a.state) 0 ≡ true → loading a free layout file ≡ read_into (layout_of layout) file free
unfolding loading reading_as read_into roomy
idle-loading a free layout file e = rw e refl

answer-took : (k : Check Reading) → is.answer (k >>= λ r. pass (took r)) ≡ read.answered k
unfolding is.answer answer
answer-took (pass r) = refl
answer-took (refuse n o c) = refl

module _ (size engine layout : ℕ) (file l : List ℕ) where
  abbrev asks : Call
  asks = load layout file

  abbrev Loads : Answer → List ℕ → Type 0
  Loads r after = (r ≡ is.answer (answered size engine asks l)) × (after ≡ leaves size engine asks l)

  pub nowhere-loads : standing size engine l ≡ Nowhere → (a : Answer) → a ≡ read.refused 26 0 0 → Loads a l
  unfolding is.answer
  nowhere-loads h a e = let z = nowhere-at size l engine asks h in (e ∙ sym (ap is.answer z.answers), sym z.keeps)

  pub busy-loads : (p q o c : ℕ) → standing size engine l ≡ Loaded p q o c → (a : Answer) → a ≡ read.refused 28 0 0 → Loads a l
  unfolding is.answer told loading
  busy-loads p q o c h a e =
      let i = loaded_at size l engine p q o c h in
      let z : answered size engine asks l ≡ refuse BUSY 0 0 = told-there size engine l p q o c i asks ∙ (let y = i.loaded in rw y refl) in (
        e ∙ sym (ap is.answer z),
        sym (ap (λ (n : ℕ). leaves size n asks l) i.number_is
            ∙ refused-changes-nothing size i.who asks l (ap (λ (n : ℕ). answered size n asks l) (sym i.number_is) ∙ z)),
      )

  module _ (free : ℕ) (h : standing size engine l ≡ Idle free) where
    abbrev at : IdleAt size engine l free
    at = idle-at size l engine free h

    abbrev found : Check Reading
    found = read_into (layout_of layout) file free

    pub idle-small : engine ≤ 1
    idle-small = small at.who at.number_is

    okay : Opened size l at.shared
    okay = opened-closed size l at.shared at.opens

    long : length l ≡ size + 16
    long = opened-whole size l at.shared at.opens

    free-fits : free ≤ size
    free-fits = let k = okay.ok in omega (arith, at.free-is, k.fills)

    -- what laying the rows asks
    pub lay-asks : (free ≤ size) × (length l ≡ size + 16)
    lay-asks = (free-fits, long)

    loading-is : loading (own at.who at.shared) (length at.shared.free) layout file ≡ found
    loading-is = idle-loading (own at.who at.shared) (length at.shared.free) layout file at.idle ∙ ap (read_into (layout_of layout) file) (sym at.free-is)

    answered-found : answered size engine asks l ≡ (found >>= λ r. pass (took r))
    unfolding told
    answered-found =
        ap (λ (n : ℕ). answered size n asks l) at.number_is ∙ answered-is size at.who asks l at.shared at.opens ∙ ap (λ (k : Check Reading). k >>= λ r. pass (took r)) loading-is

    leaves-found : leaves size engine asks l ≡ closed (taken at.who layout found at.shared)
    unfolding after
    leaves-found =
        ap (λ (n : ℕ). leaves size n asks l) at.number_is ∙ leaves-is size at.who asks l at.shared at.opens
        ∙ ap (λ (k : Check Reading). closed (taken at.who layout k at.shared)) loading-is

    pub answer-found : is.answer (answered size engine asks l) ≡ read.answered found
    answer-found = ap is.answer answered-found ∙ answer-took found

    -- the reader refuses: nothing was laid
    pub refused-loads : (a : Answer) (after : List ℕ) → (a ≡ read.answered found) × (after ≡ laid size engine l found) → 0 < a.number → Loads a after
    unfolding answer laid taken
    refused-loads a x e n = (e.0 ∙ sym answer-found, e.1 ∙ by found refl (subst (λ (y : Answer). 0 < y.number) e.0 n))
      where
        by : (k : Check Reading) → found ≡ k → 0 < (read.answered k).number → laid size engine l k ≡ leaves size engine asks l
        by (pass r) g z = absurd (omega (arith, z))
        by (refuse i o c) g z = okay.is ∙ sym (leaves-found ∙ ap (λ (k : Check Reading). closed (taken at.who layout k at.shared)) g)

    -- it accepts: what it answered are the state's numbers
    pub record Laid (a : Answer) : Type 0 where
      pub reading-is : Reading
      pub reads : found ≡ pass reading-is
      pub says : a ≡ read.answered (pass reading-is)
      pub few : object_width * a.objects + component_width * a.components ≤ free

    pub accepted : (a : Answer) → a ≡ read.answered found → a.number ≤ 0 → Laid a
    unfolding answer room_for
    accepted a e n =
        let y = read-zero (layout_of layout) file free (size_back_lem layout) (let z = ap (λ (x : Answer). x.number) e in omega (arith, z, n)) in
        let s : a ≡ read.answered (pass y.0) = e ∙ ap read.answered y.1 in
        let f = read_fits (layout_of layout) file free y.0 y.1 in
        record {
          reading-is = y.0;
          reads = y.1;
          says = s;
          few = subst (λ (x : Answer). object_width * x.objects + component_width * x.components ≤ free) (sym s) f;
        }

    laid-long : (k : Check Reading) → length (laid size engine l k) ≡ length l
    unfolding laid
    laid-long (refuse n o c) = refl
    laid-long (pass r) = length-sets l (rows_at size engine (needed r)) (rows r.model)

    -- what storing the state asks
    pub settle-asks : (a : Answer) (x : List ℕ) → (a ≡ read.answered found) × (x ≡ laid size engine l found) → a.number ≤ 0
        → (engine ≤ 1) × ((object_width * a.objects + component_width * a.components ≤ size) × (length x ≡ size + 16))
    settle-asks a x e n = (idle-small, (let f = (accepted a e.0 n).few in let g = free-fits in omega (arith, f, g), ap length e.1 ∙ laid-long found ∙ long))

    abbrev state_of : Answer → List ℕ
    state_of a = state_with layout a.objects a.components a.start a.place a.size

    state-is : (a : Answer) (k : Laid a) → state_of a ≡ (engine_of layout k.reading-is).state
    unfolding answer engine_of room_for state_with
    state-is a k = ap state_of k.says

    load-writes : (w : Who) (s : Shared) (r : Reading) → Opened size l s → engine ≡ number_of w → Fits (own w s) (length s.free) r
        → closed (taken w layout (pass r) s) ≡ sets (laid size engine l (pass r)) (size + 8 * engine) (engine_of layout r).state
    unfolding laid rows_at engine_of
    load-writes first s r k n f =
        let z : size ≡ size + 8 * engine = omega (arith, n) in
        first-load-writes size s k.ok layout r f ∙ ap (λ (x : List ℕ). sets (sets x 0 (rows r.model)) size (engine_of layout r).state) (sym k.is)
        ∙ ap₂ {A = ℕ} {B = ℕ} (λ e j. sets (sets l (rows_at size e (needed r)) (rows r.model)) j (engine_of layout r).state) (sym n) z
    load-writes second s r k n f =
        let z : size + 8 ≡ size + 8 * engine = omega (arith, n) in
        second-load-writes size s k.ok layout r f ∙ ap (λ (x : List ℕ). sets (sets x (size - needed r) (rows r.model)) (size + 8) (engine_of layout r).state) (sym k.is)
        ∙ ap₂ {A = ℕ} {B = ℕ} (λ e j. sets (sets l (rows_at size e (needed r)) (rows r.model)) j (engine_of layout r).state) (sym n) z

    pub accepted-loads : (a : Answer) (x : List ℕ) → (a ≡ read.answered found) × (x ≡ laid size engine l found) → a.number ≤ 0 → (after : List ℕ) → after ≡ sets x (size + 8 * engine) (state_of a) → Loads a after
    accepted-loads a x h n y g =
        let k : Laid a = accepted a h.0 n in
        let e : y ≡ sets (laid size engine l found) (size + 8 * engine) (state_of a) = g ∙ ap (λ (z : List ℕ). sets z (size + 8 * engine) (state_of a)) h.1 in
        let r : Reading = k.reading-is in
        let f = read_fits (layout_of layout) file free r k.reads in (
          k.says ∙ sym (answer-found ∙ ap read.answered k.reads),
          e ∙ ap₂ {A = Check Reading} {B = List ℕ} (λ m y. sets (laid size engine l m) (size + 8 * engine) y) k.reads (state-is a k)
              ∙ sym (leaves-found ∙ ap (λ (m : Check Reading). closed (taken at.who layout m at.shared)) k.reads
              ∙ load-writes at.who at.shared r okay at.number_is (record { idle = at.idle; room = omega (arith, f, at.free-is) })),
        )
