-- Laws of one call, on every list of numbers, whether calls left it or not.
use Prim.Native.Nat.{ℕ, suc, ◌+◌, ◌-◌, ◌≤◌, ◌<◌}
use native.Mathlib.Omega.{arith}
use mathlib.Core.List.{List, ◌++◌}
use mathlib.Core.Bool.{true, false}
use mathlib.Core.Path.{◌≡◌, refl, sym, ap, ap₂, ◌∙◌}
use lib.Dec.{eqb}
use lib.ListN.{length, replicate, length-append, length-replicate}
use borrow.Author.Tests.{le-leb, lt-leb}
use Rattle.meaning.specs.Check.{Check, pass, refuse, ◌>>=◌}
use Rattle.meaning.specs.Refusal.{INDEX, ROOM, BUSY}
use Rattle.meaning.specs.Frame.{Reading}
use Rattle.engines.specs.Shared.{Who, first, second, who_of, Engine, flag_of, held_of, nothing, Shared, own, other, closed, part_of, opened}
use Rattle.engines.specs.Calls.{Call, load, drops, holds, view, list, took, reading_as, needed, engine_of, loading, told, taken, given, after, answered, closed_after, leaves}
use Rattle.engines.specs.Runs.{number_of}
use Rattle.engines.proofs.Kept.{Ok, after-ok}
use Rattle.engines.proofs.Opens.{Opened, opened-closed, closed-opens, part-is}

module _ (size : ℕ) where
  -- ---- no third engine

  pub stranger-changes-nothing : (n : ℕ) (c : Call) (l : List ℕ) → leaves size (suc (suc n)) c l ≡ l
  unfolding leaves
  stranger-changes-nothing n c l = refl

  pub stranger-is-refused : (n : ℕ) (c : Call) (l : List ℕ) → answered size (suc (suc n)) c l ≡ refuse INDEX 0 0
  unfolding answered
  stranger-is-refused n c l = refl

  -- ---- a list that isn't usable: INDEX and nothing changed; or else the call is that of its parts

  pub leaves-refused : (w : Who) (c : Call) (l : List ℕ) {n o k : ℕ} → opened size l ≡ refuse n o k → leaves size (number_of w) c l ≡ l
  unfolding leaves
  leaves-refused first c l e = ap (closed_after size c l (pass first)) e
  leaves-refused second c l e = ap (closed_after size c l (pass second)) e

  module _ (w : Who) (c : Call) (l : List ℕ) (s : Shared) (e : opened size l ≡ pass s) where
    pub leaves-is : leaves size (number_of w) c l ≡ closed (after w c s)
    unfolding leaves
    leaves-is = go w
      where
        go : (w : Who) → closed_after size c l (who_of (number_of w)) (opened size l) ≡ closed (after w c s)
        go first = ap (closed_after size c l (pass first)) e
        go second = ap (closed_after size c l (pass second)) e

    pub leaves-opens : opened size (leaves size (number_of w) c l) ≡ pass (after w c s)
    leaves-opens = ap (opened size) leaves-is ∙ closed-opens size (after w c s) (after-ok size w c s (opened-closed size l s e).ok)

    pub answered-is : answered size (number_of w) c l ≡ told size w (own w s) (length s.free) c
    unfolding answered
    answered-is = go w
      where
        go : (w : Who) → (who_of (number_of w) >>= λ w. opened size l >>= λ s. told size w (own w s) (length s.free) c) ≡ told size w (own w s) (length s.free) c
        go first = ap (λ (m : Check Shared). m >>= λ s. told size first (own first s) (length s.free) c) e
        go second = ap (λ (m : Check Shared). m >>= λ s. told size second (own second s) (length s.free) c) e

  pub part-opened : (w : Who) (l : List ℕ) (s : Shared) → opened size l ≡ pass s → part_of size w l ≡ own w s
  part-opened w l s e = let o : Opened size l s = opened-closed size l s e in ap (part_of size w) o.is ∙ part-is size s o.ok w

  pub part-after : (v w : Who) (c : Call) (l : List ℕ) (s : Shared) → opened size l ≡ pass s → part_of size v (leaves size (number_of w) c l) ≡ own v (after w c s)
  part-after v w c l s e = part-opened v (leaves size (number_of w) c l) (after w c s) (leaves-opens w c l s e)

  -- ---- no call of one engine changes the other's numbers or state

  other-taken : (w : Who) (layout : ℕ) (m : Check Reading) (s : Shared) → own (other w) (taken w layout m s) ≡ own (other w) s
  unfolding taken
  other-taken first layout (pass r) s = refl
  other-taken first layout (refuse n o c) s = refl
  other-taken second layout (pass r) s = refl
  other-taken second layout (refuse n o c) s = refl

  pub other_after : (w : Who) (c : Call) (s : Shared) → own (other w) (after w c s) ≡ own (other w) s
  unfolding after given
  other_after w (load layout file) s = other-taken w layout (loading (own w s) (length s.free) layout file) s
  other_after first drops s = refl
  other_after second drops s = refl
  other_after w holds s = refl
  other_after w (view file index) s = refl
  other_after w (list file room) s = refl

  pub other-untouched : (w : Who) (c : Call) (l : List ℕ) → part_of size (other w) (leaves size (number_of w) c l) ≡ part_of size (other w) l
  other-untouched w c l = go (opened size l) refl
    where
      go : (m : Check Shared) → opened size l ≡ m → part_of size (other w) (leaves size (number_of w) c l) ≡ part_of size (other w) l
      go (pass s) e = part-after (other w) w c l s e ∙ other_after w c s ∙ sym (part-opened (other w) l s e)
      go (refuse n o k) e = ap (part_of size (other w)) (leaves-refused w c l e)

  -- ---- what is refused changes nothing

  refused-after : (w : Who) (c : Call) (s : Shared) (free : ℕ) {n o k : ℕ} → free ≡ length s.free → told size w (own w s) free c ≡ refuse n o k → after w c s ≡ s
  unfolding after told taken
  refused-after w (load layout file) s free f h = go (loading (own w s) (length s.free) layout file) (ap (λ (x : ℕ). loading (own w s) x layout file >>= λ r. pass (took r)) (sym f) ∙ h)
    where
      go : (m : Check Reading) {n o k : ℕ} → (m >>= λ r. pass (took r)) ≡ refuse n o k → taken w layout m s ≡ s
      go (pass r) e = absurd (let z : ◌≡◌ {A = ℕ} 0 1 = cc in omega arith)
      go (refuse n o c) e = refl
  refused-after w drops s free f h = absurd (let z : ◌≡◌ {A = ℕ} 0 1 = cc in omega arith)
  refused-after w holds s free f h = refl
  refused-after w (view file index) s free f h = refl
  refused-after w (list file room) s free f h = refl

  pub refused-changes-nothing : (w : Who) (c : Call) (l : List ℕ) {n o k : ℕ} → answered size (number_of w) c l ≡ refuse n o k → leaves size (number_of w) c l ≡ l
  refused-changes-nothing w c l h = go (opened size l) refl
    where
      go : (m : Check Shared) → opened size l ≡ m → leaves size (number_of w) c l ≡ l
      go (pass s) e = leaves-is w c l s e ∙ ap closed (refused-after w c s (length s.free) refl (sym (answered-is w c l s e) ∙ h)) ∙ sym (opened-closed size l s e).is
      go (refuse n o k) e = leaves-refused w c l e

  -- ---- loading

  -- free numbers
  abbrev pub free_in : List ℕ → ℕ
  free_in l = size - held_of (part_of size first l).state - held_of (part_of size second l).state

  free-ok : (s : Shared) → Ok size s → length s.free ≡ size - held_of s.front.state - held_of s.back.state
  free-ok s k = omega (arith, k.fills, k.front.held, k.back.held)

  free-is : (l : List ℕ) (s : Shared) → opened size l ≡ pass s → length s.free ≡ free_in l
  free-is l s e =
      free-ok s (opened-closed size l s e).ok
      ∙ ap₂ {A = Engine} {B = Engine} (λ a b. size - held_of a.state - held_of b.state) (sym (part-opened first l s e)) (sym (part-opened second l s e))

  module _ (w : Who) (layout : ℕ) (file l : List ℕ) (s : Shared) (e : opened size l ≡ pass s) where
    load_is : answered size (number_of w) (load layout file) l ≡ (loading (part_of size w l) (free_in l) layout file >>= λ r. pass (took r))
    unfolding told
    load_is =
        answered-is w (load layout file) l s e
        ∙ ap₂ {A = Engine} {B = ℕ} (λ a n. loading a n layout file >>= λ r. pass (took r)) (sym (part-opened w l s e)) (free-is l s e)

    -- BUSY whatever the file
    pub busy : eqb (flag_of (part_of size w l).state) 0 ≡ false → answered size (number_of w) (load layout file) l ≡ refuse BUSY 0 0
    unfolding loading
    busy b = load_is ∙ rw b

    pub busy-changes-nothing : eqb (flag_of (part_of size w l).state) 0 ≡ false → leaves size (number_of w) (load layout file) l ≡ l
    busy-changes-nothing b = refused-changes-nothing w (load layout file) l (busy b)

    module _ (idle : eqb (flag_of (part_of size w l).state) 0 ≡ true) where
      pub reader-refuses : {n o c : ℕ} → reading_as layout file ≡ refuse n o c → answered size (number_of w) (load layout file) l ≡ refuse n o c
      unfolding loading
      reader-refuses h = load_is ∙ rw (idle, h)

      pub room-lacks : (r : Reading) → reading_as layout file ≡ pass r → free_in l < needed r → answered size (number_of w) (load layout file) l ≡ refuse ROOM 0 0
      unfolding loading
      room-lacks r h k = load_is ∙ rw (idle, h, lt-leb (needed r) (free_in l) k)

      pub room-suffices : (r : Reading) → reading_as layout file ≡ pass r → needed r ≤ free_in l → answered size (number_of w) (load layout file) l ≡ pass (took r)
      unfolding loading
      room-suffices r h k = load_is ∙ rw (idle, h, le-leb (needed r) (free_in l) k)

    -- what is loaded: the file's own rows and state
    pub loaded-is : (r : Reading) → answered size (number_of w) (load layout file) l ≡ pass (took r) → part_of size w (leaves size (number_of w) (load layout file) l) ≡ engine_of layout r
    unfolding after told taken
    loaded-is r h = part-after w w (load layout file) l s e ∙ go w (loading (own w s) (length s.free) layout file) (sym (answered-is w (load layout file) l s e) ∙ h)
      where
        go : (w : Who) (m : Check Reading) → (m >>= λ r. pass (took r)) ≡ pass (took r) → own w (taken w layout m s) ≡ engine_of layout r
        go first (pass q) x = let z : q ≡ r = cc in ap (engine_of layout) z
        go second (pass q) x = let z : q ≡ r = cc in ap (engine_of layout) z
        go w (refuse n o c) x = absurd (let z : ◌≡◌ {A = ℕ} 0 1 = cc in omega arith)

  -- ---- dropping gives every number back

  pub drop-leaves-nothing : (w : Who) (l : List ℕ) (s : Shared) → opened size l ≡ pass s → part_of size w (leaves size (number_of w) drops l) ≡ nothing
  unfolding after given
  drop-leaves-nothing first l s e = part-after first first drops l s e
  drop-leaves-nothing second l s e = part-after second second drops l s e

  given-free : (w : Who) (s : Shared) → Ok size s → length (given w s).free ≡ length s.free + held_of (own w s).state
  unfolding given
  given-free first s k =
      let n : ℕ = length s.front.rows in
      let a : length (replicate {A = ℕ} n 0 ++ s.free) ≡ n + length s.free = length-append (replicate {A = ℕ} n 0) s.free ∙ ap (λ (x : ℕ). x + length s.free) (length-replicate n 0) in
      omega (arith, a, k.front.held)
  given-free second s k =
      let n : ℕ = length s.back.rows in
      let a : length (s.free ++ replicate {A = ℕ} n 0) ≡ length s.free + n = length-append s.free (replicate {A = ℕ} n 0) ∙ ap (λ (x : ℕ). length s.free + x) (length-replicate n 0) in
      omega (arith, a, k.back.held)

  pub drop-gives-back : (w : Who) (l : List ℕ) (s : Shared) → opened size l ≡ pass s → free_in (leaves size (number_of w) drops l) ≡ free_in l + held_of (part_of size w l).state
  unfolding after
  drop-gives-back w l s e =
      sym (free-is (leaves size (number_of w) drops l) (given w s) (leaves-opens w drops l s e)) ∙ given-free w s (opened-closed size l s e).ok
      ∙ ap₂ {A = ℕ} {B = Engine} (λ n a. n + held_of a.state) (free-is l s e) (sym (part-opened w l s e))
