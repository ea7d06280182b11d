-- ROOM is given exactly if the free numbers are fewer than needed: no refusal of the reader's is ROOM.
use Prim.Native.Nat.{ℕ, ◌<◌}
use native.Mathlib.Omega.{arith}
use mathlib.Core.List.{List}
use mathlib.Core.Bool.{Bool, true, false}
use mathlib.Core.Path.{◌≡◌, refl, sym, ap, ◌∙◌}
use lib.Dec.{eqb, leb}
use borrow.Author.Tests.{leb-true, leb-false}
use Rattle.meaning.specs.Check.{Check, pass, refuse}
use Rattle.meaning.specs.Refusal.{ROOM}
use Rattle.meaning.specs.Frame.{Reading}
use Rattle.meaning.specs.Layouts.{layout_of}
use Rattle.frame.proofs.Frames.{size_back_lem}
use Rattle.shown.proofs.AcceptedFile.{refusals-of-reading}
use Rattle.engines.specs.Shared.{Who, flag_of, Shared, part_of, opened}
use Rattle.engines.specs.Calls.{load, Said, reading_as, needed, answered}
use Rattle.engines.specs.Runs.{number_of}
use Rattle.engines.proofs.EachCall.{free_in, reader-refuses, room-suffices}

abbrev number_in : Check Said → ℕ
number_in (pass a) = 0
number_in (refuse n o c) = n

module _ (size : ℕ) (w : Who) (layout : ℕ) (file l : List ℕ) (s : Shared) (e : opened size l ≡ pass s) (idle : eqb (flag_of (part_of size w l).state) 0 ≡ true) where
  pub room-only-lacks : {o c : ℕ} → answered size (number_of w) (load layout file) l ≡ refuse ROOM o c → (r : Reading) × ((reading_as layout file ≡ pass r) × (free_in size l < needed r))
  unfolding reading_as
  room-only-lacks {o} {c} h = by (reading_as layout file) refl
    where
      fewer : (r : Reading) → reading_as layout file ≡ pass r → (b : Bool) → leb (needed r) (free_in size l) ≡ b → free_in size l < needed r
      fewer r k true q =
          absurd (let z : ◌≡◌ {A = ℕ} 0 24 = ap number_in (sym (room-suffices size w layout file l s e idle r k (leb-true (needed r) (free_in size l) q)) ∙ h) in omega (arith, z))
      fewer r k false q = leb-false (needed r) (free_in size l) q

      by : (m : Check Reading) → reading_as layout file ≡ m → (r : Reading) × ((reading_as layout file ≡ pass r) × (free_in size l < needed r))
      by (pass r) k = (r, (k, fewer r k (leb (needed r) (free_in size l)) refl))
      by (refuse n i j) k =
          let z : n ≡ 24 = ap number_in (sym (reader-refuses size w layout file l s e idle k) ∙ h) in
          let y = (refusals-of-reading (layout_of layout) (size_back_lem layout) file n i j k).1 in
          absurd (omega (arith, z, y))
