-- An accepted file of either layout and its import show no difference: what the file's reading left, written as 1.2.0 and read again, has no changes against the file, either way round.
-- Their places, offsets and maps may differ, and the bytes of both files do.
use Prim.Native.Nat.{ℕ, ◌+◌, ◌≤◌}
use native.Mathlib.Omega.{arith}
use mathlib.Core.List.{List, []}
use mathlib.Core.Bool.{cond}
use mathlib.Core.Path.{◌≡◌, refl, sym, ap, ◌∙◌, subst}
use lib.ListN.{length}
use lib.Dec.{leb}
use borrow.Author.Tests.{le-leb}
use Rattle.meaning.specs.Check.{Check, pass}
use Rattle.meaning.specs.Refusal.{ROOM}
use Rattle.meaning.specs.Layouts.{Layout, current}
use Rattle.meaning.specs.Frame.{Reading, reading}
use Rattle.meaning.specs.Rows.{room_for, read_into}
use Rattle.meaning.specs.Described.{Described, described_by}
use Rattle.meaning.proofs.Checks.{pass_same}
use Rattle.readback.specs.Lent.{Held}
use Rattle.readback.specs.Back.{ReadsBack}
use Rattle.shown.specs.Accepted.{Framing}
use Rattle.shown.proofs.AfterReading.{read-accepts}
use Rattle.roundtrip.specs.Again.{WrittenOrSize, too_far, too-big, no_room, reads-back, written_then}
use Rattle.roundtrip.proofs.WrittenAgain.{imported-table}
use Rattle.changes.specs.Changes.{changes, change_numbers}
use Rattle.changes.proofs.AcceptedNamed.{accepted-named}
use Rattle.changes.proofs.Itself as itself
use Rattle.comparing.specs.Comparison.{refused, listed, compared_by, compared, fitting, told}

-- what was written reads back
written_back : {d : Described} {c : Check (List ℕ)} {once : List ℕ} → WrittenOrSize d c → c ≡ pass once → ReadsBack once d
written_back too_far e = absurd (let z : ◌≡◌ {A = ℕ} 0 1 = cc in omega arith)
written_back too-big e = absurd (let z : ◌≡◌ {A = ℕ} 0 1 = cc in omega arith)
written_back no_room e = absurd (let z : ◌≡◌ {A = ℕ} 0 1 = cc in omega arith)
written_back {d} (reads-back b) e = subst (λ (f : List ℕ). ReadsBack f d) (pass_same e) b

-- any list has room for no entries
nothing-told : (list : ℕ) → told (listed []) list ≡ record { number = 0; file = 0; object = 0; component = 0; entries = 0 }
unfolding told fitting
nothing-told list = rw (le-leb 0 list (omega arith)) refl

-- a file, its reading into a table, and the import that was written of it
module _ (L : Layout) (framing : Framing L) (file table : List ℕ) (held : Held file) (r : Reading) (reads : read_into L file (length table) ≡ pass r)
    (room : ℕ) (once : List ℕ) (wrote : written_then L file table room ≡ pass once) where
  abbrev says : Described
  says = described_by file r.model

  accepts : reading L file ≡ pass r
  accepts = read-accepts L file (length table) r reads

  -- it is accepted as 1.2.0, and describes what the file does
  pub import-reads-back : ReadsBack once says
  import-reads-back = written_back (imported-table L framing file table held r reads room) wrote

  module _ (s : Reading) (again : reading current once ≡ pass s) where
    same : described_by once s.model ≡ says
    same = ap (λ (r : Reading). described_by once r.model) (pass_same (sym again ∙ import-reads-back.is)) ∙ import-reads-back.back

    pub nothing-changed : changes says (described_by once s.model) ≡ []
    nothing-changed = ap (changes says) same ∙ itself.unchanged says (accepted-named file L r accepts)

    pub nothing-changed-back : changes (described_by once s.model) says ≡ []
    nothing-changed-back = ap (λ (d : Described). changes d says) same ∙ itself.unchanged says (accepted-named file L r accepts)

    no-numbers : change_numbers says (described_by once s.model) ≡ []
    no-numbers = ap (change_numbers says) same ∙ itself.no-numbers says (accepted-named file L r accepts)

    -- comparing both, with any room: an empty list, or ROOM for their rows
    pub import-compared : (work : ℕ) → compared L file current once work ≡ cond (leb (room_for r.model + room_for s.model) work) (listed []) (refused ROOM 0 0 0)
    unfolding compared compared_by
    import-compared work = rw (accepts, again, no-numbers) refl

    -- with room for the rows, and any list: accepted, no entries
    pub import-told : (work list : ℕ) → room_for r.model + room_for s.model ≤ work
        → told (compared L file current once work) list ≡ record { number = 0; file = 0; object = 0; component = 0; entries = 0 }
    import-told work list h = rw (import-compared work, le-leb (room_for r.model + room_for s.model) work h) (nothing-told list)
