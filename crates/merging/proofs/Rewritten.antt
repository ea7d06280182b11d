-- Document 02, Request 13: reading and writing a file twice gives the bytes that once gave.
use Prim.Native.Nat.{ℕ}
use mathlib.Core.List.{List}
use mathlib.Core.Path.{◌≡◌, refl, sym, ap, ◌∙◌}
use Rattle.meaning.specs.Check.{Check, pass, refuse, ◌>>=◌}
use Rattle.meaning.specs.Layouts.{Layout, current}
use Rattle.meaning.specs.Frame.{Reading, reading}
use Rattle.meaning.specs.Described.{Described, described_by}
use Rattle.meaning.specs.Write.{written_plain}
use Rattle.meaning.proofs.Checks.{refused-is-not}
use Rattle.readback.specs.Lent.{Held}
use Rattle.readback.specs.Back.{ReadsBack}
use Rattle.readback.proofs.ReadBack.{written-plain-reads-back}
use Rattle.readback.proofs.RowsOfReading.{written-again}
use Rattle.shown.specs.Accepted.{Framing}
use Rattle.shown.proofs.ReadingJudged.{current-framing}
use Rattle.roundtrip.specs.Again.{rewritten}
use Rattle.roundtrip.proofs.AcceptedSpelled.{accepted-spelled}
use Rattle.roundtrip.proofs.HeldFine.{accepted-fine}
use Rattle.merging.specs.Anew.{anew}

-- the file's own description is written
pub anew_is : (L : Layout) → Framing L → (file : List ℕ) (r : Reading) (R : List ℕ) (room : ℕ) → reading L file ≡ pass r → anew L file R room ≡ written_plain (described_by file r.model) room
unfolding anew
anew_is L framing file r R room e = rw e (written-again file r.model R room (accepted-spelled L framing file r e))

anew-accepts : (L : Layout) (file R : List ℕ) (room : ℕ) (once : List ℕ) → anew L file R room ≡ pass once → (r : Reading) × (reading L file ≡ pass r)
unfolding anew
anew-accepts L file R room once = go (reading L file) refl
  where
    go : (k : Check Reading) → reading L file ≡ k → (k >>= λ r. rewritten file r.model R room) ≡ pass once → (r : Reading) × (reading L file ≡ pass r)
    go (pass r) e h = (r, e)
    go (refuse n o c) e h = absurd (refused-is-not h)

-- whatever stands behind the rows in either table: the second writing is accepted too, in the same room
pub twice-is-once : (L : Layout) → Framing L → (file : List ℕ) → Held file → (R S : List ℕ) (room : ℕ) (once : List ℕ) → anew L file R room ≡ pass once → anew current once S room ≡ pass once
twice-is-once L framing file held R S room once e =
    let q = anew-accepts L file R room once e in
    let r : Reading = q.0 in
    let d : Described = described_by file r.model in
    let wrote : written_plain d room ≡ pass once = sym (anew_is L framing file r R room q.1) ∙ e in
    let back : ReadsBack once d = written-plain-reads-back d room (accepted-fine L framing held r q.1) once wrote in
    anew_is current current-framing once back.read S room back.is ∙ ap (λ (d : Described). written_plain d room) back.back ∙ wrote
