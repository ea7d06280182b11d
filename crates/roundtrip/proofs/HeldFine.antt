-- What a file in memory says, if it is accepted, is fine.
use Prim.Native.Nat.{ℕ, ◌≤◌}
use mathlib.Core.List.{List}
use mathlib.Core.Path.{◌≡◌, subst}
use lib.ListN.{length}
use Rattle.meaning.specs.Layouts.{Layout, current}
use Rattle.meaning.specs.Limit.{object_limit}
use Rattle.meaning.specs.Check.{pass}
use Rattle.meaning.specs.Frame.{Reading, reading}
use Rattle.meaning.specs.Described.{Described, described_by}
use Rattle.readback.specs.Fine.{Fine}
use Rattle.readback.specs.Back.{ReadsBack}
use Rattle.roundtrip.specs.Sized.{Sized}
use Rattle.readback.specs.Lent.{Held}
use Rattle.shown.specs.Accepted.{Framing}
use Rattle.shown.proofs.ReadingJudged.{current-framing}
use Rattle.roundtrip.proofs.If.{passed-so}
use Rattle.roundtrip.proofs.JudgedSized.{reading-sized}
use Rattle.roundtrip.proofs.AcceptedSpelled.{accepted-spelled}
use Rattle.roundtrip.proofs.SpelledFine.{spelled-fine, count-within}

module _ (L : Layout) (framing : Framing L) {file : List ℕ} (h : Held file) (r : Reading) (accepts : reading L file ≡ pass r) where
  sized : Sized r.model
  sized = passed-so (reading-sized L file h.bytes) accepts

  pub accepted-fine : Fine (described_by file r.model)
  accepted-fine = spelled-fine file h.brief r.model (accepted-spelled L framing file r accepts) sized

module _ {file : List ℕ} {d : Described} (h : Held file) (b : ReadsBack file d) where
  pub held-fine : Fine d
  held-fine = subst Fine b.back (accepted-fine current current-framing h b.read b.is)

  pub held-count : length d.objects ≤ object_limit
  held-count = subst (λ (d : Described). length d.objects ≤ object_limit) b.back (count-within file h.brief b.read.model (sized current current-framing h b.read b.is))
