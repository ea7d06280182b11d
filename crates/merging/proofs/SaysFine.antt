-- What a file in memory says, in any layout, is fine; so is what two of them say together.
use Prim.Native.Nat.{ℕ, ◌≤◌}
use native.Mathlib.Omega.{arith}
use mathlib.Core.List.{List, [], ◌∷◌, ◌++◌}
use mathlib.Core.Option.{Option, none, some}
use mathlib.Core.Bool.{true}
use mathlib.Core.Path.{◌≡◌, sym, ap, ◌∙◌, subst}
use lib.ListN.{length, length-append}
use Rattle.meaning.specs.Limit.{object_limit}
use Rattle.meaning.specs.Layouts.{Layout, current}
use Rattle.meaning.specs.Frame.{Reading}
use Rattle.meaning.specs.Sound.{a_map, absent_or, root_levels}
use Rattle.meaning.specs.Described.{Described, described_by}
use Rattle.meaning.proofs.Checks.{pass_same}
use Rattle.meaning.specs.Every.{Every}
use Rattle.readback.specs.Fine.{FineObject, Fine}
use Rattle.readback.specs.Lent.{Held}
use Rattle.readback.specs.Back.{ReadsBack}
use Rattle.shown.proofs.ReadingJudged.{current-framing}
use Rattle.roundtrip.proofs.If.{passed-so}
use Rattle.roundtrip.proofs.JudgedSized.{reading-sized}
use Rattle.roundtrip.proofs.SpelledFine.{count-within}
use Rattle.roundtrip.proofs.HeldFine.{accepted-fine}
use Rattle.merging.specs.Merge.{or_else, merged}
use Rattle.merging.specs.AcceptedMerge.{Says}

-- a file says one thing
pub one-meaning : {L : Layout} {file : List ℕ} {d e : Described} → Says L file d → Says L file e → d ≡ e
one-meaning {L} {file} h k =
    let r : h.read ≡ k.read = pass_same (sym h.is ∙ k.is) in
    sym h.back ∙ ap (λ (r : Reading). described_by file r.model) r ∙ k.back

pub back-says : {file : List ℕ} {d : Described} → ReadsBack file d → Says current file d
back-says b = record { framing = current-framing; read = b.read; is = b.is; back = b.back }

module _ {L : Layout} {file : List ℕ} {d : Described} (h : Held file) (s : Says L file d) where
  pub says-fine : Fine d
  says-fine = subst Fine s.back (accepted-fine L s.framing h s.read s.is)

  pub says-few : length d.objects ≤ object_limit
  says-few = subst (λ (d : Described). length d.objects ≤ object_limit) s.back (count-within file h.brief s.read.model (passed-so (reading-sized L file h.bytes) s.is))

-- ---- two in one

pub every_append : {A : Type 0} (Q : A → Type 0) (a b : List A) → Every Q a → Every Q b → Every Q (a ++ b)
every_append Q [] b h k = k
every_append Q (x ∷ a) b (h, hs) k = (h, every_append Q a b hs k)

or-else-fine : (a b : Option (List ℕ)) → absent_or (a_map root_levels) a ≡ true → absent_or (a_map root_levels) b ≡ true → absent_or (a_map root_levels) (or_else a b) ≡ true
unfolding or_else
or-else-fine none b h k = k
or-else-fine (some x) b h k = h

pub merged-fine : (a b : Described) → Fine a → Fine b → length a.objects ≤ object_limit → length b.objects ≤ object_limit → Fine (merged a b)
unfolding merged
merged-fine a b h k la lb = record {
  attributes = or-else-fine a.attributes b.attributes h.attributes k.attributes;
  count = omega (arith, length-append a.objects b.objects, la, lb);
  objects = every_append FineObject a.objects b.objects h.objects k.objects;
}
