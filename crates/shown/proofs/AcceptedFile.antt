-- Of a file that is accepted: its texts stand where their rows say, its blobs lie between header and manifest. Of one that is refused: the number is one of 1 to 23.
use Prim.Native.Nat.{ℕ, ◌+◌, ◌≤◌, ◌<◌}
use native.Mathlib.Omega.{arith}
use mathlib.Core.List.{List, [], ◌∷◌}
use mathlib.Core.Option.{Option, none, some}
use mathlib.Core.Path.{◌≡◌, refl}
use lib.ListN.{length, get_elem?}
use Rattle.meaning.specs.Check.{Check, pass, refuse}
use Rattle.meaning.specs.Refusal.{SHORT, LENGTH, ROOM}
use Rattle.meaning.specs.Tree.{Node}
use Rattle.meaning.specs.Read.{Span}
use Rattle.meaning.specs.Model.{Word, Component, Object}
use Rattle.meaning.specs.Frame.{Reading, reading}
use Rattle.meaning.specs.Rows.{optional_span, attributes_span}
use Rattle.meaning.specs.Layouts.{Layout}
use Rattle.meaning.specs.Every.{Every, IfAny}
use Rattle.meaning.specs.Stands.{InFile}
use Rattle.meaning.proofs.Every.{every_append, every-found}
use Rattle.reader.specs.Verdict.{verdict}
use Rattle.view.specs.All.{all_components}
use Rattle.shown.specs.Accepted.{Framing, WordStands, AttributesStand, BlobLies, ComponentAccepted, ObjectAccepted, Accepted, InManifest, PartAccepted}
use Rattle.shown.proofs.Judged.{between, passed-so, refused-so}
use Rattle.shown.proofs.ReadingJudged.{reading-so}

-- ---------------------------------------------------------------- a file that is refused

-- SHORT to LENGTH: the acceptance of a file never gives ROOM, ROW or INDEX
pub refusals-of-reading : (L : Layout) → Framing L → (file : List ℕ) (n o c : ℕ) → reading L file ≡ refuse n o c → (SHORT ≤ n) × (n ≤ LENGTH)
refusals-of-reading L framing file n o c e = between n (refused-so (reading-so L framing file) e)

-- the number that the acceptance check gives: never ROOM, and 0 only for a file that is accepted
module _ (L : Layout) (framing : Framing L) (file : List ℕ) where
  pub accept-never-room : (verdict (reading L file)).number < ROOM
  accept-never-room = by (reading L file) refl
    where
      by : (k : Check Reading) → reading L file ≡ k → (verdict k).number < ROOM
      by (pass r) e = omega arith
      by (refuse n o c) e = let h = (refusals-of-reading L framing file n o c e).1 in omega (arith, h)

  pub accept-zero : (verdict (reading L file)).number ≡ 0 → (r : Reading) × (reading L file ≡ pass r)
  accept-zero = by (reading L file) refl
    where
      by : (k : Check Reading) → reading L file ≡ k → (verdict k).number ≡ 0 → (r : Reading) × (reading L file ≡ pass r)
      by (pass r) e z = (r, e)
      by (refuse n o c) e z = let h = (refusals-of-reading L framing file n o c e).0 in absurd (omega (arith, h, z))

-- ---------------------------------------------------------------- a file that is accepted

module _ (L : Layout) (framing : Framing L) (file : List ℕ) (r : Reading) (accepts : reading L file ≡ pass r) where
  pub accepted : Accepted L file r
  accepted = passed-so (reading-so L framing file) accepts

-- ---- a place of 0 in its rows is given to what is absent and to nothing else

module _ (L : Layout) (file : List ℕ) (start : ℕ) (header : 8 ≤ start) where
  pub zero-is-no-word : (o : Option (Word Span)) → IfAny (WordStands L file start) o → (optional_span o).place ≡ 0 → o ≡ none
  unfolding optional_span
  zero-is-no-word none h e = refl
  zero-is-no-word (some w) h e = let a = h.lies.begins in absurd (omega (arith, a, e, header))

  pub zero-is-no-map : (d : ℕ) (o : Option (Node Span)) → IfAny (AttributesStand L file start d) o → (attributes_span o).place ≡ 0 → o ≡ none
  unfolding attributes_span
  zero-is-no-map d none h e = refl
  zero-is-no-map d (some t) h e = let a = h.stands.lies.begins in absurd (omega (arith, a, e, header))

-- ---- its texts and blobs lie in the file, as the listing asks

pub lies-in-file : (L : Layout) (file : List ℕ) (r : Reading) → Accepted L file r → InFile (InManifest L file r.start) (AttributesStand L file r.start) (PartAccepted L file r.start) file
lies-in-file L file r h = record {
  spans = λ s i. let a = i.ends in omega (arith, a);
  blobs = λ c i. let a = i.blob.before-manifest in let f = h.footer in omega (arith, a, f);
}

-- ---- its blobs

module _ (L : Layout) (file : List ℕ) (start : ℕ) where
  all-accepted : (os : List (Object Span)) → Every (ObjectAccepted L file start) os → Every (ComponentAccepted L file start) (all_components os)
  unfolding all_components
  all-accepted [] h = tt
  all-accepted (o ∷ os) h = every_append (ComponentAccepted L file start) o.components (all_components os) h.0.components (all-accepted os h.1)

module _ (L : Layout) (framing : Framing L) (file : List ℕ) (r : Reading) (accepts : reading L file ≡ pass r) (j : ℕ) (c : Component Span) (there : get_elem? (all_components r.model.objects) j ≡ some c) where
  pub accepted-component : ComponentAccepted L file r.start c
  accepted-component = every-found (ComponentAccepted L file r.start) (all_components r.model.objects) j c (all-accepted L file r.start r.model.objects (accepted L framing file r accepts).model.objects) there

  -- and a byte of the manifest at least, its size and the footer follow inside the file
  pub accepted-blobs : BlobLies r.start c × (r.start + 1 + L.size_back ≤ length file)
  accepted-blobs = (accepted-component.part.blob, (accepted L framing file r accepts).footer)
