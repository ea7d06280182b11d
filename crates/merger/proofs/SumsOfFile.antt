-- What an accepted file's objects add up to is what the writer's definitions say of the file's description: its model stands in it.
use Prim.Native.Nat.{ℕ, ◌≤◌}
use mathlib.Core.List.{List, [], ◌∷◌, map}
use mathlib.Core.Bool.{true}
use mathlib.Core.Path.{◌≡◌}
use lib.ListN.{length}
use Rattle.meaning.specs.Limit.{object_limit}
use Rattle.meaning.specs.Check.{pass}
use Rattle.meaning.specs.Read.{Span}
use Rattle.meaning.specs.Model.{Object, Model}
use Rattle.meaning.specs.Layouts.{Layout}
use Rattle.meaning.specs.Frame.{Reading, reading}
use Rattle.meaning.specs.Rows.{attributes_span}
use Rattle.meaning.specs.Asked.{present_at}
use Rattle.meaning.specs.Sound.{inside}
use Rattle.meaning.specs.Described.{Described, blobs, described_by}
use Rattle.meaning.specs.Every.{Every}
use Rattle.readback.specs.Lent.{Held}
use Rattle.readback.specs.Spelled.{SpelledObject, Spelled}
use Rattle.rows.specs.Turns.{objects_from}
use Rattle.sizes.proofs.Lengths.{entries_size}
use Rattle.shown.specs.Accepted.{Framing}
use Rattle.roundtrip.specs.Sized.{SizedObject, Sized}
use Rattle.roundtrip.proofs.If.{passed-so}
use Rattle.roundtrip.proofs.JudgedSized.{reading-sized}
use Rattle.roundtrip.proofs.AcceptedSpelled.{accepted-spelled}
use Rattle.window.specs.Sums.{all_blobs, entry_sizes}
use Rattle.window.specs.Summed.{InWindow}
use Rattle.totals.proofs.OfModel as of-model

module _ (L : Layout) (framing : Framing L) (file : List ℕ) (held : Held file) (r : Reading) (is : reading L file ≡ pass r) where
  abbrev m : Model Span
  m = r.model

  abbrev d : Described
  d = described_by file m

  spelled : Spelled file m
  spelled = accepted-spelled L framing file r is

  windows : (os : List (Object Span)) → Every (SpelledObject file) os → Every SizedObject os → Every InWindow os
  windows [] h s = tt
  windows (o ∷ os) (h, hs) (s, ss) = (record { rank = h.rank; count = s.count }, windows os hs ss)

  pub in_window : Every InWindow m.objects
  in_window = let s : Sized m = passed-so (reading-sized L file held.bytes) is in windows m.objects spelled.objects s.objects

  pub few : length m.objects ≤ object_limit
  few = let s : Sized m = passed-so (reading-sized L file held.bytes) is in s.count

  pub lengths-are : map length (blobs d) ≡ all_blobs m.objects
  lengths-are = of-model.lengths-are file m spelled

  pub entries-are : (p : ℕ) → entries_size (objects_from [] p d.objects) ≡ entry_sizes p m.objects
  entries-are = of-model.entries-are file m spelled

  pub objects-counted : length d.objects ≡ length m.objects
  objects-counted = of-model.objects-counted file m spelled

  pub attributes-there : (d.attributes ≡ present_at file (attributes_span m.attributes)) × (inside file (attributes_span m.attributes) ≡ true)
  attributes-there = of-model.attributes-there file m spelled
