-- What a model whose texts and attributes stand in the manifest says is spelled in the file, and so what an accepted file's does: readback's premise follows from shown's promise.
use Prim.Native.Nat.{ℕ, suc, ◌≤◌}
use native.Mathlib.Omega.{arith}
use mathlib.Core.List.{List}
use mathlib.Core.Path.{◌≡◌}
use lib.ListN.{length}
use Rattle.meaning.specs.Check.{pass}
use Rattle.meaning.specs.Tree.{Node, note_of}
use Rattle.meaning.specs.Read.{Span, bytes_at}
use Rattle.meaning.specs.Model.{Model}
use Rattle.meaning.specs.Layouts.{Layout}
use Rattle.meaning.specs.Frame.{Reading, reading}
use Rattle.meaning.proofs.Every.{stands-so}
use Rattle.readback.specs.Spelled.{Within, SpelledMap, Spelled}
use Rattle.readback.proofs.BeginsAsMap.{map-is-well-formed}
use Rattle.shown.specs.Accepted.{Framing, AttributesStand, ModelAccepted, InManifest}
use Rattle.shown.proofs.AcceptedFile.{accepted}

module _ (L : Layout) (file : List ℕ) (start : ℕ) (header : 8 ≤ start) (inside : start ≤ length file) where
  lies_within : (s : Span) → InManifest L file start s → Within file s
  lies_within s h = record { inside = let a = h.ends in omega (arith, a); later = let a = h.begins in omega (arith, a, header) }

  map-spelled : (d : ℕ) (t : Node Span) → AttributesStand L file start (suc d) t → SpelledMap file (suc d) t
  map-spelled d t h = record {
    lies = lies_within (note_of t) h.stands.lies;
    well-formed = map-is-well-formed d (bytes_at file (note_of t)) t h.pairs h.stands.read h.map;
  }

  pub stands-spelled : (m : Model Span) → ModelAccepted L file start m → Spelled file m
  stands-spelled = stands-so file lies_within (map-spelled 28) (map-spelled 30) λ c h. let a = h.blob.before-manifest in omega (arith, a, inside)

pub accepted-spelled : (L : Layout) → Framing L → (file : List ℕ) (r : Reading) → reading L file ≡ pass r → Spelled file r.model
accepted-spelled L framing file r e = let h = accepted L framing file r e in let f = h.footer in stands-spelled L file r.start h.header (omega (arith, f)) r.model h.model
