-- Demand 3 and Req 06: files whose manifests no reader of a layout may tell apart.
use Rattle.std.specs.Prelude.{ℕ, ◌+◌, List, ◌≡◌, take, drop}
use Rattle.meaning.specs.Tree.{Node}
use Rattle.meaning.specs.Check.{Check, pass, refuse, ◌>>=◌}
use Rattle.meaning.specs.Read.{Span, span_to, manifest}
use Rattle.meaning.specs.Layouts.{Layout}
use Rattle.meaning.specs.Frame.{frame, checked}
use Rattle.meaning.specs.Moved.{Same}

-- of a file that passes checks 1 to 7: where its manifest starts, and the tree that stands there
pub record Parsed : Type 0 where
  pub start : ℕ
  pub tree : Node Span

-- checks 1 to 7: the frame, and the manifest as one CBOR item that fills it
unfoldable pub parsed : Layout → List ℕ → Check Parsed
parsed L file = do
  f ← frame L file
  t ← checked (manifest (span_to (f.start + f.size)) (take f.size (drop f.start file)))
  pass (record { start = f.start; tree = t })

-- the manifests start at the same place, and are the same once unknown fields are dropped and versions are read alike, but for the order of fields
pub record SameManifest (L : Layout) (p q : Parsed) : Type 0 where
  pub start : p.start ≡ q.start
  pub same : Same L p.tree q.tree

-- and both files pass checks 1 to 7
abbrev pub SameFiles : Layout → Check Parsed → Check Parsed → Type 0
SameFiles L (pass p) (pass q) = SameManifest L p q
SameFiles L (pass p) (refuse n o c) = ⊥
SameFiles L (refuse n o c) k = ⊥
