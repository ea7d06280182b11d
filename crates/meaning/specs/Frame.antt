-- Document 01, "File frame", and the reading of a whole file: frame, CBOR, judgement.
use Rattle.std.specs.Prelude.{ℕ, ◌+◌, ◌-◌, ◌*◌, List, [], ◌∷◌, ◌&&◌, length, take, drop, leb}
use Rattle.meaning.specs.Check.{Check, pass, ◌>>=◌, ◌>>◌, ◌unless◌, fault}
use Rattle.meaning.specs.Text.{same}
use Rattle.meaning.specs.Refusal.{SHORT, HEADER, FOOTER, BIG, FIT}
use Rattle.meaning.specs.Limit.{manifest_limit}
use Rattle.meaning.specs.Read.{Span, span_to, Outcome, got, refused, manifest}
use Rattle.meaning.specs.Model.{Model}
use Rattle.meaning.specs.Layouts.{Layout, magic}
use Rattle.meaning.specs.Judge.{judge}

-- a number, the least significant byte first
unfoldable pub little : List ℕ → ℕ
little [] = 0
little (b ∷ s) = b + 256 * little s

-- the manifest: where it starts, and its size
pub record Frame : Type 0 where
  pub start : ℕ
  pub size : ℕ

unfoldable pub frame : Layout → List ℕ → Check Frame
frame L file = do
  let n = length file
  SHORT unless leb L.least n
  HEADER unless same magic (take 8 file)
  FOOTER unless same L.footer (drop (n - length L.footer) file)
  let size = little (take 8 (drop (n - L.size_back) file))
  BIG unless leb size manifest_limit
  FIT unless (leb 1 size && leb size (n - L.least))
  pass (record { start = n - L.size_back - size; size = size })

unfoldable pub checked : {A : Type 0} → Outcome A → Check A
checked (got a s) = pass a
checked (refused n s) = fault n

-- what a sound file says
pub record Reading : Type 0 where
  pub start : ℕ
  pub model : Model Span

unfoldable pub reading : Layout → List ℕ → Check Reading
reading L file = do
  f ← frame L file
  t ← checked (manifest (span_to (f.start + f.size)) (take f.size (drop f.start file)))
  m ← judge L f.start t
  pass (record { start = f.start; model = m })
