-- Request 01 of document 02: the panel's text by the model that was read and the file's bytes. It is the listing; each blob's line ends with what is found in the component's own bytes,
-- where a finding is due; the last line accounts for the file's bytes.
use Rattle.std.specs.Prelude.{ℕ, List, [], ◌∷◌, ◌++◌, cond, length}
use Rattle.meaning.specs.Text.{ascii}
use Rattle.meaning.specs.Read.{Span, bytes_at}
use Rattle.meaning.specs.Model.{Component, Object, Model}
use Rattle.meaning.specs.Types.{storage_of}
use Rattle.meaning.specs.Layouts.{Layout}
use Rattle.meaning.specs.Frame.{Reading}
use Rattle.meaning.specs.Rows.{component_count}
use Rattle.meaning.specs.Listing.{line, shown_text, decimal, object_line}
use Rattle.finding.specs.Finding.{finding, shown}
use Rattle.finding.specs.Table.{undue}
use Rattle.finding.specs.declared.Shown.{Shown}
use Rattle.panel.specs.Summary.{words, bytes_line}
use Rattle.shown.specs.Found.{due_of}
use Rattle.account.specs.Account.{frame_bytes, manifest_bytes, inside_bytes, between_bytes}

module _ (file : List ℕ) where
  unfoldable pub found_in : Component Span → Shown
  found_in c = cond (due_of c) (shown (finding (bytes_at file (record { place = c.offset; size = c.length })))) undue

  unfoldable pub blob_line : Component Span → List ℕ
  blob_line c =
      line (ascii "blob")
      (shown_text c.name.letters ∷ (storage_of c.dtype).called ∷ decimal c.offset ∷ decimal c.length ∷ words (found_in c))

  unfoldable pub blob_lines : List (Component Span) → List ℕ
  blob_lines [] = []
  blob_lines (c ∷ cs) = blob_line c ++ blob_lines cs

  -- blobs follow their object
  unfoldable pub object_lines : List (Object Span) → List ℕ
  object_lines [] = []
  object_lines (o ∷ os) = object_line o ++ blob_lines o.components ++ object_lines os

  unfoldable pub lines : Model Span → List ℕ
  lines m =
      line (ascii "objects") (decimal (length m.objects) ∷ ascii "components" ∷ decimal (component_count m.objects) ∷ [])
      ++ object_lines m.objects

unfoldable pub panel_of : Layout → List ℕ → Reading → List ℕ
panel_of L file r = lines file r.model ++ bytes_line (frame_bytes L file r) (manifest_bytes L file r) (inside_bytes L file r) (between_bytes L file r)
