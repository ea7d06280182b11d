-- The panel's text is the model's: what `zt_panel` writes by the rows that the reading leaves is what the model and the file's bytes say, whatever room the rows had.
use Prim.Native.Nat.{ℕ}
use mathlib.Core.List.{List, [], ◌∷◌}
use mathlib.Core.Bool.{false}
use mathlib.Core.Path.{◌≡◌, refl, ap}
use lib.ListN.{drop, replicate}
use Rattle.meaning.specs.Check.{Check, pass, refuse, ◌>>=◌}
use Rattle.meaning.specs.Read.{Span}
use Rattle.meaning.specs.Model.{Component, Object, Model}
use Rattle.meaning.specs.Layouts.{Layout}
use Rattle.meaning.specs.Frame.{Reading, reading}
use Rattle.meaning.specs.Rows.{room_for, table_after, read_into}
use Rattle.meaning.specs.Listing as listing
use Rattle.meaning.specs.Every.{Every}
use Rattle.finding.specs.Table.{undue, told}
use Rattle.panel.specs.Summary.{words, summary_text}
use Rattle.shown.specs.Accepted.{Framing}
use Rattle.shown.specs.Found.{due_of, finding_of}
use Rattle.shown.proofs.AcceptedFile.{accepted}
use Rattle.shown.proofs.AfterReading.{read-accepts}
use Rattle.summary.specs.Panel.{panel_text, shown}
use Rattle.display.specs.Display.{found_in, blob_line, blob_lines, object_lines, lines, panel_of}
use Rattle.display.proofs.OfRows.{text-is}

module _ (L : Layout) (framing : Framing L) (file : List ℕ) where
  pub panel-is : (room : ℕ) (r : Reading) → reading L file ≡ pass r → panel_text L file room r ≡ panel_of L file r
  unfolding panel_text panel_of summary_text table_after
  panel-is room r accepts =
      let h = accepted L framing file r accepts in
      rw (text-is L file r.start h.header r.model (drop (room_for r.model) (replicate room 0)) h.model.objects) refl

  -- for every file and room: the refusal of the reading, or the text of what was read
  pub shown-is : (room : ℕ) → shown L file room ≡ (read_into L file room >>= λ r. pass (panel_of L file r))
  unfolding shown
  shown-is room = by (read_into L file room) refl
    where
      by : (k : Check Reading) → read_into L file room ≡ k → (k >>= λ r. pass (panel_text L file room r)) ≡ (k >>= λ r. pass (panel_of L file r))
      by (pass r) e = ap (λ (t : List ℕ). pass t) (panel-is room r (read-accepts L file room r e))
      by (refuse n o c) e = refl

module _ (file : List ℕ) where
  -- what a line tells is what `zt_find` answers of that component
  pub found-is : (c : Component Span) → finding_of file c ≡ told (pass (record { place = c.offset; size = c.length })) (found_in file c)
  unfolding finding_of found_in
  found-is c = refl

  -- ---- where no finding is due, the lines are the listing's

  blob-plain : (c : Component Span) → due_of c ≡ false → blob_line file c ≡ listing.blob_line c
  unfolding blob_line listing.blob_line found_in undue words
  blob-plain c h = rw h refl

  blobs-plain : (cs : List (Component Span)) → Every (λ c. due_of c ≡ false) cs → blob_lines file cs ≡ listing.blob_lines cs
  unfolding blob_lines listing.blob_lines
  blobs-plain [] h = refl
  blobs-plain (c ∷ cs) h = rw (blob-plain c h.0, blobs-plain cs h.1) refl

  objects-plain : (os : List (Object Span)) → Every (λ o. Every (λ c. due_of c ≡ false) o.components) os → object_lines file os ≡ listing.object_lines os
  unfolding object_lines listing.object_lines
  objects-plain [] h = refl
  objects-plain (o ∷ os) h = rw (blobs-plain o.components h.0, objects-plain os h.1) refl

  pub lines-plain : (m : Model Span) → Every (λ o. Every (λ c. due_of c ≡ false) o.components) m.objects → lines file m ≡ listing.listing m
  unfolding lines listing.listing
  lines-plain m h = rw (objects-plain m.objects h) refl
