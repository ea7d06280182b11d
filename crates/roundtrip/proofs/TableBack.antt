-- A written file, read into any table with room for its rows: number 0, the counts that were asked, and rows that describe what was asked.
use Prim.Native.Nat.{ℕ, ◌+◌, ◌*◌, ◌≤◌}
use native.Mathlib.Omega.{arith}
use mathlib.Core.List.{List, [], ◌∷◌, map}
use mathlib.Core.Path.{◌≡◌, refl, sym, ap, ◌∙◌}
use lib.ListN.{length, drop, length-map, length-append}
use borrow.Author.Tests.{le-leb}
use Rattle.meaning.specs.Check.{pass}
use Rattle.meaning.specs.Read.{Span, bytes_at}
use Rattle.meaning.specs.Model.{Object, Model}
use Rattle.meaning.specs.Layouts.{current}
use Rattle.meaning.specs.Columns.{object_width, component_width}
use Rattle.meaning.specs.Rows.{component_count, room_for, roomy, answer, table_after, read_into}
use Rattle.meaning.specs.Asked.{AskedComponent, asked_object, asked}
use Rattle.meaning.specs.Described.{DescribedComponent, Described, blobs_in, blobs, described, read_component, read_object, described_by}
use Rattle.meaning.specs.Write.{written}
use Rattle.meaning.proofs.Lengths.{each-row-length, described-counted}
use Rattle.readback.specs.Lent.{Lent}
use Rattle.readback.specs.Back.{ReadsBack}
use Rattle.readback.proofs.RowsWritten.{written-reads-back, written-file, blobs-of-rows, rows-counted}
use Rattle.shown.proofs.ReadingJudged.{current-framing}
use Rattle.roundtrip.specs.TableBack.{TableBack}
use Rattle.roundtrip.proofs.WrittenAgain as again

-- ---- counts

blobs-counted : (file : List ℕ) (os : List (Object Span)) → length (blobs_in (map (read_object file) os)) ≡ component_count os
unfolding blobs_in component_count read_object
blobs-counted file [] = refl
blobs-counted file (o ∷ os) =
    let a = length-append (map (λ c. c.blob) (map (read_component file) o.components)) (blobs_in (map (read_object file) os)) in
    let b = length-map (map (read_component file) o.components) (λ (c : DescribedComponent). c.blob) in
    let c = length-map o.components (read_component file) in
    let e = blobs-counted file os in
    omega (arith, a, b, c, e)

-- ---- a file that says d, with these counts

module _ {file : List ℕ} {d : Described} (back : ReadsBack file d) where
  abbrev m : Model Span
  m = back.read.model

  module _ {objects components : ℕ} (o : length m.objects ≡ objects) (c : component_count m.objects ≡ components)
      (table : List ℕ) (room : object_width * objects + component_width * components ≤ length table) where
    reads : read_into current file (length table) ≡ pass back.read
    unfolding read_into roomy room_for
    reads = rw (back.is, le-leb (object_width * length m.objects + component_width * component_count m.objects) (length table) (omega (arith, o, c, room))) refl

    abbrev rest : List ℕ
    rest = drop (room_for m) table

    pub table-back : TableBack file table objects components d
    unfolding answer table_after
    table-back = record {
      number = rw reads refl;
      objects-same = rw reads o;
      components-same = rw reads c;
      sound = rw (reads, sym o, sym c) (again.rows-sound current current-framing file back.read back.is rest);
      describes = rw (reads, sym o, sym c) (again.rows-described current current-framing file back.read back.is rest ∙ back.back);
    }

-- ---- the writer's file

module _ {rows buffer : List ℕ} (lent : Lent rows buffer) (objects components : ℕ) (attributes : Span) (room : ℕ) {file : List ℕ}
    (wrote : written rows objects components attributes buffer room ≡ pass file) where
  abbrev of-rows : Described
  of-rows = described buffer (asked rows objects components attributes)

  reads-back : ReadsBack file of-rows
  reads-back = written-reads-back rows lent.numbers lent.few buffer lent.small objects components attributes room file wrote

  abbrev model : Model Span
  model = reads-back.read.model

  objects-are : length model.objects ≡ objects
  unfolding described_by described asked
  objects-are =
      sym (length-map model.objects (read_object file)) ∙ ap (λ (d : Described). length d.objects) reads-back.back
      ∙ described-counted buffer (asked rows objects components attributes).objects (asked rows objects components attributes).components
      ∙ each-row-length asked_object object_width objects rows

  components-are : component_count model.objects ≡ components
  unfolding described_by
  components-are =
      let sound = (written-file rows lent.numbers lent.few buffer lent.small objects components attributes room file wrote).rows in
      sym (blobs-counted file model.objects) ∙ ap (λ (d : Described). length (blobs d)) reads-back.back
      ∙ ap length (blobs-of-rows rows lent.numbers lent.few buffer lent.small objects components attributes sound)
      ∙ length-map (asked rows objects components attributes).components (λ (c : AskedComponent). bytes_at buffer c.blob)
      ∙ rows-counted rows objects components attributes

  pub written-table : (table : List ℕ) → object_width * objects + component_width * components ≤ length table → TableBack file table objects components of-rows
  written-table table = table-back reads-back objects-are components-are table
