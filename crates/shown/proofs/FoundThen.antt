-- After a file was read into a table, what is found in a component is the finding of the component's own bytes.
use Prim.Native.Nat.{ℕ, ◌+◌, ◌*◌, ◌%◌, ◌≤◌}
use native.Mathlib.Omega.{arith}
use mathlib.Core.List.{List, ◌++◌}
use mathlib.Core.Bool.{Bool, true, false, cond, ◌&&◌}
use mathlib.Core.Option.{Option, none, some}
use mathlib.Core.Path.{◌≡◌, refl}
use lib.ListN.{length, take, drop, get_elem?}
use lib.Dec.{eqb}
use borrow.Author.Tests.{ne_eqb}
use Rattle.meaning.specs.Columns.{object_width, component_width}
use Rattle.meaning.specs.Check.{pass}
use Rattle.meaning.specs.Read.{Span}
use Rattle.meaning.specs.Model.{Word, Component}
use Rattle.meaning.specs.Layouts.{Layout}
use Rattle.meaning.specs.Types.{f32}
use Rattle.meaning.specs.Frame.{Reading}
use Rattle.meaning.specs.Rows.{optional_span, word_span, rows, room_for, answer, table_after, read_into}
use Rattle.meaning.specs.Every.{IfAny}
use Rattle.view.specs.All.{all_components}
use Rattle.view.proofs.Columns.{code_is, type-place, type-size, offset-is, length-is}
use Rattle.view.proofs.OfRows.{row-of-rows, viewed-of-rows}
use Rattle.finding.specs.Finding.{finding, shown}
use Rattle.finding.specs.Table.{due, undue, at_row, found}
use Rattle.shown.specs.Accepted.{Framing, WordStands}
use Rattle.shown.specs.Found.{is_none, due_of, finding_of}
use Rattle.shown.specs.Shown.{found_then}
use Rattle.shown.proofs.AcceptedFile.{accepted, accepted-component, accepted-blobs}
use Rattle.shown.proofs.AfterReading.{read-accepts}

-- a type that is there stands in the manifest, so its place isn't 0
module _ (L : Layout) (file : List ℕ) (start : ℕ) (header : 8 ≤ start) where
  typed : (f l : Bool) (o : Option (Word Span)) → IfAny (WordStands L file start) o → f && eqb (optional_span o).place 0 && eqb (optional_span o).size 0 && l ≡ f && is_none o && l
  unfolding optional_span
  typed true l none h = refl
  typed true l (some w) h = let b = h.lies.begins in rw (ne_eqb (word_span w).place 0 (λ z. omega (arith, z, b, header))) refl
  typed false l none h = refl
  typed false l (some w) h = refl

module _ (L : Layout) (framing : Framing L) (file table : List ℕ) (r : Reading) (reads : read_into L file (length table) ≡ pass r) (j : ℕ) (c : Component Span)
    (there : get_elem? (all_components r.model.objects) j ≡ some c) where
  abbrev rest : List ℕ
  rest = drop (room_for r.model) table

  abbrev T : List ℕ
  T = rows r.model ++ rest

  abbrev row : ℕ
  row = object_width * length r.model.objects + component_width * j

  due-is : due T row ≡ due_of c
  unfolding due due_of
  due-is =
      let so = read-accepts L file (length table) r reads in
      let b = row-of-rows rest r.model j c there in
      rw (code_is T row b.0 c b.1 b.2, type-place T row b.0 c b.1 b.2, type-size T row b.0 c b.1 b.2, length-is T row b.0 c b.1 b.2)
      (typed L file r.start (accepted L framing file r so).header (eqb c.dtype f32) (eqb (c.length % 4) 0) c.type (accepted-component L framing file r so j c there).type)

  row-found : at_row file T row ≡ cond (due_of c) (shown (finding (take c.length (drop c.offset file)))) undue
  unfolding at_row
  row-found =
      let b = row-of-rows rest r.model j c there in
      rw (due-is, offset-is T row b.0 c b.1 b.2, length-is T row b.0 c b.1 b.2) refl

  pub read_found : found_then L file table j ≡ finding_of file c
  unfolding answer table_after found finding_of
  read_found =
      let so = read-accepts L file (length table) r reads in
      let lies = accepted-blobs L framing file r so j c there in
      let a = lies.0.before-manifest in
      let f = lies.1 in
      rw reads (rw (viewed-of-rows file rest r.model j c there (omega (arith, a, f)), row-found) refl)
