-- What a view and a row show of one component after a reading: the table and both counts are those that the reading left.
use Rattle.std.specs.Prelude.{ℕ, ◌+◌, ◌*◌, ◌≤◌, List, [], ◌≡◌, length, take, drop, get_or}
use Rattle.std.proofs.Math.Option.{none}
use Rattle.meaning.specs.Columns.{object_width, component_width, entry_column, entry_length_column}
use Rattle.meaning.specs.Tree.{meaning}
use Rattle.meaning.specs.Check.{Check, pass}
use Rattle.meaning.specs.Read.{Span, bytes_at, got, item, no_note}
use Rattle.meaning.specs.Model.{Component}
use Rattle.meaning.specs.Judge.{component}
use Rattle.meaning.specs.Frame.{Reading}
use Rattle.meaning.specs.Rows.{answer, table_after, read_into}
use Rattle.meaning.specs.View.{viewed, view}
use Rattle.meaning.specs.Layouts.{slot, Layout, dtype_at}
use Rattle.panel.specs.Lines.{listed}
use Rattle.finding.specs.Table.{found}
use Rattle.finding.specs.declared.table.Found.{Found}
use Rattle.shown.specs.Accepted.{BlobLies, EntryStands}

module _ (L : Layout) (file table : List ℕ) where
  abbrev afterwards : Check Reading
  afterwards = read_into L file (length table)

  -- asked with what the reading left
  abbrev pub viewed_then : ℕ → Check Span
  viewed_then = viewed file (table_after table afterwards) (answer afterwards).objects (answer afterwards).components

  abbrev pub view_then : ℕ → List ℕ
  view_then = view file (table_after table afterwards) (answer afterwards).objects (answer afterwards).components

  abbrev pub listed_then : Check (List ℕ)
  listed_then = listed file (table_after table afterwards) (answer afterwards).objects (answer afterwards).components

  abbrev pub found_then : ℕ → Found
  found_then = found file (table_after table afterwards) (answer afterwards).objects (answer afterwards).components

  -- where the row of the component `index` says that its map stands
  abbrev pub entry_then : ℕ → Span
  entry_then index =
      let row = object_width * (answer afterwards).objects + component_width * index in
      record { place = get_or (table_after table afterwards) (row + entry_column) 0; size = get_or (table_after table afterwards) (row + entry_length_column) 0 }

  -- the bytes there, read alone, are one map and nothing more: the component's own
  pub record EntryShown (r : Reading) (j : ℕ) (c : Component Span) : Type 0 where
    pub entry : EntryStands L file r.start c
    -- under the component's name that map is this component, where the object can give it no code
    pub judged : slot dtype_at L.object ≡ none → component L r.start none (record { name = c.name; value = entry.node }) ≡ pass c
    pub said : entry_then j ≡ c.entry
    pub alone : item no_note 28 (bytes_at file (entry_then j)) ≡ got (meaning entry.node) []

  -- the component c of the reading r, at index j among all components
  pub record Shown (r : Reading) (j : ℕ) (c : Component Span) : Type 0 where
    pub blob : BlobLies r.start c
    pub manifest-inside : r.start + 1 + L.size_back ≤ length file
    pub range : viewed_then j ≡ pass (record { place = c.offset; size = c.length })
    pub bytes : view_then j ≡ take c.length (drop c.offset file)
