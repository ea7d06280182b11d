-- What a written file reads back as, in the numbers of a table: the answer's counts are those that were asked, and the table's rows, with the file as their buffer, describe what was asked.
use Rattle.std.specs.Prelude.{ℕ, List, true, ◌≡◌, length}
use Rattle.meaning.specs.Layouts.{current}
use Rattle.meaning.specs.Rows.{Answer, answer, table_after, read_into}
use Rattle.meaning.specs.Asked.{asked}
use Rattle.meaning.specs.Sound.{rows_sound}
use Rattle.meaning.specs.Described.{Described, described}

module _ (file table : List ℕ) where
  abbrev pub answer_then : Answer
  answer_then = answer (read_into current file (length table))

  abbrev pub table_then : List ℕ
  table_then = table_after table (read_into current file (length table))

  pub record TableBack (objects components : ℕ) (d : Described) : Type 0 where
    pub number : answer_then.number ≡ 0
    pub objects-same : answer_then.objects ≡ objects
    pub components-same : answer_then.components ≡ components
    pub sound : rows_sound file table_then objects components answer_then.attributes ≡ true
    pub describes : described file (asked table_then objects components answer_then.attributes) ≡ d
