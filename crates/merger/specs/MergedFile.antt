-- The merge's answer as the code's, the file by both files' rows, and room for both files' rows and for the merged file.
use Rattle.std.specs.Prelude.{ℕ, ◌+◌, ◌*◌, ◌≤◌, List, cond, ◌&&◌, eqb, length}
use Rattle.meaning.specs.Columns.{object_width, component_width}
use Rattle.joint.specs.Joint.{whole_of}
use Rattle.merging.specs.Merge.{Merge, MergeAnswer, merge_answer}
use Rattle.merger.specs.declared.checks.Verdict.{Verdict}
use Rattle.merger.specs.declared.Merged.{Merged}

abbrev pub answer : ℕ → ℕ → ℕ → ℕ → ℕ → Merged
answer number file object component length = record { number = number; file = file; object = object; component = component; length = length }

abbrev pub told : MergeAnswer → Merged
told a = answer a.number a.file a.object a.component a.length

abbrev pub answered : Merge → Merged
answered m = told (merge_answer m)

-- the file by both files' rows: the root's attributes are the first's if it has any, else the second's
abbrev pub joined_of : List ℕ → List ℕ → Verdict → List ℕ → List ℕ → List ℕ
joined_of first rows v second others =
    cond (eqb v.place 0 && eqb v.size 0) (whole_of second v.other v.rest first rows v.objects v.components second others v.others v.parts v.turn)
    (whole_of first v.place v.size first rows v.objects v.components second others v.others v.parts v.turn)

-- rows of both files' objects and components, and an output for the merged file
pub record Enough (v : Verdict) (rows out : List ℕ) : Type 0 where
  pub numbers : object_width * (v.objects + v.others) + component_width * (v.components + v.parts) ≤ length rows
  pub bytes : v.long ≤ length out
