-- The bytes of two files in one, by places in their rows, without a plan: layout's pieces, the second's where a turn is reached.
use Rattle.std.specs.Prelude.{ℕ, ◌+◌, ◌*◌, List, [], ◌++◌, length}
use Rattle.meaning.specs.Columns.{object_width}
use Rattle.meaning.specs.Layouts.{magic}
use Rattle.meaning.specs.WrittenFile.{little_bytes}
use Rattle.layout.specs.Pieces.{blobs_of, objects_of, root_front}
use Rattle.layout.specs.Rows.{ComponentRows, ObjectRows}

-- rows of n objects and c components that can be laid where a turn is reached
pub record Rows (buffer rows : List ℕ) (n c turn : ℕ) : Type 0 where
  pub objects : ObjectRows buffer [] rows n 0 (object_width * n) turn
  pub blobs : ComponentRows buffer [] rows c (object_width * n) turn

unfoldable pub front_of : List ℕ → List ℕ → ℕ → ℕ → List ℕ → List ℕ → ℕ → ℕ → ℕ → List ℕ
front_of first rows n c second others k d turn = blobs_of second [] others (blobs_of first [] rows magic c (object_width * n) 8) d (object_width * k) turn

unfoldable pub manifest_of : List ℕ → ℕ → ℕ → List ℕ → List ℕ → ℕ → List ℕ → List ℕ → ℕ → ℕ → List ℕ
manifest_of attributes place size first rows n second others k turn =
    root_front attributes (n + k) place size ++ (objects_of first [] rows n 0 (object_width * n) 8 ++ objects_of second [] others k 0 (object_width * k) turn)

unfoldable pub whole_of : List ℕ → ℕ → ℕ → List ℕ → List ℕ → ℕ → ℕ → List ℕ → List ℕ → ℕ → ℕ → ℕ → List ℕ
whole_of attributes place size first rows n c second others k d turn =
    let manifest = manifest_of attributes place size first rows n second others k turn in
    front_of first rows n c second others k d turn ++ (manifest ++ (little_bytes 8 (length manifest) ++ magic))
