-- What the format's rules read of a component, put among those of the others.
use Rattle.std.specs.Prelude.{ℕ, List}
use Rattle.meaning.specs.Format.{Part, plain}
use Rattle.types.specs.Known.{position, role_names}
use Rattle.formats.specs.Parts.{flag, unit_code}
use Rattle.components.specs.Row.{put_row}

abbrev pub put_part : List ℕ → ℕ → Part → List ℕ
put_part rows j p = put_row rows j (position role_names p.called) (unit_code p) (flag (plain p)) p.size
