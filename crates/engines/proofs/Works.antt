-- The worked example holds, by computation.
use mathlib.Core.Bool.{◌&&◌}
use lib.Dec.{T}
use Rattle.meaning.specs.Computed.{computed}
use Rattle.engines.specs.Shared.{state_sound, nothing, closed, part_of, usable, apart, opened, zeros}
use Rattle.engines.specs.Calls.{reading_as, layout_number, engine_of, loading, place_of, holding, told, taken, given, after, answered, leaves}
use Rattle.engines.specs.Runs.{final, replies}
use Rattle.engines.specs.Worked.{first_is_told, second_is_told, second_stands, zero_again}

pub it-works : T (first_is_told && second_is_told && second_stands && zero_again)
unfolding computed state_sound nothing closed part_of usable apart opened zeros reading_as layout_number engine_of loading place_of holding told taken given after answered leaves final replies
it-works = tt
