-- The cases of document 01 marked P hold, all of them, by computation; and so does the table of types that aren't listed (02, Req 03).
use mathlib.Core.Bool.{◌&&◌}
use lib.Dec.{T}
use Rattle.meaning.specs.Text.{all}
use Rattle.meaning.specs.Computed.{computed}
use Rattle.meaning.specs.Layouts.{old}
use Rattle.cases.specs.Table.{cases, holds, reads, writings, writes}
use Rattle.cases.specs.Old.{old_cases, old_holds}
use Rattle.cases.specs.Unlisted.{rulings, ruled}

pub every-case-holds : T (all holds cases && all writes writings)
unfolding computed
every-case-holds = tt

pub every-ruling-holds : T (all ruled rulings)
unfolding computed
every-ruling-holds = tt

pub every-old-case-holds : T (all (reads old) old_cases && old_holds)
unfolding computed
every-old-case-holds = tt
