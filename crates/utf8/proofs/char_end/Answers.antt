-- `text::utf::char_end` meets its contract: a law for each test. Assumes nothing.
use native.Mathlib.Omega.{arith}
use Rattle.utf8.proofs.CharEnds as ends
use Rattle.utf8.proofs.char_end.Goals as goal

pub returns-then-l-eq4 : goal.returns-then-l-eq4
returns-then-l-eq4 c = search ends.no_char

pub returns-then-l-eq0 : goal.returns-then-l-eq0
returns-then-l-eq0 c = search ends.one_byte

pub returns-then-s-lt2 : goal.returns-then-s-lt2
returns-then-s-lt2 c = search ends.second-missing

pub returns-then-b-l : goal.returns-then-b-l
returns-then-b-l c = search ends.second-under

pub returns-then-l-b : goal.returns-then-l-b
returns-then-l-b c = search ends.second-over

pub returns-then-l-eq1 : goal.returns-then-l-eq1
returns-then-l-eq1 c = search ends.two_bytes

pub third_on-requires : goal.third_on-requires
third_on-requires c = (omega arith, omega (arith, c.begins-l.ensures.few))

pub returns : goal.returns
returns c = search ends.more_bytes
