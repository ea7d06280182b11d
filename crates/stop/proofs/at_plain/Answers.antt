-- `stop::at_plain` meets its contract: a law for each first byte.
use Rattle.stop.proofs.Turns as turns
use Rattle.stop.specs.Stop as is
use Rattle.stop.proofs.at_plain.Goals as goal

pub returns-then-s-eq0 : goal.returns-then-s-eq0
returns-then-s-eq0 c = search turns.plain-none

pub at_chunk-requires : goal.at_chunk-requires
at_chunk-requires c = is.byte_strings

pub returns-then-b-eq95 : goal.returns-then-b-eq95
returns-then-b-eq95 c = search turns.plain-bytes

pub at_chunk-requires-then-b-eq127 : goal.at_chunk-requires-then-b-eq127
at_chunk-requires-then-b-eq127 c = is.text_strings

pub returns-then-b-eq127 : goal.returns-then-b-eq127
returns-then-b-eq127 c = search turns.plain-text

pub returns-then-s-eq1 : goal.returns-then-s-eq1
returns-then-s-eq1 c = search turns.plain-one

pub returns-then-b : goal.returns-then-b
returns-then-b c = search turns.plain-two

pub returns : goal.returns
returns c = search turns.plain-head
