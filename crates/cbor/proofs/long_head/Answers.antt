use Rattle.cbor.proofs.Returns as says
use Rattle.cbor.proofs.long_head.Goals as goal

pub returns-then-n-lt2 : goal.returns-then-n-lt2
returns-then-n-lt2 c = search says.one-missing

pub returns-then-low-eq24 : goal.returns-then-low-eq24
returns-then-low-eq24 c = search says.one-there

pub returns-then-n-lt3 : goal.returns-then-n-lt3
returns-then-n-lt3 c = search says.two-missing

pub returns-then-low-eq25 : goal.returns-then-low-eq25
returns-then-low-eq25 c = search says.two-there

pub returns-then-low-eq31 : goal.returns-then-low-eq31
returns-then-low-eq31 c = search says.head-open

pub returns-then-low-gt27 : goal.returns-then-low-gt27
returns-then-low-gt27 c = search says.head-wrong

pub returns-then-n-lt5 : goal.returns-then-n-lt5
returns-then-n-lt5 c = search says.four-missing

pub returns-then-low-eq26 : goal.returns-then-low-eq26
returns-then-low-eq26 c = search says.four-there

pub returns-then-n-lt9 : goal.returns-then-n-lt9
returns-then-n-lt9 c = search says.eight-missing

pub returns : goal.returns
returns c = search says.eight-there
