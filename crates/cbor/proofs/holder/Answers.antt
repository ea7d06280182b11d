use Rattle.cbor.proofs.Returns as says
use Rattle.cbor.proofs.holder.Goals as goal

pub returns-then-s-eq0 : goal.returns-then-s-eq0
returns-then-s-eq0 c = search says.none-held

pub returns-then-b : goal.returns-then-b
returns-then-b c = search says.open-tag-held

pub returns-then-b-ge192 : goal.returns-then-b-ge192
returns-then-b-ge192 c = search says.tag-held

pub returns-then-b-2 : goal.returns-then-b-2
returns-then-b-2 c = search says.open-array-held

pub returns-then-b-lt160 : goal.returns-then-b-lt160
returns-then-b-lt160 c = search says.array-held

pub returns-then-b-3 : goal.returns-then-b-3
returns-then-b-3 c = search says.open-map-held

pub returns : goal.returns
returns c = search says.map-held
