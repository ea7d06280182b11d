-- `stop::inside` meets its contract: a law for each kind of item that holds others.
use Rattle.stop.proofs.Held as items
use Rattle.stop.proofs.inside.Goals as goal

pub returns-then-b-ge192 : goal.returns-then-b-ge192
returns-then-b-ge192 c = search items.tag-inside

pub returns-then-b-eq191 : goal.returns-then-b-eq191
returns-then-b-eq191 c = search items.open-map-inside

pub returns-then-b-ge160 : goal.returns-then-b-ge160
returns-then-b-ge160 c = search items.map-inside

pub returns-then-b-eq159 : goal.returns-then-b-eq159
returns-then-b-eq159 c = search items.open-array-inside

pub returns : goal.returns
returns c = search items.array-inside
