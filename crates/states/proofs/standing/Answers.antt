-- `states::standing` meets its contract: a law for each way out. Assumes nothing.
use Rattle.states.proofs.Tested as states
use Rattle.states.proofs.standing.Goals as goal

pub overflow_sub-free : goal.overflow_sub-free
overflow_sub-free c = search states.front_fits

pub overflow_sub-free-in-Some : goal.overflow_sub-free-in-Some
overflow_sub-free-in-Some c = search states.beside-front

pub slice_bounds-stands_by-end : goal.slice_bounds-stands_by-end
slice_bounds-stands_by-end c = search states.first-state-lies

pub stands_by-requires : goal.stands_by-requires
stands_by-requires c = states.first-state-sized c.args.shared.now _ c.both.ensures _ c.in-Some.is

pub returns-then-engine-eq0 : goal.returns-then-engine-eq0
returns-then-engine-eq0 c = states.standing-first c.args.shared.now _ c.both.ensures _ c.in-Some.is _ _ c.stands_by.ensures c.if-engine-eq0.true

pub slice_bounds-stands_by-end-then-engine-eq1 : goal.slice_bounds-stands_by-end-then-engine-eq1
slice_bounds-stands_by-end-then-engine-eq1 c = search states.second-state-lies

pub overflow_sub-back : goal.overflow_sub-back
overflow_sub-back c = search states.back_fits

pub stands_by-requires-then-engine-eq1 : goal.stands_by-requires-then-engine-eq1
stands_by-requires-then-engine-eq1 c = states.second-state-sized c.args.shared.now _ c.both.ensures _ c.in-Some.is

pub returns-then-engine-eq1 : goal.returns-then-engine-eq1
returns-then-engine-eq1 c = states.standing-second c.args.shared.now _ c.both.ensures _ c.in-Some.is _ _ c.stands_by-then-engine-eq1.ensures c.if-engine-eq1.true

pub returns-in-None : goal.returns-in-None
returns-in-None c = search states.standing-unusable

pub returns-else-engine-eq1 : goal.returns-else-engine-eq1
returns-else-engine-eq1 c = search states.standing-stranger
