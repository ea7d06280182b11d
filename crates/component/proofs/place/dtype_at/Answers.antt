-- `component::place::dtype_at` meets its contract: a law for each branch.
use Rattle.component.proofs.Values as values
use Rattle.component.proofs.place.dtype_at.Goals as goal

pub returns-then-above-lt13 : goal.returns-then-above-lt13
returns-then-above-lt13 c = search values.code-given

pub returns-then-left-eq0 : goal.returns-then-left-eq0
returns-then-left-eq0 c = search values.no_code

pub returns : goal.returns
returns c = search values.own_code
