-- `naming::note` meets its contract: a law for each kind of key.
use Rattle.meaning.proofs.Lengths.{place-fits}
use Rattle.naming.proofs.NameNoted as noting
use Rattle.naming.proofs.note.Goals as goal

pub overflow_add-e : goal.overflow_add-e
overflow_add-e c = search (place-fits, noting.inside)

pub overflow_sub-s : goal.overflow_sub-s
overflow_sub-s c = search noting.begins-inside

pub slice_bounds-utf8-end : goal.slice_bounds-utf8-end
slice_bounds-utf8-end c = search noting.inside

pub returns-then-utf8 : goal.returns-then-utf8
returns-then-utf8 c = search noting.text-noted

pub returns-in-None : goal.returns-in-None
returns-in-None c = search (noting.noted-as, noting.noted-odd)

pub returns-else-utf8 : goal.returns-else-utf8
returns-else-utf8 c = search noting.no-text-noted
