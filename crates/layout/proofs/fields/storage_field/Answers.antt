-- `layout::fields::storage_field` meets its contract: the name that stands at the code.
use native.Mathlib.Omega.{arith}
use Rattle.emit.proofs.LaidPieces as laying
use Rattle.layout.proofs.Present as law
use Rattle.layout.proofs.fields.storage_field.Goals as goal

pub text_at-past-requires : goal.text_at-past-requires
text_at-past-requires c = search laying.room-first

pub overflow_cast-end : goal.overflow_cast-end
overflow_cast-end c = let n = law.name-short c.args.code c.requires.0 in omega arith

pub overflow_add-end : goal.overflow_add-end
overflow_add-end c = let n = law.name-short c.args.code c.requires.0 in omega arith

pub slice_bounds-text_at-end-2 : goal.slice_bounds-text_at-end-2
slice_bounds-text_at-end-2 c = let n = law.name-short c.args.code c.requires.0 in omega arith

pub text_at-requires : goal.text_at-requires
text_at-requires c = search law.room-name

pub returns : goal.returns
returns c = search law.name-laid
