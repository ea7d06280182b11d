-- `layout::file` meets its contract: sound rows can be laid, and what is laid is the file that they ask for.
use Rattle.layout.proofs.Whole as law
use Rattle.layout.proofs.file.Goals as goal

pub whole-requires : goal.whole-requires
whole-requires c = let a = c.args in let can = law.whole-can a.buffer.now a.plan.now a.rows.now a.objects a.components a.place a.size c.requires.size_value c.requires.size_bound c.requires.size_in_bounds in record { whole_rows = can.0; room = can.1 }

pub returns : goal.returns
returns c = let a = c.args in let laid = law.file-laid a.buffer.now a.plan.now a.rows.now a.objects a.components a.place a.size c.requires.size_value c.requires.size_bound c.whole.ensures in record { whole = laid.0; written = laid.1 }
