-- `sentence::refused` meets its contract: a law for each branch.
use Rattle.sentence.proofs.Lines as lines
use Rattle.sentence.proofs.refused.Goals as goal

pub bounds-h-requires : goal.bounds-h-requires
bounds-h-requires c = c.requires

pub shape_of-out : goal.shape_of-out
shape_of-out c = let a = c.args in lines.line-length _ a.file.now a.e c.word-a.ensures c.blank_number-b.ensures c.byte-c.ensures c.because-d.ensures c.part-object.ensures c.belongs-f.ensures c.part-component.ensures c.belongs-g.ensures c.bounds-h.ensures c.byte.ensures

pub returns : goal.returns
returns c = let a = c.args in lines.line-written _ a.file.now a.e c.word-a.ensures c.blank_number-b.ensures c.byte-c.ensures c.because-d.ensures c.part-object.ensures c.belongs-f.ensures c.part-component.ensures c.belongs-g.ensures c.bounds-h.ensures c.byte.ensures
