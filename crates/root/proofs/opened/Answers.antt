-- `root::opened` meets its contract.
use Rattle.meaning.specs.Layouts.{layout_of}
use Rattle.root.proofs.Walks as walks
use Rattle.root.proofs.opened.Goals as goal

pub returns : goal.returns
returns c = let a = c.args in walks.opened-whole (layout_of a.layout) a.s.now 0 _ _ _ _ c.judged_root.ensures
