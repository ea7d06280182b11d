-- `root::root` meets its contract.
use Rattle.meaning.specs.Layouts.{layout_of}
use Rattle.root.proofs.Walks as walks
use Rattle.root.proofs.root.Goals as goal

pub returns : goal.returns
returns c = let a = c.args in walks.judged-whole (layout_of a.layout) a.s.now a.start _ _ _ c.judged_root.ensures
