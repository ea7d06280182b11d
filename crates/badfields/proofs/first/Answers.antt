-- `badfields::first` meets its contract: a law for each branch.
use mathlib.Core.Path.{refl}
use Rattle.badfields.proofs.Entries as laws
use Rattle.keys.specs.Odd.{slots_at}
use Rattle.badfields.proofs.first.Goals as goal

pub returns-then-odd-ne0 : goal.returns-then-odd-ne0
returns-then-odd-ne0 c = laws.odd-key (slots_at c.args.layout c.args.level) c.args.left c.args.mode c.args.count c.args.s.now _ _ c.entries-odd.ensures _ c.if-odd-ne0.true c.at.ensures

pub returns-then-odd-ne0-2 : goal.returns-then-odd-ne0-2
returns-then-odd-ne0-2 c = laws.again (slots_at c.args.layout c.args.level) c.args.left c.args.mode c.args.count c.args.s.now _ _ c.entries-odd.ensures _ c.if-odd-ne0.false c.if-odd-ne0-2.true c.at-then-odd-ne0-2.ensures

pub returns : goal.returns
returns c = laws.all_known (slots_at c.args.layout c.args.level) c.args.left c.args.mode c.args.count c.args.s.now _ _ c.entries-odd.ensures _ c.if-odd-ne0.false c.if-odd-ne0-2.false refl
