-- `listing::printed::print` meets its contract: a law for each branch. Assumes nothing.
use Rattle.listing.proofs.PrintedText as printing
use borrow.Author.Rules.{rules}
use Rattle.listing.proofs.printed.print.Goals as goal

pub returns-then-file-gt65536 : goal.returns-then-file-gt65536
returns-then-file-gt65536 c =
    let a = c.args in let e = c.words.ensures in
    let t = printing.told-alike a.text.now (printing.printed-too-long a.file.now c.if-file-gt65536.true) (e.answer, e.written) in
    record { answer = t.0; written = t.1.0; within = t.1.1 }

pub returns-then-a-eq0 : goal.returns-then-a-eq0
returns-then-a-eq0 c =
    let e = c.list.ensures in
    let t =
    printing.told-alike c.args.text.now (printing.printed-listed c.args.file.now c.if-file-gt65536.false _ _ (search rules) _ c.read-a.ensures c.if-a-eq0.true) (e.answer, e.written) in
    record { answer = t.0; written = t.1.0; within = t.1.1 }

pub returns : goal.returns
returns c =
    let e = c.refusal.ensures in
    let t =
    printing.told-alike c.args.text.now (printing.printed-refused c.args.file.now c.if-file-gt65536.false _ _ (search rules) _ c.read-a.ensures c.if-a-eq0.false) (e.answer, e.written) in
    record { answer = t.0; written = t.1.0; within = t.1.1 }
