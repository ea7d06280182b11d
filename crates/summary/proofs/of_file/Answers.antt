-- `summary::of_file` meets its contract: a law for each branch.
use Rattle.summary.proofs.PanelAnswer as showing
use Rattle.summary.proofs.of_file.Goals as goal

pub returns-then-b-eq0 : goal.returns-then-b-eq0
returns-then-b-eq0 c = record { answer = search showing.answer-is; written = search showing.written_is; cleared = cc }

pub returns : goal.returns
returns c = search (showing.refused, showing.refused-text)
