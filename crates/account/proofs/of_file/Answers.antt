-- `account::of_file` meets its contract: a law for each branch.
use Rattle.account.proofs.AccountAnswer as answering
use Rattle.account.proofs.of_file.Goals as goal

pub overflow_mul-first : goal.overflow_mul-first
overflow_mul-first c = search answering.first_fits

pub inside-inside-requires : goal.inside-inside-requires
inside-inside-requires c = search answering.rows-asked

pub overflow_sub-result : goal.overflow_sub-result
overflow_sub-result c = search answering.size-inside

pub overflow_sub-result-then-a-eq0 : goal.overflow_sub-result-then-a-eq0
overflow_sub-result-then-a-eq0 c = search answering.manifest-inside

pub overflow_sub-result-then-a-eq0-2 : goal.overflow_sub-result-then-a-eq0-2
overflow_sub-result-then-a-eq0-2 c = search answering.past-header

pub overflow_sub-result-then-a-eq0-3 : goal.overflow_sub-result-then-a-eq0-3
overflow_sub-result-then-a-eq0-3 c = search answering.inside-before

pub returns-then-a-eq0 : goal.returns-then-a-eq0
returns-then-a-eq0 c = record { answer = search answering.accounted-is; cleared = cc }

pub returns : goal.returns
returns c = record { answer = search answering.refused; cleared = cc }
