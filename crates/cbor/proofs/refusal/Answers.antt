-- `cbor::refusal` meets its contract: the one answer that is told apart.
use borrow.Author.Rules.{rules}
use borrow.Author.Tests.{eq-eqb, ne_eqb}
use Rattle.cbor.specs.Ending.{refusal_of}
use Rattle.cbor.proofs.refusal.Goals as goal

pub returns-then-answer-eq-DEEP : goal.returns-then-answer-eq-DEEP
unfolding refusal_of
returns-then-answer-eq-DEEP c = search (rules, eq-eqb)

pub returns : goal.returns
unfolding refusal_of
returns c = search (rules, ne_eqb)
