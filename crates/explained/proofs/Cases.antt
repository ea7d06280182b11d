-- The cases, by computation.
use lib.Dec.{T}
use Rattle.meaning.specs.Text.{all}
use Rattle.meaning.specs.Computed.{computed}
use Rattle.explained.specs.Computed.{explains}
use Rattle.explained.specs.Cases.{cases, holds, sentences, spoken}

pub every-case-holds : T (all holds cases)
unfolding computed explains
every-case-holds = tt

pub every-sentence-is-said : T (all spoken sentences)
unfolding computed explains
every-sentence-is-said = tt
