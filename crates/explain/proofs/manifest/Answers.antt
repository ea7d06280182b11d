-- `explain::manifest` meets its contract: a law for each need.
use Rattle.explain.proofs.OwnCheck as own
use Rattle.explaining.proofs.Answers as answers
use Rattle.explain.proofs.manifest.Goals as goal

pub sound-requires : goal.sound-requires
sound-requires c = own.counted _ _ _ c.manifest.ensures c.in-Ok.is

pub returns-in-Err : goal.returns-in-Err
returns-in-Err c = search answers.no-manifest

pub returns-in-Ok : goal.returns-in-Ok
returns-in-Ok c = search answers.a-manifest
