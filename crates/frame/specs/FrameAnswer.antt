-- The answer as meaning's own check.
use Rattle.meaning.specs.Check.{Check, pass, fault}
use Rattle.meaning.specs.Frame.{Frame}
use Rattle.frame.specs.declared.Framed.{Framed}
use Rattle.std.specs.Prelude.{Ok, Err, Result}
use Rattle.numbers.specs.Numbered.{number_of}
use Rattle.numbers.specs.declared.refusal.Refusal.{Refusal}

abbrev pub told : Result Framed Refusal → Check Frame
told (Err r) = fault (number_of r)
told (Ok v) = pass (record { start = v.start; size = v.size })
