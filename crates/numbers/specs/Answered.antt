-- What an answer of the code is as meaning's check.
use Rattle.std.specs.Prelude.{Result, Ok, Err}
use Rattle.meaning.specs.Check.{Check, pass, refuse, fault}
use Rattle.numbers.specs.Numbered.{number_of}
use Rattle.numbers.specs.declared.refusal.Refusal.{Refusal}
use Rattle.numbers.specs.declared.fault.ObjectFault.{ObjectFault}
use Rattle.numbers.specs.declared.fault.FileFault.{FileFault}

module _ {A : Type 0} where
  abbrev pub answered : Result A Refusal → Check A
  answered (Ok a) = pass a
  answered (Err r) = fault (number_of r)

  -- of an object: the refusal belongs to the component
  abbrev pub in_object : Result A ObjectFault → Check A
  in_object (Ok a) = pass a
  in_object (Err f) = refuse (number_of f.refusal) 0 f.component

  -- of a file
  abbrev pub in_file : Result A FileFault → Check A
  in_file (Ok a) = pass a
  in_file (Err f) = refuse (number_of f.refusal) f.object f.component
