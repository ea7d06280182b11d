-- What a check says, in the number and the structs that C takes.
use Rattle.std.specs.Prelude.{ℕ}
use Rattle.meaning.specs.Check.{Check, pass, refuse}
use Rattle.meaning.specs.Frame.{Frame}
use Rattle.exported.specs.declared.Ruling.{Ruling}
use Rattle.exported.specs.declared.Place.{Place}

abbrev pub number : Check (Unit {0}) → ℕ
number (pass tt) = 0
number (refuse n o c) = n

abbrev pub ruling : Check (Unit {0}) → Ruling
ruling (pass tt) = record { number = 0; component = 0 }
ruling (refuse n o c) = record { number = n; component = c }

abbrev pub place : Check Frame → Place
place (pass f) = record { number = 0; start = f.start; size = f.size }
place (refuse n o c) = record { number = n; start = 0; size = 0 }
