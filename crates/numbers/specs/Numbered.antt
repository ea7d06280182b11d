-- A refusal's number in the documents.
use Rattle.std.specs.Prelude.{ℕ}
use Rattle.meaning.specs.Refusal as numbers
use Rattle.numbers.specs.declared.refusal.Refusal.{Refusal}
use Rattle.numbers.specs.declared.refusal.Refusal.TheVariants as refusals

abbrev pub number_of : Refusal → ℕ
number_of refusals.Short = numbers.SHORT
number_of refusals.Header = numbers.HEADER
number_of refusals.Footer = numbers.FOOTER
number_of refusals.Big = numbers.BIG
number_of refusals.Fit = numbers.FIT
number_of refusals.Cbor = numbers.CBOR
number_of refusals.Deep = numbers.DEEP
number_of refusals.Kind = numbers.KIND
number_of refusals.Key = numbers.KEY
number_of refusals.Text = numbers.TEXT
number_of refusals.Twice = numbers.TWICE
number_of refusals.Missing = numbers.MISSING
number_of refusals.Version = numbers.VERSION
number_of refusals.Major = numbers.MAJOR
number_of refusals.Count = numbers.COUNT
number_of refusals.Dtype = numbers.DTYPE
number_of refusals.Encoding = numbers.ENCODING
number_of refusals.Type = numbers.TYPE
number_of refusals.Align = numbers.ALIGN
number_of refusals.Bounds = numbers.BOUNDS
number_of refusals.Rank = numbers.RANK
number_of refusals.Role = numbers.ROLE
number_of refusals.Length = numbers.LENGTH
number_of refusals.Room = numbers.ROOM
number_of refusals.Row = numbers.ROW
number_of refusals.Index = numbers.INDEX
number_of refusals.Plan = numbers.PLAN
number_of refusals.Busy = numbers.BUSY
