-- What is said of one field of a component, in the words of meaning's checks: of the item that begins some bytes, and of what stands at a place that may be none.
use Rattle.std.specs.Prelude.{ℕ, List, cond, ◌≡◌, length, ltb, Result, Option as Optional}
use Rattle.std.proofs.Math.Option.{Option, none, some}
use Rattle.meaning.specs.Tree.{Node, nothing}
use Rattle.meaning.specs.Check.{Check, ◌>>=◌, required, optional}
use Rattle.meaning.specs.Notes.{map_check}
use Rattle.meaning.specs.Model.{Word}
use Rattle.meaning.specs.Kind.{a_number, a_text, present}
use Rattle.meaning.specs.Judge.{or_else, a_dtype, a_type, raw}
use Rattle.meaning.specs.Layouts.{Layout}
use Rattle.walk.specs.Reading.{Ends}
use Rattle.walk.specs.Places.{Whatever, numeral}
use Rattle.fields.specs.Slots.{ItemAt, OptionAt}
use Rattle.numbers.specs.declared.refusal.Refusal.{Refusal}
use Rattle.numbers.specs.Answered.{answered}

-- how many bytes are left where a text's item begins; 0 for none
abbrev pub left_word : Option (Word Ends) → ℕ
left_word none = 0
left_word (some w) = length w.note.start

abbrev pub place_of : Check (Option (Word Ends)) → Check ℕ
place_of = map_check left_word

abbrev pub passes : {A : Type 0} → Check A → Check (Unit {0})
passes = map_check nothing

-- the code that an object gives to a component, 13 or more for none
unfoldable pub given : ℕ → Option ℕ
given c = cond (ltb c 13) (some c) none

-- a component's own code, or else the one that it is given
unfoldable pub code_of : Layout → Option ℕ → Option (Node Ends) → Check ℕ
code_of L above dtype = do
  own ← optional (a_dtype L) dtype
  required (or_else own above)

-- ---------------------------------------------------------------- the item that begins s

abbrev pub DtypeIs : Layout → List ℕ → Result ℕ Refusal → Type 0
DtypeIs L s r = Whatever s λ d t q. a_dtype L t ≡ answered r

abbrev pub RawIs : List ℕ → Result (Unit {0}) Refusal → Type 0
RawIs s r = Whatever s λ d t q. passes (optional raw (some t)) ≡ answered r

abbrev pub TextIs : List ℕ → Result ℕ Refusal → Type 0
TextIs s r = Whatever s λ d t q. place_of (optional a_text (some t)) ≡ answered r

abbrev pub TypeIs : List ℕ → ℕ → Result ℕ Refusal → Type 0
TypeIs s code r = Whatever s λ d t q. place_of (optional (a_type code) (some t)) ≡ answered r

-- ---------------------------------------------------------------- what stands at a place

abbrev pub DtypeAt : Layout → Option ℕ → List ℕ → ℕ → Result ℕ Refusal → Type 0
DtypeAt L above s left r = OptionAt s left λ o. code_of L above o ≡ answered r

abbrev pub NumberAt : List ℕ → ℕ → Optional ℕ → Type 0
NumberAt s left r = ItemAt s left λ t. a_number t ≡ numeral r

abbrev pub Typed : List ℕ → ℕ → ℕ → Result ℕ Refusal → Type 0
Typed s left code r = OptionAt s left λ o. place_of (optional (a_type code) (present o)) ≡ answered r

abbrev pub Digested : List ℕ → ℕ → Result ℕ Refusal → Type 0
Digested s left r = OptionAt s left λ o. place_of (optional a_text (present o)) ≡ answered r

abbrev pub Unpacked : List ℕ → ℕ → Result (Unit {0}) Refusal → Type 0
Unpacked s left r = OptionAt s left λ o. passes (optional a_number (present o)) ≡ answered r

abbrev pub Encoded : List ℕ → ℕ → Result (Unit {0}) Refusal → Type 0
Encoded s left r = OptionAt s left λ o. passes (optional raw o) ≡ answered r
