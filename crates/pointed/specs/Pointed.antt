-- A check of a tree that was read in the bytes m, as the code has it: its numbers, and how many bytes are left at the names and at the place.
use Rattle.std.specs.Prelude.{ℕ, List, ◌≡◌, length}
use Rattle.std.proofs.Math.Option.{some}
use Rattle.walk.specs.Reading.{Ends}
use Rattle.component.specs.Value.{left_word}
use Rattle.table.specs.WordAt.{WordAt}
use Rattle.table.specs.Spans.{span_of}
use Rattle.explained.specs.Step.{Step}
use Rattle.explained.specs.Notes.{map_step}
use Rattle.explained.specs.Explain as explain
use Rattle.met.specs.Met.{StandsIn}
use Rattle.sentence.specs.Given.{explanation}
use Rattle.sentence.specs.declared.Explanation.{Explanation}

pub record Met (m : List ℕ) (n o c object role left : ℕ) (s : Step Ends) : Type 0 where
  pub stands : StandsIn m s
  pub number : s.number ≡ n
  pub of_object : s.object ≡ o
  pub of_component : s.component ≡ c
  pub name : WordAt m s.object_name
  pub name-left : left_word s.object_name ≡ object
  pub part : WordAt m s.component_name
  pub part_left : left_word s.component_name ≡ role
  pub place-left : length s.place.start ≡ left

abbrev pub Pointed : List ℕ → ℕ → ℕ → ℕ → ℕ → ℕ → ℕ → ℕ → Explanation → Type 0
Pointed m end n o c object role left r = (s : Step Ends) → Met m n o c object role left s → explanation r ≡ explain.explanation (some (map_step (span_of end) s)) 0
