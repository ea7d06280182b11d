-- The explanation of a file that is refused before its tree is judged.
use Rattle.std.specs.Prelude.{ℕ, List, ◌≡◌}
use Rattle.std.proofs.Math.Option.{some}
use Rattle.meaning.specs.Check.{fault}
use Rattle.meaning.specs.Read.{refused, span_to, manifest, no_note}
use Rattle.meaning.specs.Layouts.{layout_of}
use Rattle.meaning.specs.Frame.{frame}
use Rattle.stop.specs.Stop.{LeftBy}
use Rattle.explained.specs.Explain as explain
use Rattle.explained.specs.Explain.{span, head_span, alone}
use Rattle.sentence.specs.Given as given
use Rattle.sentence.specs.declared.Explanation.{Explanation}

-- what ten numbers say
abbrev pub explanation : Explanation → explain.Explanation
explanation = given.explanation

-- a check that belongs to no object
abbrev pub lone : ℕ → ℕ → ℕ → explain.Explanation
lone n place size = explain.explanation (some (alone n (span place size))) 0

abbrev pub Unframed : ℕ → List ℕ → ℕ → Explanation → Type 0
Unframed layout file n r = frame (layout_of layout) file ≡ fault n → (room : ℕ) → explanation r ≡ explain.explain (layout_of layout) file room

-- the reading of a manifest
abbrev pub StopsAt : List ℕ → ℕ → Type 0
StopsAt m r = LeftBy (manifest no_note) m r

abbrev pub Unread : List ℕ → ℕ → ℕ → Explanation → Type 0
Unread m end n r = (q : List ℕ) → manifest (span_to end) m ≡ refused n q → explanation r ≡ explain.explanation (some (alone n (head_span end q))) 0
