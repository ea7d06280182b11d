-- The explanation that ten numbers give, and the sentence's parts as the code puts them.
use Rattle.std.specs.Prelude.{ℕ, List, [], ◌∷◌, ◌++◌, Bool, cond, not, ◌&&◌, eqb, ltb}
use Rattle.meaning.specs.Layouts.{Layout}
use Rattle.meaning.specs.Listing.{shown_text}
use Rattle.explained.specs.Explain as explain
use Rattle.explained.specs.Explain.{span}
use Rattle.explained.specs.Sentence.{where', refused_line}
use Rattle.sentence.specs.declared.Explanation.{Explanation}

abbrev pub explanation : Explanation → explain.Explanation
explanation e = record {
  number = e.number;
  object = e.object;
  component = e.component;
  object_name = span e.objectname e.objectsize;
  component_name = span e.componentname e.componentsize;
  place = span e.place e.length;
  room = e.room;
}

-- where a reason is listed: the two of layout 1.0 stand last
unfoldable pub listed : ℕ → ℕ → ℕ
listed layout n = cond (ltb 24 n) 0 (cond (eqb layout 1) (cond (eqb n 1) 25 (cond (eqb n 5) 26 n)) n)

unfoldable pub given : ℕ → ℕ → Bool
given place size = not (eqb place 0 && eqb size 0)

unfoldable pub named : List ℕ → List ℕ → ℕ → ℕ → List ℕ
named what name place size = cond (given place size) (what ++ 32 ∷ shown_text name) []

abbrev pub bounds : ℕ → ℕ → ℕ → ℕ → List ℕ
bounds n place size room =
    where' (record { number = n; object = 0; component = 0; object_name = span 0 0; component_name = span 0 0; place = span place size; room = room })

abbrev pub refused : Layout → List ℕ → Explanation → List ℕ
refused L file e = refused_line L file (explanation e)
