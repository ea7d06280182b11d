-- Past check 7, a version of another major is refused as such, whatever else the manifest holds and whatever the table.
use Prim.Native.Nat.{ℕ}
use mathlib.Core.List.{List}
use mathlib.Core.Path.{◌≡◌, refl, ap, ◌∙◌}
use lib.ListN.{length}
use Rattle.meaning.specs.Tree.{Node}
use Rattle.meaning.specs.Check.{Check, pass, refuse, ◌>>=◌}
use Rattle.meaning.specs.Refusal.{MAJOR}
use Rattle.meaning.specs.Kind.{kind, as_mapping, a_mapping, as_word, a_word}
use Rattle.meaning.specs.Field.{fields, root_fields}
use Rattle.meaning.specs.Judge.{a_version, judge}
use Rattle.meaning.specs.Frame.{reading, Reading}
use Rattle.meaning.specs.Rows.{answer, table_after, read_into, roomy}
use Rattle.meaning.specs.Layouts.{Layout}
use Rattle.meaning.specs.Parsed.{Parsed, parsed}
use Rattle.meaning.proofs.SameReading.{judged, reading-parsed}
use Rattle.tolerance.specs.Major.{OtherMajor, OtherMajorIn}
use Rattle.tolerance.specs.Alike.{answer_of, afterwards}

major-judged : (L : Layout) {P : Type 0} (start : ℕ) (t : Node P) → OtherMajor L t → judge L start t ≡ refuse MAJOR 0 0
unfolding judge root_fields fields a_mapping as_mapping a_version a_word as_word kind
major-judged L start t h = rw (h.is-map, h.whole-text, h.known-once, h.has-version, h.well-shaped, h.another) refl

-- MAJOR, with 0 and 0
pub major-refused : (L : Layout) (file : List ℕ) → OtherMajorIn L (parsed L file) → reading L file ≡ refuse MAJOR 0 0
unfolding judged
major-refused L file = by (parsed L file) refl
  where
    by : (k : Check Parsed) → parsed L file ≡ k → OtherMajorIn L k → reading L file ≡ refuse MAJOR 0 0
    by (pass p) e h = reading-parsed L file ∙ ap (λ (k : Check Parsed). k >>= judged L) e ∙ rw (major-judged L p.start p.tree h) refl
    by (refuse n o c) e h = absurd h

-- so `read` answers, and the table stays as it was
module _ (L : Layout) (file table : List ℕ) (other : OtherMajorIn L (parsed L file)) where
  pub major-answered : answer_of L file table ≡ answer (refuse MAJOR 0 0)
  unfolding read_into
  major-answered = ap (λ (k : Check Reading). answer (k >>= roomy (length table))) (major-refused L file other)

  pub major-untouched : afterwards L file table ≡ table
  unfolding read_into table_after
  major-untouched = ap (λ (k : Check Reading). table_after table (k >>= roomy (length table))) (major-refused L file other)
