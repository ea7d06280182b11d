-- By computation: a plain file and the same from a newer writer meet the premise and are accepted, with an object and a component each; a file with another shape is told
-- apart; a file of another major meets its premise.
use Prim.Native.Nat.{ℕ}
use native.Mathlib.Omega.{arith}
use mathlib.Core.List.{List, [], ◌∷◌, ◌++◌}
use mathlib.Core.Path.{◌≡◌, refl, ap, sym, subst}
use lib.ListN.{replicate}
use Rattle.meaning.specs.Columns.{rank_column}
use Rattle.meaning.specs.Computed.{computed}
use Rattle.meaning.specs.Layouts.{current}
use Rattle.meaning.specs.Parsed.{parsed}
use Rattle.meaning.specs.Drop.{is_unknown, plain_version, known, holds, in_map, in_text, on_value, on_field, drop_component, drop_object, drop_root}
use Rattle.shown.proofs.ReadingJudged.{current-framing}
use Rattle.tolerance.specs.Manifests.{SameOnceDropped, SameEntry}
use Rattle.tolerance.specs.Alike.{answer_of, afterwards, acceptance, ReadAlike, refused, accepted, table_fields, FieldsAlike}
use Rattle.tolerance.specs.Files.{plain, newer, other, next_major}
use Rattle.tolerance.specs.Major.{OtherMajorIn}
use Rattle.tolerance.proofs.ReadsAlike.{read_alike}
use Rattle.tolerance.proofs.Columns.{same-columns}

-- two numbers more than the rows take
abbrev table : List ℕ
table = replicate 30 7

pub newer-means-the-same : SameOnceDropped current (parsed current plain) (parsed current newer)
unfolding computed parsed is_unknown plain_version known holds in_map in_text on_value on_field drop_component drop_object drop_root
newer-means-the-same = record { start = refl; meant = refl }

-- both are accepted: an object, a component and the manifest's start, and the root's attributes; then the row of the object and of the component, and what stood beyond
pub plain-answer : answer_of current plain table ≡ acceptance 1 1 72 (record { place = 98; size = 7 })
unfolding computed
plain-answer = refl

pub newer-answer : answer_of current newer table ≡ acceptance 1 1 72 (record { place = 108; size = 10 })
unfolding computed
newer-answer = refl

pub plain_rows : afterwards current plain table
    ≡ 115 ∷ 1 ∷ 1 ∷ 8 ∷ replicate 7 0 ++ 133 ∷ 5 ∷ 149 ∷ 7 ∷ 1 ∷ 169 ∷ 4 ∷ 11 ∷ 189 ∷ 7 ∷ 64 ∷ 8 ∷ 221 ∷ 7 ∷ 0 ∷ 173 ∷ 55 ∷ 7 ∷ 7 ∷ []
unfolding computed
plain_rows = refl

pub newer-rows : afterwards current newer table
    ≡ 129 ∷ 1 ∷ 1 ∷ 8 ∷ replicate 7 0 ++ 164 ∷ 5 ∷ 180 ∷ 11 ∷ 1 ∷ 204 ∷ 4 ∷ 11 ∷ 225 ∷ 7 ∷ 64 ∷ 8 ∷ 280 ∷ 7 ∷ 0 ∷ 208 ∷ 85 ∷ 7 ∷ 7 ∷ []
unfolding computed
newer-rows = refl

-- and by the theorem they are alike
pub newer-is-alike : ReadAlike current (SameEntry current) plain table newer table
newer-is-alike = read_alike current current-framing plain table newer table refl newer-means-the-same

-- ---- a file that differs in a known field, the shape

pub other-answer : answer_of current other table ≡ acceptance 1 1 72 (record { place = 98; size = 7 })
unfolding computed
other-answer = refl

pub other-is-told-apart : ReadAlike current (SameEntry current) plain table other table → ⊥
unfolding computed
other-is-told-apart (refused r) = let a : 0 ≡ r.number = ap (λ x. x.number) r.first in let b = r.not-accepted in omega (arith, a, b)
other-is-told-apart (accepted b) =
    let a : 1 ≡ b.objects = ap (λ x. x.objects) b.first in
    let ranks : ◌≡◌ {A = ℕ} 1 2 = same-columns (SameEntry current) plain other (table_fields 1 b.components) (afterwards current plain table) (afterwards current other table) rank_column
    (subst (λ (n : ℕ). FieldsAlike plain other (SameEntry current) (table_fields n b.components) (afterwards current plain table) (afterwards current other table)) (sym a) b.rows) refl in
    omega (arith, ranks)

-- so the premise fails for it
pub other-means-something-else : SameOnceDropped current (parsed current plain) (parsed current other) → ⊥
other-means-something-else h = other-is-told-apart (read_alike current current-framing plain table other table refl h)

-- ---- a file of another major

pub next-major-is-other : OtherMajorIn current (parsed current next_major)
unfolding computed parsed
next-major-is-other = record {
  note = _;
  pairs = _;
  is-map = refl;
  whole-text = refl;
  known-once = refl;
  version-note = _;
  version = _;
  has-version = refl;
  well-shaped = refl;
  another = refl;
}
