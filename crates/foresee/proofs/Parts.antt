-- What the format's rules read of components, put row by row.
use Prim.Native.Nat.{ℕ, suc, ◌+◌, ◌-◌, ◌*◌, ◌≤◌, ◌<◌}
use native.Mathlib.Omega.{arith}
use mathlib.Core.List.{List, [], ◌∷◌, ◌++◌, map}
use mathlib.Core.Bool.{Bool, true, false, ◌&&◌}
use mathlib.Core.Path.{◌≡◌, refl, sym, ap, ◌∙◌}
use lib.ListN.{length, take, drop, get_or}
use lib.Seq.{length-take-le}
use lib.Dec.{eqb}
use borrow.Author.Rules.{part_to_end}
use Rattle.meaning.specs.Columns.{component_width, rank_column, shape_column, dtype_column, type_column, type_length_column, offset_column, length_column}
use Rattle.meaning.specs.Types.{u64, type_ratio, width_of, ratio_of, listed, logicals}
use Rattle.meaning.specs.Format.{Part, untyped, plain, format_rules}
use Rattle.meaning.specs.Read.{Span}
use Rattle.meaning.specs.Asked.{each_row, asked_object, asked_component, present_at}
use Rattle.meaning.specs.Described.{described_component}
use Rattle.types.specs.Known.{position, role_names, format_names, unit_number}
use Rattle.formats.specs.Parts.{flag, unit_code, part_row, part_rows}
use Rattle.components.specs.Row.{put_row}
use Rattle.components.proofs.Rows.{row-length, row-after}
use Rattle.naming.proofs.NameNoted.{map_snoc}
use Rattle.readback.specs.Judged.{part_of}
use Rattle.rows.proofs.EachRow.{some-rows}
use Rattle.foresee.specs.Parts.{put_part}
use Rattle.foresee.proofs.TextLaws.{nothing-there, something-there}
use Rattle.std.specs.Prelude.{Result}
use Rattle.numbers.specs.declared.fault.ObjectFault.{ObjectFault}
use Rattle.numbers.specs.Answered.{in_object}

module _ (buffer : List ℕ) (place size : ℕ) where
  abbrev range : Span
  range = record { place = place; size = size }

  -- `absent` said n, and the element's bytes are w by the code alone, or by the type's text s
  module _ (code : ℕ) {n : Bool} (absent : n ≡ (eqb place 0 && eqb size 0)) where
    pub untyped-unit : n ≡ true → {w : ℕ} → w ≡ width_of code → w ≡ unit_number (type_ratio (present_at buffer range)) (width_of code)
    unfolding type_ratio unit_number
    untyped-unit e is = rw (nothing-there buffer place size absent e) (omega (arith, is))

    pub typed-unit : n ≡ false → {s : List ℕ} → s ≡ take size (drop place buffer) → {w : ℕ} → w ≡ unit_number (ratio_of (listed logicals s)) (width_of code)
        → w ≡ unit_number (type_ratio (present_at buffer range)) (width_of code)
    unfolding type_ratio
    typed-unit e part is = rw (something-there buffer place size absent e, ← part) is

  no-type : untyped (present_at buffer range) ≡ (eqb place 0 && eqb size 0)
  unfolding untyped
  no-type = by (eqb place 0 && eqb size 0) refl
    where
      by : (b : Bool) → b ≡ (eqb place 0 && eqb size 0) → untyped (present_at buffer range) ≡ b
      by true e = rw (nothing-there buffer place size e refl) refl
      by false e = rw (something-there buffer place size e refl) refl

module _ (buffer row : List ℕ) where
  abbrev pub the_part : Part
  the_part = part_of (described_component buffer (asked_component row))

  abbrev typeless : Bool
  typeless = eqb (get_or row type_column 0) 0 && eqb (get_or row type_length_column 0) 0

  -- the row's texts and numbers as they were found, put in one row
  pub part-put : {name : List ℕ} → name ≡ take (get_or row 1 0) (drop (get_or row 0 0) buffer) → {role : ℕ} → role ≡ position role_names name → {unit : ℕ}
      → unit ≡ unit_number (type_ratio (present_at buffer (record { place = get_or row type_column 0; size = get_or row type_length_column 0 }))) (width_of (get_or row dtype_column 0)) → {words : ℕ}
      → words ≡ flag (eqb (get_or row dtype_column 0) 8 && typeless) → {blob : List ℕ} → blob ≡ take (get_or row length_column 0) (drop (get_or row offset_column 0) buffer) → (out : List ℕ) (j : ℕ) {out' : List ℕ}
      → out' ≡ put_row out j role unit words (length blob) → out' ≡ put_part out j the_part
  unfolding part_of described_component asked_component unit_code plain u64
  part-put named called united worded lent out j put =
      put ∙ rw (called, named, united, worded, lent, no-type buffer (get_or row type_column 0) (get_or row type_length_column 0)) refl

parts-snoc : (ps : List Part) (p : Part) → part_rows (ps ++ p ∷ []) ≡ part_rows ps ++ part_row p
unfolding part_rows part_row
parts-snoc [] p = refl
parts-snoc (q ∷ ps) p = rw (parts-snoc ps p) refl

-- the numbers of n components
abbrev pub parts_of : List ℕ → ℕ → List ℕ → List Part
parts_of buffer n rows = map part_of (map (described_component buffer) (each_row asked_component component_width n rows))

-- the loop that puts the numbers of n components' rows: j of them are put, and the next stands at `at`
pub record Putting (buffer rows : List ℕ) (n : ℕ) (out : List ℕ) (at j : ℕ) : Type 0 where
  pub at_row : at ≡ component_width * j
  pub within : j ≤ n
  pub room : length out ≡ 64
  pub so_far : take (4 * j) out ≡ part_rows (parts_of buffer j rows)

module _ {buffer rows : List ℕ} {n : ℕ} where
  pub none-put : {out : List ℕ} → length out ≡ 64 → Putting buffer rows n out 0 0
  unfolding each_row part_rows
  none-put room = record { at_row = refl; within = omega arith; room = room; so_far = refl }

  module _ {out : List ℕ} {at j : ℕ} (w : Putting buffer rows n out at j) where
    pub all-put : n ≤ j → take (4 * n) out ≡ part_rows (parts_of buffer n rows)
    all-put h = let z : j ≡ n = (let k = w.within in omega (arith, h, k)) in rw z at w.so_far

    abbrev this : Part
    this = the_part buffer (drop (component_width * j) rows)

    one-part-more : parts_of buffer (j + 1) rows ≡ parts_of buffer j rows ++ this ∷ []
    unfolding each_row
    one-part-more =
        rw (some-rows asked_component component_width j 1 rows, map_snoc (described_component buffer) (each_row asked_component component_width j rows) (asked_component (drop (component_width * j) rows)))
        (map_snoc part_of (map (described_component buffer) (each_row asked_component component_width j rows)) (described_component buffer (asked_component (drop (component_width * j) rows))))

    -- `put_part` was lent the row to the end of all rows
    module _ (few : n ≤ 16) (more : j < n) {out' : List ℕ} (put : out' ≡ put_part out j (the_part buffer (take (length rows - at) (drop at rows)))) where
      put-this : out' ≡ put_part out j this
      put-this = put ∙ ap (λ (row : List ℕ). put_part out j (the_part buffer row)) (part_to_end rows at ∙ ap (λ (k : ℕ). drop k rows) w.at_row)

      so-many : take (4 * (j + 1)) out' ≡ part_rows (parts_of buffer (j + 1) rows)
      unfolding part_row
      so-many =
          let z : 4 * (j + 1) ≡ 4 * suc j = omega arith in
          rw (put-this, z, one-part-more, parts-snoc (parts_of buffer j rows) this, ← w.so_far)
          (row-after out w.room j (position role_names this.called) (unit_code this) (flag (plain this)) this.size (omega (arith, few, more)))

      pub one-more-put : Putting buffer rows n out' (at + component_width) (j + 1)
      one-more-put = record {
        at_row = (let k = w.at_row in omega (arith, k));
        within = omega (arith, more);
        room = ap length put-this ∙ row-length out w.room j (position role_names this.called) (unit_code this) (flag (plain this)) this.size;
        so_far = so-many;
      }

-- ---- the rules of a format

pub used-parts : (n : ℕ) (parts : List ℕ) → length parts ≡ 64 → n ≤ 16 → 4 * n ≡ length (take (4 * n) parts)
used-parts n parts room few = sym (length-take-le (4 * n) parts (omega (arith, room, few)))

-- judged by the code of a format, by the row's shape as it is lent, and by the parts that were put
pub ruled-so : (buffer row rows format : List ℕ) (n : ℕ) {code : ℕ} → code ≡ position format_names format → (parts : List ℕ) → take (4 * n) parts ≡ part_rows (parts_of buffer n rows) → (r : Result (Unit {0}) ObjectFault)
    → ((f : List ℕ) (cs : List Part) → code ≡ position format_names f → take (4 * n) parts ≡ part_rows cs → format_rules f (take (shape_column + get_or row rank_column 0 - shape_column) (drop shape_column row)) cs ≡ in_object r)
    → format_rules format (asked_object row).shape (parts_of buffer n rows) ≡ in_object r
unfolding asked_object
ruled-so buffer row rows format n coded parts put r judged =
    let z : get_or row rank_column 0 ≡ shape_column + get_or row rank_column 0 - shape_column = omega arith in
    ap (λ (k : ℕ). format_rules format (take k (drop shape_column row)) (parts_of buffer n rows)) z ∙ judged format (parts_of buffer n rows) coded put
