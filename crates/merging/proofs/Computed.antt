-- Merges that are computed: each refusal stands in its order, the premises of Request 13's laws are met, and where a premise is left out the bytes differ.
use Prim.Native.Nat.{ℕ}
use native.Mathlib.Omega.{arith}
use mathlib.Core.List.{List, [], ◌∷◌}
use mathlib.Core.Path.{◌≡◌, refl, ap}
use lib.ListN.{length}
use Rattle.meaning.specs.Refusal.{SHORT, TWICE}
use Rattle.meaning.specs.Check.{pass}
use Rattle.meaning.specs.Layouts.{current, old}
use Rattle.meaning.specs.Described.{Described}
use Rattle.meaning.specs.WrittenFile.{file_of}
use Rattle.meaning.specs.Write.{written, written_by}
use Rattle.meaning.specs.Computed.{computed}
use Rattle.cases.specs.Old.{plain_example}
use Rattle.roundtrip.specs.Again.{plain_file}
use Rattle.merging.specs.Merge.{or_else, merged, rows_room, done, refused, short, about, merge_into, merge}
use Rattle.merging.specs.Anew.{anew, empty_file}
use Rattle.merging.specs.Instances.{say_v, say_w, say_x, say_old, say_no_object, buffer, some_rows, no_span}

abbrev v : List ℕ
v = plain_file say_v

abbrev w : List ℕ
w = plain_file say_w

abbrev x : List ℕ
x = plain_file say_x

-- ---- answers

-- 56 numbers of rows; the first's attributes are kept, though they are empty
pub both-in-one : merge current w current x 56 1000 ≡ done (plain_file (merged say_w say_x))
unfolding computed or_else merged plain_file rows_room about merge_into merge
both-in-one = refl

-- a row's number too few
pub short-of-rows : merge current w current x 55 1000 ≡ short (length (plain_file (merged say_w say_x)))
unfolding computed or_else merged plain_file rows_room about merge_into merge
short-of-rows = refl

-- a shared name, though there is no room at all
pub shared-name : merge current w current w 0 0 ≡ refused 0 TWICE 0 0
unfolding computed or_else merged plain_file rows_room about merge_into merge
shared-name = refl

pub first-first : merge current [] current [] 0 0 ≡ refused 1 SHORT 0 0
unfolding computed about merge_into merge
first-first = refl

pub second-second : merge current empty_file current [] 0 0 ≡ refused 2 SHORT 0 0
unfolding computed about merge_into merge
second-second = refl

pub empty-twice : merge current empty_file current empty_file 0 48 ≡ done empty_file
unfolding computed or_else merged plain_file rows_room about merge_into merge
empty-twice = refl

pub a-byte-short : merge current empty_file current empty_file 0 47 ≡ short 48
unfolding computed or_else merged plain_file rows_room about merge_into merge
a-byte-short = refl

-- ---- grouping: w, a file of layout 1.0, and x. All four merges are accepted

abbrev both : Described → Described → List ℕ
both a b = plain_file (merged a b)

pub left-between : merge current w old plain_example 56 1000 ≡ done (both say_w say_old)
unfolding computed or_else merged plain_file rows_room about merge_into merge
left-between = refl

pub right-between : merge old plain_example current x 56 1000 ≡ done (both say_old say_x)
unfolding computed or_else merged plain_file rows_room about merge_into merge
right-between = refl

pub left-grouped : merge current (both say_w say_old) current x 84 1000 ≡ done (both say_w (merged say_old say_x))
unfolding computed or_else merged plain_file rows_room about merge_into merge
left-grouped = refl

pub right-grouped : merge current w current (both say_old say_x) 84 1000 ≡ done (both say_w (merged say_old say_x))
unfolding computed or_else merged plain_file rows_room about merge_into merge
right-grouped = refl

-- grouping, not order: where both have attributes, the second before the first is another file
pub order-matters : both say_w say_x ≡ both say_x say_w → ⊥
unfolding computed or_else merged plain_file
order-matters e = let l : length (both say_w say_x) ≡ length (both say_x say_w) = ap length e in omega (arith, l)

-- ---- the empty file

-- a file that our writer wrote
pub wrote : written some_rows 1 1 no_span buffer 1000 ≡ pass v
unfolding computed plain_file
wrote = refl

pub nothing-before-it : merge current empty_file current v 28 1000 ≡ done v
unfolding computed or_else merged plain_file rows_room about merge_into merge
nothing-before-it = refl

pub nothing-after-it : merge current v current empty_file 28 1000 ≡ done v
unfolding computed or_else merged plain_file rows_room about merge_into merge
nothing-after-it = refl

-- with a plan, it is another file, and the empty one changes it into that of the rule
abbrev planned : List ℕ
planned = file_of say_v (128 ∷ [])

pub wrote-planned : written_by some_rows 1 1 no_span buffer (128 ∷ []) 1000 1000 ≡ pass planned
unfolding computed
wrote-planned = refl

pub planned-changes : merge current empty_file current planned 28 1000 ≡ done v
unfolding computed or_else merged plain_file rows_room about merge_into merge
planned-changes = refl

pub planned-differs : v ≡ planned → ⊥
unfolding computed plain_file
planned-differs e = let l : length v ≡ length planned = ap length e in omega (arith, l)

-- without objects but with attributes, it isn't the empty file: before a file with other attributes it changes them
pub attributes-change : merge current (plain_file say_no_object) current x 28 1000 ≡ done (both say_no_object say_x)
unfolding computed or_else merged plain_file rows_room about merge_into merge
attributes-change = refl

pub attributes-differ : both say_no_object say_x ≡ x → ⊥
unfolding computed or_else merged plain_file
attributes-differ e = let l : length (both say_no_object say_x) ≡ length x = ap length e in omega (arith, l)

-- ---- read and written

pub once : anew old plain_example [] 1000 ≡ pass (plain_file say_old)
unfolding computed plain_file anew
once = refl

pub twice : anew current (plain_file say_old) [] 1000 ≡ pass (plain_file say_old)
unfolding computed plain_file anew
twice = refl

-- once is not the file itself
pub once-differs : plain_file say_old ≡ plain_example → ⊥
unfolding computed plain_file
once-differs e = let l : length (plain_file say_old) ≡ length plain_example = ap length e in omega (arith, l)
