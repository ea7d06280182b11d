-- Document 01, "Types and lengths": storage types with code and width, logical types with the storage that they need and their ratio.
use Rattle.std.specs.Prelude.{ℕ, suc, ◌*◌, List, [], ◌∷◌, Bool, true, cond, get_or, eqb}
use Rattle.std.proofs.Math.Option.{Option, none, some}
use Rattle.meaning.specs.Text.{ascii, same}

pub record Storage : Type 0 where
  pub called : List ℕ
  pub width : ℕ

abbrev stored : List ℕ → ℕ → Storage
stored n w = record { called = n; width = w }

-- the code of each is its place in this list
unfoldable pub storages : List Storage
storages =
    stored (ascii "f64") 8 ∷ stored (ascii "f32") 4 ∷ stored (ascii "f16") 2 ∷ stored (ascii "bf16") 2
    ∷ stored (ascii "i64") 8 ∷ stored (ascii "i32") 4 ∷ stored (ascii "i16") 2 ∷ stored (ascii "i8") 1
    ∷ stored (ascii "u64") 8 ∷ stored (ascii "u32") 4 ∷ stored (ascii "u16") 2 ∷ stored (ascii "u8") 1
    ∷ stored (ascii "bool") 1 ∷ []

-- the place of a name in a list of names, counted from i on
unfoldable pub code_from : ℕ → List (List ℕ) → List ℕ → Option ℕ
code_from i [] n = none
code_from i (s ∷ ss) n = let r = code_from (suc i) ss n in cond (same s n) (some i) r

unfoldable pub storage_of : ℕ → Storage
storage_of c = get_or storages c (stored [] 0)

unfoldable pub width_of : ℕ → ℕ
width_of c = (storage_of c).width

-- codes that the rules name
unfoldable pub f64 : ℕ
f64 = 0

unfoldable pub f32 : ℕ
f32 = 1

unfoldable pub u64 : ℕ
u64 = 8

unfoldable pub u8 : ℕ
u8 = 11

-- a listed logical type: the storage that it needs, and the numbers that stand for one element
pub record Logical : Type 0 where
  pub called : List ℕ
  pub needs : ℕ
  pub ratio : ℕ

abbrev logical : List ℕ → ℕ → ℕ → Logical
logical n d r = record { called = n; needs = d; ratio = r }

unfoldable pub logicals : List Logical
logicals =
    logical (ascii "f8_e4m3fn") u8 1 ∷ logical (ascii "f8_e5m2") u8 1 ∷ logical (ascii "f8_e4m3fnuz") u8 1 ∷ logical (ascii "f8_e5m2fnuz") u8 1
    ∷ logical (ascii "complex64") f32 2 ∷ logical (ascii "complex128") f64 2 ∷ []

unfoldable pub listed : List Logical → List ℕ → Option Logical
listed [] n = none
listed (l ∷ ls) n = let r = listed ls n in cond (same l.called n) (some l) r

-- may a component of storage d have this type? Types that are not listed may stand over any.
unfoldable pub fits_over : ℕ → Option Logical → Bool
fits_over d none = true
fits_over d (some l) = eqb l.needs d

-- a type that is not listed has no ratio (02, Req 03)
unfoldable pub ratio_of : Option Logical → Option ℕ
ratio_of none = none
ratio_of (some l) = some l.ratio

-- without a type, a number is an element
unfoldable pub type_ratio : Option (List ℕ) → Option ℕ
type_ratio none = some 1
type_ratio (some w) = ratio_of (listed logicals w)

-- the product of a shape, exact; 1 for an empty one
unfoldable pub product : List ℕ → ℕ
product [] = 1
product (n ∷ ns) = n * product ns
