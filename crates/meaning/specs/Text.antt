-- Texts as lists of bytes: when two are the same, which stand in a list, and which are UTF-8 (RFC 3629, section 4).
use Rattle.std.specs.Prelude.{ℕ, List, [], ◌∷◌, Bool, true, false, cond, ◌&&◌, eqb, leb}
use Prim.Native.String.{String, [] as []ˢ, ◌∷◌ as ◌∷ˢ◌}
use Prim.Native.Char.{code}
use Rattle.std.proofs.Math.Option.{Option, none, some}

-- the bytes of a text written here
abbrev pub ascii : String → List ℕ
ascii []ˢ = []
ascii (c ∷ˢ s) = code c ∷ ascii s

abbrev pub same : List ℕ → List ℕ → Bool
same [] [] = true
same [] (y ∷ ys) = false
same (x ∷ xs) [] = false
same (x ∷ xs) (y ∷ ys) = eqb x y && same xs ys

abbrev pub one_of : List (List ℕ) → List ℕ → Bool
one_of [] x = false
one_of (y ∷ ys) x = cond (same y x) true (one_of ys x)

-- none stands twice
abbrev pub distinct : List (List ℕ) → Bool
distinct [] = true
distinct (x ∷ xs) = cond (one_of xs x) false (distinct xs)

module _ {A : Type 0} where
  abbrev pub all : (A → Bool) → List A → Bool
  all p [] = true
  all p (a ∷ as') = p a && all p as'

  abbrev pub filter : (A → Bool) → List A → List A
  filter p [] = []
  filter p (a ∷ as') = let r = filter p as' in cond (p a) (a ∷ r) r

pub record Range : Type 0 where
  pub low : ℕ
  pub high : ℕ

unfoldable pub within : ℕ → ℕ → ℕ → Bool
within l h b = leb l b && leb b h

unfoldable pub tail : Range
tail = record { low = 0x80; high = 0xbf }

-- the bytes that must follow a first byte
unfoldable pub follow : ℕ → Option (List Range)
follow b =
    cond (within 0 0x7f b) (some [])
    (cond (within 0xc2 0xdf b) (some (tail ∷ []))
    (cond (within 0xe0 0xe0 b) (some (record { low = 0xa0; high = 0xbf } ∷ tail ∷ []))
    (cond (within 0xed 0xed b) (some (record { low = 0x80; high = 0x9f } ∷ tail ∷ []))
    (cond (within 0xe1 0xef b) (some (tail ∷ tail ∷ []))
    (cond (within 0xf0 0xf0 b) (some (record { low = 0x90; high = 0xbf } ∷ tail ∷ tail ∷ []))
    (cond (within 0xf1 0xf3 b) (some (tail ∷ tail ∷ tail ∷ []))
    (cond (within 0xf4 0xf4 b) (some (record { low = 0x80; high = 0x8f } ∷ tail ∷ tail ∷ []))
    none)))))))

unfoldable pub following : List Range → List ℕ → Bool
following [] [] = true
following (r ∷ rs) [] = false
following [] (b ∷ s) = elim (follow b) [ none ↦ false | some rs ↦ following rs s ]
following (r ∷ rs) (b ∷ s) = elim (within r.low r.high b) [ true ↦ following rs s | false ↦ false ]

unfoldable pub utf8 : List ℕ → Bool
utf8 s = following [] s
