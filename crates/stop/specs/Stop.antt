-- How many bytes are left where a reading is refused, in terms of the meaning's own reading.
use Rattle.std.specs.Prelude.{ℕ, suc, ◌%◌, ◌≤◌, ◌<◌, List, [], ◌∷◌, false, cond, ◌≡◌, length, get_or, leb, Result, Ok, Err}
use Rattle.meaning.specs.Read.{Reader, refused, item, chunk, to_break, no_note}
use Rattle.cbor.specs.Ending.{took, FAULT, item_end, head_of, holds, HolderIs}
use Rattle.cbor.specs.declared.Argued.{Argued}
use Rattle.cbor.specs.declared.Holding.{Holding}
use Rattle.stop.specs.declared.Begun.{Begun}
use Rattle.stop.specs.declared.Begun.TheVariants.{Ended, Holds}

-- whatever a reader refuses s for, r bytes are left there
abbrev pub LeftBy : {A : Type 0} → Reader A → List ℕ → ℕ → Type 0
LeftBy m s r = (n : ℕ) (q : List ℕ) → m s ≡ refused n q → r ≡ length q

abbrev pub PlainStops : List ℕ → ℕ → Type 0
PlainStops s r = (d : ℕ) → holds (get_or s 0 0) ≡ false → LeftBy (item no_note (suc d)) s r

-- the major types of strings
pub data OfString : ℕ → Type 0 where
  byte_strings : OfString 2
  text_strings : OfString 3

abbrev pub ChunksStop : ℕ → List ℕ → ℕ → Type 0
ChunksStop major s r = LeftBy (to_break (chunk major)) s r

-- the low five bits from 28 on are met at the head's first byte; any other head that is refused was cut off
unfoldable pub head_left : List ℕ → ℕ
head_left [] = 0
head_left (b ∷ t) = cond (leb 28 (b % 32)) (length (b ∷ t)) 0

-- a reader refuses s, and k bytes are left there
pub record Refuses {A : Type 0} (m : Reader A) (s : List ℕ) (k : ℕ) : Type 0 where
  pub number : ℕ
  pub at : List ℕ
  pub is : m s ≡ refused number at
  pub left : k ≡ length at

-- how an item ends that begins s where d levels are left
abbrev pub Reaches : ℕ → List ℕ → Result ℕ ℕ → Type 0
Reaches d s (Ok n) = item_end d s ≡ took n
Reaches d s (Err k) = Refuses (item no_note d) s k

-- an item of r bytes, if there are so many
abbrev pub Light : ℕ → List ℕ → ℕ → Type 0
Light d s r = r ≤ length s → item_end d s ≡ took r

-- whatever begins with b and has the head h holds r
pub record Inside (b : ℕ) (h : Argued) (r : Holding) : Type 0 where
  pub size_is : r.size ≡ h.size
  pub holds-it : (s : List ℕ) → 1 ≤ length s → length s < FAULT → get_or s 0 0 ≡ b → head_of s ≡ h → HolderIs s r

-- s begins with an item that holds r: its head is whole, and it is no tag of indefinite length
pub record Opens (d : ℕ) (s : List ℕ) (r : Holding) : Type 0 where
  pub level : 0 < d
  pub size_is : r.size ≡ (head_of s).size
  pub within : r.size ≤ length s
  pub low : 128 ≤ get_or s 0 0
  pub high : get_or s 0 0 < 224
  pub closed : get_or s 0 0 ≡ 223 → ⊥
  pub holder : HolderIs s r

-- how it begins
abbrev pub Begins : ℕ → List ℕ → Begun → Type 0
Begins d s (Ended r) = Reaches d s r
Begins d s (Holds r) = Opens d s r
