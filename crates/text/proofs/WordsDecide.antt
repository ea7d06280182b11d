-- Words of a part of a text, and what is known of its bytes. Assumes nothing.
use mathlib.Core.Path.{◌≡◌, refl, ◌∙◌}
use mathlib.Core.List.{List}
use Prim.Native.Nat.{ℕ, zero, suc, ◌+◌, ◌-◌, ◌*◌, ◌<◌}
use native.Mathlib.Omega.{arith}
use lib.ListN.{length, get_or, take, drop}
use lib.Seq.{get_or-drop}
use borrow.Author.Rules.{part_to_end}
use mir.Syntax.{w8}
use mir.Val.{Fits}
use Rattle.endian.specs.Word.{word}
use Rattle.text.specs.Order.{Agree}

word-drop : (k : ℕ) (s : List ℕ) (n i a : ℕ) → word k (drop n s) i a ≡ word k s (n + i) a
unfolding word
word-drop zero s n i a = refl
word-drop (suc k) s n i a = let z : n + suc i ≡ suc (n + i) = omega arith in rw (get_or-drop n s i 0) (word-drop k s n (suc i) (a * 256 + get_or s (n + i) 0) ∙ (rw z refl))

pub word-part : (k : ℕ) (s : List ℕ) (i : ℕ) → word k (take (length s - i) (drop i s)) 0 0 ≡ word k s i 0
word-part k s i = let z : i + 0 ≡ i = omega arith in rw (part_to_end s i) (word-drop k s i 0 0 ∙ (rw z refl))

-- every element is a byte
abbrev pub Bytes : List ℕ → Type 0
Bytes s = (i : ℕ) → get_or s i 0 < 256

-- what is known of a slice of them
abbrev pub Known : List ℕ → Type 0
Known s = (i : ℕ) → Fits w8 (get_or s i 0)

pub known_bytes : (s : List ℕ) → Known s → Bytes s
known_bytes s k i = omega (arith, k i)

pub agree-none : (s t : List ℕ) → Agree s t 0
agree-none s t = record { each = λ j l. absurd (omega arith) }
