-- What passing over bytes answers, in terms of the meaning's own reading: how many bytes it took, or the refusal; and both as one number.
use Rattle.std.specs.Prelude.{ℕ, zero, suc, ◌+◌, ◌-◌, ◌%◌, ◌≤◌, ◌<◌, List, [], ◌∷◌, Bool, true, false, cond, ◌&&◌, ◌≡◌, length, get_or, drop, eqb, leb, ltb}
use Rattle.meaning.specs.Read.{Outcome, got, refused, ◌>>=◌, Argument, known, indefinite, argument, info_of, times, to_break, pair, item, no_note}
use Rattle.numbers.specs.declared.refusal.Refusal.{Refusal}
use Rattle.numbers.specs.declared.refusal.Refusal.TheVariants as refusals
use Rattle.cbor.specs.declared.Argued.{Argued}
use Rattle.cbor.specs.declared.Holding.{Holding}

pub data Ending : Type 0 where
  took : ℕ → Ending
  fault : ℕ → Ending

-- 2 ^ 63: above the length of every slice
abbrev pub FAULT : ℕ
FAULT = 9_223_372_036_854_775_808

abbrev pub code : Ending → ℕ
code (took n) = n
code (fault n) = FAULT + n

-- why an item is refused whose code this is
unfoldable pub refusal_of : ℕ → Refusal
refusal_of r = cond (eqb r (FAULT + 7)) refusals.Deep refusals.Cbor

-- how a reading of s ended
abbrev pub ending : {A : Type 0} → List ℕ → Outcome A → Ending
ending s (got a r) = took (length s - length r)
ending s (refused n q) = fault n

-- an ending of what begins k bytes further on
abbrev pub shift : ℕ → Ending → Ending
shift k (took n) = took (k + n)
shift k (fault n) = fault n

abbrev pub argued : ℕ → ℕ → Argued
argued v k = record { value = v; size = k }

-- 2 ^ 64 − 1 stands for an indefinite length
abbrev pub endless : ℕ
endless = 18_446_744_073_709_551_615

abbrev pub headed : Outcome Argument → Argued
headed (got (known w n) r) = argued n (w + 1)
headed (got indefinite r) = argued endless 1
headed (refused n q) = argued 0 (FAULT + n)

unfoldable pub head_of : List ℕ → Argued
head_of [] = argued 0 (FAULT + 6)
head_of (b ∷ s) = headed (argument [] (info_of b) s)

-- where a definite string ends
unfoldable pub string_end : ℕ → ℕ → ℕ → ℕ
string_end len size value = cond (leb (size + value) len) (size + value) (FAULT + 6)

-- an array, a map or a tag
abbrev pub holds : ℕ → Bool
holds b = leb 128 b && ltb b 224

-- how an item at the start of s ends where d levels are left
abbrev pub item_end : ℕ → List ℕ → Ending
item_end d s = ending s (item no_note d s)

-- of an item that is a string, or none that holds others
abbrev pub StringIs : List ℕ → ℕ → Type 0
StringIs s r = (d : ℕ) → 64 ≤ get_or s 0 0 → get_or s 0 0 < 128 → r ≡ code (item_end (suc d) s)

abbrev pub PlainIs : List ℕ → ℕ → Type 0
PlainIs s r = (d : ℕ) → holds (get_or s 0 0) ≡ false → r ≡ code (item_end (suc d) s)

-- items that are still due: n of them (mode 0); those up to a break (1); keys and values up to a break (2), a key where n is odd
unfoldable pub rest : ℕ → ℕ → ℕ → List ℕ → Ending
rest zero n d s = ending s (times (item no_note d) n s)
rest (suc zero) n d s = ending s (to_break (item no_note d) s)
rest (suc (suc m)) n d s =
    cond (eqb (n % 2) 0)
    (ending s ((item no_note d >>= λ v. to_break (pair no_note (item no_note d))) s))
    (ending s (to_break (pair no_note (item no_note d)) s))

-- up to a break, the count is never met
abbrev pub Counted : ℕ → ℕ → Type 0
Counted mode n = 1 ≤ mode → n ≡ endless

-- the break byte where n are due
unfoldable pub broken : ℕ → ℕ → Ending
broken zero n = fault 6
broken (suc zero) n = took 1
broken (suc (suc m)) n = cond (eqb (n % 2) 0) (fault 6) (took 1)

abbrev pub held : ℕ → ℕ → ℕ → Holding
held size count mode = record { size = size; count = count; mode = mode }

unfoldable pub doubled : ℕ → ℕ
doubled n = cond (ltb n 4_611_686_018_427_387_904) (n + n) FAULT

pub record HolderIs (s : List ℕ) (r : Holding) : Type 0 where
  pub counted : Counted r.mode r.count
  pub inside : r.size ≤ length s → holds (get_or s 0 0) ≡ true → (d : ℕ) → item_end (suc d) s ≡ shift r.size (rest r.mode r.count d (drop r.size s))
  pub outside : length s < r.size → holds (get_or s 0 0) ≡ true → (d : ℕ) → item_end (suc d) s ≡ fault 6

-- a head that begins with b takes n bytes, or ends early
abbrev pub SizeIs : ℕ → ℕ → Type 0
SizeIs b n = (s : List ℕ) → 1 ≤ length s → get_or s 0 0 ≡ b → string_end (length s) n 0 ≡ (head_of s).size
