-- The laws of Majors, by the first byte of any list that has one.
use Prim.Native.Nat.{ℕ, zero, suc, ◌+◌, ◌-◌, ◌/◌, ◌%◌, ◌≤◌, ◌<◌}
use native.Mathlib.Omega.{arith}
use mathlib.Core.List.{List, [], ◌∷◌}
use mathlib.Core.Bool.{Bool, true, false, ◌&&◌}
use mathlib.Core.Path.{◌≡◌, refl, ap, sym, ◌∙◌}
use lib.Dec.{leb, ltb}
use borrow.Author.Tests.{leb-true, ltb-true, le-leb, lt-ltb}
use borrow.Author.Rules.{part_to_end}
use lib.ListN.{length, get_or, take, drop}
use Rattle.meaning.specs.Read.{to_break, chunk, long_arguments, malformed, wide}
use Rattle.cbor.specs.Ending.{fault, FAULT, code, ending, shift, item_end, head_of, string_end, holds, PlainIs, HolderIs, held, doubled, Counted, SizeIs}
use Rattle.cbor.specs.declared.Argued.{Argued}
use Rattle.cbor.specs.declared.Holding.{Holding}
use Rattle.cbor.proofs.Heads.{head_small, head-fits, head-short, is-24}
use Rattle.cbor.proofs.Answers.{string-fits, string-short}
use Rattle.cbor.proofs.Majors as majors
use Rattle.cbor.proofs.Majors.{Scalar, low, high}
use Rattle.endian.proofs.Which.{lt-or}
use Rattle.endian.proofs.Laws.{word-one}
use mathlib.Core.Logic.{⊎_elim}

pub chunk-other : (s : List ℕ) (m : ℕ) → 1 ≤ length s → (get_or s 0 0 / 32 ≡ m → ⊥) → FAULT + 6 ≡ code (ending s (chunk m s))
chunk-other [] m l n = absurd (omega arith)
chunk-other (b ∷ t) m l n = majors.chunk-other m b t n

pub chunk-open : (s : List ℕ) (m : ℕ) → 1 ≤ length s → get_or s 0 0 / 32 ≡ m → get_or s 0 0 % 32 ≡ 31 → FAULT + 6 ≡ code (ending s (chunk m s))
chunk-open [] m l e n = absurd (omega arith)
chunk-open (b ∷ t) m l e n = majors.chunk-open m b t e n

pub chunk-ends : (s : List ℕ) (m : ℕ) → 1 ≤ length s → length s < FAULT → get_or s 0 0 / 32 ≡ m → (get_or s 0 0 % 32 ≡ 31 → ⊥) → string_end (length s) (head_of s).size (head_of s).value ≡ code (ending s (chunk m s))
chunk-ends [] m l r e n = absurd (omega arith)
chunk-ends (b ∷ t) m l r e n = majors.chunk-ends m b t r e n

-- a first byte that neither begins a string nor holds others
pub scalar : (b : ℕ) → holds b ≡ false → (64 ≤ b → b < 128 → ⊥) → Scalar b
scalar b h n = ⊎_elim low (λ l. high (upper l)) (lt-or b 64)
  where
    upper : 64 ≤ b → 224 ≤ b
    upper l = ⊎_elim (λ k. absurd (n l k)) (λ k. ⊎_elim (λ u. absurd (both k u)) (λ u. u) (lt-or b 224)) (lt-or b 128)
      where
        both : 128 ≤ b → b < 224 → ⊥
        both k u = let z : holds b ≡ true = rw (le-leb 128 b k, lt-ltb b 224 u) in let y : ◌≡◌ {A = ℕ} 0 1 = cc in omega arith

pub scalar-ends : (s : List ℕ) (d : ℕ) → 1 ≤ length s → Scalar (get_or s 0 0) → (get_or s 0 0 % 32 ≡ 31 → ⊥) → (224 ≤ get_or s 0 0 → get_or s 0 0 % 32 ≡ 24 → 32 ≤ (head_of s).value) → (head_of s).size ≡ code (item_end (suc d) s)
scalar-ends [] d l k n m = absurd (omega arith)
scalar-ends (b ∷ t) d l k n m = majors.scalar-ends d b t k n m

-- a simple value below 32 in a second byte
pub scalar-reserved : (s : List ℕ) (d : ℕ) → 1 ≤ length s → get_or s 0 0 ≡ 248 → (head_of s).value < 32 → FAULT + 6 ≡ code (item_end (suc d) s)
scalar-reserved [] d l k m = absurd (omega arith)
scalar-reserved (b ∷ t) d l k m = majors.scalar-reserved d b t (omega arith) (omega arith) m

pub scalar-open : (s : List ℕ) (d : ℕ) → 1 ≤ length s → Scalar (get_or s 0 0) → get_or s 0 0 % 32 ≡ 31 → FAULT + 6 ≡ code (item_end (suc d) s)
scalar-open [] d l k n = absurd (omega arith)
scalar-open (b ∷ t) d l k n = majors.scalar-open d b t k n

-- an item that holds no other, of which the head was read from the part that is all of s
module _ (s : List ℕ) {h : Argued} (l : 1 ≤ length s) (read : h ≡ head_of (take (length s - 0) (drop 0 s))) where
  is : h ≡ head_of s
  is = read ∙ ap head_of (part_to_end s 0)

  pub plain_value : (64 ≤ get_or s 0 0 → get_or s 0 0 < 128 → ⊥) → (get_or s 0 0 % 32 ≡ 31 → ⊥) → (224 ≤ get_or s 0 0 → get_or s 0 0 % 32 ≡ 24 → 32 ≤ h.value) → PlainIs s h.size
  plain_value n o m d u = ap (λ a. a.size) is ∙ scalar-ends s d l (scalar (get_or s 0 0) u n) o (λ x y. let z = ap (λ a. a.value) is in let q = m x y in omega arith)

  pub plain-reserved : get_or s 0 0 ≡ 248 → h.value < 32 → PlainIs s (FAULT + 6)
  plain-reserved e m d u = scalar-reserved s d l e (let z = ap (λ a. a.value) is in omega arith)

pub string-ends : (s : List ℕ) (d : ℕ) → 1 ≤ length s → 64 ≤ get_or s 0 0 → get_or s 0 0 < 128 → length s < FAULT → (get_or s 0 0 % 32 ≡ 31 → ⊥) → string_end (length s) (head_of s).size (head_of s).value ≡ code (item_end (suc d) s)
string-ends [] d l x y r n = absurd (omega arith)
string-ends (b ∷ t) d l x y r n = majors.string-ends d b t x y r n

pub string-opens : (s : List ℕ) (d : ℕ) → 1 ≤ length s → 64 ≤ get_or s 0 0 → get_or s 0 0 < 128 → get_or s 0 0 % 32 ≡ 31 → item_end (suc d) s ≡ shift 1 (ending (drop 1 s) (to_break (chunk (get_or s 0 0 / 32)) (drop 1 s)))
string-opens [] d l x y n = absurd (omega arith)
string-opens (b ∷ t) d l x y n = majors.string-opens d b t x y n

-- a first byte that holds others is from 128 to 223
pub record Holder (b : ℕ) : Type 0 where
  pub low : 128 ≤ b
  pub high : b < 224

holder : (b : ℕ) → holds b ≡ true → Holder b
holder b = go (leb 128 b) (ltb b 224) refl refl
  where
    go : (t u : Bool) → leb 128 b ≡ t → ltb b 224 ≡ u → (t && u) ≡ true → Holder b
    go true true e f h = record { low = leb-true 128 b e; high = ltb-true b 224 f }
    go true false e f h = absurd (let z : ◌≡◌ {A = ℕ} 0 1 = cc in omega arith)
    go false u e f h = absurd (let z : ◌≡◌ {A = ℕ} 0 1 = cc in omega arith)

-- so what is said of a holder may take that for granted
module _ (s : List ℕ) (r : Holding) where
  where-it-holds : Counted r.mode r.count → (Holder (get_or s 0 0) → HolderIs s r) → HolderIs s r
  where-it-holds c h = record { counted = c; inside = λ k q d. (h (holder (get_or s 0 0) q)).inside k q d; outside = λ k q d. (h (holder (get_or s 0 0) q)).outside k q d }

pub array-holds : (s : List ℕ) → 1 ≤ length s → length s < FAULT → get_or s 0 0 < 160 → (get_or s 0 0 ≡ 159 → ⊥) → HolderIs s (held (head_of s).size (head_of s).value 0)
array-holds [] l r x n = absurd (omega arith)
array-holds (b ∷ t) l r x n = where-it-holds (b ∷ t) (held (head_of (b ∷ t)).size (head_of (b ∷ t)).value 0) (λ k. absurd (omega arith)) λ h. majors.array-holds b t r h.low x (λ e. omega arith)

pub open-array-holds : (s : List ℕ) → 1 ≤ length s → length s < FAULT → get_or s 0 0 ≡ 159 → HolderIs s (held (head_of s).size (head_of s).value 1)
open-array-holds [] l r x = absurd (omega arith)
open-array-holds (b ∷ t) l r x = majors.open-array-holds b t r (omega arith) (omega arith) (omega arith)

pub map-holds : (s : List ℕ) → 1 ≤ length s → length s < FAULT → 160 ≤ get_or s 0 0 → get_or s 0 0 < 192 → (get_or s 0 0 ≡ 191 → ⊥) → HolderIs s (held (head_of s).size (doubled (head_of s).value) 0)
map-holds [] l r x y n = absurd (omega arith)
map-holds (b ∷ t) l r x y n = majors.map-holds b t r x y (λ e. omega arith)

pub open-map-holds : (s : List ℕ) → 1 ≤ length s → length s < FAULT → get_or s 0 0 ≡ 191 → HolderIs s (held (head_of s).size (head_of s).value 2)
open-map-holds [] l r x = absurd (omega arith)
open-map-holds (b ∷ t) l r x = majors.open-map-holds b t r (omega arith) (omega arith) (omega arith)

pub tag-holds : (s : List ℕ) → 1 ≤ length s → length s < FAULT → 192 ≤ get_or s 0 0 → (get_or s 0 0 ≡ 223 → ⊥) → HolderIs s (held (head_of s).size 1 0)
tag-holds [] l r x n = absurd (omega arith)
tag-holds (b ∷ t) l r x n = where-it-holds (b ∷ t) (held (head_of (b ∷ t)).size 1 0) (λ k. absurd (omega arith)) λ h. majors.tag-holds b t r x h.high (λ e. omega (arith, h.high))

pub open-tag-refused : (s : List ℕ) → 1 ≤ length s → length s < FAULT → 192 ≤ get_or s 0 0 → get_or s 0 0 < 224 → get_or s 0 0 % 32 ≡ 31 → (d : ℕ) → item_end (suc d) s ≡ fault 6
open-tag-refused [] l r x y n = absurd (omega arith)
open-tag-refused (b ∷ t) l r x y n = majors.open-tag-refused b t r x y n

-- short text: its length stands in its first byte
pub short-text : (left : ℕ) (s : List ℕ) → 0 < left → 1 ≤ length s → length s < FAULT → 96 ≤ get_or s 0 0 → get_or s 0 0 < 120 → (i : ℕ) → i ≡ get_or s 0 0 % 32 → string_end (length s) 1 i ≡ code (item_end left s)
short-text zero s l k room a b i e = absurd (omega arith)
short-text (suc d) s l k room a b i e =
    ap (λ h. string_end (length s) h.size h.value) (head_small s i k e (omega arith)) ∙ string-ends s d k (omega arith) (omega arith) room (λ z. omega arith)

-- text whose length stands in one byte after it
pub byte-text : (left : ℕ) (s : List ℕ) → 0 < left → 2 ≤ length s → length s < FAULT → get_or s 0 0 ≡ 120 → (i : ℕ) → i ≡ get_or s 1 0 → string_end (length s) 2 i ≡ code (item_end left s)
byte-text zero s l k room b i e = absurd (omega arith)
byte-text (suc d) s l k room b i e =
    ap (string_end (length s) 2) (e ∙ sym (word-one s 1)) ∙ ap (λ h. string_end (length s) h.size h.value) (head-fits 1 24 is-24 s (omega arith) (omega arith) (omega arith))
    ∙ string-ends s d (omega arith) (omega arith) (omega arith) room (λ z. omega arith)

-- a number's head, in one byte or with an argument of w bytes
pub small_size : (b : ℕ) → b < 24 → SizeIs b 1
small_size b h s l e = sym (string-fits (length s) 1 0 (omega arith)) ∙ ap (λ a. a.size) (head_small s b l (omega arith) h)

pub wide-size : (w b : ℕ) → ((s : List ℕ) → get_or long_arguments (b - 24) malformed [] s ≡ wide w s) → 24 ≤ b → b < 28 → SizeIs b (w + 1)
wide-size w b is h k s l e = ⊎_elim
    (λ x. sym (string-short (length s) (w + 1) 0 (omega arith)) ∙ ap (λ a. a.size) (head-short w b is s (omega arith) h l (omega arith)))
    (λ x. sym (string-fits (length s) (w + 1) 0 (omega arith)) ∙ plain ∙ ap (λ a. a.size) (head-fits w b is s (omega arith) h (omega arith)))
    (lt-or (length s) (w + 1))
  where
    plain : w + 1 + 0 ≡ w + 1
    plain = omega arith

pub number-ends : (left : ℕ) (s : List ℕ) → 0 < left → 1 ≤ length s → get_or s 0 0 < 28 → (n : ℕ) → SizeIs (get_or s 0 0) n → string_end (length s) n 0 ≡ code (item_end left s)
number-ends zero s l k b n z = absurd (omega arith)
number-ends (suc d) s l k b n z = z s k refl ∙ scalar-ends s d k (low (omega arith)) (λ e. omega arith) (λ h e. absurd (omega arith))
