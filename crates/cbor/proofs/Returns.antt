-- What each return says, by the facts that stand there: tests, and what the functions that were called ensure. Assumes nothing.
use Prim.Native.Nat.{ℕ, suc, ◌+◌, ◌-◌, ◌*◌, ◌/◌, ◌%◌, ◌≤◌, ◌<◌}
use native.Mathlib.Omega.{arith}
use mathlib.Core.List.{List}
use mathlib.Core.Bool.{false}
use mathlib.Core.Logic.{⊎_elim}
use mathlib.Core.Path.{◌≡◌, sym, ap, ◌∙◌, subst}
use lib.ListN.{length, get_or, take, drop}
use borrow.Author.Rules.{part_to_end}
use Rattle.meaning.specs.Read.{to_break, chunk}
use Rattle.meaning.proofs.ReadPrefix.{chunk-exact, chunk-hungry}
use Rattle.endian.specs.Word.{word}
use Rattle.endian.proofs.Laws.{word-one, word-eight}
use Rattle.endian.proofs.Which.{eq-or}
use Rattle.cbor.specs.Ending.{FAULT, code, ending, shift, item_end, head_of, argued, endless, string_end, broken, rest, HolderIs, held, doubled, SizeIs, StringIs, PlainIs, Counted, holds}
use Rattle.cbor.specs.declared.Argued.{Argued}
use Rattle.cbor.specs.declared.Holding.{Holding}
use Rattle.cbor.proofs.Heads as heads
use Rattle.cbor.proofs.Ends.{shift_zero, fine-ending}
use Rattle.cbor.proofs.Rest as due
use Rattle.cbor.proofs.Majors as majors
use Rattle.cbor.proofs.FirstByte as first
use Rattle.cbor.proofs.Loops as loops

-- what a slice of bytes that is lent is: it has less than 2 ^ 63
abbrev pub Lent : List ℕ → Type 0
Lent s = length s * 1 < FAULT

room : (s : List ℕ) → Lent s → length s < FAULT
room s o = omega arith

abbrev part : ℕ → List ℕ → List ℕ
part i s = take (length s - i) (drop i s)

head-of-all : (s : List ℕ) {h : Argued} → h ≡ head_of (part 0 s) → h ≡ head_of s
head-of-all s e = e ∙ ap head_of (part_to_end s 0)

ends-by-head : (s : List ℕ) {h : Argued} {r : ℕ} → h ≡ head_of (part 0 s) → r ≡ string_end (length s) h.size h.value → r ≡ string_end (length s) (head_of s).size (head_of s).value
ends-by-head s eh er = er ∙ ap (λ h. string_end (length s) h.size h.value) (head-of-all s eh)

-- ---- an item of no bytes, and one of all of them

pub no_bytes : (d : ℕ) (s : List ℕ) → length s ≡ 0 → FAULT + 6 ≡ code (item_end d s)
no_bytes d s e = ap code (sym (due.never-empty d s e))

pub all-of-it : (d : ℕ) (s : List ℕ) {r : ℕ} → r ≡ code (item_end d (part 0 s)) → r ≡ code (item_end d s)
all-of-it d s e = e ∙ ap (λ x. code (item_end d x)) (part_to_end s 0)

pub one-item : (d : ℕ) (s : List ℕ) {r : ℕ} → r ≡ code (rest 0 1 d (part 0 s)) → r ≡ code (item_end d s)
one-item d s e = e ∙ ap (λ x. code (rest 0 1 d x)) (part_to_end s 0) ∙ ap code (due.one-due d s)

-- ---- a head

module _ (s : List ℕ) {r : Argued} where
  pub head-none : length s ≡ 0 → r ≡ argued 0 (FAULT + 6) → r ≡ head_of s
  head-none l e = e ∙ heads.head-none s l

  pub head_small : (length s ≡ 0 → ⊥) → {i : ℕ} → i ≡ get_or s 0 0 % 32 → i < 24 → r ≡ argued i 1 → r ≡ head_of s
  head_small l {i} is h e = e ∙ heads.head_small s i (omega arith) is h

  module _ {low : ℕ} (is : low ≡ get_or s 0 0 % 32) (some : 1 ≤ length s) where
    pub one-missing : low ≡ 24 → length s < 2 → r ≡ argued 0 (FAULT + 6) → r ≡ head_of s
    one-missing w l e = e ∙ heads.head-short 1 24 heads.is-24 s (omega arith) (omega arith) some (omega arith)

    pub one-there : low ≡ 24 → 2 ≤ length s → {v : ℕ} → v ≡ get_or s 1 0 → r ≡ argued v 2 → r ≡ head_of s
    one-there w l ev e = e ∙ ap (λ v. argued v 2) (ev ∙ sym (word-one s 1)) ∙ heads.head-fits 1 24 heads.is-24 s (omega arith) (omega arith) (omega arith)

    pub two-missing : low ≡ 25 → length s < 3 → r ≡ argued 0 (FAULT + 6) → r ≡ head_of s
    two-missing w l e = e ∙ heads.head-short 2 25 heads.is-25 s (omega arith) (omega arith) some (omega arith)

    pub two-there : low ≡ 25 → 3 ≤ length s → {v : ℕ} → v ≡ word 2 s 1 0 → r ≡ argued v 3 → r ≡ head_of s
    two-there w l ev e = e ∙ ap (λ v. argued v 3) ev ∙ heads.head-fits 2 25 heads.is-25 s (omega arith) (omega arith) (omega arith)

    pub head-open : low ≡ 31 → r ≡ argued endless 1 → r ≡ head_of s
    head-open w e = e ∙ heads.head-open s (omega arith) some

    pub head-wrong : (low ≡ 31 → ⊥) → 27 < low → r ≡ argued 0 (FAULT + 6) → r ≡ head_of s
    head-wrong n h e = e ∙ heads.head-wrong s low is h n some

    module _ (above : 24 ≤ low) (not24 : low ≡ 24 → ⊥) (not25 : low ≡ 25 → ⊥) (most : low ≤ 27) where
      pub four-missing : length s < 5 → r ≡ argued 0 (FAULT + 6) → r ≡ head_of s
      four-missing l e =
          e ∙ ⊎_elim (λ q. heads.head-short 4 26 heads.is-26 s (omega arith) (omega arith) some (omega arith))
          (λ q. heads.head-short 8 27 heads.is-27 s (omega arith) (omega arith) some (omega arith)) (eq-or low 26)

      pub eight-missing : (low ≡ 26 → ⊥) → length s < 9 → r ≡ argued 0 (FAULT + 6) → r ≡ head_of s
      eight-missing n l e = e ∙ heads.head-short 8 27 heads.is-27 s (omega arith) (omega arith) some (omega arith)

      pub eight-there : (low ≡ 26 → ⊥) → 9 ≤ length s → {x y : ℕ} → x ≡ word 4 s 1 0 → y ≡ word 4 s 5 0 → r ≡ argued (x * 4294967296 + y) 9 → r ≡ head_of s
      eight-there n l ex ey e = e ∙ ap (λ v. argued v 9) (omega (arith, word-eight s 1)) ∙ heads.head-fits 8 27 heads.is-27 s (omega arith) (omega arith) (omega arith)

    pub four-there : low ≡ 26 → 5 ≤ length s → {v : ℕ} → v ≡ word 4 s 1 0 → r ≡ argued v 5 → r ≡ head_of s
    four-there w l ev e = e ∙ ap (λ v. argued v 5) ev ∙ heads.head-fits 4 26 heads.is-26 s (omega arith) (omega arith) (omega arith)

-- ---- the head of a number, by its first byte

module _ (b : ℕ) where
  pub size-24 : b ≡ 24 → SizeIs b 2
  size-24 e = rw e (first.wide-size 1 24 heads.is-24 (omega arith) (omega arith))

  pub size-25 : b ≡ 25 → SizeIs b 3
  size-25 e = rw e (first.wide-size 2 25 heads.is-25 (omega arith) (omega arith))

  pub size-26 : b ≡ 26 → SizeIs b 5
  size-26 e = rw e (first.wide-size 4 26 heads.is-26 (omega arith) (omega arith))

  pub size-27 : b < 28 → 24 ≤ b → (b ≡ 24 → ⊥) → (b ≡ 25 → ⊥) → (b ≡ 26 → ⊥) → SizeIs b 9
  size-27 l h x y z = let e : b ≡ 27 = omega arith in rw e (first.wide-size 8 27 heads.is-27 (omega arith) (omega arith))

-- ---- a chunk of a string

module _ (s : List ℕ) (m : ℕ) (some : length s ≡ 0 → ⊥) {q : ℕ} (is : q ≡ get_or s 0 0 / 32) where
  pub chunk-other : (q ≡ m → ⊥) → FAULT + 6 ≡ code (ending s (chunk m s))
  chunk-other n = first.chunk-other s m (omega arith) (λ e. n (is ∙ e))

  module _ (so : q ≡ m) {l : ℕ} (low : l ≡ get_or s 0 0 % 32) where
    pub chunk-open : l ≡ 31 → FAULT + 6 ≡ code (ending s (chunk m s))
    chunk-open e = first.chunk-open s m (omega arith) (sym is ∙ so) (sym low ∙ e)

    pub chunk-ends : (l ≡ 31 → ⊥) → Lent s → {h : Argued} {r : ℕ} → h ≡ head_of (part 0 s) → r ≡ string_end (length s) h.size h.value → r ≡ code (ending s (chunk m s))
    chunk-ends n o eh er = ends-by-head s eh er ∙ first.chunk-ends s m (omega arith) (room s o) (sym is ∙ so) (λ e. n (low ∙ e))

-- ---- the loop over the chunks of a string, at `at`

pub record Chunked (m : ℕ) (s : List ℕ) (at : ℕ) : Type 0 where
  pub inside : at ≤ length s
  pub so_far : ending s (to_break (chunk m) s) ≡ shift at (ending (drop at s) (to_break (chunk m) (drop at s)))

pub chunked-none : {m : ℕ} {s : List ℕ} → Chunked m s 0
chunked-none {m} {s} = record { inside = omega arith; so_far = sym (shift_zero (ending s (to_break (chunk m) s))) }

module _ {m : ℕ} {s : List ℕ} {at : ℕ} (w : Chunked m s at) (o : Lent s) where
  pub break-here : at < length s → get_or s at 0 ≡ 255 → at + 1 ≡ code (ending s (to_break (chunk m) s))
  break-here h e = loops.until-here (chunk m) (chunk-exact m) (chunk-hungry m) (majors.chunks_exact m) s (room s o) at w.inside w.so_far h e

  pub break-missing : length s ≤ at → FAULT + 6 ≡ code (ending s (to_break (chunk m) s))
  break-missing h = loops.until-missing (chunk m) (chunk-exact m) (chunk-hungry m) (majors.chunks_exact m) s (room s o) at w.inside w.so_far h

  module _ {r : ℕ} (is : r ≡ code (ending (part at s) (chunk m (part at s)))) where
    at_rest : r ≡ code (ending (drop at s) (chunk m (drop at s)))
    at_rest = is ∙ ap (λ x. code (ending x (chunk m x))) (part_to_end s at)

    pub chunk-shortens : r ≤ length s - at → at < length s → length s - (at + r) < length s - at
    chunk-shortens k h = omega (arith, loops.takes-a-byte (chunk m) (chunk-exact m) (chunk-hungry m) s (room s o) at w.inside r at_rest k)

    module _ (h : at < length s) (n : get_or s at 0 ≡ 255 → ⊥) where
      pub chunk-refused : length s - at < r → r ≡ code (ending s (to_break (chunk m) s))
      chunk-refused k = loops.until-stops (chunk m) (chunk-exact m) (chunk-hungry m) (majors.chunks_exact m) s (room s o) at w.inside w.so_far h n r at_rest k

      pub chunk-passed : r ≤ length s - at → Chunked m s (at + r)
      chunk-passed k = record {
        inside = (let l = w.inside in omega arith);
        so_far = loops.until-goes-on (chunk m) (chunk-exact m) (chunk-hungry m) (majors.chunks_exact m) s (room s o) at w.inside w.so_far h n r at_rest k;
      }

-- ---- a string

module _ (s : List ℕ) (d : ℕ) (x : 64 ≤ get_or s 0 0) (y : get_or s 0 0 < 128) (some : length s ≡ 0 → ⊥) (o : Lent s) {l : ℕ} (low : l ≡ get_or s 0 0 % 32) where
  pub string-ends : (l ≡ 31 → ⊥) → {h : Argued} {r : ℕ} → h ≡ head_of (part 0 s) → r ≡ string_end (length s) h.size h.value → r ≡ code (item_end (suc d) s)
  string-ends n eh er = ends-by-head s eh er ∙ first.string-ends s d (omega arith) x y (room s o) (λ e. n (low ∙ e))

  module _ (opens : l ≡ 31) {q r : ℕ} (major : q ≡ get_or s 0 0 / 32) (is : r ≡ code (ending (part 1 s) (to_break (chunk q) (part 1 s)))) where
    at-rest-of : r ≡ code (ending (drop 1 s) (to_break (chunk (get_or s 0 0 / 32)) (drop 1 s)))
    at-rest-of = is ∙ ap (λ p. code (ending p (to_break (chunk q) p))) (part_to_end s 1) ∙ ap (λ m. code (ending (drop 1 s) (to_break (chunk m) (drop 1 s)))) major

    item-is : item_end (suc d) s ≡ shift 1 (ending (drop 1 s) (to_break (chunk (get_or s 0 0 / 32)) (drop 1 s)))
    item-is = first.string-opens s d (omega arith) x y (sym low ∙ opens)

    pub chunks-refused : length s - 1 < r → r ≡ code (item_end (suc d) s)
    chunks-refused k = loops.later-fails s (room s o) 1 (omega arith) (ending (drop 1 s) (to_break (chunk (get_or s 0 0 / 32)) (drop 1 s))) (fine-ending (drop 1 s) (to_break (chunk (get_or s 0 0 / 32)) (drop 1 s))) r at-rest-of k ∙ ap code (sym item-is)

    pub chunks-end : r ≤ length s - 1 → r + 1 ≡ code (item_end (suc d) s)
    chunks-end k =
        let z : r + 1 ≡ 1 + r = omega arith in
        z ∙ loops.later-ends s (room s o) 1 (omega arith) (ending (drop 1 s) (to_break (chunk (get_or s 0 0 / 32)) (drop 1 s))) (fine-ending (drop 1 s) (to_break (chunk (get_or s 0 0 / 32)) (drop 1 s))) r at-rest-of k ∙ ap code (sym item-is)

pub plain-string : (s : List ℕ) (d : ℕ) {r : ℕ} → StringIs (part 0 s) r → 64 ≤ get_or s 0 0 → get_or s 0 0 < 128 → r ≡ code (item_end (suc d) s)
plain-string s d {r} is x y = subst (λ p. StringIs p r) (part_to_end s 0) is d x y

-- ---- an item that holds no other: `none` says that its first byte begins no string

module _ (s : List ℕ) (none : 64 ≤ get_or s 0 0 → get_or s 0 0 < 128 → ⊥) (some : length s ≡ 0 → ⊥) {l : ℕ} (low : l ≡ get_or s 0 0 % 32) where
  pub scalar-open : (d : ℕ) → holds (get_or s 0 0) ≡ false → l ≡ 31 → FAULT + 6 ≡ code (item_end (suc d) s)
  scalar-open d u e = first.scalar-open s d (omega arith) (first.scalar (get_or s 0 0) u none) (sym low ∙ e)

  pub scalar-ends : (l ≡ 31 → ⊥) → get_or s 0 0 < 256 → (get_or s 0 0 ≡ 248 → ⊥) → {h : Argued} → h ≡ head_of (part 0 s) → PlainIs s h.size
  scalar-ends n byte other is = first.plain_value s (omega arith) is none (λ e. n (low ∙ e)) (λ x y. absurd (omega arith))

-- a simple value in a second byte
module _ (s : List ℕ) (b : get_or s 0 0 ≡ 248) (some : length s ≡ 0 → ⊥) {h : Argued} (is : h ≡ head_of (part 0 s)) where
  pub simple-reserved : h.value < 32 → PlainIs s (FAULT + 6)
  simple-reserved m = first.plain-reserved s (omega arith) is b m

  pub simple-ends : 32 ≤ h.value → PlainIs s h.size
  simple-ends m = first.plain_value s (omega arith) is (λ x y. absurd (omega arith)) (λ e. omega arith) (λ x y. m)

-- ---- short text and numbers, without a loop

module _ (left : ℕ) (s : List ℕ) (deep : 0 < left) {r : ℕ} where
  pub short-text : (length s ≡ 0 → ⊥) → Lent s → 96 ≤ get_or s 0 0 → get_or s 0 0 < 120 → {i : ℕ} → i ≡ get_or s 0 0 % 32 → r ≡ string_end (length s) 1 i → r ≡ code (item_end left s)
  short-text some o a b {i} ei e = e ∙ first.short-text left s deep (omega arith) (room s o) a b i ei

  pub byte-text : 2 ≤ length s → Lent s → get_or s 0 0 ≡ 120 → {i : ℕ} → i ≡ get_or s 1 0 → r ≡ string_end (length s) 2 i → r ≡ code (item_end left s)
  byte-text some o b {i} ei e = e ∙ first.byte-text left s deep some (room s o) b i ei

  pub number-ends : (length s ≡ 0 → ⊥) → get_or s 0 0 < 28 → (n : ℕ) → SizeIs (get_or s 0 0) n → r ≡ string_end (length s) n 0 → r ≡ code (item_end left s)
  number-ends some b n is e = e ∙ first.number-ends left s deep (omega arith) b n is

-- ---- an array, a map or a tag

module _ (s : List ℕ) (o : Lent s) {r : Holding} where
  pub none-held : length s ≡ 0 → r ≡ held (FAULT + 6) 0 0 → HolderIs s r
  none-held l e = rw e (majors.never-holds s (room s o) (λ d q. due.never-empty (suc d) s l))

  module _ (some : length s ≡ 0 → ⊥) where
    pub open-tag-held : get_or s 0 0 ≡ 223 → r ≡ held (FAULT + 6) 0 0 → HolderIs s r
    open-tag-held b e = rw e (majors.never-holds s (room s o) (λ d q. first.open-tag-refused s (omega arith) (room s o) (omega arith) (omega arith) (omega arith) d))

    module _ {h : Argued} (is : h ≡ head_of (part 0 s)) where
      pub tag-held : 192 ≤ get_or s 0 0 → (get_or s 0 0 ≡ 223 → ⊥) → r ≡ held h.size 1 0 → HolderIs s r
      tag-held b n e = rw (e, head-of-all s is) (first.tag-holds s (omega arith) (room s o) b n)

      pub open-array-held : get_or s 0 0 ≡ 159 → r ≡ held h.size h.value 1 → HolderIs s r
      open-array-held b e = rw (e, head-of-all s is) (first.open-array-holds s (omega arith) (room s o) b)

      pub array-held : get_or s 0 0 < 160 → (get_or s 0 0 ≡ 159 → ⊥) → r ≡ held h.size h.value 0 → HolderIs s r
      array-held b n e = rw (e, head-of-all s is) (first.array-holds s (omega arith) (room s o) b n)

      pub open-map-held : get_or s 0 0 ≡ 191 → r ≡ held h.size h.value 2 → HolderIs s r
      open-map-held b e = rw (e, head-of-all s is) (first.open-map-holds s (omega arith) (room s o) b)

      pub map-held : 160 ≤ get_or s 0 0 → get_or s 0 0 < 192 → (get_or s 0 0 ≡ 191 → ⊥) → {n : ℕ} → n ≡ doubled h.value → r ≡ held h.size n 0 → HolderIs s r
      map-held x y n en e = rw (e, en, head-of-all s is) (first.map-holds s (omega arith) (room s o) x y n)

-- ---- items where no level is left

module _ (mode n : ℕ) (s : List ℕ) (more : n ≡ 0 → ⊥) where
  pub due-missing : length s ≡ 0 → FAULT + 6 ≡ code (rest mode n 0 s)
  due-missing e = ap code (sym (due.rest-ends-early 0 mode n s (omega arith) e))

  module _ (some : length s ≡ 0 → ⊥) where
    pub due-breaks : get_or s 0 0 ≡ 255 → {r : ℕ} → r ≡ code (shift 0 (broken mode n)) → r ≡ code (rest mode n 0 s)
    due-breaks b e = e ∙ ap code (shift_zero _ ∙ sym (due.rest-breaks 0 mode n s (omega arith) (omega arith) b))

    pub due-deep : (get_or s 0 0 ≡ 255 → ⊥) → FAULT + 7 ≡ code (rest mode n 0 s)
    due-deep b = ap code (sym (due.rest-stops 0 mode n s 7 (omega arith) (omega arith) b (due.never-deep s (omega arith) b)))

-- ---- the loop over items that are due, at `at` with `due` of them to go

pub record Items (mode count left : ℕ) (s : List ℕ) (at due : ℕ) : Type 0 where
  pub deep : 1 ≤ left
  pub inside : at ≤ length s
  pub small : due < 18446744073709551616
  pub unmet : 1 ≤ mode → endless ≤ due + at
  pub so_far : rest mode count left s ≡ shift at (rest mode due left (drop at s))

pub no-level : (mode count : ℕ) (s : List ℕ) {left r : ℕ} → left ≡ 0 → r ≡ code (rest mode count 0 (part 0 s)) → r ≡ code (rest mode count left s)
no-level mode count s z e = rw z (e ∙ ap (λ x. code (rest mode count 0 x)) (part_to_end s 0))

pub none_yet : {mode count left : ℕ} {s : List ℕ} → (left ≡ 0 → ⊥) → Counted mode count → count < 18446744073709551616 → Items mode count left s 0 count
none_yet {mode} {count} {left} {s} d c l =
    record { deep = omega arith; inside = omega arith; small = l; unmet = λ h. omega (arith, c h); so_far = sym (shift_zero (rest mode count left s)) }

pub all-passed : {mode count left : ℕ} {s : List ℕ} {at due : ℕ} → Items mode count left s at due → Lent s → due ≤ 0 → at ≡ code (rest mode count left s)
all-passed {mode} {count} {left} {s} {at} {due} w o z = loops.all-passed mode count left s (room s o) at due w.inside w.unmet w.so_far (omega arith)

module _ {mode count left : ℕ} {s : List ℕ} {at n : ℕ} (w : Items mode count left s at n) where
  module _ (o : Lent s) (more : 0 < n) where
    pub bytes-missing : length s ≤ at → FAULT + 6 ≡ code (rest mode count left s)
    bytes-missing h = loops.due-missing mode count left s (room s o) at n w.so_far more h

    pub at-break : at < length s → get_or s at 0 ≡ 255 → {r : ℕ} → r ≡ code (shift at (broken mode n)) → r ≡ code (rest mode count left s)
    at-break h b e = e ∙ loops.due-breaks mode count left s (room s o) at n w.so_far more h b

  -- an item of n was passed, up to `to`
  turned : {to : ℕ} → 0 < n → to ≤ length s → at < to → rest mode count left s ≡ shift to (rest mode (n - 1) left (drop to s)) → Items mode count left s to (n - 1)
  turned more x y z = let l = w.small in record { deep = w.deep; inside = x; small = omega arith; unmet = λ h. omega (arith, w.unmet h); so_far = z }

  -- an array, a map or a tag
  module _ (o : Lent s) (more : 0 < n) (h : at < length s) (no : get_or s at 0 ≡ 255 → ⊥) {r : Holding} (is : HolderIs (part at s) r) (x : 128 ≤ get_or s at 0) (y : get_or s at 0 < 224) where
    there : HolderIs (drop at s) r
    there = subst (λ l. HolderIs l r) (part_to_end s at) is

    pub head-refused : length s - at < r.size → FAULT + 6 ≡ code (rest mode count left s)
    head-refused k = loops.head-refused mode count left s (room s o) at n w.so_far more w.deep h no r there (loops.holds-others (get_or s at 0) x y) k

    module _ (fits : r.size ≤ length s - at) {q : ℕ} (inner : q ≡ code (rest r.mode r.count (left - 1) (part (at + r.size) s))) where
      inside_of : q ≡ code (rest r.mode r.count (left - 1) (drop (at + r.size) s))
      inside_of = inner ∙ ap (λ l. code (rest r.mode r.count (left - 1) l)) (part_to_end s (at + r.size))

      pub holder-stops : length s - (at + r.size) < q → q ≡ code (rest mode count left s)
      holder-stops k = loops.holder-stops mode count left s (room s o) at n w.so_far more w.deep h no r there (loops.holds-others (get_or s at 0) x y) fits q inside_of k

      module _ (k : q ≤ length s - (at + r.size)) where
        turn : loops.Turned mode count left s (room s o) at n w.so_far more w.deep h no (at + r.size + q)
        turn = loops.holder-passes mode count left s (room s o) at n w.so_far more w.deep h no r there (loops.holds-others (get_or s at 0) x y) fits q inside_of k

        pub holder-shortens : length s - (at + r.size + q) < length s - at
        holder-shortens = omega (arith, turn.further-on, turn.within)

        pub holder-passes : Items mode count left s (at + r.size + q) (n - 1)
        holder-passes = turned more turn.within turn.further-on turn.then

  -- any other item
  module _ (none : 128 ≤ get_or s at 0 → get_or s at 0 < 224 → ⊥) (o : Lent s) (more : 0 < n) (h : at < length s) (no : get_or s at 0 ≡ 255 → ⊥) {r : ℕ} (is : PlainIs (part at s) r) where
    plainly : PlainIs (drop at s) r
    plainly = subst (λ l. PlainIs l r) (part_to_end s at) is

    pub plain-stops : length s - at < r → r ≡ code (rest mode count left s)
    plain-stops k = loops.plain-stops mode count left s (room s o) at n w.so_far more w.deep h no r plainly (loops.holds-none (get_or s at 0) none) k

    module _ (k : r ≤ length s - at) where
      turn-plainly : loops.Turned mode count left s (room s o) at n w.so_far more w.deep h no (at + r)
      turn-plainly = loops.plain_passes mode count left s (room s o) at n w.so_far more w.deep h no r plainly (loops.holds-none (get_or s at 0) none) k

      pub plain-shortens : length s - (at + r) < length s - at
      plain-shortens = omega (arith, turn-plainly.further-on, turn-plainly.within)

      pub plain_passes : Items mode count left s (at + r) (n - 1)
      plain_passes = turned more turn-plainly.within turn-plainly.further-on turn-plainly.then
