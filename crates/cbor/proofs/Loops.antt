-- Loops over a slice: what was passed up to `at`, and what one turn makes of it. For parts up to a break, and for items that are due.
use Prim.Native.Nat.{ℕ, zero, suc, ◌+◌, ◌-◌, ◌≤◌, ◌<◌}
use native.Mathlib.Omega.{arith}
use mathlib.Core.List.{List, []}
use mathlib.Core.Bool.{true, false}
use mathlib.Core.Logic.{⊎_elim}
use mathlib.Core.Path.{◌≡◌, refl, ap, sym, ◌∙◌}
use lib.ListN.{length, get_or, drop, length-drop}
use lib.Seq.{drop-drop, get_or-drop}
use borrow.Author.Tests.{le-leb, lt-leb, lt-ltb, le-ltb}
use Rattle.meaning.specs.Read.{Reader, to_break, item, no_note}
use Rattle.meaning.proofs.ReadPrefix.{still, Exact, Hungry, item-exact, item-hungry}
use Rattle.endian.proofs.Which.{lt-or}
use Rattle.cbor.specs.declared.Holding.{Holding}
use Rattle.cbor.specs.Ending.{Ending, took, fault, FAULT, code, ending, shift, item_end, rest, broken, endless, holds, HolderIs, PlainIs}
use Rattle.cbor.proofs.Ends.{Fine, fine-ending, shift-shift, is-took, is-fault, got-what, break-goes-on, break-stops, break-here, break-missing}
use Rattle.cbor.proofs.Rest as due

first_of : (s : List ℕ) (at : ℕ) → get_or (drop at s) 0 0 ≡ get_or s at 0
first_of s at = let z : at + 0 ≡ at = omega arith in get_or-drop at s 0 0 ∙ ap (λ i. get_or s i 0) z

module _ (s : List ℕ) (at : ℕ) where
  some_left : at < length s → 1 ≤ length (drop at s)
  some_left l = omega (arith, length-drop at s)

  none_left : length s ≤ at → length (drop at s) ≡ 0
  none_left l = omega (arith, length-drop at s)

  not_first : (get_or s at 0 ≡ 255 → ⊥) → get_or (drop at s) 0 0 ≡ 255 → ⊥
  not_first n e = n (sym (first_of s at) ∙ e)

-- an ending of what begins k bytes further on, by the number that it answers
module _ (s : List ℕ) (room : length s < FAULT) (k : ℕ) (l : k ≤ length s) (e : Ending) (fine : Fine (drop k s) e) (r : ℕ) (is : r ≡ code e) where
  pub later-takes : r ≤ length s - k → e ≡ took r
  later-takes h = is-took (drop k s) (omega (arith, length-drop k s)) r e fine is (omega (arith, length-drop k s))

  pub later-fails : length s - k < r → r ≡ code (shift k e)
  later-fails h = let f = is-fault (drop k s) (omega (arith, length-drop k s)) r e fine is (omega (arith, length-drop k s)) in f.coded ∙ ap (λ e. code (shift k e)) (sym f.is)

  pub later-ends : r ≤ length s - k → k + r ≡ code (shift k e)
  later-ends h = ap (λ e. code (shift k e)) (sym (later-takes h))

-- one reading at `at`, by the number that it answers
module _ {A : Type 0} (m : Reader A) (exact : Exact (still m)) (hungry : Hungry (still m)) (s : List ℕ) (room : length s < FAULT) (at : ℕ) (l : at ≤ length s)
    (r : ℕ) (is : r ≡ code (ending (drop at s) (m (drop at s)))) where
  short : length (drop at s) < FAULT
  short = omega (arith, length-drop at s)

  pub passes : r ≤ length s - at → ending (drop at s) (m (drop at s)) ≡ took r
  passes h = is-took (drop at s) short r (ending (drop at s) (m (drop at s))) (fine-ending (drop at s) (m (drop at s))) is (omega (arith, length-drop at s))

  pub takes-a-byte : r ≤ length s - at → 1 ≤ r
  takes-a-byte h =
      let p = got-what m exact (drop at s) r (passes h) in
      omega (arith, hungry [] (drop at s) p.value (drop r (drop at s)) p.is, length-drop r (drop at s))

  pub record Fails : Type 0 where
    pub number : ℕ
    pub is-fault : ending (drop at s) (m (drop at s)) ≡ fault number
    pub coded : r ≡ FAULT + number

  pub fails : length s - at < r → Fails
  fails h =
      let f = is-fault (drop at s) short r (ending (drop at s) (m (drop at s))) (fine-ending (drop at s) (m (drop at s))) is (omega (arith, length-drop at s)) in
      record { number = f.number; is-fault = f.is; coded = f.coded }

-- parts up to a break
module _ {A : Type 0} (m : Reader A) (exact : Exact (still m)) (hungry : Hungry (still m)) (all : Exact (still (to_break m))) (s : List ℕ) where
  module _ (room : length s < FAULT) (at : ℕ) (l : at ≤ length s) (inv : ending s (to_break m s) ≡ shift at (ending (drop at s) (to_break m (drop at s)))) where
    pub until-here : at < length s → get_or s at 0 ≡ 255 → at + 1 ≡ code (ending s (to_break m s))
    until-here h e = ap code (sym (inv ∙ ap (shift at) (break-here m exact hungry all (drop at s) (some_left s at h) (first_of s at ∙ e))))

    pub until-missing : length s ≤ at → FAULT + 6 ≡ code (ending s (to_break m s))
    until-missing h = ap code (sym (inv ∙ ap (shift at) (break-missing m exact hungry all (drop at s) (none_left s at h))))

    module _ (h : at < length s) (n : get_or s at 0 ≡ 255 → ⊥) (r : ℕ) (is : r ≡ code (ending (drop at s) (m (drop at s)))) where
      pub until-stops : length s - at < r → r ≡ code (ending s (to_break m s))
      until-stops k =
          let f = fails m exact hungry s room at l r is k in
          f.coded ∙ ap code (sym (inv ∙ ap (shift at) (break-stops m exact hungry all (drop at s) f.number (some_left s at h) (not_first s at n) f.is-fault)))

      pub until-goes-on : r ≤ length s - at → ending s (to_break m s) ≡ shift (at + r) (ending (drop (at + r) s) (to_break m (drop (at + r) s)))
      until-goes-on k =
          inv ∙ ap (shift at) (break-goes-on m exact hungry all (drop at s) r (some_left s at h) (not_first s at n) (passes m exact hungry s room at l r is k))
          ∙ shift-shift at r (ending (drop r (drop at s)) (to_break m (drop r (drop at s))))
          ∙ ap (λ x. shift (at + r) (ending x (to_break m x))) (drop-drop r at s)

-- items that are due
module _ (mode count d : ℕ) (s : List ℕ) (room : length s < FAULT) (at n : ℕ) (inv : rest mode count d s ≡ shift at (rest mode n d (drop at s))) (some : 0 < n) where
  pub due-missing : length s ≤ at → FAULT + 6 ≡ code (rest mode count d s)
  due-missing h = ap code (sym (inv ∙ ap (shift at) (due.rest-ends-early d mode n (drop at s) some (none_left s at h))))

  pub due-breaks : at < length s → get_or s at 0 ≡ 255 → code (shift at (broken mode n)) ≡ code (rest mode count d s)
  due-breaks h e = ap code (sym (inv ∙ ap (shift at) (due.rest-breaks d mode n (drop at s) some (some_left s at h) (first_of s at ∙ e))))

  module _ (h : at < length s) (no : get_or s at 0 ≡ 255 → ⊥) where
    pub due-stops : (c : ℕ) → item_end d (drop at s) ≡ fault c → rest mode count d s ≡ fault c
    due-stops c e = inv ∙ ap (shift at) (due.rest-stops d mode n (drop at s) c some (some_left s at h) (not_first s at no) e)

    pub due-goes-on : (k : ℕ) → item_end d (drop at s) ≡ took k → rest mode count d s ≡ shift (at + k) (rest mode (n - 1) d (drop (at + k) s))
    due-goes-on k e =
        inv ∙ ap (shift at) (due.rest-goes-on d mode n (drop at s) k some (some_left s at h) (not_first s at no) e)
        ∙ shift-shift at k (rest mode (n - 1) d (drop k (drop at s)))
        ∙ ap (λ x. shift (at + k) (rest mode (n - 1) d x)) (drop-drop k at s)

pub holds-others : (b : ℕ) → 128 ≤ b → b < 224 → holds b ≡ true
holds-others b l h = rw (le-leb 128 b l, lt-ltb b 224 h)

pub holds-none : (b : ℕ) → (128 ≤ b → b < 224 → ⊥) → holds b ≡ false
holds-none b n = ⊎_elim (λ l. rw (lt-leb 128 b l)) (λ l. rw (le-leb 128 b l, ⊎_elim (λ h. absurd (n l h)) (λ h. le-ltb b 224 h) (lt-or b 224))) (lt-or b 128)

-- one turn over an item that is due, at a byte that isn't the break; `left` levels are left, one at least
module _ (mode count left : ℕ) (s : List ℕ) (room : length s < FAULT) (at n : ℕ) (inv : rest mode count left s ≡ shift at (rest mode n left (drop at s)))
    (some : 0 < n) (deep : 1 ≤ left) (h : at < length s) (no : get_or s at 0 ≡ 255 → ⊥) where
  level : item_end left (drop at s) ≡ item_end (suc (left - 1)) (drop at s)
  level = let z : suc (left - 1) ≡ left = omega arith in ap (λ d. item_end d (drop at s)) (sym z)

  -- an item passed
  pub record Turned (to : ℕ) : Type 0 where
    pub within : to ≤ length s
    pub further-on : at < to
    pub then : rest mode count left s ≡ shift to (rest mode (n - 1) left (drop to s))

  turned : (k : ℕ) → item_end left (drop at s) ≡ took k → (to : ℕ) → to ≡ at + k → Turned to
  turned k e to z =
      let p = got-what (item no_note left) (item-exact left) (drop at s) k e in
      let f = item-hungry left [] (drop at s) p.value (drop k (drop at s)) p.is in
      record {
        within = omega (arith, p.within, length-drop at s);
        further-on = omega (arith, f, length-drop k (drop at s));
        then = rw z (due-goes-on mode count left s room at n inv some h no k e);
      }

  -- an array, a map or a tag
  module _ (r : Holding) (is : HolderIs (drop at s) r) (yes : holds (get_or s at 0) ≡ true) where
    holding : holds (get_or (drop at s) 0 0) ≡ true
    holding = ap holds (first_of s at) ∙ yes

    pub head-refused : length s - at < r.size → FAULT + 6 ≡ code (rest mode count left s)
    head-refused k = ap code (sym (due-stops mode count left s room at n inv some h no 6 (level ∙ is.outside (omega (arith, length-drop at s)) holding (left - 1))))

    module _ (fits : r.size ≤ length s - at) (q : ℕ) (inner : q ≡ code (rest r.mode r.count (left - 1) (drop (at + r.size) s))) where
      ends : item_end left (drop at s) ≡ shift r.size (rest r.mode r.count (left - 1) (drop (at + r.size) s))
      ends =
          level ∙ is.inside (omega (arith, length-drop at s)) holding (left - 1)
          ∙ ap (λ x. shift r.size (rest r.mode r.count (left - 1) x)) (drop-drop r.size at s)

      fine : Fine (drop (at + r.size) s) (rest r.mode r.count (left - 1) (drop (at + r.size) s))
      fine = due.rest-fine (left - 1) r.mode r.count (drop (at + r.size) s)

      pub holder-stops : length s - (at + r.size) < q → q ≡ code (rest mode count left s)
      holder-stops k =
          let f = is-fault (drop (at + r.size) s) (omega (arith, length-drop (at + r.size) s)) q (rest r.mode r.count (left - 1) (drop (at + r.size) s)) fine inner (omega (arith, length-drop (at + r.size) s)) in
          f.coded ∙ ap code (sym (due-stops mode count left s room at n inv some h no f.number (ends ∙ ap (shift r.size) f.is)))

      pub holder-passes : q ≤ length s - (at + r.size) → Turned (at + r.size + q)
      holder-passes k =
          let e = is-took (drop (at + r.size) s) (omega (arith, length-drop (at + r.size) s)) q (rest r.mode r.count (left - 1) (drop (at + r.size) s)) fine inner (omega (arith, length-drop (at + r.size) s)) in
          turned (r.size + q) (ends ∙ ap (shift r.size) e) (at + r.size + q) (omega arith)

  -- any other item
  module _ (r : ℕ) (is : PlainIs (drop at s) r) (not : holds (get_or s at 0) ≡ false) where
    answers : r ≡ code (item_end left (drop at s))
    answers = is (left - 1) (ap holds (first_of s at) ∙ not) ∙ ap code (sym level)

    pub plain-stops : length s - at < r → r ≡ code (rest mode count left s)
    plain-stops k =
        let f = fails (item no_note left) (item-exact left) (item-hungry left) s room at (omega arith) r answers k in
        f.coded ∙ ap code (sym (due-stops mode count left s room at n inv some h no f.number f.is-fault))

    pub plain_passes : r ≤ length s - at → Turned (at + r)
    plain_passes k = turned r (passes (item no_note left) (item-exact left) (item-hungry left) s room at (omega arith) r answers k) (at + r) refl

-- no item is due any more
pub all-passed : (mode count d : ℕ) (s : List ℕ) → length s < FAULT → (at n : ℕ) → at ≤ length s → (1 ≤ mode → endless ≤ n + at)
    → rest mode count d s ≡ shift at (rest mode n d (drop at s)) → n ≡ 0 → at ≡ code (rest mode count d s)
all-passed zero count d s room at n l c inv z =
    let y : at + 0 ≡ at = omega arith in
    sym (ap code (inv ∙ ap (λ n. shift at (rest 0 n d (drop at s))) z ∙ ap (shift at) (due.none-due d (drop at s))) ∙ y)
all-passed (suc m) count d s room at n l c inv z = absurd (omega (arith, c (omega arith)))
