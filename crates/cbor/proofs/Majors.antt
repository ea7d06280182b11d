-- Items by the major type of their first byte: how each ends, from its head and from what follows it.
use Prim.Native.Nat.{ℕ, zero, suc, ◌+◌, ◌-◌, ◌/◌, ◌%◌, ◌≤◌, ◌<◌}
use native.Mathlib.Omega.{arith}
use mathlib.Core.List.{List, [], ◌∷◌}
use mathlib.Core.Bool.{Bool, true, false, cond}
use mathlib.Core.Logic.{⊎_elim}
use mathlib.Core.Path.{◌≡◌, refl, ap, sym, ◌∙◌}
use lib.ListN.{length, get_or, drop, length-drop}
use lib.Dec.{ltb}
use borrow.Author.Tests.{eq-eqb, ne_eqb, le-leb, lt-leb, lt-ltb, ltb-false}
use Rattle.meaning.specs.Tree as tree
use Rattle.meaning.specs.Tree.{Node}
use Rattle.meaning.specs.Read as read
use Rattle.meaning.specs.Read.{got, refused, Reader, after, ◌>>=◌, Argument, known, indefinite, argument, info_of, major_of, content, item, no_note, times, to_break, chunk, pair, run, reserved}
use Rattle.meaning.proofs.ReadPrefix.{still, Exact, to_break-exact, chunk-exact, chunk-hungry, times-exact, pair-exact, item-exact, item-hungry}
use Rattle.meaning.proofs.ExactEvery.{not-reserved}
use Rattle.endian.proofs.Which.{lt-or}
use Rattle.cbor.specs.Ending.{Ending, took, fault, FAULT, code, ending, shift, item_end, headed, head_of, argued, endless, string_end, holds, rest, HolderIs, held, doubled}
use Rattle.cbor.proofs.Heads.{OneMore, Look, sized, loose, wrong, look, Refuses}
use Rattle.cbor.proofs.Ends.{ending-map, further}
use Rattle.cbor.proofs.Rest.{one-due, never_met, pairs-are-items, items-exact, pairs-exact}

-- the head, from what was looked at
module _ (b : ℕ) (t : List ℕ) where
  pub head-sized : (w n : ℕ) → ((o : List ℕ) → argument o (b % 32) t ≡ got (known w n) (drop w t)) → head_of (b ∷ t) ≡ argued n (w + 1)
  unfolding head_of info_of
  head-sized w n e = ap headed (e [])

  pub head-loose : ((o : List ℕ) → argument o (b % 32) t ≡ got indefinite t) → head_of (b ∷ t) ≡ argued endless 1
  unfolding head_of info_of
  head-loose e = ap headed (e [])

  pub head-refused : ((o : List ℕ) → Refuses (argument o (b % 32) t)) → head_of (b ∷ t) ≡ argued 0 (FAULT + 6)
  unfolding head_of info_of
  head-refused e = ap headed (e []).is

-- what follows the head of an item
module _ (d b : ℕ) (t : List ℕ) where
  opens : item no_note (suc d) (b ∷ t) ≡ after (argument (b ∷ t) (b % 32) t) (content no_note (item no_note d) (b ∷ t) (major_of b))
  unfolding item read.here read.byte info_of
  opens = refl

  item-sized : (w n : ℕ) → ((o : List ℕ) → argument o (b % 32) t ≡ got (known w n) (drop w t))
      → item no_note (suc d) (b ∷ t) ≡ content no_note (item no_note d) (b ∷ t) (major_of b) (known w n) (drop w t)
  item-sized w n e = opens ∙ ap (λ o. after o (content no_note (item no_note d) (b ∷ t) (major_of b))) (e (b ∷ t))

  item-loose : ((o : List ℕ) → argument o (b % 32) t ≡ got indefinite t) → item no_note (suc d) (b ∷ t) ≡ content no_note (item no_note d) (b ∷ t) (major_of b) indefinite t
  item-loose e = opens ∙ ap (λ o. after o (content no_note (item no_note d) (b ∷ t) (major_of b))) (e (b ∷ t))

  pub item_refused : ((o : List ℕ) → Refuses (argument o (b % 32) t)) → item_end (suc d) (b ∷ t) ≡ fault 6
  item_refused e = ap (ending (b ∷ t)) (opens ∙ ap (λ o. after o (content no_note (item no_note d) (b ∷ t) (major_of b))) (e (b ∷ t)).is)

-- where w bytes follow the initial byte
beyond-head : (b w : ℕ) (t : List ℕ) → w ≤ length t → length (b ∷ t) - length (drop w t) ≡ w + 1
beyond-head b w t l = omega (arith, length-drop w t)

-- ---------------------------------------------------------------- numbers, simple values, floats

-- a first byte below 64, or from 224 on
pub data Scalar (b : ℕ) : Type 0 where
  low : b < 64 → Scalar b
  high : 224 ≤ b → Scalar b

pub majors-late : (m : ℕ) → 7 ≤ m → get_or read.majors m read.special ≡ read.special
majors-late zero l = absurd (omega arith)
majors-late (suc zero) l = absurd (omega arith)
majors-late (suc (suc zero)) l = absurd (omega arith)
majors-late (suc (suc (suc zero))) l = absurd (omega arith)
majors-late (suc (suc (suc (suc zero)))) l = absurd (omega arith)
majors-late (suc (suc (suc (suc (suc zero))))) l = absurd (omega arith)
majors-late (suc (suc (suc (suc (suc (suc zero)))))) l = absurd (omega arith)
majors-late (suc (suc (suc (suc (suc (suc (suc m))))))) l = refl

is-reserved : (w n : ℕ) → w ≡ 1 → n < 32 → reserved w n ≡ true
unfolding reserved
is-reserved w n e h = rw (eq-eqb w 1 e, lt-ltb n 32 h)

module _ (d b : ℕ) (t : List ℕ) where
  abbrev after-head : Argument → List ℕ → Ending
  after-head a r = ending (b ∷ t) (content no_note (item no_note d) (b ∷ t) (major_of b) a r)

  scalar-sized : Scalar b → (w n : ℕ) → w ≤ length t → (224 ≤ b → reserved w n ≡ false) → after-head (known w n) (drop w t) ≡ took (w + 1)
  unfolding content major_of read.close
  scalar-sized (low l) w n h u = go (b / 32) refl
    where
      go : (m : ℕ) → b / 32 ≡ m → after-head (known w n) (drop w t) ≡ took (w + 1)
      go zero e = rw e (ap took (beyond-head b w t h))
      go (suc zero) e = rw e (ap took (beyond-head b w t h))
      go (suc (suc m)) e = absurd (omega arith)
  scalar-sized (high l) w n h u = rw (majors-late (b / 32) (omega arith), u l) (ap took (beyond-head b w t h))

  scalar-loose : Scalar b → after-head indefinite t ≡ fault 6
  unfolding content major_of
  scalar-loose (low l) = go (b / 32) refl
    where
      go : (m : ℕ) → b / 32 ≡ m → after-head indefinite t ≡ fault 6
      go zero e = rw e refl
      go (suc zero) e = rw e refl
      go (suc (suc m)) e = absurd (omega arith)
  scalar-loose (high l) = rw (majors-late (b / 32) (omega arith)) refl

  pub scalar-ends : Scalar b → (b % 32 ≡ 31 → ⊥) → (224 ≤ b → b % 32 ≡ 24 → 32 ≤ (head_of (b ∷ t)).value) → (head_of (b ∷ t)).size ≡ code (item_end (suc d) (b ∷ t))
  scalar-ends k n m = go (look (b % 32) t)
    where
      value-is : (w v : ℕ) → head_of (b ∷ t) ≡ argued v (w + 1) → (head_of (b ∷ t)).value ≡ v
      value-is w v e = ap (λ a. a.value) e

      free : (w v : ℕ) → head_of (b ∷ t) ≡ argued v (w + 1) → OneMore (b % 32) w → 224 ≤ b → reserved w v ≡ false
      free w v e one h = not-reserved w v (λ z. let y = m h (one.1 z) in let q = value-is w v e in omega arith)

      go : Look (b % 32) t → (head_of (b ∷ t)).size ≡ code (item_end (suc d) (b ∷ t))
      go (sized w v l e x one) = rw (head-sized b t w v e, item-sized d b t w v e, scalar-sized k w v l (free w v (head-sized b t w v e) one))
      go (loose e x) = absurd (n e)
      go (wrong x e) = rw (head-refused b t e, item_refused d b t e)

  pub scalar-reserved : 224 ≤ b → b % 32 ≡ 24 → (head_of (b ∷ t)).value < 32 → FAULT + 6 ≡ code (item_end (suc d) (b ∷ t))
  unfolding content major_of
  scalar-reserved h n m = go (look (b % 32) t)
    where
      taken : (w v : ℕ) → head_of (b ∷ t) ≡ argued v (w + 1) → OneMore (b % 32) w → reserved w v ≡ true
      taken w v e one = is-reserved w v (one.0 n) (let q = ap (λ a. a.value) e in omega arith)

      go : Look (b % 32) t → FAULT + 6 ≡ code (item_end (suc d) (b ∷ t))
      go (sized w v l e x one) = rw (item-sized d b t w v e, majors-late (b / 32) (omega arith), taken w v (head-sized b t w v e) one)
      go (loose e x) = absurd (omega arith)
      go (wrong x e) = rw (item_refused d b t e)

  pub scalar-open : Scalar b → b % 32 ≡ 31 → FAULT + 6 ≡ code (item_end (suc d) (b ∷ t))
  scalar-open k n = go (look (b % 32) t)
    where
      go : Look (b % 32) t → FAULT + 6 ≡ code (item_end (suc d) (b ∷ t))
      go (sized w v l e x one) = absurd (omega arith)
      go (loose e x) = rw (item-loose d b t x, scalar-loose k)
      go (wrong x e) = absurd (x n)

-- ---------------------------------------------------------------- strings

-- n bytes after w bytes after the initial byte
module _ {A : Type 0} (make : List ℕ → List ℕ → A) (b : ℕ) (t : List ℕ) (room : length (b ∷ t) < FAULT) where
  run_ends : (w n : ℕ) → w ≤ length t → code (ending (b ∷ t) (after (run n (drop w t)) (λ x r. got (make x r) r))) ≡ string_end (length (b ∷ t)) (w + 1) n
  unfolding run string_end
  run_ends w n l = ⊎_elim short fits (lt-or (length (drop w t)) n)
    where
      fits : n ≤ length (drop w t) → code (ending (b ∷ t) (after (run n (drop w t)) (λ x r. got (make x r) r))) ≡ string_end (length (b ∷ t)) (w + 1) n
      fits h =
          rw (le-leb n (length (drop w t)) h, le-leb (w + 1 + n) (length (b ∷ t)) (omega (arith, length-drop w t)))
          (omega (arith, length-drop w t, length-drop n (drop w t)))

      short : length (drop w t) < n → code (ending (b ∷ t) (after (run n (drop w t)) (λ x r. got (make x r) r))) ≡ string_end (length (b ∷ t)) (w + 1) n
      short h = rw (lt-leb n (length (drop w t)) h, lt-leb (w + 1 + n) (length (b ∷ t)) (omega (arith, length-drop w t)))

refused_end : (len : ℕ) → len < FAULT → string_end len (FAULT + 6) 0 ≡ FAULT + 6
unfolding string_end
refused_end len l = rw (lt-leb (FAULT + 6 + 0) len (omega arith))

pub chunk-none : (s : List ℕ) (m : ℕ) → length s ≡ 0 → FAULT + 6 ≡ code (ending s (chunk m s))
unfolding chunk read.here read.byte
chunk-none [] m e = refl
chunk-none (b ∷ s) m e = absurd (omega arith)

module _ (m b : ℕ) (t : List ℕ) where
  pub chunk-other : (b / 32 ≡ m → ⊥) → FAULT + 6 ≡ code (ending (b ∷ t) (chunk m (b ∷ t)))
  unfolding chunk read.here read.byte
  chunk-other n = rw (ne_eqb (b / 32) m n)

  chunk-opens : b / 32 ≡ m → chunk m (b ∷ t) ≡ after (argument (b ∷ t) (b % 32) t) (read.definite (b ∷ t))
  unfolding chunk read.here read.byte info_of
  chunk-opens e = rw (eq-eqb (b / 32) m e)

  pub chunk-open : b / 32 ≡ m → b % 32 ≡ 31 → FAULT + 6 ≡ code (ending (b ∷ t) (chunk m (b ∷ t)))
  unfolding read.definite
  chunk-open e n = go (look (b % 32) t)
    where
      go : Look (b % 32) t → FAULT + 6 ≡ code (ending (b ∷ t) (chunk m (b ∷ t)))
      go (sized w v l h x one) = absurd (omega arith)
      go (loose h x) = rw (chunk-opens e, x (b ∷ t))
      go (wrong x h) = absurd (x n)

  pub chunk-ends : length (b ∷ t) < FAULT → b / 32 ≡ m → (b % 32 ≡ 31 → ⊥)
      → string_end (length (b ∷ t)) (head_of (b ∷ t)).size (head_of (b ∷ t)).value ≡ code (ending (b ∷ t) (chunk m (b ∷ t)))
  unfolding read.definite
  chunk-ends room e n = go (look (b % 32) t)
    where
      bare : (w v : ℕ) → ending (b ∷ t) (run v (drop w t)) ≡ ending (b ∷ t) (after (run v (drop w t)) (λ x r. got x r))
      bare w v = sym (ending-map (b ∷ t) (run v (drop w t)) (λ x r. x))

      go : Look (b % 32) t → string_end (length (b ∷ t)) (head_of (b ∷ t)).size (head_of (b ∷ t)).value ≡ code (ending (b ∷ t) (chunk m (b ∷ t)))
      go (sized w v l h x one) = rw (head-sized b t w v h, chunk-opens e, h (b ∷ t)) (sym (ap code (bare w v) ∙ run_ends (λ x r. x) b t room w v l))
      go (loose h x) = absurd (n h)
      go (wrong x h) = rw (head-refused b t h, chunk-opens e, (h (b ∷ t)).is) (refused_end (length (b ∷ t)) room)

pub chunks_exact : (m : ℕ) → Exact (still (to_break (chunk m)))
chunks_exact m = to_break-exact (chunk m) (chunk-exact m) (chunk-hungry m)

-- a first byte from 64 to 127
module _ (d b : ℕ) (t : List ℕ) (low : 64 ≤ b) (high : b < 128) where
  -- byte strings and text strings differ in how their node is made, and in nothing that is taken
  string-of : (P : Ending → ℕ → Type 0) (a : Argument) (r : List ℕ)
      → (b / 32 ≡ 2 → P (ending (b ∷ t) (content no_note (item no_note d) (b ∷ t) read.byte_string a r)) 2)
      → (b / 32 ≡ 3 → P (ending (b ∷ t) (content no_note (item no_note d) (b ∷ t) read.text_string a r)) 3)
      → P (after-head d b t a r) (b / 32)
  unfolding major_of
  string-of P a r two three = go (b / 32) refl
    where
      go : (m : ℕ) → b / 32 ≡ m → P (after-head d b t a r) (b / 32)
      go zero e = absurd (omega arith)
      go (suc zero) e = absurd (omega arith)
      go (suc (suc zero)) e = rw e (two e)
      go (suc (suc (suc zero))) e = rw e (three e)
      go (suc (suc (suc (suc m)))) e = absurd (omega arith)

  string-sized : length (b ∷ t) < FAULT → (w n : ℕ) → w ≤ length t → code (after-head d b t (known w n) (drop w t)) ≡ string_end (length (b ∷ t)) (w + 1) n
  unfolding content read.close
  string-sized room w n l =
      string-of (λ e m. code e ≡ string_end (length (b ∷ t)) (w + 1) n) (known w n) (drop w t)
      (λ e. run_ends (λ x r. tree.bytes (no_note (b ∷ t) r) x) b t room w n l)
      (λ e. run_ends (λ x r. tree.text (no_note (b ∷ t) r) x) b t room w n l)

  pub string-ends : length (b ∷ t) < FAULT → (b % 32 ≡ 31 → ⊥)
      → string_end (length (b ∷ t)) (head_of (b ∷ t)).size (head_of (b ∷ t)).value ≡ code (item_end (suc d) (b ∷ t))
  string-ends room n = go (look (b % 32) t)
    where
      go : Look (b % 32) t → string_end (length (b ∷ t)) (head_of (b ∷ t)).size (head_of (b ∷ t)).value ≡ code (item_end (suc d) (b ∷ t))
      go (sized w v l e x one) = rw (head-sized b t w v e, item-sized d b t w v e) (sym (string-sized room w v l))
      go (loose e x) = absurd (n e)
      go (wrong x e) = rw (head-refused b t e, item_refused d b t e) (refused_end (length (b ∷ t)) room)

  string-loose : after-head d b t indefinite t ≡ shift 1 (ending t (to_break (chunk (b / 32)) t))
  unfolding content read.close
  string-loose =
      string-of (λ e m. e ≡ shift 1 (ending t (to_break (chunk m) t))) indefinite t
      (λ e. ending-map (b ∷ t) (to_break (chunk 2) t) (λ cs r. tree.chunked_bytes (no_note (b ∷ t) r) (read.joined cs)) ∙ chunks-further 2)
      (λ e. ending-map (b ∷ t) (to_break (chunk 3) t) (λ cs r. tree.chunked_text (no_note (b ∷ t) r) (read.joined cs)) ∙ chunks-further 3)
    where
      chunks-further : (m : ℕ) → ending (b ∷ t) (to_break (chunk m) t) ≡ shift 1 (ending t (to_break (chunk m) t))
      chunks-further m = further (to_break (chunk m)) (chunks_exact m) (b ∷ t) 1 (omega arith)

  pub string-opens : b % 32 ≡ 31 → item_end (suc d) (b ∷ t) ≡ shift 1 (ending t (to_break (chunk (b / 32)) t))
  string-opens n = go (look (b % 32) t)
    where
      go : Look (b % 32) t → item_end (suc d) (b ∷ t) ≡ shift 1 (ending t (to_break (chunk (b / 32)) t))
      go (sized w v l e x one) = absurd (omega arith)
      go (loose e x) = ap (ending (b ∷ t)) (item-loose d b t x) ∙ string-loose
      go (wrong x e) = absurd (x n)

-- ---------------------------------------------------------------- arrays, maps, tags

cons_drop : (b w : ℕ) (t : List ℕ) → drop (w + 1) (b ∷ t) ≡ drop w t
cons_drop b w t = let z : w + 1 ≡ suc w = omega arith in rw z

-- a reader that follows a head of w + 1 bytes
follows : {A : Type 0} (m : Reader A) → Exact (still m) → (make : A → List ℕ → Node (Unit {0})) (b w : ℕ) (t : List ℕ) → w ≤ length t
    → ending (b ∷ t) (after (m (drop w t)) (λ x r. got (make x r) r)) ≡ shift (w + 1) (ending (drop (w + 1) (b ∷ t)) (m (drop (w + 1) (b ∷ t))))
follows m exact make b w t l =
    ending-map (b ∷ t) (m (drop w t)) make ∙ ap (λ r. ending (b ∷ t) (m r)) (sym (cons_drop b w t)) ∙ further m exact (b ∷ t) (w + 1) (omega arith)

pub record Holds (b : ℕ) (t : List ℕ) (count : ℕ → ℕ) : Type 0 where
  pub short : length (b ∷ t) < FAULT
  pub definite : (d w n : ℕ) → w ≤ length t → after-head d b t (known w n) (drop w t) ≡ shift (w + 1) (rest 0 (count n) d (drop (w + 1) (b ∷ t)))

holder-sized : (b : ℕ) (t : List ℕ) (count : ℕ → ℕ) → Holds b t count → (b % 32 ≡ 31 → ⊥)
    → HolderIs (b ∷ t) (held (head_of (b ∷ t)).size (count (head_of (b ∷ t)).value) 0)
holder-sized b t count h n = go (look (b % 32) t)
  where
    go : Look (b % 32) t → HolderIs (b ∷ t) (held (head_of (b ∷ t)).size (count (head_of (b ∷ t)).value) 0)
    go (sized w v l e x one) = rw (head-sized b t w v e) (record {
      counted = λ k. absurd (omega arith);
      inside = λ k q d. ap (ending (b ∷ t)) (item-sized d b t w v e) ∙ h.definite d w v l;
      outside = λ k q d. absurd (omega arith);
    })
    go (loose e x) = absurd (n e)
    go (wrong x e) = rw (head-refused b t e) (record {
      counted = λ k. absurd (omega arith);
      inside = λ k q d. absurd (omega (arith, h.short));
      outside = λ k q d. item_refused d b t e;
    })

holder-loose : (b : ℕ) (t : List ℕ) (mode : ℕ) → b % 32 ≡ 31 → ((d : ℕ) → after-head d b t indefinite t ≡ shift 1 (rest mode endless d (drop 1 (b ∷ t))))
    → HolderIs (b ∷ t) (held (head_of (b ∷ t)).size (head_of (b ∷ t)).value mode)
holder-loose b t mode n h = go (look (b % 32) t)
  where
    go : Look (b % 32) t → HolderIs (b ∷ t) (held (head_of (b ∷ t)).size (head_of (b ∷ t)).value mode)
    go (sized w v l e x one) = absurd (omega arith)
    go (loose e x) = rw (head-loose b t x) (record {
      counted = λ k. refl;
      inside = λ k q d. ap (ending (b ∷ t)) (item-loose d b t x) ∙ h d;
      outside = λ k q d. absurd (omega arith);
    })
    go (wrong x e) = absurd (x n)

-- a head that is refused whatever stands after it
pub never-holds : (s : List ℕ) → length s < FAULT → ((d : ℕ) → holds (get_or s 0 0) ≡ true → item_end (suc d) s ≡ fault 6) → HolderIs s (held (FAULT + 6) 0 0)
never-holds s room h = record { counted = λ k. absurd (omega arith); inside = λ k q d. absurd (omega arith); outside = λ k q d. h d q }

module _ (b : ℕ) (t : List ℕ) (room : length (b ∷ t) < FAULT) where
  major : (m : ℕ) → b / 32 ≡ m → major_of b ≡ get_or read.majors m read.special
  unfolding major_of
  major m e = rw e

  pub array-holds : 128 ≤ b → b < 160 → (b % 32 ≡ 31 → ⊥) → HolderIs (b ∷ t) (held (head_of (b ∷ t)).size (head_of (b ∷ t)).value 0)
  unfolding content read.close rest
  array-holds l h n = holder-sized b t (λ n. n) (record {
    short = room;
    definite = λ d w v k. rw (major 4 (omega arith)) (follows (times (item no_note d) v) (times-exact (item no_note d) (item-exact d) v) (λ xs r. tree.array (no_note (b ∷ t) r) (tree.nodes xs)) b w t k);
  }) n

  pub open-array-holds : 128 ≤ b → b < 160 → b % 32 ≡ 31 → HolderIs (b ∷ t) (held (head_of (b ∷ t)).size (head_of (b ∷ t)).value 1)
  unfolding content read.close rest
  open-array-holds l h n =
      holder-loose b t 1 n λ d. rw (major 4 (omega arith)) (follows (to_break (item no_note d)) (items-exact d) (λ xs r. tree.array (no_note (b ∷ t) r) (tree.nodes xs)) b 0 t (omega arith))

  -- pairs as items: twice as many, or more than any slice holds
  pairs-counted : (d n : ℕ) (s : List ℕ) → length s < FAULT → ending s (times (pair no_note (item no_note d)) n s) ≡ rest 0 (doubled n) d s
  unfolding doubled
  pairs-counted d n s l = pairs-are-items d n s ∙ go (ltb n 4_611_686_018_427_387_904) refl
    where
      go : (t : Bool) → ltb n 4_611_686_018_427_387_904 ≡ t → rest 0 (n + n) d s ≡ rest 0 (cond t (n + n) FAULT) d s
      go true e = refl
      go false e = never_met d (n + n) FAULT s (omega (arith, ltb-false n 4_611_686_018_427_387_904 e)) l

  pub map-holds : 160 ≤ b → b < 192 → (b % 32 ≡ 31 → ⊥) → HolderIs (b ∷ t) (held (head_of (b ∷ t)).size (doubled (head_of (b ∷ t)).value) 0)
  unfolding content read.close
  map-holds l h n = holder-sized b t doubled (record {
    short = room;
    definite = λ d w v k. rw (major 5 (omega arith))
        (follows (times (pair no_note (item no_note d)) v) (times-exact (pair no_note (item no_note d)) (pair-exact (item no_note d) (item-exact d) (item-hungry d)) v) (λ xs r. tree.dict (no_note (b ∷ t) r) (tree.pairs xs)) b w t k
        ∙ ap (shift (w + 1)) (pairs-counted d v (drop (w + 1) (b ∷ t)) (omega (arith, length-drop (w + 1) (b ∷ t)))));
  }) n

  pub open-map-holds : 160 ≤ b → b < 192 → b % 32 ≡ 31 → HolderIs (b ∷ t) (held (head_of (b ∷ t)).size (head_of (b ∷ t)).value 2)
  unfolding content read.close rest
  open-map-holds l h n =
      holder-loose b t 2 n λ d. rw (major 5 (omega arith)) (follows (to_break (pair no_note (item no_note d))) (pairs-exact d) (λ xs r. tree.dict (no_note (b ∷ t) r) (tree.pairs xs)) b 0 t (omega arith))

  pub tag-holds : 192 ≤ b → b < 224 → (b % 32 ≡ 31 → ⊥) → HolderIs (b ∷ t) (held (head_of (b ∷ t)).size 1 0)
  unfolding content read.close
  tag-holds l h n = holder-sized b t (λ n. 1) (record {
    short = room;
    definite = λ d w v k. rw (major 6 (omega arith))
        (follows (item no_note d) (item-exact d) (λ x r. tree.tag (no_note (b ∷ t) r) v x) b w t k ∙ ap (shift (w + 1)) (sym (one-due d (drop (w + 1) (b ∷ t)))));
  }) n

  pub open-tag-refused : 192 ≤ b → b < 224 → b % 32 ≡ 31 → (d : ℕ) → item_end (suc d) (b ∷ t) ≡ fault 6
  unfolding content
  open-tag-refused l h n d = go (look (b % 32) t)
    where
      go : Look (b % 32) t → item_end (suc d) (b ∷ t) ≡ fault 6
      go (sized w v k e x one) = absurd (omega arith)
      go (loose e x) = rw (item-loose d b t x, major 6 (omega arith))
      go (wrong x e) = absurd (x n)
