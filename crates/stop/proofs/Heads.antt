-- What is left where an item is refused, by its first byte.
use Prim.Native.Nat.{ℕ, zero, suc, ◌+◌, ◌-◌, ◌*◌, ◌/◌, ◌%◌, ◌≤◌, ◌<◌}
use native.Mathlib.Omega.{arith}
use mathlib.Core.List.{List, [], ◌∷◌}
use mathlib.Core.Bool.{Bool, true, false, cond, ◌&&◌}
use mathlib.Core.Path.{◌≡◌, refl, ap, sym, ◌∙◌}
use lib.ListN.{length, get_or, take, drop}
use lib.Dec.{eqb, leb, ltb}
use borrow.Author.Tests.{eq-eqb, ne_eqb, le-leb, lt-leb, lt-ltb, eqb-true, leb-true, leb-false, ltb-false}
use Rattle.meaning.specs.Tree.{Node, bytes, text, simple, float}
use Rattle.meaning.specs.Read as read
use Rattle.meaning.specs.Read.{Outcome, got, refused, after, ◌>>=◌, Argument, known, indefinite, argument, info_of, array_of, map_of, tagged, special, major_of, content, item, no_note, times, to_break, chunk, pair, run, reserved, wide, long_arguments, malformed}
use Rattle.meaning.proofs.ReadPrefix.{item-hungry, pair-hungry, item-exact}
use Rattle.cbor.specs.Ending.{FAULT, head_of, holds}
use Rattle.cbor.proofs.Heads.{Look, sized, loose, wrong, look}
use Rattle.cbor.proofs.Majors.{head-sized, head-loose, head-refused}
use Rattle.stop.specs.Stop.{head_left, Refuses, OfString, byte_strings, text_strings}
use Rattle.stop.proofs.Stuck.{differ, same_left, bind-refused, bind-got, Stuck, here, times-stuck, break-stuck, unpair}

-- ---------------------------------------------------------------- the head

number_cut : (k a : ℕ) (t : List ℕ) {n : ℕ} {q : List ℕ} → read.number k a t ≡ refused n q → q ≡ []
unfolding read.number read.byte
number_cut zero a t e = differ e
number_cut (suc k) a [] e = sym (same_left e)
number_cut (suc k) a (b ∷ t) e = number_cut k (256 * a + b) t e

wide-cut : (w : ℕ) (t : List ℕ) {n : ℕ} {q : List ℕ} → wide w t ≡ refused n q → q ≡ []
unfolding wide
wide-cut w t e = bind-refused (read.number w 0 t) _ e (number_cut w 0 t) λ a r f z. differ z

long-left : (j : ℕ) (o t : List ℕ) {n : ℕ} {q : List ℕ} → get_or long_arguments j malformed o t ≡ refused n q → (4 ≤ j → q ≡ o) × (j < 4 → q ≡ [])
unfolding long_arguments
long-left zero o t e = ((λ l. absurd (omega arith)), (λ l. wide-cut 1 t e))
long-left (suc zero) o t e = ((λ l. absurd (omega arith)), (λ l. wide-cut 2 t e))
long-left (suc (suc zero)) o t e = ((λ l. absurd (omega arith)), (λ l. wide-cut 4 t e))
long-left (suc (suc (suc zero))) o t e = ((λ l. absurd (omega arith)), (λ l. wide-cut 8 t e))
long-left (suc (suc (suc (suc zero)))) o t e = ((λ l. sym (same_left e)), (λ l. absurd (omega arith)))
long-left (suc (suc (suc (suc (suc zero))))) o t e = ((λ l. sym (same_left e)), (λ l. absurd (omega arith)))
long-left (suc (suc (suc (suc (suc (suc zero)))))) o t e = ((λ l. sym (same_left e)), (λ l. absurd (omega arith)))
long-left (suc (suc (suc (suc (suc (suc (suc zero))))))) o t e = differ e
long-left (suc (suc (suc (suc (suc (suc (suc (suc j)))))))) o t e = ((λ l. sym (same_left e)), (λ l. absurd (omega arith)))

-- an argument that is refused
pub argument-left : (o : List ℕ) (i : ℕ) (t : List ℕ) {n : ℕ} {q : List ℕ} → argument o i t ≡ refused n q → (28 ≤ i → q ≡ o) × (i < 28 → q ≡ [])
unfolding argument
argument-left o i t {n} {q} e = go (ltb i 24) refl e
  where
    go : (b : Bool) → ltb i 24 ≡ b → cond b (read.pure (known 0 i)) (get_or long_arguments (i - 24) malformed o) t ≡ refused n q → (28 ≤ i → q ≡ o) × (i < 28 → q ≡ [])
    go true f e = differ e
    go false f e = let l : 24 ≤ i = ltb-false i 24 f in let h = long-left (i - 24) o t e in ((λ k. h.0 (omega (arith, k))), (λ k. h.1 (omega (arith, k, l))))

-- an item whose head is refused
pub head-left : (b : ℕ) (t : List ℕ) {n : ℕ} {q : List ℕ} → argument (b ∷ t) (b % 32) t ≡ refused n q → head_left (b ∷ t) ≡ length q
unfolding head_left
head-left b t {n} {q} e = go (leb 28 (b % 32)) refl
  where
    go : (x : Bool) → leb 28 (b % 32) ≡ x → cond x (length (b ∷ t)) 0 ≡ length q
    go true f = ap length (sym ((argument-left (b ∷ t) (b % 32) t e).0 (leb-true 28 (b % 32) f)))
    go false f = ap length (sym ((argument-left (b ∷ t) (b % 32) t e).1 (leb-false 28 (b % 32) f)))

-- what is malformed where it stands, with low five bits from 28 on
pub late-left : (b : ℕ) (t : List ℕ) → 28 ≤ b % 32 → head_left (b ∷ t) ≡ length (b ∷ t)
unfolding head_left
late-left b t l = rw (le-leb 28 (b % 32) l)

pub cut_left : (b : ℕ) (t : List ℕ) → b % 32 < 28 → head_left (b ∷ t) ≡ 0
unfolding head_left
cut_left b t l = rw (lt-leb 28 (b % 32) l)

module _ (d b : ℕ) (t : List ℕ) where
  pub opens : item no_note (suc d) (b ∷ t) ≡ after (argument (b ∷ t) (b % 32) t) (content no_note (item no_note d) (b ∷ t) (major_of b))
  unfolding item read.here read.byte info_of
  opens = refl

-- ---------------------------------------------------------------- arrays, maps, tags

abbrev Into : ℕ → List ℕ → List ℕ → Type 0
Into d q u = Stuck (item no_note d) q u

module _ (d : ℕ) (o : List ℕ) where
  array-stuck : (a : Argument) (u : List ℕ) {n : ℕ} {q : List ℕ} → content no_note (item no_note d) o array_of a u ≡ refused n q → Into d q u
  unfolding content read.close
  array-stuck (known w k) u e = bind-refused (times (item no_note d) k u) _ e (times-stuck (item no_note d) k u) λ xs r f z. differ z
  array-stuck indefinite u e = bind-refused (to_break (item no_note d) u) _ e (break-stuck (item no_note d) (item-hungry d) u) λ xs r f z. differ z

  map-stuck : (a : Argument) (u : List ℕ) {n : ℕ} {q : List ℕ} → content no_note (item no_note d) o map_of a u ≡ refused n q → Into d q u
  unfolding content read.close
  map-stuck (known w k) u e =
      bind-refused (times (pair no_note (item no_note d)) k u) _ e (λ f. unpair no_note (item no_note d) (times-stuck (pair no_note (item no_note d)) k u f)) λ xs r f z. differ z
  map-stuck indefinite u e =
      bind-refused (to_break (pair no_note (item no_note d)) u) _ e
      (λ f. unpair no_note (item no_note d) (break-stuck (pair no_note (item no_note d)) (pair-hungry (item no_note d) (item-exact d) (item-hungry d)) u f)) λ xs r f z. differ z

  tag_stuck : (w k : ℕ) (u : List ℕ) {n : ℕ} {q : List ℕ} → content no_note (item no_note d) o tagged (known w k) u ≡ refused n q → Into d q u
  unfolding content read.close
  tag_stuck w k u e = bind-refused (item no_note d u) _ e here λ x r f z. differ z

  -- by the first byte
  held-sized : (b w k : ℕ) (u : List ℕ) → 128 ≤ b → b < 224 → {n : ℕ} {q : List ℕ} → content no_note (item no_note d) o (major_of b) (known w k) u ≡ refused n q → Into d q u
  unfolding major_of
  held-sized b w k u l h {n} {q} = go (b / 32) refl
    where
      go : (j : ℕ) → b / 32 ≡ j → content no_note (item no_note d) o (get_or read.majors j special) (known w k) u ≡ refused n q → Into d q u
      go zero e f = absurd (omega (arith, e))
      go (suc zero) e f = absurd (omega (arith, e))
      go (suc (suc zero)) e f = absurd (omega (arith, e))
      go (suc (suc (suc zero))) e f = absurd (omega (arith, e))
      go (suc (suc (suc (suc zero)))) e f = array-stuck (known w k) u f
      go (suc (suc (suc (suc (suc zero))))) e f = map-stuck (known w k) u f
      go (suc (suc (suc (suc (suc (suc zero)))))) e f = tag_stuck w k u f
      go (suc (suc (suc (suc (suc (suc (suc j))))))) e f = absurd (omega (arith, e))

  held-loose : (b : ℕ) (u : List ℕ) → 128 ≤ b → b < 224 → b % 32 ≡ 31 → (b ≡ 223 → ⊥) → {n : ℕ} {q : List ℕ} → content no_note (item no_note d) o (major_of b) indefinite u ≡ refused n q → Into d q u
  unfolding major_of
  held-loose b u l h i y {n} {q} = go (b / 32) refl
    where
      go : (j : ℕ) → b / 32 ≡ j → content no_note (item no_note d) o (get_or read.majors j special) indefinite u ≡ refused n q → Into d q u
      go zero e f = absurd (omega (arith, e))
      go (suc zero) e f = absurd (omega (arith, e))
      go (suc (suc zero)) e f = absurd (omega (arith, e))
      go (suc (suc (suc zero))) e f = absurd (omega (arith, e))
      go (suc (suc (suc (suc zero)))) e f = array-stuck indefinite u f
      go (suc (suc (suc (suc (suc zero))))) e f = map-stuck indefinite u f
      go (suc (suc (suc (suc (suc (suc zero)))))) e f = absurd (y (omega (arith, e, i)))
      go (suc (suc (suc (suc (suc (suc (suc j))))))) e f = absurd (omega (arith, e))

-- an item whose head is refused
pub no-head : (d b : ℕ) (t : List ℕ) → length (b ∷ t) < (head_of (b ∷ t)).size → Refuses (item no_note (suc d)) (b ∷ t) (head_left (b ∷ t))
no-head d b t k = go (look (b % 32) t)
  where
    go : Look (b % 32) t → Refuses (item no_note (suc d)) (b ∷ t) (head_left (b ∷ t))
    go (sized w v g f i one) = absurd (let z : (head_of (b ∷ t)).size ≡ w + 1 = ap (λ a. a.size) (head-sized b t w v f) in omega (arith, z, k, g))
    go (loose i f) = absurd (let z : (head_of (b ∷ t)).size ≡ 1 = ap (λ a. a.size) (head-loose b t f) in omega (arith, z, k))
    go (wrong i f) =
        let r = (f (b ∷ t)).is in
        record { number = _; at = _; is = opens d b t ∙ ap (λ o. after o (content no_note (item no_note d) (b ∷ t) (major_of b))) r; left = head-left b t r }

module _ (d b : ℕ) (t : List ℕ) {n : ℕ} {q : List ℕ} (e : item no_note (suc d) (b ∷ t) ≡ refused n q) where
  abbrev After : Outcome Argument → Type 0
  After o = after o (content no_note (item no_note d) (b ∷ t) (major_of b)) ≡ refused n q

  as_read : {o : Outcome Argument} → argument (b ∷ t) (b % 32) t ≡ o → After o
  as_read f = ap (λ o. after o (content no_note (item no_note d) (b ∷ t) (major_of b))) (sym f) ∙ sym (opens d b t) ∙ e

  refused-head : {c : ℕ} {p : List ℕ} → argument (b ∷ t) (b % 32) t ≡ refused c p → head_left (b ∷ t) ≡ length q
  refused-head f = head-left b t f ∙ ap length (same_left (as_read f))

  -- an array, map or tag whose head is whole: the run within it is refused
  pub goes_in : length (b ∷ t) < FAULT → 128 ≤ b → b < 224 → (b ≡ 223 → ⊥) → (head_of (b ∷ t)).size ≤ length (b ∷ t) → Into d q (drop (head_of (b ∷ t)).size (b ∷ t))
  goes_in room l h y k = go (look (b % 32) t)
    where
      go : Look (b % 32) t → Into d q (drop (head_of (b ∷ t)).size (b ∷ t))
      go (sized w v g f i one) =
          let z : (head_of (b ∷ t)).size ≡ w + 1 = ap (λ a. a.size) (head-sized b t w v f) in
          rw z (let y : w + 1 ≡ suc w = omega arith in rw y (held-sized d (b ∷ t) b w v (drop w t) l h (as_read (f (b ∷ t)))))
      go (loose i f) = rw (ap (λ a. a.size) (head-loose b t f)) (held-loose d (b ∷ t) b t l h i y (as_read (f (b ∷ t))))
      go (wrong i f) = absurd (let z : (head_of (b ∷ t)).size ≡ FAULT + 6 = ap (λ a. a.size) (head-refused b t f) in omega (arith, z, k, room))

-- ---------------------------------------------------------------- items that hold no other

held-not : (b : ℕ) → holds b ≡ false → 128 ≤ b → b < 224 → ⊥
held-not b h l k = let z : (leb 128 b && ltb b 224) ≡ true = rw (le-leb 128 b l, lt-ltb b 224 k) in absurd (let y : ◌≡◌ {A = Bool} true false = sym z ∙ h in let w : ◌≡◌ {A = ℕ} 0 1 = cc in omega arith)

reserved-one : (w k : ℕ) → reserved w k ≡ true → w ≡ 1
unfolding reserved
reserved-one w k = go (eqb w 1) refl
  where
    go : (x : Bool) → eqb w 1 ≡ x → (x && ltb k 32) ≡ true → w ≡ 1
    go true e f = eqb-true w 1 e
    go false e f = absurd (let w : ◌≡◌ {A = ℕ} 0 1 = cc in omega arith)

run-cut : (k : ℕ) (u : List ℕ) {n : ℕ} {q : List ℕ} → run k u ≡ refused n q → q ≡ []
unfolding run
run-cut k u {n} {q} = go (leb k (length u))
  where
    go : (x : Bool) → cond x (got (take k u) (drop k u)) (refused 6 []) ≡ refused n q → q ≡ []
    go true e = differ e
    go false e = sym (same_left e)

module _ (d b : ℕ) (o : List ℕ) where
  -- with a whole head: a string that was cut off, or a simple value that is reserved
  plain-sized : (w k : ℕ) (u : List ℕ) → holds b ≡ false → (b ≡ 248 → ⊥) → b % 32 < 28 → (w ≡ 1 → b % 32 ≡ 24) → {n : ℕ} {q : List ℕ}
      → b < 256 → content no_note (item no_note d) o (major_of b) (known w k) u ≡ refused n q → q ≡ []
  unfolding major_of content read.close
  plain-sized w k u h x i y {n} {q} byte = go (b / 32) refl
    where
      free : (r : Bool) → reserved w k ≡ r → 224 ≤ b → cond r (malformed o) (read.close no_note o (λ p. cond (leb w 1) (simple p k) (float p w k))) u ≡ refused n q → q ≡ []
      free true e l f = absurd (x (let z = y (reserved-one w k e) in omega (arith, z, l, byte)))
      free false e l f = differ f

      go : (j : ℕ) → b / 32 ≡ j → content no_note (item no_note d) o (get_or read.majors j special) (known w k) u ≡ refused n q → q ≡ []
      go zero e f = differ f
      go (suc zero) e f = differ f
      go (suc (suc zero)) e f = bind-refused (run k u) _ f (run-cut k u) λ a r g z. differ z
      go (suc (suc (suc zero))) e f = bind-refused (run k u) _ f (run-cut k u) λ a r g z. differ z
      go (suc (suc (suc (suc zero)))) e f = absurd (held-not b h (omega (arith, e)) (omega (arith, e)))
      go (suc (suc (suc (suc (suc zero))))) e f = absurd (held-not b h (omega (arith, e)) (omega (arith, e)))
      go (suc (suc (suc (suc (suc (suc zero)))))) e f = absurd (held-not b h (omega (arith, e)) (omega (arith, e)))
      go (suc (suc (suc (suc (suc (suc (suc j))))))) e f = free (reserved w k) refl (omega (arith, e)) f

  -- without end: malformed where it stands
  plain-loose : (u : List ℕ) → holds b ≡ false → (b ≡ 95 → ⊥) → (b ≡ 127 → ⊥) → b % 32 ≡ 31 → {n : ℕ} {q : List ℕ}
      → content no_note (item no_note d) o (major_of b) indefinite u ≡ refused n q → q ≡ o
  unfolding major_of content
  plain-loose u h x y i {n} {q} = go (b / 32) refl
    where
      go : (j : ℕ) → b / 32 ≡ j → content no_note (item no_note d) o (get_or read.majors j special) indefinite u ≡ refused n q → q ≡ o
      go zero e f = sym (same_left f)
      go (suc zero) e f = sym (same_left f)
      go (suc (suc zero)) e f = absurd (x (omega (arith, e, i)))
      go (suc (suc (suc zero))) e f = absurd (y (omega (arith, e, i)))
      go (suc (suc (suc (suc zero)))) e f = absurd (held-not b h (omega (arith, e)) (omega (arith, e)))
      go (suc (suc (suc (suc (suc zero))))) e f = absurd (held-not b h (omega (arith, e)) (omega (arith, e)))
      go (suc (suc (suc (suc (suc (suc zero)))))) e f = absurd (held-not b h (omega (arith, e)) (omega (arith, e)))
      go (suc (suc (suc (suc (suc (suc (suc j))))))) e f = sym (same_left f)

module _ (d b : ℕ) (t : List ℕ) {n : ℕ} {q : List ℕ} (e : item no_note (suc d) (b ∷ t) ≡ refused n q) where
  pub plain-left : holds b ≡ false → b < 256 → (b ≡ 95 → ⊥) → (b ≡ 127 → ⊥) → (b ≡ 248 → ⊥) → head_left (b ∷ t) ≡ length q
  plain-left h byte x y z = go (look (b % 32) t)
    where
      go : Look (b % 32) t → head_left (b ∷ t) ≡ length q
      go (sized w v g f i one) = cut_left b t i ∙ sym (ap length (plain-sized d b (b ∷ t) w v (drop w t) h z i one.1 byte (as_read d b t e (f (b ∷ t)))))
      go (loose i f) = late-left b t (omega (arith, i)) ∙ sym (ap length (plain-loose d b (b ∷ t) t h x y i (as_read d b t e (f (b ∷ t)))))
      go (wrong i f) = refused-head d b t e (f (b ∷ t)).is

-- a simple value in two bytes
pub two-byte : (d : ℕ) (t : List ℕ) {n : ℕ} {q : List ℕ} → item no_note (suc d) (248 ∷ t) ≡ refused n q → (t ≡ [] → 0 ≡ length q) × (1 ≤ length t → length (248 ∷ t) ≡ length q)
unfolding item read.here read.byte info_of argument long_arguments wide read.number major_of content read.close
two-byte d [] e = ((λ z. ap length (same_left e)), (λ l. absurd (omega arith)))
two-byte d (x ∷ t) {n} {q} e = ((λ z. absurd (let y : ◌≡◌ {A = ℕ} 0 1 = cc in omega arith)), (λ l. go (reserved 1 (256 * 0 + x)) e))
  where
    go : (r : Bool) → cond r (malformed (248 ∷ x ∷ t)) (read.close no_note (248 ∷ x ∷ t) (λ p. cond (leb 1 1) (simple p (256 * 0 + x)) (float p 1 (256 * 0 + x)))) t ≡ refused n q → length (248 ∷ x ∷ t) ≡ length q
    go true f = ap length (same_left f)
    go false f = differ f

-- indefinite strings
pub open-bytes : (d : ℕ) (t : List ℕ) {n : ℕ} {q : List ℕ} → item no_note (suc d) (95 ∷ t) ≡ refused n q → to_break (chunk 2) t ≡ refused n q
unfolding item read.here read.byte info_of argument long_arguments major_of content read.close
open-bytes d t e = bind-refused (to_break (chunk 2) t) _ e (λ f. again f) λ a r f z. differ z
  where
    again : {A : Type 0} {o : Outcome A} {n : ℕ} {q : List ℕ} → o ≡ refused n q → o ≡ refused n q
    again f = f

pub open-text : (d : ℕ) (t : List ℕ) {n : ℕ} {q : List ℕ} → item no_note (suc d) (127 ∷ t) ≡ refused n q → to_break (chunk 3) t ≡ refused n q
unfolding item read.here read.byte info_of argument long_arguments major_of content read.close
open-text d t e = bind-refused (to_break (chunk 3) t) _ e (λ f. f) λ a r f z. differ z

-- ---------------------------------------------------------------- chunks

-- a definite string is read alike as a chunk and as an item
string-content : {m : ℕ} → OfString m → (b : ℕ) (o : List ℕ) → b / 32 ≡ m → (w k : ℕ) (u : List ℕ) {C : Type 0}
    → ((f : List ℕ → Node (Unit {0})) → content no_note (item no_note 0) o (major_of b) (known w k) u ≡ (run k >>= λ bs. read.pure (f bs)) u → C) → C
unfolding major_of content read.close no_note
string-content byte_strings b o h w k u f = f (λ bs. bytes tt bs) (rw h)
string-content text_strings b o h w k u f = f (λ bs. text tt bs) (rw h)

module _ (m b : ℕ) (t : List ℕ) where
  pub chunk-other : (b / 32 ≡ m → ⊥) → chunk m (b ∷ t) ≡ refused 6 (b ∷ t)
  unfolding chunk read.here read.byte
  chunk-other h = rw (ne_eqb (b / 32) m h)

  chunk-opens : b / 32 ≡ m → chunk m (b ∷ t) ≡ after (argument (b ∷ t) (b % 32) t) (read.definite (b ∷ t))
  unfolding chunk read.here read.byte info_of
  chunk-opens h = rw (eq-eqb (b / 32) m h)

  pub record Malformed : Type 0 where
    pub number : ℕ
    pub is : chunk m (b ∷ t) ≡ refused number (b ∷ t)

  pub chunk-late : b / 32 ≡ m → 28 ≤ b % 32 → Malformed
  unfolding read.definite
  chunk-late h l = go (look (b % 32) t)
    where
      go : Look (b % 32) t → Malformed
      go (sized w v g f i one) = absurd (omega (arith, l, i))
      go (loose i f) = record { number = 6; is = chunk-opens h ∙ ap (λ o. after o (read.definite (b ∷ t))) (f (b ∷ t)) }
      go (wrong i f) = let r = f (b ∷ t) in let z = (argument-left (b ∷ t) (b % 32) t r.is).0 l in
          record { number = 6; is = chunk-opens h ∙ ap (λ o. after o (read.definite (b ∷ t))) r.is ∙ ap (refused 6) z }

  pub record Whole (r : List ℕ) : Type 0 where
    pub bytes : List ℕ
    pub is : chunk m (b ∷ t) ≡ got bytes r

  pub record Cut : Type 0 where
    pub number : ℕ
    pub is : chunk m (b ∷ t) ≡ refused number []

  module _ (of : OfString m) (h : b / 32 ≡ m) (l : b % 32 < 28) where
    as-argued : {o : Outcome Argument} → argument (b ∷ t) (b % 32) t ≡ o → chunk m (b ∷ t) ≡ after o (read.definite (b ∷ t))
    as-argued f = chunk-opens h ∙ ap (λ o. after o (read.definite (b ∷ t))) f

    as-item : {o : Outcome Argument} → argument (b ∷ t) (b % 32) t ≡ o → item no_note 1 (b ∷ t) ≡ after o (content no_note (item no_note 0) (b ∷ t) (major_of b))
    as-item f = opens 0 b t ∙ ap (λ o. after o (content no_note (item no_note 0) (b ∷ t) (major_of b))) f

    pub chunk_whole : {x : Node (Unit {0})} {r : List ℕ} → item no_note 1 (b ∷ t) ≡ got x r → Whole r
    unfolding read.definite
    chunk_whole {x} {r} e = go (look (b % 32) t)
      where
        same_rest : {A : Type 0} {a c : A} {p s : List ℕ} → got a p ≡ got c s → p ≡ s
        same_rest e = cc

        go : Look (b % 32) t → Whole r
        go (sized w v g f i one) =
            string-content of b (b ∷ t) h w v (drop w t) λ make k.
            bind-got (run v (drop w t)) (λ bs. read.pure (make bs)) (sym k ∙ sym (as-item (f (b ∷ t))) ∙ e) λ bs p y z.
            record { bytes = bs; is = as-argued (f (b ∷ t)) ∙ y ∙ ap (got bs) (same_rest z) }
        go (loose i f) = absurd (omega (arith, l, i))
        go (wrong i f) = differ (sym e ∙ as-item (f (b ∷ t)).is)

    pub chunk-cut : {n : ℕ} {q : List ℕ} → item no_note 1 (b ∷ t) ≡ refused n q → Cut
    unfolding read.definite
    chunk-cut {n} {q} e = go (look (b % 32) t)
      where
        go : Look (b % 32) t → Cut
        go (sized w v g f i one) =
            string-content of b (b ∷ t) h w v (drop w t) λ make k.
            bind-refused (run v (drop w t)) (λ bs. read.pure (make bs)) (sym k ∙ sym (as-item (f (b ∷ t))) ∙ e)
            (λ y. record { number = n; is = as-argued (f (b ∷ t)) ∙ y ∙ ap (refused n) (run-cut v (drop w t) y) })
            (λ bs p y z. differ z)
        go (loose i f) = absurd (omega (arith, l, i))
        go (wrong i f) = let r = f (b ∷ t) in record { number = 6; is = as-argued r.is ∙ ap (refused 6) ((argument-left (b ∷ t) (b % 32) t r.is).1 l) }
