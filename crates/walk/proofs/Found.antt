-- What the first bytes of an item say of it in a known place: a text, a number, null.
use Prim.Native.Nat.{ℕ, zero, suc, ◌+◌, ◌-◌, ◌/◌, ◌%◌, ◌≤◌, ◌<◌}
use native.Mathlib.Omega.{arith}
use mathlib.Core.List.{List, [], ◌∷◌}
use mathlib.Core.Bool.{Bool, true, false, cond, ◌&&◌}
use mathlib.Core.Logic.{◌⊎◌, inl, inr, ⊎_elim}
use mathlib.Core.Path.{◌≡◌, refl, ap, sym, ◌∙◌, subst}
use lib.ListN.{length, get_or, take, drop, length-drop}
use lib.Seq.{drop-drop}
use lib.Dec.{eqb, leb}
use borrow.Author.Tests.{eq-eqb, ne_eqb, le-leb, lt-leb, leb-true}
use Rattle.meaning.specs.Tree.{Node, Pair}
use Rattle.meaning.specs.Check.{pass, fault}
use Rattle.meaning.specs.Refusal.{KIND}
use Rattle.meaning.specs.Model.{Word}
use Rattle.meaning.specs.Kind as kinds
use Rattle.meaning.specs.Kind.{Kind, kind}
use Rattle.meaning.specs.Read as read
use Rattle.meaning.specs.Read.{got, refused, known, indefinite, major_of, run, Major, Argument, reserved, item}
use Rattle.meaning.specs.Read.{unsigned, negative, byte_string, text_string, array_of, map_of, tagged, special}
use Rattle.meaning.proofs.ReadPrefix.{never-got, alike, never-beyond}
use Rattle.meaning.proofs.ExactEvery.{large-enough}
use Rattle.cbor.specs.Ending.{head_of, argued}
use Rattle.cbor.proofs.Majors.{majors-late}
use Rattle.walk.specs.Reading.{Ends, ends, Reads}
use Rattle.cbor.proofs.Heads as heads
use Rattle.endian.proofs.Which.{eq-or, lt-or}
use Rattle.walk.specs.Places.{Whatever, is_null, NullIs, NumberIs, numeral}
use Rattle.walk.proofs.ReadSays.{Says, KindSays, kind-says, Stood, sized, loose, stood, nothing_read}
use Rattle.std.specs.Prelude.{Option}

-- the number of a major type
abbrev number_of : Major → ℕ
number_of unsigned = 0
number_of negative = 1
number_of byte_string = 2
number_of text_string = 3
number_of array_of = 4
number_of map_of = 5
number_of tagged = 6
number_of special = 7

module _ (b : ℕ) where
  pub major-is : (m : ℕ) → b / 32 ≡ m → major_of b ≡ get_or read.majors m special
  unfolding major_of
  major-is m e = rw e

  -- a byte's major type tells where it lies
  pub major-tells : (m : Major) → major_of b ≡ m → (b / 32 ≡ number_of m) ⊎ ((7 ≤ b / 32) × (m ≡ special))
  major-tells m e = go (b / 32) refl
    where
      go : (k : ℕ) → b / 32 ≡ k → (b / 32 ≡ number_of m) ⊎ ((7 ≤ b / 32) × (m ≡ special))
      go zero h = inl (h ∙ ap number_of (sym (major-is 0 h) ∙ e))
      go (suc zero) h = inl (h ∙ ap number_of (sym (major-is 1 h) ∙ e))
      go (suc (suc zero)) h = inl (h ∙ ap number_of (sym (major-is 2 h) ∙ e))
      go (suc (suc (suc zero))) h = inl (h ∙ ap number_of (sym (major-is 3 h) ∙ e))
      go (suc (suc (suc (suc zero)))) h = inl (h ∙ ap number_of (sym (major-is 4 h) ∙ e))
      go (suc (suc (suc (suc (suc zero))))) h = inl (h ∙ ap number_of (sym (major-is 5 h) ∙ e))
      go (suc (suc (suc (suc (suc (suc zero)))))) h = inl (h ∙ ap number_of (sym (major-is 6 h) ∙ e))
      go (suc (suc (suc (suc (suc (suc (suc k))))))) h =
          inr (omega arith, sym e ∙ major-is (suc (suc (suc (suc (suc (suc (suc k))))))) h ∙ majors-late (suc (suc (suc (suc (suc (suc (suc k))))))) (omega arith))

  pub text-byte : major_of b ≡ text_string → b / 32 ≡ 3
  text-byte e = ⊎_elim (λ h. h) (λ h. absurd (let y = h.1 in let z : ◌≡◌ {A = ℕ} 0 1 = cc in omega arith)) (major-tells text_string e)

  pub unsigned-byte : major_of b ≡ unsigned → b / 32 ≡ 0
  unsigned-byte e = ⊎_elim (λ h. h) (λ h. absurd (let y = h.1 in let z : ◌≡◌ {A = ℕ} 0 1 = cc in omega arith)) (major-tells unsigned e)

-- kinds that aren't asked for
abbrev NotWord : Kind Ends → Type 0
NotWord k = kinds.as_word k ≡ fault KIND

abbrev NotNumber : Kind Ends → Type 0
NotNumber k = kinds.as_number k ≡ fault KIND

-- what holds of every kind that a major type and an argument may say
pub by_kind : (P : Kind Ends → Type 0) (m : Major) (a : Argument) (k : Kind Ends) → KindSays m a k
    → (m ≡ unsigned → (n : ℕ) → P (kinds.number n)) → (m ≡ text_string → (a ≡ indefinite → ⊥) → (w : Word Ends) → P (kinds.words w))
    → (m ≡ array_of → (xs : List (Node Ends)) → P (kinds.list xs)) → (m ≡ map_of → (ps : List (Pair Ends)) → P (kinds.mapping ps)) → (m ≡ special → P kinds.null) → P kinds.another → P k
by_kind P unsigned (known w n) k h number words list table null other = rw h (number refl n)
by_kind P unsigned indefinite k h number words list table null other = absurd h
by_kind P negative (known w n) k h number words list table null other = rw h other
by_kind P negative indefinite k h number words list table null other = absurd h
by_kind P byte_string a k h number words list table null other = rw h other
by_kind P text_string (known w n) k h number words list table null other =
    rw h.2 (words refl (λ e. let z : ◌≡◌ {A = ℕ} 0 1 = cc in omega arith) (record { note = h.1; letters = h.0 }))
by_kind P text_string indefinite k h number words list table null other = rw h other
by_kind P array_of a k h number words list table null other = rw h.1 (list refl h.0)
by_kind P map_of a k h number words list table null other = rw h.1 (table refl h.0)
by_kind P tagged (known w n) k h number words list table null other = rw h other
by_kind P tagged indefinite k h number words list table null other = absurd h
by_kind P special (known w n) k h number words list table null other = rw h (two (leb w 1) (eqb n 22))
  where
    two : (a b : Bool) → P (cond a (cond b kinds.null kinds.another) kinds.another)
    two true true = null refl
    two true false = other
    two false b = other
by_kind P special indefinite k h number words list table null other = absurd h

not-word : (m : Major) (a : Argument) (k : Kind Ends) → KindSays m a k → (m ≡ text_string → a ≡ indefinite) → NotWord k
unfolding kinds.as_word
not-word m a k h x = by_kind NotWord m a k h (λ e n. refl) (λ e n w. absurd (n (x e))) (λ e xs. refl) (λ e ps. refl) (λ e. refl) refl

not-number : (m : Major) (a : Argument) (k : Kind Ends) → KindSays m a k → (m ≡ unsigned → ⊥) → NotNumber k
unfolding kinds.as_number
not-number m a k h x = by_kind NotNumber m a k h (λ e n. absurd (x e)) (λ e n w. refl) (λ e xs. refl) (λ e ps. refl) (λ e. refl) refl

not_null : (m : Major) (a : Argument) (k : Kind Ends) → KindSays m a k → (m ≡ special → ⊥) → is_null k ≡ false
not_null m a k h x = by_kind (λ k. is_null k ≡ false) m a k h (λ e n. refl) (λ e n w. refl) (λ e xs. refl) (λ e ps. refl) (λ e. absurd (x e)) refl

pub record Run (n : ℕ) (q x r : List ℕ) : Type 0 where
  pub fits : n ≤ length q
  pub taken : x ≡ take n q
  pub left : r ≡ drop n q

pub run-got : (n : ℕ) (q x r : List ℕ) → run n q ≡ got x r → Run n q x r
unfolding run
run-got n q x r = go (leb n (length q)) refl
  where
    go : (b : Bool) → leb n (length q) ≡ b → cond b (got (take n q) (drop n q)) (refused 6 []) ≡ got x r → Run n q x r
    go true e h = record { fits = leb-true n (length q) e; taken = sym (alike h).value; left = sym (alike h).rest }
    go false e h = absurd (never-got h)

-- ---------------------------------------------------------------- texts

module _ (d b : ℕ) (t : List ℕ) (x : Node Ends) (r : List ℕ) where
  text-no : (96 ≤ b → b < 124 → ⊥) → Reads (suc d) (b ∷ t) x r → kinds.a_word x ≡ fault KIND
  unfolding kinds.a_word
  text-no n e = go (stood d b t x r e)
    where
      not-text : b % 32 < 28 → major_of b ≡ text_string → ⊥
      not-text k e = let z = text-byte b e in n (omega arith) (omega arith)

      go : Stood d b t x r → kinds.as_word (kind x) ≡ fault KIND
      go (sized w m l h k y) = not-word (major_of b) (known w m) (kind x) (kind-says (b ∷ t) d (drop w t) x r (major_of b) (known w m) y) (λ z. absurd (not-text k z))
      go (loose k h y) = not-word (major_of b) indefinite (kind x) (kind-says (b ∷ t) d t x r (major_of b) indefinite y) (λ z. refl)

  -- a text as it was read
  pub record Texted : Type 0 where
    pub size : ℕ
    pub count : ℕ
    pub head : head_of (b ∷ t) ≡ argued count size
    pub fits : size + count ≤ length (b ∷ t)
    pub word : kinds.a_word x ≡ pass (record { note = ends (b ∷ t) r; letters = take count (drop size (b ∷ t)) })
    pub left : r ≡ drop (size + count) (b ∷ t)

  text-yes : 96 ≤ b → b < 124 → Reads (suc d) (b ∷ t) x r → Texted
  unfolding kinds.a_word kinds.as_word kind
  text-yes low high e = go (stood d b t x r e)
    where
      go : Stood d b t x r → Texted
      go (sized w n k h i y) =
          let z = subst (λ m. Says (b ∷ t) d m (known w n) (drop w t) x r) (major-is b 3 (omega arith)) y in
          let g : Run n (drop w t) z.value r = run-got n (drop w t) z.value r z.is in
          let u : w + 1 ≡ suc w = omega arith in
          record {
            size = w + 1;
            count = n;
            head = h;
            fits = omega (arith, g.fits, length-drop w t);
            word = ap kinds.as_word (ap kind z.node) ∙ (rw (g.taken, u) refl);
            left = g.left ∙ drop-drop n w t ∙ (let v : w + 1 + n ≡ suc (w + n) = omega arith in rw v refl);
          }
      go (loose k h y) = absurd (omega arith)

  -- ---------------------------------------------------------------- numbers

  number-no : 28 ≤ b → Reads (suc d) (b ∷ t) x r → kinds.a_number x ≡ fault KIND
  unfolding kinds.a_number
  number-no n e = go (stood d b t x r e)
    where
      not-unsigned : b % 32 < 28 → major_of b ≡ unsigned → ⊥
      not-unsigned k e = let z = unsigned-byte b e in omega arith

      unsigned-loose : major_of b ≡ unsigned → Says (b ∷ t) d (major_of b) indefinite t x r → ⊥
      unsigned-loose e y = subst (λ m. Says (b ∷ t) d m indefinite t x r) e y

      go : Stood d b t x r → kinds.as_number (kind x) ≡ fault KIND
      go (sized w m l h k y) = not-number (major_of b) (known w m) (kind x) (kind-says (b ∷ t) d (drop w t) x r (major_of b) (known w m) y) (not-unsigned k)
      go (loose k h y) = not-number (major_of b) indefinite (kind x) (kind-says (b ∷ t) d t x r (major_of b) indefinite y) (λ z. unsigned-loose z y)

  number-yes : b < 28 → Reads (suc d) (b ∷ t) x r → kinds.a_number x ≡ pass (head_of (b ∷ t)).value
  unfolding kinds.a_number kinds.as_number kind
  number-yes low e = go (stood d b t x r e)
    where
      go : Stood d b t x r → kinds.as_number (kind x) ≡ pass (head_of (b ∷ t)).value
      go (sized w n k h i y) =
          let z = subst (λ m. Says (b ∷ t) d m (known w n) (drop w t) x r) (major-is b 0 (omega arith)) y in
          ap kinds.as_number (ap kind z.0) ∙ ap pass (sym (ap (λ a. a.value) h))
      go (loose k h y) = absurd (omega arith)

  -- ---------------------------------------------------------------- null

  null-no : b < 224 → Reads (suc d) (b ∷ t) x r → is_null (kind x) ≡ false
  null-no l e = go (stood d b t x r e)
    where
      not-special : major_of b ≡ special → ⊥
      not-special e = ⊎_elim (λ h. omega arith) (λ h. let y = h.0 in omega arith) (major-tells b special e)

      go : Stood d b t x r → is_null (kind x) ≡ false
      go (sized w n k h i y) = not_null (major_of b) (known w n) (kind x) (kind-says (b ∷ t) d (drop w t) x r (major_of b) (known w n) y) not-special
      go (loose k h y) = not_null (major_of b) indefinite (kind x) (kind-says (b ∷ t) d t x r (major_of b) indefinite y) not-special

  -- a simple value or a float, by the width and the value of its argument
  pub record Special : Type 0 where
    pub width : ℕ
    pub value : ℕ
    pub head : head_of (b ∷ t) ≡ argued value (width + 1)
    pub fits : width ≤ length t
    pub small : b % 32 < 28
    pub null_is : is_null (kind x) ≡ (leb width 1 && eqb value 22)
    pub free : reserved width value ≡ false

  special-here : 224 ≤ b → Reads (suc d) (b ∷ t) x r → Special
  special-here l e = go (stood d b t x r e)
    where
      is : major_of b ≡ special
      is = major-is b (b / 32) refl ∙ majors-late (b / 32) (omega arith)

      two : (a b : Bool) → is_null (cond a (cond b kinds.null kinds.another) kinds.another) ≡ (a && b)
      two true true = refl
      two true false = refl
      two false b = refl

      go : Stood d b t x r → Special
      go (sized w n k h i y) =
          let q = subst (λ m. Says (b ∷ t) d m (known w n) (drop w t) x r) is y in
          let z = kind-says (b ∷ t) d (drop w t) x r special (known w n) q in
          record { width = w; value = n; head = h; fits = k; small = i; null_is = ap is_null z ∙ two (leb w 1) (eqb n 22); free = q.2 }
      go (loose k h y) = absurd (subst (λ m. Says (b ∷ t) d m indefinite t x r) is y)

-- ---------------------------------------------------------------- by the first byte of any list

pub text-none : (s : List ℕ) → length s ≡ 0 → Whatever s λ d t r. kinds.a_word t ≡ fault KIND
text-none s l d t r e = absurd (nothing_read d s t r l e)

pub text-other : (s : List ℕ) → 1 ≤ length s → (96 ≤ get_or s 0 0 → get_or s 0 0 < 124 → ⊥) → Whatever s λ d t r. kinds.a_word t ≡ fault KIND
text-other [] l n d t r e = absurd (omega arith)
text-other (b ∷ s) l n d t r e = text-no d b s t r n e

pub text-short : (s : List ℕ) → 1 ≤ length s → 96 ≤ get_or s 0 0 → get_or s 0 0 < 124 → length s < (head_of s).size + (head_of s).value → Whatever s λ d t r. kinds.a_word t ≡ fault KIND
text-short [] l x y n d t r e = absurd (omega arith)
text-short (b ∷ s) l x y n d t r e =
    let k = text-yes d b s t r x y e in
    let v : (head_of (b ∷ s)).value ≡ k.count = ap (λ a. a.value) k.head in
    let z : (head_of (b ∷ s)).size ≡ k.size = ap (λ a. a.size) k.head in
    absurd (omega (arith, k.fits))

pub text-here : (s : List ℕ) → 1 ≤ length s → 96 ≤ get_or s 0 0 → get_or s 0 0 < 124
    → Whatever s λ d t r. kinds.a_word t ≡ pass (record { note = ends s r; letters = take (head_of s).value (drop (head_of s).size s) })
text-here [] l x y d t r e = absurd (omega arith)
text-here (b ∷ s) l x y d t r e =
    let k = text-yes d b s t r x y e in
    k.word ∙ sym (ap (λ a. pass (record { note = ends (b ∷ s) r; letters = take a.value (drop a.size (b ∷ s)) })) k.head)

pub number-other : (s : List ℕ) → (length s ≡ 0) ⊎ ((1 ≤ length s) × (28 ≤ get_or s 0 0)) → Whatever s λ d t r. kinds.a_number t ≡ fault KIND
number-other s (inl l) d t r e = absurd (nothing_read d s t r l e)
number-other [] (inr h) d t r e = absurd (let l = h.0 in omega arith)
number-other (b ∷ s) (inr h) d t r e = number-no d b s t r h.1 e

pub number-here : (s : List ℕ) → 1 ≤ length s → get_or s 0 0 < 28 → Whatever s λ d t r. kinds.a_number t ≡ pass (head_of s).value
number-here [] l x d t r e = absurd (omega arith)
number-here (b ∷ s) l x d t r e = number-yes d b s t r x e

module _ (b : ℕ) (t : List ℕ) (d : ℕ) (x : Node Ends) (r : List ℕ) (k : Special d b t x r) where
  -- the head's argument is what the first bytes say
  same_width : {v z : ℕ} → argued v z ≡ head_of (b ∷ t) → (v ≡ k.value) × (z ≡ k.width + 1)
  same_width e = (ap (λ a. a.value) (e ∙ k.head), ap (λ a. a.size) (e ∙ k.head))

  null-small : b % 32 < 24 → is_null (kind x) ≡ eqb (b % 32) 22
  null-small l =
      let z = same_width (heads.head_small (b ∷ t) (b % 32) (omega arith) refl l) in
      let u = z.0 in let v = z.1 in
      k.null_is ∙ (rw (le-leb k.width 1 (omega arith), ← u) refl)

  null-wide : (w i : ℕ) → ((s : List ℕ) → get_or read.long_arguments (i - 24) read.malformed [] s ≡ read.wide w s) → b % 32 ≡ i → 24 ≤ i → w ≤ 8
      → k.width ≡ w
  null-wide w i is e l m = ⊎_elim
      (λ f. let v = (same_width (heads.head-fits w i is (b ∷ t) (sym e) l f)).1 in omega arith)
      (λ f. let z = same_width (heads.head-short w i is (b ∷ t) (sym e) l (omega arith) f) in let v = z.1 in let y = k.fits in absurd (omega arith))
      (lt-or w (length (b ∷ t)))

pub null-none : (s : List ℕ) → length s ≡ 0 → Whatever s λ d t r. is_null (kind t) ≡ false
null-none s l d t r e = absurd (nothing_read d s t r l e)

null-one : (s : List ℕ) → 1 ≤ length s → get_or s 0 0 ≡ 246 → Whatever s λ d t r. is_null (kind t) ≡ true
null-one [] l h d t r e = absurd (omega arith)
null-one (b ∷ s) l h d t r e =
    let k = special-here d b s t r (omega arith) e in
    let z : b % 32 ≡ 22 = omega arith in
    null-small b s d t r k (omega arith) ∙ eq-eqb (b % 32) 22 z

-- 22 is below 32, so no second byte holds it
free-not-null : (w n : ℕ) → w ≡ 1 → reserved w n ≡ false → eqb n 22 ≡ false
free-not-null w n e h = ne_eqb n 22 (λ z. let y = large-enough w n h e in omega arith)

null-other : (s : List ℕ) → 1 ≤ length s → get_or s 0 0 < 256 → (get_or s 0 0 ≡ 246 → ⊥) → Whatever s λ d t r. is_null (kind t) ≡ false
null-other [] l y m d t r e = absurd (omega arith)
null-other (b ∷ s) l y m d t r e = ⊎_elim (λ h. null-no d b s t r h e) (λ h. high (special-here d b s t r h e) h) (lt-or b 224)
  where
    wider : (k : Special d b s t r) (w i : ℕ) → ((s : List ℕ) → get_or read.long_arguments (i - 24) read.malformed [] s ≡ read.wide w s) → b % 32 ≡ i → 24 ≤ i → 2 ≤ w → w ≤ 8 → is_null (kind t) ≡ false
    wider k w i is q g f j = let u = null-wide b s d t r k w i is q g j in k.null_is ∙ (rw (lt-leb k.width 1 (omega arith)) refl)

    two : (k : Special d b s t r) → b % 32 ≡ 24 → is_null (kind t) ≡ false
    two k q =
        let u = null-wide b s d t r k 1 24 heads.is-24 q (omega arith) (omega arith) in
        k.null_is ∙ (rw (free-not-null k.width k.value u k.free, u) refl)

    high : Special d b s t r → 224 ≤ b → is_null (kind t) ≡ false
    high k h = ⊎_elim
        (λ f. null-small b s d t r k f ∙ ne_eqb (b % 32) 22 (λ q. m (omega arith)))
        (λ f. ⊎_elim (two k) (λ j. ⊎_elim (λ q. wider k 2 25 heads.is-25 q (omega arith) (omega arith) (omega arith))
        (λ a. ⊎_elim (λ q. wider k 4 26 heads.is-26 q (omega arith) (omega arith) (omega arith))
        (λ c. let g = k.small in wider k 8 27 heads.is-27 (omega arith) (omega arith) (omega arith) (omega arith))
        (eq-or (b % 32) 26)) (eq-or (b % 32) 25)) (eq-or (b % 32) 24)) (lt-or (b % 32) 24)

-- null is one byte
pub null-here : (s : List ℕ) → 1 ≤ length s → get_or s 0 0 < 256 → NullIs s (eqb (get_or s 0 0) 246)
null-here s l y d t r e = ⊎_elim
    (λ h. null-one s l h d t r e ∙ sym (eq-eqb (get_or s 0 0) 246 h))
    (λ h. null-other s l y h d t r e ∙ sym (ne_eqb (get_or s 0 0) 246 h))
    (eq-or (get_or s 0 0) 246)

-- nothing is read where no level is left
pub no-levels : (s : List ℕ) (t : Node Ends) (r : List ℕ) → Reads 0 s t r → ⊥
unfolding item
no-levels s t r e = never-beyond s t r e

-- a number that was found is the one that is read, whatever levels are left
pub number_read : (d : ℕ) (s : List ℕ) (v : Option ℕ) → NumberIs s v → (x : Node Ends) (r : List ℕ) → Reads d s x r → kinds.a_number x ≡ numeral v
number_read zero s v h x r e = absurd (no-levels s x r e)
number_read (suc d) s v h x r e = h d x r e
