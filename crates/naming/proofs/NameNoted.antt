-- One more name noted: what the tally and the two arrays say of the pairs so far, and of one more.
use Prim.Native.Nat.{ℕ, zero, suc, ◌+◌, ◌-◌, ◌≤◌, ◌<◌, min}
use native.Mathlib.Omega.{arith}
use mathlib.Core.List.{List, [], ◌∷◌, ◌++◌, map}
use mathlib.Core.Bool.{Bool, true, false, ◌&&◌, not}
use mathlib.Core.Logic.{⊎_elim}
use mathlib.Core.Option.{none, some}
use mathlib.Core.Path.{◌≡◌, refl, ap, ap₂, sym, ◌∙◌, subst}
use lib.ListN.{length, take, drop, set, length-append, length-map, length-drop}
use lib.Seq.{get_or-set_same, get_or-set_other, drop-drop, take_all, take-append-le}
use borrow.Author.Tests.{lt-ltb, le-ltb}
use Rattle.meaning.specs.Tree.{Pair}
use Rattle.meaning.specs.Text.{all, utf8, following}
use Rattle.meaning.specs.Kind as kinds
use Rattle.meaning.specs.Kind.{kind}
use Rattle.meaning.specs.Field.{is_some, key_of}
use Rattle.meaning.proofs.Tests.{and-true, and-false}
use Rattle.meaning.proofs.KindIs.{key-of-word, key-of-none}
use Rattle.names.specs.Names.{name, listed}
use Rattle.endian.proofs.Which.{lt-or}
use Rattle.walk.specs.Reading.{Ends, ends, Reads}
use Rattle.walk.specs.declared.Letters.{Letters}
use Rattle.walk.specs.Places.{TextIs, Inside}
use Rattle.naming.specs.declared.Tally.{Tally}
use borrow.Author.Rules.{part_to_end}
use Rattle.walk.specs.Put.{put}
use Rattle.walk.proofs.Puts.{length-put}
use Rattle.walk.proofs.Passed.{Here}
use Rattle.naming.specs.NotedNames.{tally, letters_of, Tallied, Noted}
use Rattle.std.specs.Prelude.{Some, None, Option}

-- ---------------------------------------------------------------- lists with one more at the end

pub all_snoc : {A : Type 0} (p : A → Bool) (l : List A) (a : A) → all p (l ++ a ∷ []) ≡ (all p l && p a)
all_snoc p [] a = and-true (p a)
all_snoc p (x ∷ l) a = rw (all_snoc p l a) (go (p x))
  where
    go : (b : Bool) → (b && (all p l && p a)) ≡ (b && all p l && p a)
    go true = refl
    go false = refl

pub map_snoc : {A B : Type 0} (f : A → B) (l : List A) (a : A) → map f (l ++ a ∷ []) ≡ map f l ++ f a ∷ []
map_snoc f [] a = refl
map_snoc {A} {B} f (x ∷ l) a = ap {B = List B} (λ r. f x ∷ r) (map_snoc f l a)

listed-snoc : (f : ℕ → List ℕ) (i k : ℕ) → listed f i (suc k) ≡ listed f i k ++ f (i + k) ∷ []
unfolding listed
listed-snoc f i zero = let z : i + 0 ≡ i = omega arith in rw z
listed-snoc f i (suc k) = let z : i + suc k ≡ suc i + k = omega arith in ap {B = List (List ℕ)} (λ r. f i ∷ r) (rw z (listed-snoc f (suc i) k))

listed-alike : (f g : ℕ → List ℕ) (i k : ℕ) → ((j : ℕ) → i ≤ j → j < i + k → f j ≡ g j) → listed f i k ≡ listed g i k
unfolding listed
listed-alike f g i zero h = refl
listed-alike f g i (suc k) h =
    ap₂ {C = List (List ℕ)} (λ x r. x ∷ r) (h i (omega arith) (omega arith)) (listed-alike f g (suc i) k (λ j l m. h j (omega arith) (omega arith)))

-- ---------------------------------------------------------------- the arrays

module _ (m : List ℕ) (left size : List ℕ) (same : length size ≡ length left) (n l k : ℕ) where
  -- room for the name of number n: those before it stay, and it stands there
  others-stay : (j : ℕ) → j < n → name m (put left n l) (put size n k) j ≡ name m left size j
  unfolding name
  others-stay j h = ⊎_elim
      (λ r. rw (lt-ltb n (length left) r, lt-ltb n (length size) (omega arith), get_or-set_other left n j l 0 (λ e. omega arith), get_or-set_other size n j k 0 (λ e. omega arith)) refl)
      (λ r. rw (le-ltb n (length left) r, le-ltb n (length size) (omega arith)) refl)
      (lt-or n (length left))

  new-one : n < length left → name m (put left n l) (put size n k) n ≡ take k (drop (length m - l) m)
  unfolding name
  new-one r = rw (lt-ltb n (length left) r, lt-ltb n (length size) (omega arith), get_or-set_same left n l 0 r, get_or-set_same size n k 0 (omega arith)) refl

  pub one_more : (ws : List (List ℕ)) (w : List ℕ) → length ws ≡ n → take k (drop (length m - l) m) ≡ w → listed (name m left size) 0 (min n (length left)) ≡ take (length left) ws
      → listed (name m (put left n l) (put size n k)) 0 (min (n + 1) (length (put left n l))) ≡ take (length (put left n l)) (ws ++ w ∷ [])
  one_more ws w e is h = rw (length-put left n l) (⊎_elim room full (lt-or n (length left)))
    where
      room : n < length left → listed (name m (put left n l) (put size n k)) 0 (min (n + 1) (length left)) ≡ take (length left) (ws ++ w ∷ [])
      room r =
          let a : min (n + 1) (length left) ≡ suc n = omega arith in
          let b : min n (length left) ≡ n = omega arith in
          let c : listed (name m left size) 0 n ≡ ws = rw b at h ∙ take_all (length left) ws (omega arith) in
          let q : 0 + n ≡ n = omega arith in
          rw a
          (listed-snoc (name m (put left n l) (put size n k)) 0 n
          ∙ ap₂ {C = List (List ℕ)} (λ x y. x ++ y ∷ []) (listed-alike _ (name m left size) 0 n (λ j o u. others-stay j (omega arith)) ∙ c) (rw q (new-one r ∙ is))
          ∙ sym (take_all (length left) (ws ++ w ∷ []) (omega (arith, length-append ws (w ∷ [])))))

      full : length left ≤ n → listed (name m (put left n l) (put size n k)) 0 (min (n + 1) (length left)) ≡ take (length left) (ws ++ w ∷ [])
      full r =
          let a : min (n + 1) (length left) ≡ min n (length left) = omega arith in
          rw a (listed-alike _ (name m left size) 0 (min n (length left)) (λ j o u. others-stay j (omega arith)) ∙ h ∙ sym (take-append-le (length left) ws (w ∷ []) (omega arith)))

-- ---------------------------------------------------------------- a key

-- what the text that begins a key says of the pair's key
pub no_key : (s : List ℕ) → TextIs s None → (d : ℕ) (p : Pair Ends) (r : List ℕ) → Reads (suc d) s p.key r → key_of p ≡ none
unfolding key_of kinds.a_word
no_key s h d p r e = key-of-none (kind p.key) (h d p.key r e)

pub a_key : (s : List ℕ) (at n : ℕ) → TextIs s (Some (record { at = at; size = n })) → (d : ℕ) (p : Pair Ends) (r : List ℕ) → Reads (suc d) s p.key r → key_of p ≡ some (take n (drop at s))
unfolding key_of kinds.a_word
a_key s at n h d p r e = key-of-word (kind p.key) (record { note = ends s r; letters = take n (drop at s) }) (h d p.key r e)

-- ---------------------------------------------------------------- the tally

module _ (m : List ℕ) (done : List (Pair Ends)) (t : Tally) (left size : List ℕ) (h : Tallied m done t left size) (p : Pair Ends) where
  module _ (l k : ℕ) (odd bad : Bool) (is : take k (drop (length m - l) m) ≡ letters_of p)
      (oddly : odd ≡ not (all (λ p. is_some (key_of p)) done && is_some (key_of p))) (badly : bad ≡ not (all (λ p. utf8 (letters_of p)) done && utf8 (letters_of p))) where
    noted : Tallied m (done ++ p ∷ []) (tally (t.count + 1) odd bad) (put left t.count l) (put size t.count k)
    noted =
        let c = h.counted in
        let e : length (done ++ p ∷ []) ≡ t.count + 1 = length-append done (p ∷ []) ∙ (omega arith) in
        record {
          counted = sym e;
          oddly = oddly ∙ ap not (sym (all_snoc (λ p. is_some (key_of p)) done p));
          badly = badly ∙ ap not (sym (all_snoc (λ p. utf8 (letters_of p)) done p));
          same-room = length-put size t.count k ∙ h.same-room ∙ sym (length-put left t.count l);
          listed-are = rw (e, map_snoc letters_of done p)
              (one_more m left size h.same-room t.count l k (map letters_of done) (letters_of p) (length-map done letters_of ∙ sym c) is (rw (← c) at h.listed-are));
        }

  pub note-odd : key_of p ≡ none → Tallied m (done ++ p ∷ []) (tally (t.count + 1) true t.bad) (put left t.count 0) (put size t.count 0)
  unfolding letters_of is_some utf8 following
  note-odd e = noted 0 0 true t.bad (rw e refl) (rw (e, and-false (all (λ p. is_some (key_of p)) done)) refl) (rw (e, and-true (all (λ p. utf8 (letters_of p)) done)) h.badly)

  module _ (at a n : ℕ) (within : at ≤ length m) (fits : a + n ≤ length (drop at m)) (e : key_of p ≡ some (take n (drop a (drop at m)))) where
    where-it-stands : take n (drop (length m - (length (drop at m) - a)) m) ≡ letters_of p
    unfolding letters_of
    where-it-stands =
        let z : length m - (length (drop at m) - a) ≡ at + a = omega (arith, length-drop at m) in
        rw (z, e) (ap (take n) (sym (drop-drop a at m)))

    pub note-good : utf8 (take n (drop a (drop at m))) ≡ true
        → Tallied m (done ++ p ∷ []) (tally (t.count + 1) t.odd t.bad) (put left t.count (length (drop at m) - a)) (put size t.count n)
    unfolding letters_of is_some
    note-good g =
        noted (length (drop at m) - a) n t.odd t.bad where-it-stands
        (rw (e, and-true (all (λ p. is_some (key_of p)) done)) h.oddly)
        (rw (e, g, and-true (all (λ p. utf8 (letters_of p)) done)) h.badly)

    pub note-bad : utf8 (take n (drop a (drop at m))) ≡ false
        → Tallied m (done ++ p ∷ []) (tally (t.count + 1) t.odd true) (put left t.count (length (drop at m) - a)) (put size t.count n)
    unfolding letters_of is_some
    note-bad g =
        noted (length (drop at m) - a) n t.odd true where-it-stands
        (rw (e, and-true (all (λ p. is_some (key_of p)) done)) h.oddly)
        (rw (e, g, and-false (all (λ p. utf8 (letters_of p)) done)) refl)

pub none-noted : (m left size : List ℕ) → length size ≡ length left → Tallied m [] (tally 0 false false) left size
unfolding listed
none-noted m left size e = record { counted = refl; oddly = refl; badly = refl; same-room = e; listed-are = (let z : min 0 (length left) ≡ 0 = omega arith in rw z refl) ∙ sym (take_none (length left)) }
  where
    take_none : (n : ℕ) → take {A = List ℕ} n [] ≡ []
    take_none zero = refl
    take_none (suc n) = refl

-- ---------------------------------------------------------------- as the code notes it

pub noted-as : (s : List ℕ) (t : Tally) (left size : List ℕ) {t₁ t₂ : Tally} {left₁ left₂ size₁ size₂ : List ℕ} → t₂ ≡ t₁ → left₂ ≡ left₁ → size₂ ≡ size₁
    → Noted s t left size t₁ left₁ size₁ → Noted s t left size t₂ left₂ size₂
noted-as s t left size a b c h = rw (a, b, c) h

module _ (s : List ℕ) (t : Tally) (left size : List ℕ) (v : Option Letters) (h : TextIs (Here s 0) v) where
  pub noted-odd : v ≡ None → Noted s t left size (tally (t.count + 1) true t.bad) (put left t.count 0) (put size t.count 0)
  noted-odd e =
      let k : TextIs s None = rw (part_to_end s 0, e) at h in
      (length-put left t.count 0, λ m at within is done d p r x y. note-odd m done t left size y p (no_key s k d p r x))

  module _ (a n : ℕ) (e : v ≡ Some (record { at = a; size = n })) (fits : a + n ≤ length s) where
    k : TextIs s (Some (record { at = a; size = n }))
    k = rw (part_to_end s 0, e) at h

    key-is : (m : List ℕ) (at : ℕ) → s ≡ drop at m → (d : ℕ) (p : Pair Ends) (r : List ℕ) → Reads (suc d) s p.key r → key_of p ≡ some (take n (drop a (drop at m)))
    key-is m at is d p r x = a_key s a n k d p r x ∙ ap (λ u. some (take n (drop a u))) is

    letters : take (a + n - a) (drop a s) ≡ take n (drop a s)
    letters = let z : a + n - a ≡ n = omega arith in ap (λ i. take i (drop a s)) z

    pub noted-good : true ≡ utf8 (take (a + n - a) (drop a s)) → Noted s t left size (tally (t.count + 1) t.odd t.bad) (put left t.count (length s - a)) (put size t.count n)
    noted-good g = (
      length-put left t.count (length s - a),
      λ m at within is done d p r x y.
          subst (λ u. Tallied m (done ++ p ∷ []) (tally (t.count + 1) t.odd t.bad) (put left t.count (length u - a)) (put size t.count n)) (sym is)
          (note-good m done t left size y p at a n within (subst (λ u. a + n ≤ length u) is fits) (key-is m at is d p r x) (sym (g ∙ ap utf8 letters ∙ ap (λ u. utf8 (take n (drop a u))) is))),
    )

    pub noted-bad : false ≡ utf8 (take (a + n - a) (drop a s)) → Noted s t left size (tally (t.count + 1) t.odd true) (put left t.count (length s - a)) (put size t.count n)
    noted-bad g = (
      length-put left t.count (length s - a),
      λ m at within is done d p r x y.
          subst (λ u. Tallied m (done ++ p ∷ []) (tally (t.count + 1) t.odd true) (put left t.count (length u - a)) (put size t.count n)) (sym is)
          (note-bad m done t left size y p at a n within (subst (λ u. a + n ≤ length u) is fits) (key-is m at is d p r x) (sym (g ∙ ap utf8 letters ∙ ap (λ u. utf8 (take n (drop a u))) is))),
    )

-- a number put where there is room, and where there is none
pub put-here : (l : List ℕ) (i x : ℕ) → i < length l → set l i x ≡ put l i x
put-here l i x h = rw (lt-ltb i (length l) h) refl

pub put-nowhere : (l : List ℕ) (i x : ℕ) → length l ≤ i → l ≡ put l i x
put-nowhere l i x h = rw (le-ltb i (length l) h) refl

-- a key's letters lie inside what it begins
pub inside : (s : List ℕ) (v : Option Letters) (a n : ℕ) → Inside (Here s 0) v → v ≡ Some (record { at = a; size = n }) → a + n ≤ length s
inside s v a n h e = let z : a + n ≤ length (Here s 0) = rw e at h in let y : length (Here s 0) ≡ length s = ap length (part_to_end s 0) in omega arith

pub begins-inside : (s : List ℕ) (v : Option Letters) (l : Letters) → Inside (Here s 0) v → v ≡ Some l → l.at ≤ length s
begins-inside s v l h e = omega (arith, inside s v l.at l.size h e)

-- a key that is text, whether it is UTF-8 or not
module _ (s : List ℕ) (t : Tally) (left size : List ℕ) (v : Option Letters) (within : Inside (Here s 0) v) (h : TextIs (Here s 0) v) (a n : ℕ) (e : v ≡ Some (record { at = a; size = n })) (u : Bool)
    (by : u ≡ utf8 (take (a + n - a) (drop a s))) (t' : Tally) (left' size' : List ℕ) (x : left' ≡ put left t.count (length s - a)) (y : size' ≡ put size t.count n) where
  pub text-noted : u ≡ true → t' ≡ tally (t.count + 1) t.odd t.bad → Noted s t left size t' left' size'
  text-noted g z = noted-as s t left size z x y (noted-good s t left size v h a n e (inside s v a n within e) (sym g ∙ by))

  pub no-text-noted : u ≡ false → t' ≡ tally (t.count + 1) t.odd true → Noted s t left size t' left' size'
  no-text-noted g z = noted-as s t left size z x y (noted-bad s t left size v h a n e (inside s v a n within e) (sym g ∙ by))
