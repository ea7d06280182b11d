-- What a reader took is a prefix of the bytes, and the same prefix is taken alike before any other bytes; an item takes a byte at least.
-- A reader is given with the bytes `o` at which its item began: a refusal names them, and what is got does not depend on them.
use Prim.Native.Nat.{ℕ, zero, suc, ◌+◌, ◌-◌, ◌≤◌, ◌<◌, ◌/◌, ◌*◌}
use native.Mathlib.Omega.{arith}
use mathlib.Core.List.{List, [], ◌∷◌, ◌++◌, append_assoc}
use mathlib.Core.Bool.{Bool, true, false, cond}
use mathlib.Core.Path.{◌≡◌, refl, ap, sym, ◌∙◌, subst}
use lib.Dec.{eqb, leb, ltb, T, leb→le, le→leb}
use lib.ListN.{length, take, drop, get_or, length-append, take-append-drop, length-take}
use lib.Seq.{take_at, drop_at}
use Rattle.meaning.specs.Refusal.{CBOR}
use Rattle.meaning.specs.Tree.{Node}
use Rattle.meaning.specs.Read.{Outcome, got, refused, Reader, after, ◌>>=◌, pure, malformed, here, byte, run, number, stop, times, until_break, to_break}
use Rattle.meaning.specs.Read.{Argument, known, indefinite, wide, long_arguments, argument, major_of, info_of, definite, chunk, reserved, close, pair, content, beyond, item, no_note}
use Rattle.meaning.specs.Read.{Major, unsigned, negative, byte_string, text_string, array_of, map_of, tagged, special}

-- a reader that does not ask where its item began
abbrev pub still : {A : Type 0} → Reader A → List ℕ → Reader A
still m o = m

pub record Took {A : Type 0} (m : List ℕ → Reader A) (s : List ℕ) (a : A) (r : List ℕ) : Type 0 where
  pub eaten : List ℕ
  pub split : s ≡ eaten ++ r
  pub again : (o x : List ℕ) → m o (eaten ++ x) ≡ got a x

abbrev pub Exact : {A : Type 0} → (List ℕ → Reader A) → Type 0
Exact {A} m = (o s : List ℕ) (a : A) (r : List ℕ) → m o s ≡ got a r → Took m s a r

pub never-got : {A : Type 0} {n : ℕ} {a : A} {q r : List ℕ} → ◌≡◌ {A = Outcome A} (refused n q) (got a r) → ⊥
never-got e = let z : ◌≡◌ {A = ℕ} 0 1 = cc in omega arith

pub record Alike {A : Type 0} (a b : A) (s r : List ℕ) : Type 0 where
  pub value : a ≡ b
  pub rest : s ≡ r

pub alike : {A : Type 0} {a b : A} {s r : List ℕ} → got a s ≡ got b r → Alike a b s r
alike e = record { value = cc; rest = cc }

module _ {A : Type 0} (m : List ℕ → Reader A) (s : List ℕ) where
  took-as : {a b : A} {r r' : List ℕ} → Took m s a r → got a r ≡ got b r' → Took m s b r'
  took-as {a} {b} {r} {r'} t e =
      let k : Alike a b r r' = alike e in
      subst (λ b. Took m s b r') k.value (subst (λ r. Took m s a r) k.rest t)

module _ {A B : Type 0} where
  pub bind-got : (m : Reader A) (k : A → Reader B) (s : List ℕ) {a : A} {r : List ℕ} → m s ≡ got a r → (m >>= k) s ≡ k a r
  bind-got m k s e = ap (λ o. after o k) e

  module _ (m : List ℕ → Reader A) (k : List ℕ → A → Reader B) where
    join : {s s' r : List ℕ} {a : A} {b : B} → Took m s a s' → Took (λ o. k o a) s' b r → Took (λ o. m o >>= k o) s b r
    join {s} {s'} {r} {a} {b} t u = record {
      eaten = t.eaten ++ u.eaten;
      split = t.split ∙ ap (λ z. t.eaten ++ z) u.split ∙ sym (append_assoc t.eaten u.eaten r);
      again = λ o x. rw (append_assoc t.eaten u.eaten x) (bind-got (m o) (k o) (t.eaten ++ (u.eaten ++ x)) (t.again o (u.eaten ++ x)) ∙ u.again o x);
    }

    pub bind-exact : Exact m → ((a : A) → Exact (λ o. k o a)) → Exact (λ o. m o >>= k o)
    bind-exact hm hk o s b r = go (m o s) refl
      where
        go : (q : Outcome A) → m o s ≡ q → after q (k o) ≡ got b r → Took (λ o. m o >>= k o) s b r
        go (got a s') e h = join (hm o s a s' e) (hk a o s' b r h)
        go (refused n q) e h = absurd (never-got h)

-- a reader that first notes where it stands
module _ {A : Type 0} (m : List ℕ → Reader A) where
  here-is : (s : List ℕ) → (here >>= m) s ≡ m s s
  unfolding here
  here-is s = refl

  pub here-exact : Exact m → Exact (still (here >>= m))
  here-exact hm o s a r e =
      let t : Took m s a r = hm s s a r (sym (here-is s) ∙ e) in
      record { eaten = t.eaten; split = t.split; again = λ o x. here-is (t.eaten ++ x) ∙ t.again (t.eaten ++ x) x }

module _ {A : Type 0} where
  pub pure-exact : (a : A) → Exact (still (pure a))
  pure-exact a o s b r = took-as (still (pure a)) s (record { eaten = []; split = refl; again = λ o x. refl })

  pub malformed-exact : Exact (malformed {A = A})
  malformed-exact o s b r e = absurd (never-got e)

  pub cond-exact : (b : Bool) (m n : List ℕ → Reader A) → Exact m → Exact n → Exact (λ o. cond b (m o) (n o))
  cond-exact true m n hm hn = hm
  cond-exact false m n hm hn = hn

  abbrev Exacts : List (List ℕ → Reader A) → Type 0
  Exacts [] = Unit {0}
  Exacts (m ∷ ms) = Exact m × Exacts ms

  get_d-exact : (ms : List (List ℕ → Reader A)) (d : List ℕ → Reader A) → Exacts ms → Exact d → (i : ℕ) → Exact (get_or ms i d)
  get_d-exact [] d hs hd i = hd
  get_d-exact (m ∷ ms) d hs hd zero = hs.0
  get_d-exact (m ∷ ms) d hs hd (suc i) = get_d-exact ms d hs.1 hd i

pub byte-exact : Exact (still byte)
unfolding byte
byte-exact o [] a r e = absurd (never-got e)
byte-exact o (b ∷ s) a r e = took-as (still byte) (b ∷ s) (record { eaten = b ∷ []; split = refl; again = λ o x. refl }) e

holds : (b : Bool) → T b → b ≡ true
holds true t = refl
holds false t = absurd t

pub run_at : (c x : List ℕ) (n : ℕ) → n ≡ length c → run n (c ++ x) ≡ got c x
unfolding run
run_at c x n e = rw (holds (leb n (length (c ++ x))) (le→leb n (length (c ++ x)) (simp length-append (omega arith))), take_at c x n (sym e), drop_at c x n (sym e))

pub run-exact : (n : ℕ) → Exact (still (run n))
unfolding run
run-exact n o s a r = go (leb n (length s)) refl
  where
    go : (b : Bool) → leb n (length s) ≡ b → cond b (got (take n s) (drop n s)) (refused CBOR []) ≡ got a r → Took (still (run n)) s a r
    go true e h =
        let l : n ≤ length s = leb→le n (length s) (subst T (sym e) tt) in
        let k : n ≡ length (take n s) = simp length-take (omega arith) in
        took-as (still (run n)) s (record { eaten = take n s; split = sym (take-append-drop n s); again = λ o x. run_at (take n s) x n k }) h
    go false e h = absurd (never-got h)

number-exact : (k acc : ℕ) → Exact (still (number k acc))
unfolding number
number-exact zero acc = pure-exact acc
number-exact (suc k) acc = bind-exact (still byte) (λ o b. number k (256 * acc + b)) byte-exact (λ b. number-exact k (256 * acc + b))

wide-exact : (w : ℕ) → Exact (still (wide w))
unfolding wide
wide-exact w = bind-exact (still (number w 0)) (λ o n. pure (known w n)) (number-exact w 0) (λ n. pure-exact (known w n))

pub argument-exact : (i : ℕ) → Exact (λ o. argument o i)
unfolding argument long_arguments
argument-exact i =
    cond-exact (ltb i 24) (still (pure (known 0 i))) (get_or long_arguments (i - 24) malformed) (pure-exact (known 0 i))
    (get_d-exact long_arguments malformed
    (wide-exact 1, (wide-exact 2, (wide-exact 4, (wide-exact 8, (malformed-exact, (malformed-exact, (malformed-exact, (pure-exact indefinite, tt))))))))
    malformed-exact (i - 24))

definite-exact : (a : Argument) → Exact (λ o. definite o a)
unfolding definite
definite-exact (known w n) = run-exact n
definite-exact indefinite = malformed-exact

module _ {A : Type 0} (m : Reader A) (hm : Exact (still m)) where
  pub times-exact : (n : ℕ) → Exact (still (times m n))
  unfolding times
  times-exact zero = pure-exact []
  times-exact (suc n) =
      bind-exact (still m) (λ o x. times m n >>= λ xs. pure (x ∷ xs)) hm (λ x. bind-exact (still (times m n)) (λ o xs. pure (x ∷ xs)) (times-exact n) (λ xs. pure-exact (x ∷ xs)))

-- a reader that takes a byte at least
abbrev pub Hungry : {A : Type 0} → (List ℕ → Reader A) → Type 0
Hungry {A} m = (o s : List ℕ) (a : A) (r : List ℕ) → m o s ≡ got a r → length r < length s

pub took-length : {A : Type 0} {m : List ℕ → Reader A} {s r : List ℕ} {a : A} (t : Took m s a r) → length s ≡ length t.eaten + length r
took-length {A} {m} {s} {r} {a} t = ap length t.split ∙ length-append t.eaten r

module _ {A B : Type 0} where
  bind-hungry : (m : List ℕ → Reader A) (k : List ℕ → A → Reader B) → Hungry m → ((a : A) → Exact (λ o. k o a)) → Hungry (λ o. m o >>= k o)
  bind-hungry m k hm hk o s b r = go (m o s) refl
    where
      go : (q : Outcome A) → m o s ≡ q → after q (k o) ≡ got b r → length r < length s
      go (got a s') e h = omega (arith, hm o s a s' e, took-length (hk a o s' b r h))
      go (refused n q) e h = absurd (never-got h)

here-hungry : {A : Type 0} (m : List ℕ → Reader A) → Hungry m → Hungry (still (here >>= m))
here-hungry m hm o s a r e = hm s s a r (sym (here-is m s) ∙ e)

byte-hungry : Hungry (still byte)
unfolding byte
byte-hungry o [] a r e = absurd (never-got e)
byte-hungry o (b ∷ s) a r e = let k : s ≡ r = (alike e).rest in rw k (omega arith)

-- the turns of an indefinite item: the fuel does not matter, if there is enough for the bytes taken
pub record Turned {A : Type 0} (m : Reader A) (s : List ℕ) (a : List A) (r : List ℕ) : Type 0 where
  pub eaten : List ℕ
  pub split : s ≡ eaten ++ r
  pub again : (g : ℕ) → length eaten ≤ g → (x : List ℕ) → until_break m g (eaten ++ x) ≡ got a x

module _ {A : Type 0} (m : Reader A) where
  abbrev turn : ℕ → Reader (List A)
  turn f = m >>= λ x. until_break m f >>= λ xs. pure (x ∷ xs)

  at-break : (b f : ℕ) (s : List ℕ) → eqb b 255 ≡ true → until_break m (suc f) (b ∷ s) ≡ got [] s
  unfolding until_break stop
  at-break b f s e = rw e

  at_turn : (b f : ℕ) (s : List ℕ) → eqb b 255 ≡ false → until_break m (suc f) (b ∷ s) ≡ turn f (b ∷ s)
  unfolding until_break stop
  at_turn b f s e = rw e

  no_fuel : (s : List ℕ) → until_break m zero s ≡ refused CBOR []
  unfolding until_break
  no_fuel s = refl

  no_bytes : (f : ℕ) → until_break m (suc f) [] ≡ refused CBOR []
  unfolding until_break stop
  no_bytes f = refl

  turned_as : (s : List ℕ) {a b : List A} {r r' : List ℕ} → Turned m s a r → got a r ≡ got b r' → Turned m s b r'
  turned_as s {a} {b} {r} {r'} t e =
      let k : Alike a b r r' = alike e in
      subst (λ b. Turned m s b r') k.value (subst (λ r. Turned m s a r) k.rest t)

  module _ (hm : Exact (still m)) (eats : Hungry (still m)) where
    pub again-turn : (b g : ℕ) (c d x s : List ℕ) (a : A) (as' : List A) → eqb b 255 ≡ false → 1 ≤ length c → b ∷ s ≡ c ++ (d ++ x)
        → ((y : List ℕ) → m (c ++ y) ≡ got a y) → ((g : ℕ) → length d ≤ g → (y : List ℕ) → until_break m g (d ++ y) ≡ got as' y)
        → length (c ++ d) ≤ g → (y : List ℕ) → until_break m g ((c ++ d) ++ y) ≡ got (a ∷ as') y
    again-turn b g [] d x s a as' e l z h k f y = absurd (omega arith)
    again-turn b zero (v ∷ c) d x s a as' e l z h k f y = absurd (omega arith)
    again-turn b (suc g) (v ∷ c) d x s a as' e l z h k f y =
        let bv : b ≡ v = cc in
        at_turn v g ((c ++ d) ++ y) (rw bv at e)
        ∙ ap (λ w. turn g (v ∷ w)) (append_assoc c d y)
        ∙ bind-got m (λ x. until_break m g >>= λ xs. pure (x ∷ xs)) (v ∷ (c ++ (d ++ y))) (h (d ++ y))
        ∙ bind-got (until_break m g) (λ xs. pure (a ∷ xs)) (d ++ y) (k g (omega (arith, length-append c d)) y)

    two-turns : (b : ℕ) (s s' r : List ℕ) (a : A) (xs : List A) → eqb b 255 ≡ false → length s' < length (b ∷ s) → Took (still m) (b ∷ s) a s' → Turned m s' xs r → Turned m (b ∷ s) (a ∷ xs) r
    two-turns b s s' r a xs e l t u = record {
      eaten = t.eaten ++ u.eaten;
      split = t.split ∙ ap (λ z. t.eaten ++ z) u.split ∙ sym (append_assoc t.eaten u.eaten r);
      again = λ g f y. again-turn b g t.eaten u.eaten r s a xs e (omega (arith, took-length t)) (t.split ∙ ap (λ z. t.eaten ++ z) u.split) (t.again []) u.again f y;
    }

    turned-step : (b f : ℕ) (s : List ℕ) (as' : List A) (r : List ℕ)
        → ((s : List ℕ) (as' : List A) (r : List ℕ) → until_break m f s ≡ got as' r → Turned m s as' r)
        → eqb b 255 ≡ false → turn f (b ∷ s) ≡ got as' r → Turned m (b ∷ s) as' r
    turned-step b f s as' r ih e = go (m (b ∷ s)) refl
      where
        go₂ : (a : A) (s' : List ℕ) → m (b ∷ s) ≡ got a s' → (o : Outcome (List A)) → until_break m f s' ≡ o → after o (λ xs. pure (a ∷ xs)) ≡ got as' r → Turned m (b ∷ s) as' r
        go₂ a s' h (got xs r') k z = turned_as (b ∷ s) (two-turns b s s' r' a xs e (eats [] (b ∷ s) a s' h) (hm [] (b ∷ s) a s' h) (ih s' xs r' k)) z
        go₂ a s' h (refused n q) k z = absurd (never-got z)

        go : (o : Outcome A) → m (b ∷ s) ≡ o → after o (λ x. until_break m f >>= λ xs. pure (x ∷ xs)) ≡ got as' r → Turned m (b ∷ s) as' r
        go (got a s') h z = go₂ a s' h (until_break m f s') refl z
        go (refused n q) h z = absurd (never-got z)

    pub again-break : (b g : ℕ) → eqb b 255 ≡ true → 1 ≤ g → (x : List ℕ) → until_break m g (b ∷ x) ≡ got [] x
    again-break b zero e l x = absurd (omega arith)
    again-break b (suc g) e l x = at-break b g x e

    turned : (f : ℕ) (s : List ℕ) (as' : List A) (r : List ℕ) → until_break m f s ≡ got as' r → Turned m s as' r
    turned zero s as' r e = absurd (never-got (sym (no_fuel s) ∙ e))
    turned (suc f) [] as' r e = absurd (never-got (sym (no_bytes f) ∙ e))
    turned (suc f) (b ∷ s) as' r e = go (eqb b 255) refl (turned f)
      where
        go : (t : Bool) → eqb b 255 ≡ t → ((s : List ℕ) (as' : List A) (r : List ℕ) → until_break m f s ≡ got as' r → Turned m s as' r) → Turned m (b ∷ s) as' r
        go true h ih = turned_as (b ∷ s) (record { eaten = b ∷ []; split = refl; again = λ g l x. again-break b g h l x }) (sym (at-break b f s h) ∙ e)
        go false h ih = turned-step b f s as' r ih h (sym (at_turn b f s h) ∙ e)

    pub to_break-exact : Exact (still (to_break m))
    unfolding to_break
    to_break-exact o s a r e =
        let t : Turned m s a r = turned (length s) s a r e in
        record { eaten = t.eaten; split = t.split; again = λ o x. t.again (length (t.eaten ++ x)) (simp length-append (omega arith)) x }

chunk-rest : (m h : ℕ) → Exact (λ o. cond (eqb (h / 32) m) (argument o (info_of h) >>= definite o) (malformed o))
chunk-rest m h =
    cond-exact (eqb (h / 32) m) (λ o. argument o (info_of h) >>= definite o) malformed
    (bind-exact (λ o. argument o (info_of h)) definite (argument-exact (info_of h)) definite-exact) malformed-exact

pub chunk-exact : (m : ℕ) → Exact (still (chunk m))
unfolding chunk
chunk-exact m = here-exact _ (bind-exact (still byte) (λ o h. cond (eqb (h / 32) m) (argument o (info_of h) >>= definite o) (malformed o)) byte-exact (chunk-rest m))

pub chunk-hungry : (m : ℕ) → Hungry (still (chunk m))
unfolding chunk
chunk-hungry m = here-hungry _ (bind-hungry (still byte) (λ o h. cond (eqb (h / 32) m) (argument o (info_of h) >>= definite o) (malformed o)) byte-hungry (chunk-rest m))

close-exact : (make : Unit {0} → Node (Unit {0})) → Exact (λ o. close no_note o make)
unfolding close no_note
close-exact make o s a r = took-as (λ o. close no_note o make) s (record { eaten = []; split = refl; again = λ o x. refl })

module _ (it : Reader (Node (Unit {0}))) (hi : Exact (still it)) (eats : Hungry (still it)) where
  pub pair-exact : Exact (still (pair no_note it))
  unfolding pair
  pair-exact = bind-exact (still it) _ hi λ k. bind-exact (still it) _ hi λ v. pure-exact (record { key = k; value = v })

  pub pair-hungry : Hungry (still (pair no_note it))
  unfolding pair
  pair-hungry = bind-hungry (still it) _ eats λ k. bind-exact (still it) _ hi λ v. pure-exact (record { key = k; value = v })

  -- a first part, then the end of the item
  ends : {A : Type 0} (m : Reader A) (make : A → Unit {0} → Node (Unit {0})) → Exact (still m) → Exact (λ o. m >>= λ a. close no_note o (make a))
  ends m make hm = bind-exact (still m) (λ o a. close no_note o (make a)) hm λ a. close-exact (make a)

  content-exact : (m : Major) (a : Argument) → Exact (λ o. content no_note it o m a)
  unfolding content
  content-exact unsigned (known w n) = close-exact _
  content-exact unsigned indefinite = malformed-exact
  content-exact negative (known w n) = close-exact _
  content-exact negative indefinite = malformed-exact
  content-exact byte_string (known w n) = ends (run n) _ (run-exact n)
  content-exact byte_string indefinite = ends (to_break (chunk 2)) _ (to_break-exact (chunk 2) (chunk-exact 2) (chunk-hungry 2))
  content-exact text_string (known w n) = ends (run n) _ (run-exact n)
  content-exact text_string indefinite = ends (to_break (chunk 3)) _ (to_break-exact (chunk 3) (chunk-exact 3) (chunk-hungry 3))
  content-exact array_of (known w n) = ends (times it n) _ (times-exact it hi n)
  content-exact array_of indefinite = ends (to_break it) _ (to_break-exact it hi eats)
  content-exact map_of (known w n) = ends (times (pair no_note it) n) _ (times-exact (pair no_note it) pair-exact n)
  content-exact map_of indefinite = ends (to_break (pair no_note it)) _ (to_break-exact (pair no_note it) pair-exact pair-hungry)
  content-exact tagged (known w n) = ends it _ hi
  content-exact tagged indefinite = malformed-exact
  content-exact special (known w n) = cond-exact (reserved w n) malformed _ malformed-exact (close-exact _)
  content-exact special indefinite = malformed-exact

  rest-exact : (h : ℕ) → Exact (λ o. argument o (info_of h) >>= λ a. content no_note it o (major_of h) a)
  rest-exact h = bind-exact (λ o. argument o (info_of h)) (λ o a. content no_note it o (major_of h) a) (argument-exact (info_of h)) λ a. content-exact (major_of h) a

pub never-beyond : {A : Type 0} (s : List ℕ) (a : A) (r : List ℕ) → beyond s ≡ got a r → ⊥
unfolding beyond
never-beyond [] a r e = never-got e
never-beyond (b ∷ s) a r e = never-got e

mutual
  unfolding item

  pub item-exact : (d : ℕ) → Exact (still (item no_note d))
  item-exact zero = λ o s a r e. absurd (never-beyond s a r e)
  item-exact (suc d) = here-exact _ (bind-exact (still byte) _ byte-exact (rest-exact (item no_note d) (item-exact d) (item-hungry d)))

  pub item-hungry : (d : ℕ) → Hungry (still (item no_note d))
  item-hungry zero = λ o s a r e. absurd (never-beyond s a r e)
  item-hungry (suc d) = here-hungry _ (bind-hungry (still byte) _ byte-hungry (rest-exact (item no_note d) (item-exact d) (item-hungry d)))
