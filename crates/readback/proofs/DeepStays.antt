-- Where DEEP is met first in some bytes, it is met first in whatever begins with them.
use Prim.Native.Nat.{ℕ, zero, suc, ◌+◌, ◌-◌, ◌*◌, ◌/◌, ◌≤◌, ◌<◌}
use native.Mathlib.Omega.{arith}
use mathlib.Core.List.{List, [], ◌∷◌, ◌++◌, append_assoc}
use mathlib.Core.Bool.{Bool, true, false, cond}
use mathlib.Core.Path.{◌≡◌, refl, ap, sym, ◌∙◌, subst}
use lib.Dec.{eqb, leb, ltb}
use lib.ListN.{length, take, drop, get_or}
use Rattle.meaning.specs.Refusal.{CBOR, DEEP}
use Rattle.meaning.specs.Tree.{Node}
use Rattle.meaning.specs.Read.{Outcome, got, refused, Reader, after, ◌>>=◌, pure, malformed, here, byte, run, number, times, to_break}
use Rattle.meaning.specs.Read.{Argument, known, indefinite, wide, long_arguments, argument, major_of, info_of, definite, chunk, reserved, close, pair, content, beyond, item, no_note}
use Rattle.meaning.specs.Read.{Major, unsigned, negative, byte_string, text_string, array_of, map_of, tagged, special}
use Rattle.meaning.proofs.ReadPrefix.{still, Took, Exact, Hungry, bind-got, byte-exact, argument-exact, chunk-exact, chunk-hungry, pair-exact, pair-hungry, item-exact, item-hungry}
use Rattle.meaning.proofs.ReadTurns.{one_turn, break-ends, nothing-ends-early, another-turn}
use Rattle.readback.specs.Piece.{Sunk}

-- a reader that is given the bytes at which its item began, and never meets DEEP
abbrev Never : {A : Type 0} → (List ℕ → Reader A) → Type 0
Never m = (o s r : List ℕ) → m o s ≡ refused DEEP r → ⊥

-- .. or meets it again before whatever follows
abbrev pub Stays : {A : Type 0} → (List ℕ → Reader A) → Type 0
Stays m = (o s r : List ℕ) → m o s ≡ refused DEEP r → (o' x : List ℕ) → Sunk (m o' (s ++ x))

module _ {A : Type 0} where
  got-not : {a : A} {s r : List ℕ} → got a s ≡ refused DEEP r → ⊥
  got-not e = let z : ◌≡◌ {A = ℕ} 0 1 = cc in omega arith

  malformed-not : {q r : List ℕ} → ◌≡◌ {A = Outcome A} (refused CBOR q) (refused DEEP r) → ⊥
  malformed-not {q} {r} e = let z : CBOR ≡ DEEP = cc in omega arith

  never-stays : (m : List ℕ → Reader A) → Never m → Stays m
  never-stays m h o s r e o' x = absurd (h o s r e)

  pure_never : (a : A) → Never (still (pure a))
  pure_never a o s r e = got-not e

  malformed-never : Never (malformed {A = A})
  malformed-never o s r e = malformed-not e

module _ {A B : Type 0} (m : List ℕ → Reader A) (k : List ℕ → A → Reader B) where
  bind-never : Never m → ((a : A) → Never (λ o. k o a)) → Never (λ o. m o >>= k o)
  bind-never hm hk o s r = go (m o s) refl
    where
      go : (q : Outcome A) → m o s ≡ q → after q (k o) ≡ refused DEEP r → ⊥
      go (got a s') e h = hk a o s' r h
      go (refused n q) e h = let z : ◌≡◌ {A = Outcome A} (refused n q) (refused DEEP r) = cc in hm o s r (e ∙ z)

  sunk-first : (o s : List ℕ) → Sunk (m o s) → Sunk ((m o >>= k o) s)
  sunk-first o s h = record { left = h.left; is = ap (λ (q : Outcome A). after q (k o)) h.is }

  bind-stays : Exact m → Stays m → ((a : A) → Stays (λ o. k o a)) → Stays (λ o. m o >>= k o)
  bind-stays xm hm hk o s r h o' x = go (m o s) refl h
    where
      next : (a : A) (s' : List ℕ) → Took m s a s' → Sunk (k o' a (s' ++ x)) → Sunk ((m o' >>= k o') (s ++ x))
      next a s' t u = record {
        left = u.left;
        is = ap (λ (z : List ℕ). (m o' >>= k o') (z ++ x)) t.split ∙ ap (m o' >>= k o') (append_assoc t.eaten s' x)
            ∙ bind-got (m o') (k o') (t.eaten ++ (s' ++ x)) (t.again o' (s' ++ x)) ∙ u.is;
      }

      go : (q : Outcome A) → m o s ≡ q → after q (k o) ≡ refused DEEP r → Sunk ((m o' >>= k o') (s ++ x))
      go (got a s') e h = next a s' (xm o s a s' e) (hk a o s' r h o' x)
      go (refused n q) e h = let z : ◌≡◌ {A = Outcome A} (refused n q) (refused DEEP r) = cc in sunk-first o' (s ++ x) (hm o s r (e ∙ z) o' x)

  then-stays : Stays m → ((a : A) → Never (λ o. k o a)) → Stays (λ o. m o >>= k o)
  then-stays hm hk o s r h o' x = go (m o s) refl h
    where
      go : (q : Outcome A) → m o s ≡ q → after q (k o) ≡ refused DEEP r → Sunk ((m o' >>= k o') (s ++ x))
      go (got a s') e h = absurd (hk a o s' r h)
      go (refused n q) e h = let z : ◌≡◌ {A = Outcome A} (refused n q) (refused DEEP r) = cc in sunk-first o' (s ++ x) (hm o s r (e ∙ z) o' x)

-- ---- heads, strings

byte-never : Never (still byte)
unfolding byte
byte-never o [] r e = malformed-not e
byte-never o (b ∷ s) r e = got-not e

run-never : (n : ℕ) → Never (still (run n))
unfolding run
run-never n o s r = go (leb n (length s))
  where
    go : (b : Bool) → cond b (got (take n s) (drop n s)) (refused CBOR []) ≡ refused DEEP r → ⊥
    go true e = got-not e
    go false e = malformed-not e

number-never : (k acc : ℕ) → Never (still (number k acc))
unfolding number
number-never zero acc = pure_never acc
number-never (suc k) acc = bind-never (still byte) (λ o b. number k (256 * acc + b)) byte-never (λ b. number-never k (256 * acc + b))

wide-never : (w : ℕ) → Never (still (wide w))
unfolding wide
wide-never w = bind-never (still (number w 0)) (λ o n. pure (known w n)) (number-never w 0) (λ n. pure_never (known w n))

module _ {A : Type 0} where
  cond-never : (b : Bool) (m n : List ℕ → Reader A) → Never m → Never n → Never (λ o. cond b (m o) (n o))
  cond-never true m n hm hn = hm
  cond-never false m n hm hn = hn

  abbrev Nevers : List (List ℕ → Reader A) → Type 0
  Nevers [] = Unit {0}
  Nevers (m ∷ ms) = Never m × Nevers ms

  get_d-never : (ms : List (List ℕ → Reader A)) (d : List ℕ → Reader A) → Nevers ms → Never d → (i : ℕ) → Never (get_or ms i d)
  get_d-never [] d hs hd i = hd
  get_d-never (m ∷ ms) d hs hd zero = hs.0
  get_d-never (m ∷ ms) d hs hd (suc i) = get_d-never ms d hs.1 hd i

argument-never : (i : ℕ) → Never (λ o. argument o i)
unfolding argument long_arguments
argument-never i =
    cond-never (ltb i 24) (still (pure (known 0 i))) (get_or long_arguments (i - 24) malformed) (pure_never (known 0 i))
    (get_d-never long_arguments malformed
    (wide-never 1, (wide-never 2, (wide-never 4, (wide-never 8, (malformed-never, (malformed-never, (malformed-never, (pure_never indefinite, tt))))))))
    malformed-never (i - 24))

definite-never : (a : Argument) → Never (λ o. definite o a)
unfolding definite
definite-never (known w n) = run-never n
definite-never indefinite = malformed-never

chunk-never : (m : ℕ) → Never (still (chunk m))
unfolding chunk here
chunk-never m o s =
    bind-never (still byte) (λ o h. cond (eqb (h / 32) m) (argument o (info_of h) >>= definite o) (malformed o)) byte-never
    (λ h. cond-never (eqb (h / 32) m) (λ o. argument o (info_of h) >>= definite o) malformed (bind-never (λ o. argument o (info_of h)) definite (argument-never (info_of h)) definite-never) malformed-never) s s

-- ---- several

module _ {A : Type 0} (m : Reader A) (xm : Exact (still m)) (hm : Stays (still m)) where
  times-stays : (n : ℕ) → Stays (still (times m n))
  unfolding times
  times-stays zero = never-stays (still (pure [])) (pure_never [])
  times-stays (suc n) =
      bind-stays (still m) (λ o x. times m n >>= λ xs. pure (x ∷ xs)) xm hm
      (λ x. then-stays (still (times m n)) (λ o xs. pure (x ∷ xs)) (times-stays n) (λ xs. pure_never (x ∷ xs)))

  module _ (eats : Hungry (still m)) where
    abbrev Turning : ℕ → Type 0
    Turning f = (s r : List ℕ) → length s ≤ f → to_break m s ≡ refused DEEP r → (x : List ℕ) → Sunk (to_break m (s ++ x))

    -- the first turn is sunk, or a later one
    one-turn-stays : (f : ℕ) → Turning f → (s r : List ℕ) → length s ≤ suc f → one_turn m s ≡ refused DEEP r → (x : List ℕ) → Sunk (one_turn m (s ++ x))
    one-turn-stays f ih s r l h x = first (m s) refl h
      where
        rest : (a : A) (s' : List ℕ) → length s' < length s → (q : Outcome (List A)) → to_break m s' ≡ q → after q (λ xs. pure (a ∷ xs)) ≡ refused DEEP r → Sunk (to_break m (s' ++ x))
        rest a s' k (got xs s'') e h = absurd (got-not h)
        rest a s' k (refused n q) e h = let z : ◌≡◌ {A = Outcome (List A)} (refused n q) (refused DEEP r) = cc in ih s' r (omega arith) (e ∙ z) x

        later : (a : A) (s' : List ℕ) → Took (still m) s a s' → Sunk (to_break m (s' ++ x)) → Sunk (one_turn m (s ++ x))
        later a s' t u = record {
          left = u.left;
          is = ap (λ (z : List ℕ). one_turn m (z ++ x)) t.split ∙ ap (one_turn m) (append_assoc t.eaten s' x)
              ∙ bind-got m (λ y. to_break m >>= λ ys. pure (y ∷ ys)) (t.eaten ++ (s' ++ x)) (t.again [] (s' ++ x))
              ∙ ap (λ (q : Outcome (List A)). after q (λ ys. pure (a ∷ ys))) u.is;
        }

        first : (q : Outcome A) → m s ≡ q → after q (λ y. to_break m >>= λ ys. pure (y ∷ ys)) ≡ refused DEEP r → Sunk (one_turn m (s ++ x))
        first (got a s') e h = later a s' (xm [] s a s' e) (rest a s' (eats [] s a s' e) (to_break m s') refl h)
        first (refused n q) e h =
            let z : ◌≡◌ {A = Outcome A} (refused n q) (refused DEEP r) = cc in
            sunk-first (still m) (λ o y. to_break m >>= λ ys. pure (y ∷ ys)) [] (s ++ x) (hm [] s r (e ∙ z) [] x)

    turn-stays : (f b : ℕ) (s r : List ℕ) → Turning f → length (b ∷ s) ≤ suc f → to_break m (b ∷ s) ≡ refused DEEP r → (x : List ℕ) → Sunk (to_break m (b ∷ (s ++ x)))
    turn-stays f b s r ih l e x = go (eqb b 255) refl
      where
        go : (t : Bool) → eqb b 255 ≡ t → Sunk (to_break m (b ∷ (s ++ x)))
        go true k = absurd (got-not (sym (break-ends m b s k) ∙ e))
        go false k =
            subst Sunk (sym (another-turn m eats b (s ++ x) k))
            (one-turn-stays f ih (b ∷ s) r l (sym (another-turn m eats b s k) ∙ e) x)

    none_left : (s : List ℕ) → length s ≤ 0 → s ≡ []
    none_left [] l = refl
    none_left (b ∷ s) l = absurd (omega arith)

    each-stays : (f : ℕ) → Turning f → Turning (suc f)
    each-stays f ih [] r l e x = absurd (malformed-not (sym (nothing-ends-early m) ∙ e))
    each-stays f ih (b ∷ s) r l e x = turn-stays f b s r ih l e x

    turns-stay : (f : ℕ) → Turning f
    turns-stay zero = λ s r l e x. absurd (malformed-not (sym (nothing-ends-early m) ∙ ap (to_break m) (sym (none_left s l)) ∙ e))
    turns-stay (suc f) = each-stays f (turns-stay f)

    to_break-stays : Stays (still (to_break m))
    to_break-stays o s r e o' x = turns-stay (length s) s r (omega arith) e x

-- ---- items

close_never : (make : Unit {0} → Node (Unit {0})) → Never (λ o. close no_note o make)
unfolding close
close_never make o s r e = got-not e

module _ (it : Reader (Node (Unit {0}))) (xi : Exact (still it)) (eats : Hungry (still it)) (hi : Stays (still it)) where
  pair-stays : Stays (still (pair no_note it))
  unfolding pair
  pair-stays = bind-stays (still it) _ xi hi λ k. then-stays (still it) _ hi λ v. pure_never (record { key = k; value = v })

  ends : {A : Type 0} (m : Reader A) (make : A → Unit {0} → Node (Unit {0})) → Stays (still m) → Stays (λ o. m >>= λ a. close no_note o (make a))
  ends m make hm = then-stays (still m) (λ o a. close no_note o (make a)) hm λ a. close_never (make a)

  chunks-stay : (m : ℕ) → Stays (still (to_break (chunk m)))
  chunks-stay m = to_break-stays (chunk m) (chunk-exact m) (never-stays (still (chunk m)) (chunk-never m)) (chunk-hungry m)

  content-stays : (m : Major) (a : Argument) → Stays (λ o. content no_note it o m a)
  unfolding content
  content-stays unsigned (known w n) = never-stays _ (close_never _)
  content-stays unsigned indefinite = never-stays _ malformed-never
  content-stays negative (known w n) = never-stays _ (close_never _)
  content-stays negative indefinite = never-stays _ malformed-never
  content-stays byte_string (known w n) = ends (run n) _ (never-stays _ (run-never n))
  content-stays byte_string indefinite = ends (to_break (chunk 2)) _ (chunks-stay 2)
  content-stays text_string (known w n) = ends (run n) _ (never-stays _ (run-never n))
  content-stays text_string indefinite = ends (to_break (chunk 3)) _ (chunks-stay 3)
  content-stays array_of (known w n) = ends (times it n) _ (times-stays it xi hi n)
  content-stays array_of indefinite = ends (to_break it) _ (to_break-stays it xi hi eats)
  content-stays map_of (known w n) = ends (times (pair no_note it) n) _ (times-stays (pair no_note it) (pair-exact it xi eats) pair-stays n)
  content-stays map_of indefinite = ends (to_break (pair no_note it)) _ (to_break-stays (pair no_note it) (pair-exact it xi eats) pair-stays (pair-hungry it xi eats))
  content-stays tagged (known w n) = ends it _ hi
  content-stays tagged indefinite = never-stays _ malformed-never
  content-stays special (known w n) = never-stays _ (cond-never (reserved w n) malformed _ malformed-never (close_never _))
  content-stays special indefinite = never-stays _ malformed-never

  rest-stays : (h : ℕ) → Stays (λ o. argument o (info_of h) >>= λ a. content no_note it o (major_of h) a)
  rest-stays h =
      bind-stays (λ o. argument o (info_of h)) (λ o a. content no_note it o (major_of h) a) (argument-exact (info_of h)) (never-stays _ (argument-never (info_of h)))
      λ a. content-stays (major_of h) a

beyond-stays : {A : Type 0} → Stays (still (beyond {A = A}))
unfolding beyond
beyond-stays o [] r e o' x = absurd (malformed-not e)
beyond-stays {A} o (b ∷ s) r e o' x = go (eqb b 255) e
  where
    go : (t : Bool) → ◌≡◌ {A = Outcome A} (refused (cond t CBOR DEEP) (b ∷ s)) (refused DEEP r) → Sunk {A = A} (refused (cond t CBOR DEEP) (b ∷ (s ++ x)))
    go true e = absurd (malformed-not e)
    go false e = record { left = b ∷ (s ++ x); is = refl }

pub item-stays : (d : ℕ) → Stays (still (item no_note d))
unfolding item here
item-stays zero = beyond-stays
item-stays (suc d) = λ o s r e o' x.
    bind-stays (still byte) _ byte-exact (never-stays _ byte-never) (rest-stays (item no_note d) (item-exact d) (item-hungry d) (item-stays d)) s s r e (s ++ x) x
