-- The reading of an item refuses with CBOR or DEEP, whatever its annotations: one law for each reader.
use Prim.Native.Nat.{ℕ, zero, suc, ◌+◌, ◌-◌, ◌*◌, ◌/◌}
use mathlib.Core.Logic.{◌⊎◌, inl, inr}
use mathlib.Core.List.{List, [], ◌∷◌}
use mathlib.Core.Bool.{Bool, true, false, cond}
use mathlib.Core.Path.{◌≡◌, refl, subst}
use lib.ListN.{length, get_or}
use lib.Dec.{eqb, leb, ltb}
use Rattle.meaning.specs.Refusal.{CBOR, DEEP}
use Rattle.meaning.specs.Tree.{Node}
use Rattle.meaning.specs.Read.{Outcome, got, refused, Reader, after, ◌>>=◌, malformed, here, byte, run, number, stop, times, until_break, to_break}
use Rattle.meaning.specs.Read.{Argument, known, indefinite, wide, long_arguments, argument, major_of, info_of, definite, chunk, reserved, close, pair, content, beyond, item}
use Rattle.meaning.specs.Read.{Major, unsigned, negative, byte_string, text_string, array_of, map_of, tagged, special}
use Rattle.meaning.specs.Every.{Every}

-- the numbers that a reading refuses with
abbrev Told : ℕ → Type 0
Told n = (n ≡ CBOR) ⊎ (n ≡ DEEP)

module _ {A : Type 0} where
  abbrev Cases : Outcome A → Type 0
  Cases (got a r) = Unit {0}
  Cases (refused n q) = Told n

  record Refuses (o : Outcome A) : Type 0 where
    is : Cases o

  abbrev Tells : Reader A → Type 0
  Tells m = (s : List ℕ) → Refuses (m s)

  fine : (a : A) (r : List ℕ) → Refuses (got a r)
  fine a r = record { is = tt }

  ended : (q : List ℕ) → Refuses (refused CBOR q)
  ended q = record { is = inl refl }

  one-of : (b : Bool) (x y : Outcome A) → Refuses x → Refuses y → Refuses (cond b x y)
  one-of true x y h k = h
  one-of false x y h k = k

  cond-tells : (b : Bool) (m n : Reader A) → Tells m → Tells n → Tells (cond b m n)
  cond-tells true m n hm hn = hm
  cond-tells false m n hm hn = hn

  get_d-tells : (ms : List (List ℕ → Reader A)) (d : List ℕ → Reader A) → Every (λ (m : List ℕ → Reader A). (o : List ℕ) → Tells (m o)) ms
      → ((o : List ℕ) → Tells (d o)) → (i : ℕ) (o : List ℕ) → Tells (get_or ms i d o)
  get_d-tells [] d hs hd i = hd
  get_d-tells (m ∷ ms) d hs hd zero = hs.0
  get_d-tells (m ∷ ms) d hs hd (suc i) = get_d-tells ms d hs.1 hd i

module _ {A B : Type 0} where
  after-tells : (o : Outcome A) (k : A → Reader B) → Refuses o → ((a : A) → Tells (k a)) → Refuses (after o k)
  after-tells (got a r) k h f = f a r
  after-tells (refused n q) k h f = record { is = h.is }

  bind-tells : (m : Reader A) (k : A → Reader B) → Tells m → ((a : A) → Tells (k a)) → Tells (m >>= k)
  bind-tells m k hm hk s = after-tells (m s) k (hm s) hk

byte-tells : Tells byte
unfolding byte
byte-tells [] = ended []
byte-tells (b ∷ s) = fine b s

run-tells : (n : ℕ) → Tells (run n)
unfolding run
run-tells n s = one-of (leb n (length s)) _ _ (fine _ _) (ended [])

number-tells : (k acc : ℕ) → Tells (number k acc)
unfolding number
number-tells zero acc = fine acc
number-tells (suc k) acc = bind-tells byte _ byte-tells λ b. number-tells k (256 * acc + b)

stop-tells : Tells stop
unfolding stop
stop-tells [] = ended []
stop-tells (b ∷ s) = one-of (eqb b 255) _ _ (fine true s) (fine false (b ∷ s))

module _ {A : Type 0} (m : Reader A) (hm : Tells m) where
  times-tells : (n : ℕ) → Tells (times m n)
  unfolding times
  times-tells zero = fine []
  times-tells (suc n) = bind-tells m _ hm λ x. bind-tells (times m n) _ (times-tells n) λ xs. fine (x ∷ xs)

  until-tells : (fuel : ℕ) → Tells (until_break m fuel)
  unfolding until_break
  until-tells zero = λ s. ended []
  until-tells (suc fuel) =
      bind-tells stop _ stop-tells λ b. cond-tells b _ _ (fine [])
      (bind-tells m _ hm λ x. bind-tells (until_break m fuel) _ (until-tells fuel) λ xs. fine (x ∷ xs))

  to_break-tells : Tells (to_break m)
  unfolding to_break
  to_break-tells s = until-tells (length s) s

wide-tells : (w : ℕ) (o : List ℕ) → Tells (wide w)
unfolding wide
wide-tells w o = bind-tells (number w 0) _ (number-tells w 0) λ n. fine (known w n)

argument-tells : (o : List ℕ) (i : ℕ) → Tells (argument o i)
unfolding argument long_arguments
argument-tells o i =
    cond-tells (ltb i 24) _ _ (fine (known 0 i))
    (get_d-tells long_arguments malformed
    (wide-tells 1, (wide-tells 2, (wide-tells 4, (wide-tells 8, ((λ o s. ended o), ((λ o s. ended o), ((λ o s. ended o), ((λ o. fine indefinite), tt))))))))
    (λ o s. ended o) (i - 24) o)

definite-tells : (o : List ℕ) (a : Argument) → Tells (definite o a)
unfolding definite
definite-tells o (known w n) = run-tells n
definite-tells o indefinite = λ s. ended o

chunk-tells : (m : ℕ) → Tells (chunk m)
unfolding chunk here
chunk-tells m s =
    bind-tells byte (λ h. cond (eqb (h / 32) m) (argument s (info_of h) >>= definite s) (malformed s)) byte-tells
    (λ h. cond-tells (eqb (h / 32) m) _ _ (bind-tells (argument s (info_of h)) _ (argument-tells s (info_of h)) (definite-tells s)) (λ r. ended s)) s

beyond-tells : {A : Type 0} → Tells (beyond {A = A})
unfolding beyond
beyond-tells [] = ended []
beyond-tells (b ∷ s) = record { is = by (eqb b 255) }
  where
    by : (t : Bool) → Told (cond t CBOR DEEP)
    by true = inl refl
    by false = inr refl

module _ {P : Type 0} (note : List ℕ → List ℕ → P) where
  close-tells : (o : List ℕ) (make : P → Node P) → Tells (close note o make)
  unfolding close
  close-tells o make s = fine _ s

  module _ (it : Reader (Node P)) (hi : Tells it) where
    pair-tells : Tells (pair note it)
    unfolding pair
    pair-tells = bind-tells it _ hi λ k. bind-tells it _ hi λ v. fine (record { key = k; value = v })

    -- a first part, then the end of the item
    closing : {A : Type 0} (o : List ℕ) (m : Reader A) (make : A → P → Node P) → Tells m → Tells (m >>= λ a. close note o (make a))
    closing o m make hm = bind-tells m _ hm λ a. close-tells o (make a)

    content-tells : (o : List ℕ) (m : Major) (a : Argument) → Tells (content note it o m a)
    unfolding content
    content-tells o unsigned (known w n) = close-tells o _
    content-tells o unsigned indefinite = λ s. ended o
    content-tells o negative (known w n) = close-tells o _
    content-tells o negative indefinite = λ s. ended o
    content-tells o byte_string (known w n) = closing o (run n) _ (run-tells n)
    content-tells o byte_string indefinite = closing o (to_break (chunk 2)) _ (to_break-tells (chunk 2) (chunk-tells 2))
    content-tells o text_string (known w n) = closing o (run n) _ (run-tells n)
    content-tells o text_string indefinite = closing o (to_break (chunk 3)) _ (to_break-tells (chunk 3) (chunk-tells 3))
    content-tells o array_of (known w n) = closing o (times it n) _ (times-tells it hi n)
    content-tells o array_of indefinite = closing o (to_break it) _ (to_break-tells it hi)
    content-tells o map_of (known w n) = closing o (times (pair note it) n) _ (times-tells (pair note it) pair-tells n)
    content-tells o map_of indefinite = closing o (to_break (pair note it)) _ (to_break-tells (pair note it) pair-tells)
    content-tells o tagged (known w n) = closing o it _ hi
    content-tells o tagged indefinite = λ s. ended o
    content-tells o special (known w n) = cond-tells (reserved w n) _ _ (λ s. ended o) (close-tells o _)
    content-tells o special indefinite = λ s. ended o

  item-tells : (d : ℕ) → Tells (item note d)
  unfolding item here
  item-tells zero s = beyond-tells s
  item-tells (suc d) s =
      after-tells (byte s) _ (byte-tells s) λ h. bind-tells (argument s (info_of h)) _ (argument-tells s (info_of h)) (content-tells (item note d) (item-tells d) s (major_of h))

  pub item-refuses : (d : ℕ) (s : List ℕ) {n : ℕ} {q : List ℕ} → item note d s ≡ refused n q → (n ≡ CBOR) ⊎ (n ≡ DEEP)
  item-refuses d s e = (subst Refuses e (item-tells d s)).is
