-- What is read weighs no more than the bytes that it takes.
use Prim.Native.Nat.{ℕ, zero, suc, ◌+◌, ◌≤◌}
use native.Mathlib.Omega.{arith}
use mathlib.Core.List.{List, [], ◌∷◌}
use mathlib.Core.Bool.{Bool, true, false, cond}
use mathlib.Core.Path.{◌≡◌, refl, ap}
use lib.ListN.{length, take, drop, length-take, length-drop}
use lib.Dec.{eqb, leb}
use borrow.Author.Tests.{leb-true}
use Rattle.meaning.specs.Limit.{depth_limit}
use Rattle.meaning.specs.Tree.{Node, Pair, uint, nint, bytes, text, chunked_bytes, chunked_text, array, dict, tag, simple, float, nodes, pairs}
use Rattle.meaning.specs.Read.{Outcome, got, refused, Reader, after, ◌>>=◌, pure, malformed, here, byte, run, stop, times, until_break, to_break}
use Rattle.meaning.specs.Read.{Argument, known, indefinite, argument, major_of, info_of, chunk, joined, closed, reserved, close, pair, content, beyond, item, manifest}
use Rattle.meaning.specs.Read.{Major, unsigned, negative, byte_string, text_string, array_of, map_of, tagged, special}
use Rattle.meaning.proofs.ReadPrefix.{Exact, took-length, argument-exact, to_break-exact, chunk-exact, chunk-hungry, byte-exact}
use Rattle.listing.specs.Weight.{sum_of, weight, weight_of_pairs, pair_weight}

-- ---- if something is got, it is so

module _ {A : Type 0} where
  abbrev Cases : (A → List ℕ → Type 0) → Outcome A → Type 0
  Cases Q (got a r) = Q a r
  Cases Q (refused n r) = Unit {0}

  pub record Got (Q : A → List ℕ → Type 0) (o : Outcome A) : Type 0 where
    pub is : Cases Q o

  here-got : {Q : A → List ℕ → Type 0} (o : Outcome A) → ((a : A) (r : List ℕ) → o ≡ got a r → Q a r) → Got Q o
  here-got (got a r) f = record { is = f a r refl }
  here-got (refused n r) f = record { is = tt }

got-after : {A B : Type 0} {Q : A → List ℕ → Type 0} {R : B → List ℕ → Type 0} (o : Outcome A) (k : A → Reader B)
    → Got Q o → ((a : A) (r : List ℕ) → Q a r → Got R (k a r)) → Got R (after o k)
got-after (got a r) k h f = f a r h.is
got-after (refused n r) k h f = record { is = tt }

-- ---- readers: what they give weighs no more than they take

module _ {A : Type 0} where
  abbrev Light : (A → ℕ) → Reader A → Type 0
  Light w m = (s : List ℕ) → Got (λ (a : A) (r : List ℕ). w a + length r ≤ length s) (m s)

  abbrev Weightless : Reader A → Type 0
  Weightless = Light (λ a. 0)

  exact-weightless : {m : List ℕ → Reader A} → Exact m → (o : List ℕ) → Weightless (m o)
  exact-weightless {m} e o s = here-got (m o s) λ a r g. let l = took-length (e o s a r g) in omega (arith, l)

run-light : (n : ℕ) → Light length (run n)
unfolding run
run-light n s = by (leb n (length s)) refl
  where
    by : (b : Bool) → leb n (length s) ≡ b → Got (λ (a r : List ℕ). length a + length r ≤ length s) (cond b (got (take n s) (drop n s)) (refused 6 []))
    by true e = let l = leb-true n (length s) e in record { is = simp (length-take, length-drop) (omega (arith, l)) }
    by false e = record { is = tt }

chunks-light : (m : ℕ) → Weightless (to_break (chunk m))
chunks-light m = exact-weightless (to_break-exact (chunk m) (chunk-exact m) (chunk-hungry m)) []

module _ {A : Type 0} (w : A → ℕ) (m : Reader A) (h : Light w m) where
  times-light : (n : ℕ) → Light (sum_of w) (times m n)
  unfolding times
  times-light zero s = record { is = omega arith }
  times-light (suc n) s = got-after (m s) _ (h s) λ x r p. got-after (times m n r) _ (times-light n r) λ xs q k. record { is = omega (arith, p, k) }

  break-light : (g : ℕ) → Light (sum_of w) (until_break m g)
  unfolding until_break stop
  break-light zero s = record { is = tt }
  break-light (suc g) [] = record { is = tt }
  break-light (suc g) (b ∷ s) = by (eqb b 255) (break-light g)
    where
      by : (t : Bool) → Light (sum_of w) (until_break m g)
          → Got (λ (a : List A) (r : List ℕ). sum_of w a + length r ≤ length (b ∷ s))
          (after (cond t (got true s) (got false (b ∷ s))) (λ done. cond done (pure []) (m >>= λ x. until_break m g >>= λ xs. pure (x ∷ xs))))
      by true k = record { is = omega arith }
      by false k = got-after (m (b ∷ s)) _ (h (b ∷ s)) λ x r p. got-after (until_break m g r) _ (k r) λ xs q f. record { is = omega (arith, p, f) }

  to_break-light : Light (sum_of w) (to_break m)
  unfolding to_break
  to_break-light s = break-light (length s) s

module _ {P : Type 0} (note : List ℕ → List ℕ → P) where
  pairs-weigh : (l : List (Pair P)) → weight_of_pairs (pairs l) ≡ sum_of pair_weight l
  pairs-weigh [] = refl
  pairs-weigh (p ∷ l) = ap (λ (n : ℕ). pair_weight p + n) (pairs-weigh l)

  module _ (it : Reader (Node P)) (h : Light weight it) where
    pair-light : Light pair_weight (pair note it)
    unfolding pair
    pair-light s = got-after (it s) _ (h s) λ k r p. got-after (it r) _ (h r) λ v q f. record { is = omega (arith, p, f) }

    -- a reader, and the node that is made of what it gives
    closing : {A : Type 0} (w : A → ℕ) (o : List ℕ) (m : Reader A) (make : A → P → Node P) → Light w m → ((a : A) (p : P) → weight (make a p) ≤ w a)
        → Light weight (m >>= λ a. close note o (make a))
    unfolding close
    closing w o m make l k s = got-after (m s) _ (l s) λ a r p. record { is = let b = k a (note o r) in omega (arith, b, p) }

    ending : (o : List ℕ) (make : P → Node P) → ((p : P) → weight (make p) ≡ 0) → Light weight (close note o make)
    unfolding close
    ending o make k s = record { is = let b = k (note o s) in omega (arith, b) }

    simply : (t : Bool) (p : P) (n w : ℕ) → weight (cond t (simple p n) (float p w n)) ≡ 0
    simply true p n w = refl
    simply false p n w = refl

    unreserved : (t : Bool) (o : List ℕ) (make : P → Node P) → ((p : P) → weight (make p) ≡ 0) → Light weight (cond t (malformed o) (close note o make))
    unreserved true o make k = λ s. record { is = tt }
    unreserved false o make k = ending o make k

    content-light : (o : List ℕ) (m : Major) (a : Argument) → Light weight (content note it o m a)
    unfolding content
    content-light o unsigned (known w n) = ending o (λ p. uint p n) λ p. refl
    content-light o unsigned indefinite = λ s. record { is = tt }
    content-light o negative (known w n) = ending o (λ p. nint p n) λ p. refl
    content-light o negative indefinite = λ s. record { is = tt }
    content-light o byte_string (known w n) = closing length o (run n) (λ bs p. bytes p bs) (run-light n) λ bs p. omega arith
    content-light o byte_string indefinite = closing (λ cs. 0) o (to_break (chunk 2)) (λ cs p. chunked_bytes p (joined cs)) (chunks-light 2) λ cs p. omega arith
    content-light o text_string (known w n) = closing length o (run n) (λ bs p. text p bs) (run-light n) λ bs p. omega arith
    content-light o text_string indefinite = closing (λ cs. 0) o (to_break (chunk 3)) (λ cs p. chunked_text p (joined cs)) (chunks-light 3) λ cs p. omega arith
    content-light o array_of (known w n) = closing (sum_of weight) o (times it n) (λ xs p. array p (nodes xs)) (times-light weight it h n) λ xs p. omega arith
    content-light o array_of indefinite = closing (sum_of weight) o (to_break it) (λ xs p. array p (nodes xs)) (to_break-light weight it h) λ xs p. omega arith
    content-light o map_of (known w n) =
        closing (sum_of pair_weight) o (times (pair note it) n) (λ xs p. dict p (pairs xs)) (times-light pair_weight (pair note it) pair-light n) λ xs p. let e = pairs-weigh xs in omega (arith, e)
    content-light o map_of indefinite =
        closing (sum_of pair_weight) o (to_break (pair note it)) (λ xs p. dict p (pairs xs)) (to_break-light pair_weight (pair note it) pair-light) λ xs p. let e = pairs-weigh xs in omega (arith, e)
    content-light o tagged (known w n) = closing weight o it (λ x p. tag p n x) h λ x p. omega arith
    content-light o tagged indefinite = λ s. record { is = tt }
    content-light o special (known w n) = unreserved (reserved w n) o (λ p. cond (leb w 1) (simple p n) (float p w n)) λ p. simply (leb w 1) p n w
    content-light o special indefinite = λ s. record { is = tt }

  item-light : (d : ℕ) → Light weight (item note d)
  unfolding item here beyond
  item-light zero [] = record { is = tt }
  item-light zero (b ∷ s) = record { is = tt }
  item-light (suc d) s =
      got-after (byte s) _ (exact-weightless byte-exact s s) λ h r p.
      got-after (argument s (info_of h) r) _ (exact-weightless (argument-exact (info_of h)) s r) λ a z q.
      heavier z (content note (item note d) s (major_of h) a z) (content-light (item note d) (item-light d) s (major_of h) a z) (omega (arith, p, q))
    where
      heavier : (z : List ℕ) (o : Outcome (Node P)) → Got (λ (t : Node P) (r : List ℕ). weight t + length r ≤ length z) o → length z ≤ length s
          → Got (λ (t : Node P) (r : List ℕ). weight t + length r ≤ length s) o
      heavier z (got t r) h k = let g = h.is in record { is = omega (arith, g, k) }
      heavier z (refused n r) h k = record { is = tt }

  pub manifest-light : (s : List ℕ) → Got (λ (t : Node P) (r : List ℕ). weight t ≤ length s) (manifest note s)
  unfolding manifest closed
  manifest-light s = got-after (item note depth_limit s) _ (item-light depth_limit s) λ t r p. by t r p
    where
      by : (t : Node P) (r : List ℕ) → weight t + length r ≤ length s → Got (λ (t : Node P) (r : List ℕ). weight t ≤ length s) (closed t r)
      by t [] p = record { is = omega (arith, p) }
      by t (b ∷ r) p = record { is = tt }
