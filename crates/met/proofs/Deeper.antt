-- What is read where some levels are left is read alike where more are.
use Prim.Native.Nat.{ℕ, zero, suc, ◌+◌, ◌-◌, ◌≤◌}
use native.Mathlib.Omega.{arith}
use mathlib.Core.List.{List, [], ◌∷◌}
use mathlib.Core.Bool.{Bool, true, false, cond}
use mathlib.Core.Path.{◌≡◌, refl, ◌∙◌, subst}
use lib.ListN.{length}
use Rattle.meaning.specs.Tree.{Node}
use Rattle.meaning.specs.Read.{Outcome, got, refused, Reader, after, ◌>>=◌, pure, here, byte, stop, times, until_break, to_break}
use Rattle.meaning.specs.Read.{Argument, known, indefinite, argument, major_of, info_of, close, pair, content, item, no_note}
use Rattle.meaning.specs.Read.{Major, unsigned, negative, byte_string, text_string, array_of, map_of, tagged, special}
use Rattle.meaning.proofs.ReadPrefix.{never-got, never-beyond, bind-got}

-- what m reads, m' reads alike
abbrev Grows : {A : Type 0} → Reader A → Reader A → Type 0
Grows {A} m m' = (s : List ℕ) (a : A) (r : List ℕ) → m s ≡ got a r → m' s ≡ got a r

stays : {A : Type 0} (m : Reader A) → Grows m m
stays m s a r e = e

module _ {A B : Type 0} where
  bind-grows : (m m' : Reader A) (k k' : A → Reader B) → Grows m m' → ((a : A) → Grows (k a) (k' a)) → Grows (m >>= k) (m' >>= k')
  bind-grows m m' k k' hm hk s b r = go (m s) refl
    where
      go : (q : Outcome A) → m s ≡ q → after q k ≡ got b r → (m' >>= k') s ≡ got b r
      go (got a s') e h = bind-got m' k' s (hm s a s' e) ∙ hk a s' b r h
      go (refused n q) e h = absurd (never-got h)

cond-grows : {A : Type 0} (b : Bool) (m n n' : Reader A) → Grows n n' → Grows (cond b m n) (cond b m n')
cond-grows true m n n' h = stays m
cond-grows false m n n' h = h

module _ {A : Type 0} (m m' : Reader A) (hm : Grows m m') where
  times-grows : (n : ℕ) → Grows (times m n) (times m' n)
  unfolding times
  times-grows zero = stays (pure [])
  times-grows (suc n) = bind-grows m m' _ _ hm λ x. bind-grows (times m n) (times m' n) _ _ (times-grows n) λ xs. stays (pure (x ∷ xs))

  until-grows : (f : ℕ) → Grows (until_break m f) (until_break m' f)
  unfolding until_break
  until-grows zero = λ s a r e. e
  until-grows (suc f) = bind-grows stop stop _ _ (stays stop) λ b. cond-grows b (pure []) _ _
      (bind-grows m m' _ _ hm λ x. bind-grows (until_break m f) (until_break m' f) _ _ (until-grows f) λ xs. stays (pure (x ∷ xs)))

  to_break-grows : Grows (to_break m) (to_break m')
  unfolding to_break
  to_break-grows s = until-grows (length s) s

abbrev Item : Type 0
Item = Node (Unit {0})

module _ (it it' : Reader Item) (hi : Grows it it') where
  pair-grows : Grows (pair no_note it) (pair no_note it')
  unfolding pair
  pair-grows = bind-grows it it' _ _ hi λ k. bind-grows it it' _ _ hi λ v. stays (pure (record { key = k; value = v }))

  -- a first part, then the end of the item
  ends-grow : {A : Type 0} (start : List ℕ) (m m' : Reader A) (make : A → Unit {0} → Item) → Grows m m' → Grows (m >>= λ a. close no_note start (make a)) (m' >>= λ a. close no_note start (make a))
  ends-grow start m m' make hm = bind-grows m m' _ _ hm λ a. stays (close no_note start (make a))

  content-grows : (start : List ℕ) (m : Major) (a : Argument) → Grows (content no_note it start m a) (content no_note it' start m a)
  unfolding content
  content-grows start unsigned (known w n) = λ s t r e. e
  content-grows start unsigned indefinite = λ s t r e. e
  content-grows start negative (known w n) = λ s t r e. e
  content-grows start negative indefinite = λ s t r e. e
  content-grows start byte_string (known w n) = λ s t r e. e
  content-grows start byte_string indefinite = λ s t r e. e
  content-grows start text_string (known w n) = λ s t r e. e
  content-grows start text_string indefinite = λ s t r e. e
  content-grows start array_of (known w n) = ends-grow start (times it n) (times it' n) _ (times-grows it it' hi n)
  content-grows start array_of indefinite = ends-grow start (to_break it) (to_break it') _ (to_break-grows it it' hi)
  content-grows start map_of (known w n) = ends-grow start (times (pair no_note it) n) (times (pair no_note it') n) _ (times-grows (pair no_note it) (pair no_note it') pair-grows n)
  content-grows start map_of indefinite = ends-grow start (to_break (pair no_note it)) (to_break (pair no_note it')) _ (to_break-grows (pair no_note it) (pair no_note it') pair-grows)
  content-grows start tagged (known w n) = ends-grow start it it' _ hi
  content-grows start tagged indefinite = λ s t r e. e
  content-grows start special (known w n) = λ s t r e. e
  content-grows start special indefinite = λ s t r e. e

one_deeper : (d : ℕ) → Grows (item no_note d) (item no_note (suc d))
unfolding item
one_deeper zero = λ s t r e. absurd (never-beyond s t r e)
one_deeper (suc d) =
    bind-grows here here _ _ (stays here) λ start. bind-grows byte byte _ _ (stays byte) λ h. bind-grows (argument start (info_of h)) (argument start (info_of h)) _ _ (stays (argument start (info_of h))) λ a.
    content-grows (item no_note d) (item no_note (suc d)) (one_deeper d) start (major_of h) a

deeper-by : (k d e : ℕ) → k + d ≡ e → Grows (item no_note d) (item no_note e)
deeper-by zero d e z = let y : d ≡ e = omega arith in subst (λ (i : ℕ). Grows (item no_note d) (item no_note i)) y (stays (item no_note d))
deeper-by (suc k) d e z = λ s t r h. deeper-by k (suc d) e (omega arith) s t r (one_deeper d s t r h)

pub deeper : (d e : ℕ) → d ≤ e → (s : List ℕ) (t : Item) (r : List ℕ) → item no_note d s ≡ got t r → item no_note e s ≡ got t r
deeper d e l = deeper-by (e - d) d e (omega arith)
