-- The annotations do not steer the reading.
use Prim.Native.Nat.{ℕ, zero, suc, ◌-◌}
use mathlib.Core.List.{List, [], ◌∷◌, map}
use mathlib.Core.Bool.{Bool, true, false, cond}
use mathlib.Core.Path.{◌≡◌, refl, ap, ◌∙◌}
use lib.Dec.{leb}
use lib.ListN.{length}
use Rattle.meaning.specs.Tree.{Node, Nodes, Pairs, ◌▸◌, ◌⇒◌▸◌, Pair, map_p, map_nodes, map_pairs, nodes, pairs, simple, float, array, dict}
use Rattle.meaning.specs.Notes.{map_pair}
use Rattle.meaning.specs.Read.{Outcome, got, refused, Reader, after, ◌>>=◌, pure, here, byte, run, stop, times, until_break, to_break}
use Rattle.meaning.specs.Read.{Argument, known, indefinite, argument, major_of, info_of, chunk, reserved, close, pair, content, beyond, item}
use Rattle.meaning.specs.Read.{Major, unsigned, negative, byte_string, text_string, array_of, map_of, tagged, special}

abbrev pub map_out : {A B : Type 0} → (A → B) → Outcome A → Outcome B
map_out g (got a s) = got (g a) s
map_out g (refused n s) = refused n s

-- the reader m' gives what m gives, mapped
abbrev pub Follows : {A B : Type 0} → (A → B) → Reader A → Reader B → Type 0
Follows g m m' = (s : List ℕ) → m' s ≡ map_out g (m s)

module _ {A A' B B' : Type 0} (g : A → A') (h : B → B') where
  bind-follows : (m : Reader A) (m' : Reader A') (k : A → Reader B) (k' : A' → Reader B') → Follows g m m' → ((a : A) → Follows h (k a) (k' (g a))) → Follows h (m >>= k) (m' >>= k')
  bind-follows m m' k k' hm hk s = ap (λ o. after o k') (hm s) ∙ go (m s)
    where
      go : (o : Outcome A) → after (map_out g o) k' ≡ map_out h (after o k)
      go (got a r) = hk a r
      go (refused n r) = refl

module _ {A B B' : Type 0} (h : B → B') where
  -- a first step that both make
  then-follows : (m : Reader A) (k : A → Reader B) (k' : A → Reader B') → ((a : A) → Follows h (k a) (k' a)) → Follows h (m >>= k) (m >>= k')
  then-follows m k k' hk s = go (m s)
    where
      go : (o : Outcome A) → after o k' ≡ map_out h (after o k)
      go (got a r) = hk a r
      go (refused n r) = refl

module _ {B B' : Type 0} (h : B → B') where
  cond-follows : (b : Bool) (m n : Reader B) (m' n' : Reader B') → Follows h m m' → Follows h n n' → Follows h (cond b m n) (cond b m' n')
  cond-follows true m n m' n' hm hn = hm
  cond-follows false m n m' n' hm hn = hn

module _ {A B : Type 0} (g : A → B) (m : Reader A) (m' : Reader B) (hm : Follows g m m') where
  times-follows : (n : ℕ) → Follows (map g) (times m n) (times m' n)
  unfolding times
  times-follows zero = λ s. refl
  times-follows (suc n) = bind-follows g (map g) m m' _ _ hm λ x. bind-follows (map g) (map g) (times m n) (times m' n) _ _ (times-follows n) λ xs s. refl

  until-follows : (f : ℕ) → Follows (map g) (until_break m f) (until_break m' f)
  unfolding until_break
  until-follows zero = λ s. refl
  until-follows (suc f) = then-follows (map g) stop _ _ λ b. cond-follows (map g) b (pure []) _ (pure []) _ (λ s. refl)
      (bind-follows g (map g) m m' _ _ hm λ x. bind-follows (map g) (map g) (until_break m f) (until_break m' f) _ _ (until-follows f) λ xs s. refl)

  to_break-follows : Follows (map g) (to_break m) (to_break m')
  unfolding to_break
  to_break-follows s = until-follows (length s) s

module _ {P Q : Type 0} (f : P → Q) where
  pub nodes-map : (l : List (Node P)) → nodes (map (map_p f) l) ≡ map_nodes f (nodes l)
  nodes-map [] = refl
  nodes-map (n ∷ l) = ap {B = Nodes Q} (λ r. ◌▸◌ (map_p f n) r) (nodes-map l)

  pub pairs-map : (l : List (Pair P)) → pairs (map (map_pair f) l) ≡ map_pairs f (pairs l)
  pairs-map [] = refl
  pairs-map (p ∷ l) = ap {B = Pairs Q} (λ r. ◌⇒◌▸◌ (map_p f p.key) (map_p f p.value) r) (pairs-map l)

  module _ (note : List ℕ → List ℕ → P) where
    abbrev note' : List ℕ → List ℕ → Q
    note' s r = f (note s r)

    close_follows : (start : List ℕ) (make : P → Node P) (make' : Q → Node Q) → ((w : P) → make' (f w) ≡ map_p f (make w)) → Follows (map_p f) (close note start make) (close note' start make')
    unfolding close
    close_follows start make make' h s = ap {B = Outcome (Node Q)} (λ t. got t s) (h (note start s))

    module _ (it : Reader (Node P)) (it' : Reader (Node Q)) (hi : Follows (map_p f) it it') where
      pair-follows : Follows (map_pair f) (pair note it) (pair note' it')
      unfolding pair
      pair-follows = bind-follows (map_p f) (map_pair f) it it' _ _ hi λ k. bind-follows (map_p f) (map_pair f) it it' _ _ hi λ v s. refl

      cond-node : (b : Bool) (w : P) (n i : ℕ) → cond b (simple (f w) n) (float (f w) i n) ≡ map_p f (cond b (simple w n) (float w i n))
      cond-node true w n i = refl
      cond-node false w n i = refl

      content-follows : (start : List ℕ) (m : Major) (a : Argument) → Follows (map_p f) (content note it start m a) (content note' it' start m a)
      unfolding content
      content-follows start unsigned (known w n) = close_follows start _ _ λ p. refl
      content-follows start unsigned indefinite = λ s. refl
      content-follows start negative (known w n) = close_follows start _ _ λ p. refl
      content-follows start negative indefinite = λ s. refl
      content-follows start byte_string (known w n) = then-follows (map_p f) (run n) _ _ λ bs. close_follows start _ _ λ p. refl
      content-follows start byte_string indefinite = then-follows (map_p f) (to_break (chunk 2)) _ _ λ cs. close_follows start _ _ λ p. refl
      content-follows start text_string (known w n) = then-follows (map_p f) (run n) _ _ λ bs. close_follows start _ _ λ p. refl
      content-follows start text_string indefinite = then-follows (map_p f) (to_break (chunk 3)) _ _ λ cs. close_follows start _ _ λ p. refl
      content-follows start array_of (known w n) =
          bind-follows (map (map_p f)) (map_p f) (times it n) (times it' n) _ _ (times-follows (map_p f) it it' hi n) λ xs. close_follows start _ _ λ p. ap (array (f p)) (nodes-map xs)
      content-follows start array_of indefinite =
          bind-follows (map (map_p f)) (map_p f) (to_break it) (to_break it') _ _ (to_break-follows (map_p f) it it' hi) λ xs. close_follows start _ _ λ p. ap (array (f p)) (nodes-map xs)
      content-follows start map_of (known w n) =
          bind-follows (map (map_pair f)) (map_p f) (times (pair note it) n) (times (pair note' it') n) _ _ (times-follows (map_pair f) (pair note it) (pair note' it') pair-follows n)
          λ xs. close_follows start _ _ λ p. ap (dict (f p)) (pairs-map xs)
      content-follows start map_of indefinite =
          bind-follows (map (map_pair f)) (map_p f) (to_break (pair note it)) (to_break (pair note' it')) _ _ (to_break-follows (map_pair f) (pair note it) (pair note' it') pair-follows)
          λ xs. close_follows start _ _ λ p. ap (dict (f p)) (pairs-map xs)
      content-follows start tagged (known w n) = bind-follows (map_p f) (map_p f) it it' _ _ hi λ x. close_follows start _ _ λ p. refl
      content-follows start tagged indefinite = λ s. refl
      content-follows start special (known w n) = cond-follows (map_p f) (reserved w n) _ _ _ _ (λ s. refl) (close_follows start _ _ λ p. cond-node (leb w 1) p n w)
      content-follows start special indefinite = λ s. refl

    beyond-follows : Follows (map_p f) beyond beyond
    unfolding beyond
    beyond-follows [] = refl
    beyond-follows (b ∷ s) = refl

    pub item-follows : (d : ℕ) → Follows (map_p f) (item note d) (item note' d)
    unfolding item
    item-follows zero = beyond-follows
    item-follows (suc d) =
        then-follows (map_p f) here _ _ λ start. then-follows (map_p f) byte _ _ λ h. then-follows (map_p f) (argument start (info_of h)) _ _ λ a.
        content-follows (item note d) (item note' d) (item-follows d) start (major_of h) a
