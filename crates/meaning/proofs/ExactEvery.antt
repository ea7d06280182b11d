-- Every encoding is read as its tree, whatever follows.
use Prim.Native.Nat.{ℕ, zero, suc, ◌+◌, ◌≤◌, ◌<◌, ◌/◌, ◌%◌, ◌*◌, ◌^◌}
use native.Mathlib.Omega.{arith}
use native.Mathlib.Nat.{div-add-mod', pow-suc, mod-lt}
use mathlib.Core.List.{List, [], ◌∷◌, ◌++◌, append_assoc}
use mathlib.Core.Bool.{Bool, true, false, cond, ◌&&◌}
use mathlib.Core.Path.{◌≡◌, refl, ap, sym, ◌∙◌}
use lib.Dec.{eqb, ltb}
use lib.ListN.{length, get_or, length-append}
use borrow.Author.Tests.{lt-ltb, ltb-false, le-ltb, le-leb, lt-leb, eq-eqb, ne_eqb, eqb-true}
use Rattle.meaning.specs.Tree as tree
use Rattle.meaning.specs.Tree.{Nodes, Pairs, Pair, ε, ◌▸◌, ∅, ◌⇒◌▸◌, nodes, pairs, node_list, pair_list}
use Rattle.meaning.specs.Read.{Outcome, got, refused, Reader, after, ◌>>=◌, pure, malformed, here, byte, run, number, times, until_break, to_break}
use Rattle.meaning.specs.Read.{Argument, known, indefinite, wide, long_arguments, argument, majors, major_of, info_of, definite, joined, reserved, close, pair, content, beyond, item, no_note, special}
use Rattle.meaning.specs.Read as read
use Rattle.meaning.specs.Encoding.{big, Low, inside, one, two, four, eight, Head, head, Chunks, done, chunk, Tree, Encodes, Elements, end, next, Entries, end_pairs, next_pair}
use Rattle.meaning.specs.Encoding.{uint, nint, bytes, text, chunked_bytes, chunked_text, array, open_array, dict, open_dict, tag, simple, float}
use Rattle.meaning.proofs.ReadPrefix.{Exact, Hungry, still, never-got, bind-got, run_at, again-turn, again-break, item-exact, item-hungry, chunk-exact, chunk-hungry, pair-exact, pair-hungry}

-- the bytes c are read as a, whatever follows
abbrev pub Reads : {A : Type 0} → Reader A → A → List ℕ → Type 0
Reads m a c = (x : List ℕ) → m (c ++ x) ≡ got a x

-- pieces one after the other, E of each thing and its piece
pub data Each {A : Type 0} (E : A → List ℕ → Type 0) : List A → List ℕ → Type 0 where
  none : Each E [] []
  more : {a : A} {l : List A} {c cs : List ℕ} → E a c → Each E l cs → Each E (a ∷ l) (c ++ cs)

-- what begins with the break byte is not read
abbrev Shy : {A : Type 0} → Reader A → Type 0
Shy {A} m = (s : List ℕ) (a : A) (r : List ℕ) → m (255 ∷ s) ≡ got a r → ⊥

module _ {A : Type 0} (m : Reader A) where
  times-reads : {l : List A} {bs : List ℕ} → Each (Reads m) l bs → Reads (times m (length l)) l bs
  unfolding times
  times-reads none x = refl
  times-reads (more {a} {l} {c} {cs} e es) x =
      rw (append_assoc c cs x)
      (bind-got m (λ y. times m (length l) >>= λ ys. pure (y ∷ ys)) (c ++ (cs ++ x)) (e (cs ++ x))
      ∙ bind-got (times m (length l)) (λ ys. pure (a ∷ ys)) (cs ++ x) (times-reads es x))

  module _ (hm : Exact (still m)) (eats : Hungry (still m)) (shy : Shy m) where
    no-break : (b : ℕ) (c : List ℕ) (a : A) → Reads m a (b ∷ c) → eqb b 255 ≡ false
    no-break b c a h = go (eqb b 255) refl
      where
        go : (t : Bool) → eqb b 255 ≡ t → t ≡ false
        go true e = let k : b ≡ 255 = eqb-true b 255 e in absurd (shy (c ++ []) a [] (rw k at (h [])))
        go false e = refl

    turn-reads : (c d : List ℕ) (a : A) (l : List A) → Reads m a c → ((g : ℕ) → length d ≤ g → Reads (until_break m g) l d)
        → (g : ℕ) → length (c ++ d) ≤ g → Reads (until_break m g) (a ∷ l) (c ++ d)
    turn-reads [] d a l h k g f x = absurd (omega (arith, eats [] x a x (h x)))
    turn-reads (b ∷ c) d a l h k g f x = again-turn m hm eats b g (b ∷ c) d x (c ++ (d ++ x)) a l (no-break b c a h) (omega arith) refl h k f x

    until-reads : {l : List A} {bs : List ℕ} → Each (Reads m) l bs → (g : ℕ) → length (bs ++ 255 ∷ []) ≤ g → Reads (until_break m g) l (bs ++ 255 ∷ [])
    until-reads none g f x = again-break m hm eats 255 g refl f x
    until-reads (more {a} {l} {c} {cs} e es) g f x = rw (append_assoc c cs (255 ∷ [])) (turn-reads c (cs ++ 255 ∷ []) a l e (λ g f y. until-reads es g f y) g (rw (append_assoc c cs (255 ∷ [])) at f) x)

    to_break-reads : {l : List A} {bs : List ℕ} → Each (Reads m) l bs → Reads (to_break m) l (bs ++ 255 ∷ [])
    unfolding to_break
    to_break-reads {l} {bs} es x = until-reads es (length ((bs ++ 255 ∷ []) ++ x)) (omega (arith, length-append (bs ++ 255 ∷ []) x)) x

-- ---- heads

power-positive : (w : ℕ) → 0 < 256 ^ w
power-positive zero = omega arith
power-positive (suc w) = omega (arith, pow-suc 256 w, power-positive w)

shift_in : (W acc n q r : ℕ) → q * W + r ≡ n → W * (256 * acc + q) + r ≡ (W * 256) * acc + n
shift_in W acc n q r h = omega arith

number-reads : (w acc n : ℕ) → n < 256 ^ w → Reads (number w acc) (256 ^ w * acc + n) (big w n)
unfolding number big byte
number-reads zero acc n h x = ap {B = Outcome ℕ} (λ v. got v x) (omega arith)
number-reads (suc w) acc n h x =
    number-reads w (256 * acc + n / 256 ^ w) (n % 256 ^ w) (mod-lt n (power-positive w)) x
    ∙ ap {B = Outcome ℕ} (λ v. got v x) (rw (pow-suc 256 w) (shift_in (256 ^ w) acc n (n / 256 ^ w) (n % 256 ^ w) (div-add-mod' n (256 ^ w))))

wide-reads : (w n : ℕ) → n < 256 ^ w → Reads (wide w) (known w n) (big w n)
unfolding wide
wide-reads w n h x = bind-got (number w 0) (λ n. pure (known w n)) (big w n ++ x) (number-reads w 0 n h x) ∙ ap {B = Outcome Argument} (λ v. got (known w v) x) (omega arith)

pub low_reads : {w n l : ℕ} → Low w n l → (o : List ℕ) → Reads (argument o l) (known w n) (big w n)
unfolding argument long_arguments big
low_reads (inside {n} h) o x = rw (lt-ltb n 24 h)
low_reads (one {n} h) o x = wide-reads 1 n h x
low_reads (two {n} h) o x = wide-reads 2 n h x
low_reads (four {n} h) o x = wide-reads 4 n h x
low_reads (eight {n} h) o x = wide-reads 8 n h x

pub low_fits : {w n l : ℕ} → Low w n l → l < 32
low_fits (inside h) = omega arith
low_fits (one h) = omega arith
low_fits (two h) = omega arith
low_fits (four h) = omega arith
low_fits (eight h) = omega arith

pub major-at : (m l : ℕ) → l < 32 → (m * 32 + l) / 32 ≡ m
major-at m l h = omega arith

pub info-at : (m l : ℕ) → l < 32 → info_of (m * 32 + l) ≡ l
unfolding info_of
info-at m l h = omega arith

-- a reader that begins with a head: k is given its first byte's place, its major type, and the reader of its argument
module _ {A : Type 0} (k : List ℕ → ℕ → Reader Argument → Reader A) where
  abbrev headed : Reader A
  headed = here >>= λ o. byte >>= λ h. k o (h / 32) (argument o (info_of h))

  headed-reads : {m w n : ℕ} {hs : List ℕ} → Head m w n hs → (a : A) (s r : List ℕ) → ((o : List ℕ) (q : Reader Argument) (y : List ℕ) → q y ≡ got (known w n) s → k o m q y ≡ got a r) → headed (hs ++ s) ≡ got a r
  unfolding here byte
  headed-reads {m} (head {w} {n} {l} low) a s r f =
      let o : List ℕ = ((m * 32 + l) ∷ big w n) ++ s in
      rw (info-at m l (low_fits low), major-at m l (low_fits low)) (f o (argument o l) (big w n ++ s) (low_reads low o s))

-- ---- strings in chunks

chunk-reads : {m w : ℕ} (b : List ℕ) {hs : List ℕ} → Head m w (length b) hs → Reads (read.chunk m) b (hs ++ b)
unfolding read.chunk definite
chunk-reads {m} b {hs} h x =
    rw (append_assoc hs b x)
    (headed-reads (λ o m' q. cond (eqb m' m) (q >>= definite o) (malformed o)) h b (b ++ x) x
    (λ o q y e. rw (eq-eqb m m refl) (bind-got q (definite o) y e ∙ run_at b x (length b) refl)))

chunk-shy : (m : ℕ) → Shy (read.chunk m)
unfolding read.chunk here byte argument long_arguments info_of definite
chunk-shy m s a r = go (eqb 7 m)
  where
    go : (t : Bool) → cond t (pure indefinite >>= definite (255 ∷ s)) (malformed (255 ∷ s)) s ≡ got a r → ⊥
    go true e = never-got e
    go false e = never-got e

record Cut (m : ℕ) (b cs : List ℕ) : Type 0 where
  parts : List (List ℕ)
  whole : joined parts ≡ b
  each : Each (Reads (read.chunk m)) parts cs

chunks-cut : {m : ℕ} {b cs : List ℕ} → Chunks m b cs → Cut m b cs
chunks-cut done = record { parts = []; whole = refl; each = none }
chunks-cut {m} (chunk b {bs} {hs} {cs} h ch) =
    let c : Cut m bs cs = chunks-cut ch in
    record { parts = b ∷ c.parts; whole = ap (λ z. b ++ z) c.whole; each = more {c = hs ++ b} (chunk-reads b h) c.each }

-- ---- items

item-shy : (d : ℕ) → Shy (item no_note d)
unfolding item here byte argument long_arguments info_of major_of content beyond
item-shy zero s a r e = never-got e
item-shy (suc d) s a r e = never-got e

pair-shy : (it : Reader Tree) → Shy it → Shy (pair no_note it)
unfolding pair
pair-shy it shy s a r = go (it (255 ∷ s)) refl
  where
    go : (o : Outcome Tree) → it (255 ∷ s) ≡ o → after o (λ k. it >>= λ v. pure (record { key = k; value = v })) ≡ got a r → ⊥
    go (got k s') e h = shy s k s' e
    go (refused n q) e h = never-got h

-- a value that may stand in its argument of w bytes
pub not-reserved : (w n : ℕ) → (w ≡ 1 → 32 ≤ n) → reserved w n ≡ false
unfolding reserved
not-reserved w n h = go (eqb w 1) refl
  where
    go : (t : Bool) → eqb w 1 ≡ t → (t && ltb n 32) ≡ false
    go true e = le-ltb n 32 (h (eqb-true w 1 e))
    go false e = refl

pub large-enough : (w n : ℕ) → reserved w n ≡ false → w ≡ 1 → 32 ≤ n
unfolding reserved
large-enough w n e h = ltb-false n 32 (sym (ap (λ t. t && ltb n 32) (eq-eqb w 1 h)) ∙ e)

nodes-node_list : (ns : Nodes (Unit {0})) → nodes (node_list ns) ≡ ns
nodes-node_list ε = refl
nodes-node_list (◌▸◌ n ns) = ap {B = Nodes (Unit {0})} (λ r. ◌▸◌ n r) (nodes-node_list ns)

pairs-pair_list : (ps : Pairs (Unit {0})) → pairs (pair_list ps) ≡ ps
pairs-pair_list ∅ = refl
pairs-pair_list (◌⇒◌▸◌ k v ps) = ap {B = Pairs (Unit {0})} (λ r. ◌⇒◌▸◌ k v r) (pairs-pair_list ps)

module _ (d : ℕ) (every : (t : Tree) (bs : List ℕ) → Encodes d t bs → Reads (item no_note d) t bs) where
  elements-read : {ns : Nodes (Unit {0})} {bs : List ℕ} → Elements d ns bs → Each (Reads (item no_note d)) (node_list ns) bs
  elements-read end = none
  elements-read (next {t} {ns} {bs} {cs} e es) = more {c = bs} (every t bs e) (elements-read es)

  pair_reads : {k v : Tree} {ks vs : List ℕ} → Encodes d k ks → Encodes d v vs → Reads (pair no_note (item no_note d)) (record { key = k; value = v }) (ks ++ vs)
  unfolding pair
  pair_reads {k} {v} {ks} {vs} ek ev x =
      rw (append_assoc ks vs x) (bind-got (item no_note d) _ (ks ++ (vs ++ x)) (every k ks ek (vs ++ x)) ∙ bind-got (item no_note d) _ (vs ++ x) (every v vs ev x))

  entries-read : {ps : Pairs (Unit {0})} {bs : List ℕ} → Entries d ps bs → Each (Reads (pair no_note (item no_note d))) (pair_list ps) bs
  entries-read end_pairs = none
  entries-read (next_pair {k} {v} {ps} {ks} {vs} {cs} ek ev es) = more {c = ks ++ vs} (pair_reads ek ev) (entries-read es)

module _ (d : ℕ) where
  -- what follows a head of major type m
  abbrev follow : ℕ → Argument → List ℕ → Reader Tree
  follow m a o = content no_note (item no_note d) o (get_or majors m special) a

  -- a head, then its content
  item-reads : {m w n : ℕ} {hs : List ℕ} → Head m w n hs → (t : Tree) (s r : List ℕ) → ((o : List ℕ) → follow m (known w n) o s ≡ got t r) → item no_note (suc d) (hs ++ s) ≡ got t r
  unfolding item major_of
  item-reads {m} {w} {n} h t s r k = headed-reads (λ o m q. q >>= λ a. follow m a o) h t s r (λ o q y e. bind-got q (λ a. follow m a o) y e ∙ k o)

  open-reads : (m : ℕ) (t : Tree) (c : List ℕ) → ((o : List ℕ) → Reads (follow m indefinite o) t c) → Reads (item no_note (suc d)) t ((m * 32 + 31) ∷ c)
  unfolding item major_of here byte argument long_arguments
  open-reads m t c k x = rw (info-at m 31 (omega arith), major-at m 31 (omega arith)) (k ((m * 32 + 31) ∷ c ++ x) x)

  -- a head, then a part, then the end
  whole-reads : {m w n : ℕ} {hs : List ℕ} → Head m w n hs → (t : Tree) (c : List ℕ) → ((o : List ℕ) → Reads (follow m (known w n) o) t c) → Reads (item no_note (suc d)) t (hs ++ c)
  whole-reads {hs} h t c k x = rw (append_assoc hs c x) (item-reads h t (c ++ x) x (λ o. k o x))

-- a part, then the end of the item
ends-reads : {A : Type 0} (m : Reader A) (make : A → Tree) {a : A} {t : Tree} (c : List ℕ) → Reads m a c → make a ≡ t → (o : List ℕ) → Reads (m >>= λ a. close no_note o (λ p. make a)) t c
unfolding close no_note
ends-reads m make c h e o x = bind-got m (λ a. close no_note o (λ p. make a)) (c ++ x) (h x) ∙ ap {B = Outcome Tree} (λ t. got t x) e

string-reads : (make : List ℕ → Tree) (b o : List ℕ) → Reads (run (length b) >>= λ b. close no_note o (λ p. make b)) (make b) b
string-reads make b = ends-reads (run (length b)) make b (λ x. run_at b x (length b) refl) refl

chunks-read : {m : ℕ} (make : List ℕ → Tree) {b cs : List ℕ} → Chunks m b cs → (o : List ℕ) → Reads (to_break (read.chunk m) >>= λ l. close no_note o (λ p. make (joined l))) (make b) (cs ++ 255 ∷ [])
chunks-read {m} make {b} {cs} ch =
    let c : Cut m b cs = chunks-cut ch in
    ends-reads (to_break (read.chunk m)) (λ l. make (joined l)) (cs ++ 255 ∷ []) (to_break-reads (read.chunk m) (chunk-exact m) (chunk-hungry m) (chunk-shy m) c.each) (ap make c.whole)

array-reads : (m : Reader (List Tree)) (ns : Nodes (Unit {0})) (c : List ℕ) → Reads m (node_list ns) c → (o : List ℕ) → Reads (m >>= λ l. close no_note o (λ p. tree.array p (nodes l))) (tree.array tt ns) c
array-reads m ns c h = ends-reads m (λ l. tree.array tt (nodes l)) c h (ap (tree.array tt) (nodes-node_list ns))

dict-reads : (m : Reader (List (Pair (Unit {0})))) (ps : Pairs (Unit {0})) (c : List ℕ) → Reads m (pair_list ps) c → (o : List ℕ) → Reads (m >>= λ l. close no_note o (λ p. tree.dict p (pairs l))) (tree.dict tt ps) c
dict-reads m ps c h = ends-reads m (λ l. tree.dict tt (pairs l)) c h (ap (tree.dict tt) (pairs-pair_list ps))

module _ (d : ℕ) (every : (t : Tree) (bs : List ℕ) → Encodes d t bs → Reads (item no_note d) t bs) where
  abbrev it : Reader Tree
  it = item no_note d

  abbrev entry : Reader (Pair (Unit {0}))
  entry = pair no_note it

  elements-to-break : {ns : Nodes (Unit {0})} {bs : List ℕ} → Elements d ns bs → Reads (to_break it) (node_list ns) (bs ++ 255 ∷ [])
  elements-to-break es = to_break-reads it (item-exact d) (item-hungry d) (item-shy d) (elements-read d every es)

  entries-to-break : {ps : Pairs (Unit {0})} {bs : List ℕ} → Entries d ps bs → Reads (to_break entry) (pair_list ps) (bs ++ 255 ∷ [])
  entries-to-break es = to_break-reads entry (pair-exact it (item-exact d) (item-hungry d)) (pair-hungry it (item-exact d) (item-hungry d)) (pair-shy it (item-shy d)) (entries-read d every es)

  level-reads : {t : Tree} {bs : List ℕ} → Encodes (suc d) t bs → Reads (item no_note (suc d)) t bs
  unfolding content close no_note
  level-reads (uint {n} h) x = item-reads d h (tree.uint tt n) x x (λ o. refl)
  level-reads (nint {n} h) x = item-reads d h (tree.nint tt n) x x (λ o. refl)
  level-reads (bytes {b} h) x = whole-reads d h (tree.bytes tt b) b (string-reads (tree.bytes tt) b) x
  level-reads (text {b} h) x = whole-reads d h (tree.text tt b) b (string-reads (tree.text tt) b) x
  level-reads (chunked_bytes {b} {cs} ch) x = open-reads d 2 (tree.chunked_bytes tt b) (cs ++ 255 ∷ []) (chunks-read (tree.chunked_bytes tt) ch) x
  level-reads (chunked_text {b} {cs} ch) x = open-reads d 3 (tree.chunked_text tt b) (cs ++ 255 ∷ []) (chunks-read (tree.chunked_text tt) ch) x
  level-reads (array {ns} {bs} h es) x = whole-reads d h (tree.array tt ns) bs (array-reads (times it (length (node_list ns))) ns bs (times-reads it (elements-read d every es))) x
  level-reads (open_array {ns} {bs} es) x = open-reads d 4 (tree.array tt ns) (bs ++ 255 ∷ []) (array-reads (to_break it) ns (bs ++ 255 ∷ []) (elements-to-break es)) x
  level-reads (dict {ps} {bs} h es) x = whole-reads d h (tree.dict tt ps) bs (dict-reads (times entry (length (pair_list ps))) ps bs (times-reads entry (entries-read d every es))) x
  level-reads (open_dict {ps} {bs} es) x = open-reads d 5 (tree.dict tt ps) (bs ++ 255 ∷ []) (dict-reads (to_break entry) ps (bs ++ 255 ∷ []) (entries-to-break es)) x
  level-reads (tag {n} {t} {bs} h e) x = whole-reads d h (tree.tag tt n t) bs (ends-reads it (tree.tag tt n) bs (every t bs e) refl) x
  level-reads (simple {w} {n} h l k) x = item-reads d h (tree.simple tt n) x x (λ o. rw (not-reserved w n k, le-leb w 1 l))
  level-reads (float {w} {n} h l) x = item-reads d h (tree.float tt w n) x x (λ o. rw (not-reserved w n (λ e. absurd (omega arith)), lt-leb w 1 l))

pub every-encoding-is-read : (d : ℕ) (t : Tree) (bs : List ℕ) → Encodes d t bs → (x : List ℕ) → item no_note d (bs ++ x) ≡ got t x
every-encoding-is-read zero t bs e = elim e [ ]
every-encoding-is-read (suc d) t bs e = level-reads d (every-encoding-is-read d) e
