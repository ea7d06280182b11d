-- Whatever is read is an encoding: a reader of bytes takes only what the grammar gives to its result.
use Prim.Native.Nat.{ℕ, zero, suc, ◌+◌, ◌-◌, ◌≤◌, ◌<◌, ◌/◌, ◌%◌, ◌*◌, ◌^◌}
use native.Mathlib.Omega.{arith}
use native.Mathlib.Nat.{pow-suc, mul-le-mul_right, mul-add-div_right, mul-add-mod_self_right, div-eq_of_lt, mod-eq_of_lt}
use mathlib.Core.List.{List, [], ◌∷◌, ◌++◌, append_assoc, append-nil}
use mathlib.Core.Bool.{Bool, true, false, cond}
use mathlib.Core.Path.{◌≡◌, refl, ap, sym, ◌∙◌, subst}
use lib.Dec.{eqb, leb, ltb}
use lib.Pow.{are_bytes}
use lib.ListN.{length, take, drop, get_or, take-append-drop}
use lib.Seq.{length-take-le}
use borrow.Author.Tests.{ltb-true, ltb-false, leb-true, leb-false, eqb-true}
use Rattle.meaning.specs.Refusal.{CBOR}
use Rattle.meaning.specs.Tree as tree
use Rattle.meaning.specs.Tree.{Pair, nodes, pairs, node_list-nodes, pair_list-pairs}
use Rattle.meaning.specs.Read as read
use Rattle.meaning.specs.Read.{Outcome, got, refused, Reader, after, ◌>>=◌, pure, malformed, here, byte, run, number, stop, times, until_break, to_break}
use Rattle.meaning.specs.Read.{Argument, known, indefinite, wide, long_arguments, argument, majors, major_of, info_of, definite, joined, reserved, close, pair, content, item, no_note}
use Rattle.meaning.specs.Read.{Major, unsigned, negative, byte_string, text_string, array_of, map_of, tagged, special}
use Rattle.meaning.specs.Encoding.{Bytes, big, Low, inside, one, two, four, eight, Head, head, Chunks, done, chunk, Tree, Encodes, Elements, end, next, Entries, end_pairs, next_pair}
use Rattle.meaning.specs.Encoding.{uint, nint, bytes, text, chunked_bytes, chunked_text, array, open_array, dict, open_dict, tag, simple, float}
use Rattle.meaning.proofs.ReadPrefix.{never-got, Alike, alike, never-beyond}
use Rattle.meaning.proofs.ExactEvery.{Each, none, more, large-enough}
use Rattle.meaning.proofs.Tests.{both_true}

-- what was taken off s, where r was left
pub record Taken (E : List ℕ → Type 0) (s r : List ℕ) : Type 0 where
  pub eaten : List ℕ
  pub split : s ≡ eaten ++ r
  pub encodes : E eaten

abbrev pub Encoded : ℕ → Tree → List ℕ → List ℕ → Type 0
Encoded d t s r = Taken (Encodes d t) s r

-- of bytes, m takes only what E gives to its result
abbrev Sound : {A : Type 0} → Reader A → (A → List ℕ → Type 0) → Type 0
Sound {A} m E = (s : List ℕ) (a : A) (r : List ℕ) → Bytes s → m s ≡ got a r → Taken (E a) s r

-- ---- bytes

bytes_after : (c r : List ℕ) → Bytes (c ++ r) → Bytes r
bytes_after [] r h = h
bytes_after (b ∷ c) r h = bytes_after c r (both_true (ltb b 256) (are_bytes (c ++ r)) h).1

-- ---- readers, one after the other

module _ {A : Type 0} (G : A → List ℕ → Type 0) where
  -- the end, where c was taken before
  pure-sound : (a : A) (c : List ℕ) → G a c → Sound (pure a) (λ b c'. G b (c ++ c'))
  pure-sound a c g s b r h e = let k : Alike a b s r = alike e in record { eaten = []; split = k.rest; encodes = rw (append-nil c) (subst (λ b. G b c) k.value g) }

  malformed-sound : (o : List ℕ) → Sound (malformed o) G
  malformed-sound o s a r h e = absurd (never-got e)

  here-sound : (k : List ℕ → Reader A) → ((o : List ℕ) → Sound (k o) G) → Sound (here >>= k) G
  unfolding here
  here-sound k f s a r h e = f s s a r h e

  byte-sound : (k : ℕ → Reader A) → ((b : ℕ) → b < 256 → Sound (k b) (λ a c. G a (b ∷ c))) → Sound (byte >>= k) G
  unfolding byte
  byte-sound k f [] a r h e = absurd (never-got e)
  byte-sound k f (b ∷ s) a r h e =
      let p : (ltb b 256 ≡ true) × (are_bytes s ≡ true) = both_true (ltb b 256) (are_bytes s) h in
      let t : Taken (λ c. G a (b ∷ c)) s r = f b (ltb-true b 256 p.0) s a r p.1 e in
      record { eaten = b ∷ t.eaten; split = ap (λ z. b ∷ z) t.split; encodes = t.encodes }

weaken : {A : Type 0} (E G : A → List ℕ → Type 0) (m : Reader A) → Sound m E → ((a : A) (c : List ℕ) → E a c → G a c) → Sound m G
weaken E G m hm g s a r h e = let t : Taken (E a) s r = hm s a r h e in record { eaten = t.eaten; split = t.split; encodes = g a t.eaten t.encodes }

module _ {A B : Type 0} (E : A → List ℕ → Type 0) (G : B → List ℕ → Type 0) where
  bind-sound : (m : Reader A) (k : A → Reader B) → Sound m E → ((a : A) (c : List ℕ) → E a c → Sound (k a) (λ b c'. G b (c ++ c'))) → Sound (m >>= k) G
  bind-sound m k hm hk s b r h = go (m s) refl
    where
      join : (a : A) (s' : List ℕ) (t : Taken (E a) s s') → Taken (λ c'. G b (t.eaten ++ c')) s' r → Taken (G b) s r
      join a s' t u = record { eaten = t.eaten ++ u.eaten; split = t.split ∙ ap (λ z. t.eaten ++ z) u.split ∙ sym (append_assoc t.eaten u.eaten r); encodes = u.encodes }

      go : (q : Outcome A) → m s ≡ q → after q k ≡ got b r → Taken (G b) s r
      go (got a s') e f = let t : Taken (E a) s s' = hm s a s' h e in join a s' t (hk a t.eaten t.encodes s' b r (bytes_after t.eaten s' (subst Bytes t.split h)) f)
      go (refused n q) e f = absurd (never-got f)

  -- a part, then no more than a name for it
  map-sound : (m : Reader A) (f : A → B) → Sound m E → ((a : A) (c : List ℕ) → E a c → G (f a) c) → Sound (m >>= λ a. pure (f a)) G
  map-sound m f hm g = bind-sound m (λ a. pure (f a)) hm (λ a c e. pure-sound G (f a) c (g a c e))

-- ---- heads

-- n in w bytes, put behind acc
record Digits (w acc v : ℕ) (c : List ℕ) : Type 0 where
  low : ℕ
  value : v ≡ 256 ^ w * acc + low
  fits : low < 256 ^ w
  written : c ≡ big w low

-- a digit b before n < W
module _ (W b n : ℕ) (h : n < W) where
  digit-above : (b * W + n) / W ≡ b
  digit-above = mul-add-div_right (omega arith) b n ∙ rw (div-eq_of_lt h) (omega arith)

  digit-below : (b * W + n) % W ≡ n
  digit-below = mul-add-mod_self_right b W n ∙ mod-eq_of_lt h

  digit-fits : b < 256 → b * W + n < W * 256
  digit-fits l = let k : b * W ≤ 255 * W = mul-le-mul_right W (omega arith) in omega arith

  digit-moves : (acc v : ℕ) → v ≡ W * (256 * acc + b) + n → v ≡ W * 256 * acc + (b * W + n)
  digit-moves acc v e = omega arith

more-digits : (w acc b v : ℕ) (c : List ℕ) → b < 256 → Digits w (256 * acc + b) v c → Digits (suc w) acc v (b ∷ c)
unfolding big
more-digits w acc b v c l t = record {
  low = b * 256 ^ w + t.low;
  value = rw (pow-suc 256 w) (digit-moves (256 ^ w) b t.low t.fits acc v t.value);
  fits = rw (pow-suc 256 w) (digit-fits (256 ^ w) b t.low t.fits l);
  written = rw (digit-above (256 ^ w) b t.low t.fits, digit-below (256 ^ w) b t.low t.fits) (ap (λ z. b ∷ z) t.written);
}

number-sound : (w acc : ℕ) → Sound (number w acc) (Digits w acc)
unfolding number big
number-sound zero acc = pure-sound (Digits zero acc) acc [] (record { low = 0; value = omega arith; fits = omega arith; written = refl })
number-sound (suc w) acc =
    byte-sound (Digits (suc w) acc) (λ b. number w (256 * acc + b)) λ b l.
    weaken (Digits w (256 * acc + b)) (λ v c. Digits (suc w) acc v (b ∷ c)) (number w (256 * acc + b)) (number-sound w (256 * acc + b)) (λ v c. more-digits w acc b v c l)

-- what follows the first byte of a head, l its low bits
data Rest : ℕ → Argument → List ℕ → Type 0 where
  valued : {w n l : ℕ} → Low w n l → Rest l (known w n) (big w n)
  unvalued : Rest 31 indefinite []

wide-sound : (w l : ℕ) → ((n : ℕ) → n < 256 ^ w → Low w n l) → Sound (wide w) (Rest l)
unfolding wide
wide-sound w l low = map-sound (Digits w 0) (Rest l) (number w 0) (known w) (number-sound w 0)
    (λ v c t. let k : v ≡ t.low = omega (arith, t.value) in rw (t.written, k) (valued (low t.low t.fits)))

long-sound : (o : List ℕ) (j : ℕ) → Sound (get_or long_arguments j malformed o) (Rest (24 + j))
unfolding long_arguments
long-sound o zero = wide-sound 1 24 (λ n. one)
long-sound o (suc zero) = wide-sound 2 25 (λ n. two)
long-sound o (suc (suc zero)) = wide-sound 4 26 (λ n. four)
long-sound o (suc (suc (suc zero))) = wide-sound 8 27 (λ n. eight)
long-sound o (suc (suc (suc (suc zero)))) = malformed-sound (Rest 28) o
long-sound o (suc (suc (suc (suc (suc zero))))) = malformed-sound (Rest 29) o
long-sound o (suc (suc (suc (suc (suc (suc zero)))))) = malformed-sound (Rest 30) o
long-sound o (suc (suc (suc (suc (suc (suc (suc zero))))))) = pure-sound (Rest 31) indefinite [] unvalued
long-sound o (suc (suc (suc (suc (suc (suc (suc (suc j)))))))) = malformed-sound (Rest (24 + suc (suc (suc (suc (suc (suc (suc (suc j))))))))) o

small-rest : (i : ℕ) → i < 24 → Rest i (known 0 i) []
unfolding big
small-rest i h = valued (inside h)

argument-sound : (o : List ℕ) (i : ℕ) → Sound (argument o i) (Rest i)
unfolding argument
argument-sound o i = go (ltb i 24) refl
  where
    go : (t : Bool) → ltb i 24 ≡ t → Sound (cond t (pure (known 0 i)) (get_or long_arguments (i - 24) malformed o)) (Rest i)
    go true e = pure-sound (Rest i) (known 0 i) [] (small-rest i (ltb-true i 24 e))
    go false e = let k : 24 + (i - 24) ≡ i = omega (arith, ltb-false) in subst (λ l. Sound (get_or long_arguments (i - 24) malformed o) (Rest l)) k (long-sound o (i - 24))

head_of : (m : ℕ) {k w n l : ℕ} → Low w n l → k ≡ n → Head m w k ((m * 32 + l) ∷ big w n)
head_of m low e = rw e (head low)

-- ---- strings

record Ran (n : ℕ) (b c : List ℕ) : Type 0 where
  many : length b ≡ n
  same : c ≡ b

run_sound : (n : ℕ) → Sound (run n) (Ran n)
unfolding run
run_sound n s a r h = go (leb n (length s)) refl
  where
    go : (t : Bool) → leb n (length s) ≡ t → cond t (got (take n s) (drop n s)) (refused CBOR []) ≡ got a r → Taken (Ran n a) s r
    go true e f =
        let k : Alike (take n s) a (drop n s) r = alike f in
        record { eaten = take n s; split = sym (take-append-drop n s) ∙ ap (λ z. take n s ++ z) k.rest; encodes = record { many = rw (← k.value) (length-take-le n s (leb-true n (length s) e)); same = k.value } }
    go false e f = absurd (never-got f)

-- a chunk of an indefinite string
data Piece (m : ℕ) : List ℕ → List ℕ → Type 0 where
  piece : {w : ℕ} {b hs : List ℕ} → Head m w (length b) hs → Piece m b (hs ++ b)

definite-sound : (m l : ℕ) {a : Argument} {c : List ℕ} → Rest l a c → (o : List ℕ) → Sound (definite o a) (λ b c'. Piece m b ((m * 32 + l) ∷ c ++ c'))
unfolding definite
definite-sound m l (valued {w} {n} low) o =
    weaken (Ran n) (λ b c'. Piece m b ((m * 32 + l) ∷ big w n ++ c')) (run n) (run_sound n) (λ b c t. rw t.same (piece {b = b} (head_of m low t.many)))
definite-sound m l unvalued o = malformed-sound (λ b c'. Piece m b ((m * 32 + 31) ∷ c')) o

head_byte : (h : ℕ) → h ≡ h / 32 * 32 + info_of h
unfolding info_of
head_byte h = omega arith

chunk-sound : (m : ℕ) → Sound (read.chunk m) (Piece m)
unfolding read.chunk
chunk-sound m = here-sound (Piece m) _ (λ o. byte-sound (Piece m) _ (λ h l. go o h (eqb (h / 32) m) refl))
  where
    go : (o : List ℕ) (h : ℕ) (t : Bool) → eqb (h / 32) m ≡ t → Sound (cond t (argument o (info_of h) >>= definite o) (malformed o)) (λ b c. Piece m b (h ∷ c))
    go o h true e =
        let k : m * 32 + info_of h ≡ h = omega (arith, eqb-true (h / 32) m e, head_byte h) in
        bind-sound (Rest (info_of h)) (λ b c. Piece m b (h ∷ c)) (argument o (info_of h)) (definite o) (argument-sound o (info_of h))
        (λ a c t. subst (λ z. Sound (definite o a) (λ b c'. Piece m b (z ∷ c ++ c'))) k (definite-sound m (info_of h) t o))
    go o h false e = malformed-sound (λ b c. Piece m b (h ∷ c)) o

chunks_of : {m : ℕ} {l : List (List ℕ)} {cs : List ℕ} → Each (Piece m) l cs → Chunks m (joined l) cs
chunks_of none = done
chunks_of (more (piece {b} {hs} h) es) = chunk b h (chunks_of es)

-- ---- several

-- pieces, then the break byte
data Stopped {A : Type 0} (E : A → List ℕ → Type 0) : List A → List ℕ → Type 0 where
  stopped : {l : List A} {cs : List ℕ} → Each E l cs → Stopped E l (cs ++ 255 ∷ [])

stopped-whole : {A : Type 0} {E : A → List ℕ → Type 0} (P : List ℕ → Type 0) {l : List A} {c : List ℕ} → Stopped E l c → ((cs : List ℕ) → Each E l cs → P (cs ++ 255 ∷ [])) → P c
stopped-whole P (stopped {cs} es) f = f cs es

data Stop : Bool → List ℕ → Type 0 where
  break : Stop true (255 ∷ [])
  none_yet : Stop false []

stop-sound : Sound stop Stop
unfolding stop
stop-sound [] a r h e = absurd (never-got e)
stop-sound (b ∷ s) a r h e = go (eqb b 255) refl e
  where
    go : (t : Bool) → eqb b 255 ≡ t → cond t (got true s) (got false (b ∷ s)) ≡ got a r → Taken (Stop a) (b ∷ s) r
    go true e f = let k : Alike true a s r = alike f in record { eaten = 255 ∷ []; split = rw (eqb-true b 255 e, k.rest) refl; encodes = subst (λ t. Stop t (255 ∷ [])) k.value break }
    go false e f = let k : Alike false a (b ∷ s) r = alike f in record { eaten = []; split = k.rest; encodes = subst (λ t. Stop t []) k.value none_yet }

record Times {A : Type 0} (E : A → List ℕ → Type 0) (n : ℕ) (l : List A) (c : List ℕ) : Type 0 where
  many : length l ≡ n
  each : Each E l c

module _ {A : Type 0} (E : A → List ℕ → Type 0) (m : Reader A) (hm : Sound m E) where
  times-sound : (n : ℕ) → Sound (times m n) (Times E n)
  unfolding times
  times-sound zero = pure-sound (Times E zero) [] [] (record { many = refl; each = none })
  times-sound (suc n) =
      bind-sound E (Times E (suc n)) m _ hm λ a c e.
      map-sound (Times E n) (λ l c'. Times E (suc n) l (c ++ c')) (times m n) (λ l. a ∷ l) (times-sound n) λ l c' t.
      record { many = ap suc t.many; each = more e t.each }

  more-stopped : {a : A} {l : List A} {c c' : List ℕ} → E a c → Stopped E l c' → Stopped E (a ∷ l) (c ++ c')
  more-stopped {c} e (stopped {cs} es) = rw (← (append_assoc c cs (255 ∷ []))) (stopped (more e es))

  turn-sound : (f : ℕ) → Sound (until_break m f) (Stopped E) → (t : Bool) (c : List ℕ) → Stop t c
      → Sound (cond t (pure []) (m >>= λ x. until_break m f >>= λ xs. pure (x ∷ xs))) (λ l c'. Stopped E l (c ++ c'))
  turn-sound f ih t c break = pure-sound (Stopped E) [] (255 ∷ []) (stopped none)
  turn-sound f ih t c none_yet =
      bind-sound E (Stopped E) m _ hm λ a c e. map-sound (Stopped E) (λ l c'. Stopped E l (c ++ c')) (until_break m f) (λ l. a ∷ l) ih λ l c' t. more-stopped e t

  until-sound : (f : ℕ) → Sound (until_break m f) (Stopped E)
  unfolding until_break
  until-sound zero = λ s a r h e. absurd (never-got e)
  until-sound (suc f) = bind-sound Stop (Stopped E) stop _ stop-sound (turn-sound f (until-sound f))

  to_break-sound : Sound (to_break m) (Stopped E)
  unfolding to_break
  to_break-sound s = until-sound (length s) s

-- ---- items

elements-of : {d : ℕ} {l : List Tree} {bs : List ℕ} → Each (Encodes d) l bs → Elements d (nodes l) bs
elements-of none = end
elements-of (more e es) = next e (elements-of es)

data Entry (d : ℕ) : Pair (Unit {0}) → List ℕ → Type 0 where
  entry : {k v : Tree} {ks vs : List ℕ} → Encodes d k ks → Encodes d v vs → Entry d (record { key = k; value = v }) (ks ++ vs)

entries-of : {d : ℕ} {l : List (Pair (Unit {0}))} {bs : List ℕ} → Each (Entry d) l bs → Entries d (pairs l) bs
entries-of none = end_pairs
entries-of (more (entry ek ev) es) = next_pair ek ev (entries-of es)

-- the number of a major type
abbrev code : Major → ℕ
code unsigned = 0
code negative = 1
code byte_string = 2
code text_string = 3
code array_of = 4
code map_of = 5
code tagged = 6
code special = 7

code_of : (i : ℕ) → i < 8 → code (get_or majors i special) ≡ i
code_of zero h = refl
code_of (suc zero) h = refl
code_of (suc (suc zero)) h = refl
code_of (suc (suc (suc zero))) h = refl
code_of (suc (suc (suc (suc zero)))) h = refl
code_of (suc (suc (suc (suc (suc zero))))) h = refl
code_of (suc (suc (suc (suc (suc (suc zero)))))) h = refl
code_of (suc (suc (suc (suc (suc (suc (suc zero))))))) h = refl
code_of (suc (suc (suc (suc (suc (suc (suc (suc i)))))))) h = absurd (omega arith)

code_at : (h : ℕ) → h < 256 → code (major_of h) * 32 + info_of h ≡ h
unfolding major_of
code_at h l = omega (arith, code_of (h / 32) (omega arith), head_byte h)

pair-sound : (d : ℕ) (it : Reader Tree) → Sound it (Encodes d) → Sound (pair no_note it) (Entry d)
unfolding pair
pair-sound d it hi = bind-sound (Encodes d) (Entry d) it _ hi λ k ks ek. map-sound (Encodes d) (λ p c. Entry d p (ks ++ c)) it _ hi λ v vs ev. entry ek ev

module _ (d : ℕ) (it : Reader Tree) (hi : Sound it (Encodes d)) where
  -- items that begin with hs
  abbrev From : List ℕ → Tree → List ℕ → Type 0
  From hs t c = Encodes (suc d) t (hs ++ c)

  atom-sound : (t : Tree) (hs : List ℕ) → Encodes (suc d) t hs → (o : List ℕ) → Sound (close no_note o (λ p. t)) (From hs)
  unfolding close no_note
  atom-sound t hs e o = pure-sound (Encodes (suc d)) t hs e

  ends-sound : {A : Type 0} (E : A → List ℕ → Type 0) (m : Reader A) (make : A → Tree) (hs : List ℕ) → Sound m E → ((a : A) (c : List ℕ) → E a c → From hs (make a) c)
      → (o : List ℕ) → Sound (m >>= λ a. close no_note o (λ p. make a)) (From hs)
  unfolding close no_note
  ends-sound E m make hs hm g o = map-sound E (From hs) m make hm g

  string-sound : (m l : ℕ) (make : List ℕ → Tree) → ((w : ℕ) (b hs : List ℕ) → Head m w (length b) hs → From hs (make b) b)
      → {w n : ℕ} → Low w n l → (o : List ℕ) → Sound (run n >>= λ b. close no_note o (λ p. make b)) (From ((m * 32 + l) ∷ big w n))
  string-sound m l make whole {w} {n} low = ends-sound (Ran n) (run n) make ((m * 32 + l) ∷ big w n) (run_sound n) (λ b c t. rw t.same (whole w b ((m * 32 + l) ∷ big w n) (head_of m low t.many)))

  -- of indefinite length, with the head h
  open-sound : {A : Type 0} (h : ℕ) (E : A → List ℕ → Type 0) (m : Reader A) (make : List A → Tree) → Sound m E → ((l : List A) (cs : List ℕ) → Each E l cs → Encodes (suc d) (make l) (h ∷ cs ++ 255 ∷ []))
      → (o : List ℕ) → Sound (to_break m >>= λ l. close no_note o (λ p. make l)) (From (h ∷ []))
  open-sound h E m make hm whole = ends-sound (Stopped E) (to_break m) make (h ∷ []) (to_break-sound E m hm) (λ l c t. stopped-whole (From (h ∷ []) (make l)) t (whole l))

  special-encodes : {w n l : ℕ} → Low w n l → reserved w n ≡ false → Encodes (suc d) (cond (leb w 1) (tree.simple tt n) (tree.float tt w n)) ((7 * 32 + l) ∷ big w n)
  special-encodes {w} {n} {l} low u = go (leb w 1) refl
    where
      go : (t : Bool) → leb w 1 ≡ t → Encodes (suc d) (cond t (tree.simple tt n) (tree.float tt w n)) ((7 * 32 + l) ∷ big w n)
      go true e = simple (head low) (leb-true w 1 e) (large-enough w n u)
      go false e = float (head low) (leb-false w 1 e)

  special-sound : {w n l : ℕ} → Low w n l → (o : List ℕ) (t : Bool) → reserved w n ≡ t
      → Sound (cond t (malformed o) (close no_note o (λ p. cond (leb w 1) (tree.simple tt n) (tree.float tt w n)))) (From ((7 * 32 + l) ∷ big w n))
  special-sound {w} {n} {l} low o true e = malformed-sound (From ((7 * 32 + l) ∷ big w n)) o
  special-sound {w} {n} {l} low o false e = atom-sound (cond (leb w 1) (tree.simple tt n) (tree.float tt w n)) ((7 * 32 + l) ∷ big w n) (special-encodes low e) o

  content-sound : (o : List ℕ) (q : Major) (l : ℕ) {a : Argument} {c : List ℕ} → Rest l a c → Sound (content no_note it o q a) (From ((code q * 32 + l) ∷ c))
  unfolding content
  content-sound o unsigned l (valued {w} {n} low) = atom-sound (tree.uint tt n) ((0 * 32 + l) ∷ big w n) (uint (head low)) o
  content-sound o unsigned l unvalued = malformed-sound (From (0x1f ∷ [])) o
  content-sound o negative l (valued {w} {n} low) = atom-sound (tree.nint tt n) ((1 * 32 + l) ∷ big w n) (nint (head low)) o
  content-sound o negative l unvalued = malformed-sound (From (0x3f ∷ [])) o
  content-sound o byte_string l (valued low) = string-sound 2 l (tree.bytes tt) (λ w b hs. bytes) low o
  content-sound o byte_string l unvalued = open-sound 0x5f (Piece 2) (read.chunk 2) (λ l. tree.chunked_bytes tt (joined l)) (chunk-sound 2) (λ l cs es. chunked_bytes (chunks_of es)) o
  content-sound o text_string l (valued low) = string-sound 3 l (tree.text tt) (λ w b hs. text) low o
  content-sound o text_string l unvalued = open-sound 0x7f (Piece 3) (read.chunk 3) (λ l. tree.chunked_text tt (joined l)) (chunk-sound 3) (λ l cs es. chunked_text (chunks_of es)) o
  content-sound o array_of l (valued {w} {n} low) =
      ends-sound (Times (Encodes d) n) (times it n) (λ l. tree.array tt (nodes l)) ((4 * 32 + l) ∷ big w n) (times-sound (Encodes d) it hi n)
      (λ l c t. array (head_of 4 low (ap length (node_list-nodes l) ∙ t.many)) (elements-of t.each)) o
  content-sound o array_of l unvalued = open-sound 0x9f (Encodes d) it (λ l. tree.array tt (nodes l)) hi (λ l cs es. open_array (elements-of es)) o
  content-sound o map_of l (valued {w} {n} low) =
      ends-sound (Times (Entry d) n) (times (pair no_note it) n) (λ l. tree.dict tt (pairs l)) ((5 * 32 + l) ∷ big w n) (times-sound (Entry d) (pair no_note it) (pair-sound d it hi) n)
      (λ l c t. dict (head_of 5 low (ap length (pair_list-pairs l) ∙ t.many)) (entries-of t.each)) o
  content-sound o map_of l unvalued = open-sound 0xbf (Entry d) (pair no_note it) (λ l. tree.dict tt (pairs l)) (pair-sound d it hi) (λ l cs es. open_dict (entries-of es)) o
  content-sound o tagged l (valued {w} {n} low) = ends-sound (Encodes d) it (tree.tag tt n) ((6 * 32 + l) ∷ big w n) hi (λ t c e. tag (head low) e) o
  content-sound o tagged l unvalued = malformed-sound (From (0xdf ∷ [])) o
  content-sound o special l (valued {w} {n} low) = special-sound low o (reserved w n) refl
  content-sound o special l unvalued = malformed-sound (From (0xff ∷ [])) o

  rest-sound : (o : List ℕ) (h : ℕ) → h < 256 → Sound (argument o (info_of h) >>= λ a. content no_note it o (major_of h) a) (From (h ∷ []))
  rest-sound o h b =
      bind-sound (Rest (info_of h)) (From (h ∷ [])) (argument o (info_of h)) (λ a. content no_note it o (major_of h) a) (argument-sound o (info_of h))
      (λ a c t. subst (λ z. Sound (content no_note it o (major_of h) a) (From (z ∷ c))) (code_at h b) (content-sound o (major_of h) (info_of h) t))

item-sound : (d : ℕ) → Sound (item no_note d) (Encodes d)
unfolding item
item-sound zero = λ s t r h e. absurd (never-beyond s t r e)
item-sound (suc d) = here-sound (Encodes (suc d)) _ λ o. byte-sound (Encodes (suc d)) _ (rest-sound d (item no_note d) (item-sound d) o)

pub whatever-is-read-is-encoded : (d : ℕ) (s : List ℕ) (t : Tree) (r : List ℕ) → Bytes s → item no_note d s ≡ got t r → Encoded d t s r
whatever-is-read-is-encoded = item-sound
