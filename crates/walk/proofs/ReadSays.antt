-- What the head of an item says of the tree that is read there: its kind, and its annotation.
use Prim.Native.Nat.{ℕ, zero, suc, ◌+◌, ◌-◌, ◌%◌, ◌≤◌, ◌<◌}
use native.Mathlib.Omega.{arith}
use mathlib.Core.List.{List, [], ◌∷◌}
use mathlib.Core.Bool.{Bool, true, false, cond}
use mathlib.Core.Path.{◌≡◌, refl, ap, sym, ◌∙◌}
use lib.ListN.{length, drop}
use lib.Dec.{eqb, leb}
use Rattle.meaning.specs.Tree as tree
use Rattle.meaning.specs.Tree.{Node, Pair, note_of, nodes, pairs, node_list-nodes, pair_list-pairs}
use Rattle.meaning.specs.Kind as kinds
use Rattle.meaning.specs.Kind.{Kind, kind}
use Rattle.meaning.specs.Read as read
use Rattle.meaning.specs.Read.{Outcome, got, refused, Reader, after, Argument, known, indefinite, argument, major_of, content, item, times, to_break, pair, run, reserved}
use Rattle.meaning.specs.Read.{Major, unsigned, negative, byte_string, text_string, array_of, map_of, tagged, special}
use Rattle.meaning.proofs.ReadPrefix.{never-got, alike, never-beyond}
use Rattle.cbor.specs.Ending.{head_of, argued, endless}
use Rattle.cbor.proofs.Heads as heads
use Rattle.cbor.proofs.Majors as heading
use Rattle.walk.specs.Reading.{Ends, ends, Reads}

-- what was read first, and then
pub record Bound {A B : Type 0} (o : Outcome A) (k : A → Reader B) (b : B) (r : List ℕ) : Type 0 where
  pub value : A
  pub next : List ℕ
  pub is : o ≡ got value next
  pub then : k value next ≡ got b r

pub bound : {A B : Type 0} (o : Outcome A) (k : A → Reader B) (b : B) (r : List ℕ) → after o k ≡ got b r → Bound o k b r
bound (got a s) k b r e = record { value = a; next = s; is = refl; then = e }
bound (refused n q) k b r e = absurd (never-got e)

-- what a reader's result and an item's end make of a node
pub record Made {A : Type 0} (start : List ℕ) (make : A → Ends → Node Ends) (o : Outcome A) (t : Node Ends) (r : List ℕ) : Type 0 where
  pub value : A
  pub is : o ≡ got value r
  pub node : t ≡ make value (ends start r)

module _ (start : List ℕ) where
  made : {A : Type 0} (o : Outcome A) (make : A → Ends → Node Ends) (t : Node Ends) (r : List ℕ) → after o (λ a. read.close ends start (make a)) ≡ got t r → Made start make o t r
  unfolding read.close
  made (got a q) make t r e = let k = alike e in record { value = a; is = ap (got a) k.rest; node = sym k.value ∙ ap (λ x. make a (ends start x)) k.rest }
  made (refused n q) make t r e = absurd (never-got e)

  ended : (make : Ends → Node Ends) (s : List ℕ) (t : Node Ends) (r : List ℕ) → read.close ends start make s ≡ got t r → (t ≡ make (ends start r)) × (s ≡ r)
  unfolding read.close
  ended make s t r e = let k = alike e in (sym k.value ∙ ap (λ x. make (ends start x)) k.rest, k.rest)

  -- the same, where nothing reserves the value
  free : (b : Bool) (make : Ends → Node Ends) (s : List ℕ) (t : Node Ends) (r : List ℕ) {c : Bool} → c ≡ b
      → cond b (read.malformed start) (read.close ends start make) s ≡ got t r → (t ≡ make (ends start r)) × (s ≡ r) × (c ≡ false)
  free true make s t r h e = absurd (never-got e)
  free false make s t r h e = let k = ended make s t r e in (k.0, k.1, h)

  -- a major type and its argument, of an item whose content stands at q
  abbrev pub Says : ℕ → Major → Argument → List ℕ → Node Ends → List ℕ → Type 0
  Says d unsigned (known w n) q t r = (t ≡ tree.uint (ends start r) n) × (q ≡ r)
  Says d unsigned indefinite q t r = ⊥
  Says d negative (known w n) q t r = (t ≡ tree.nint (ends start r) n) × (q ≡ r)
  Says d negative indefinite q t r = ⊥
  Says d byte_string (known w n) q t r = Made start (λ x p. tree.bytes p x) (run n q) t r
  Says d byte_string indefinite q t r = Made start (λ x p. tree.chunked_bytes p (read.joined x)) (to_break (read.chunk 2) q) t r
  Says d text_string (known w n) q t r = Made start (λ x p. tree.text p x) (run n q) t r
  Says d text_string indefinite q t r = Made start (λ x p. tree.chunked_text p (read.joined x)) (to_break (read.chunk 3) q) t r
  Says d array_of (known w n) q t r = Made start (λ x p. tree.array p (nodes x)) (times (item ends d) n q) t r
  Says d array_of indefinite q t r = Made start (λ x p. tree.array p (nodes x)) (to_break (item ends d) q) t r
  Says d map_of (known w n) q t r = Made start (λ x p. tree.dict p (pairs x)) (times (pair ends (item ends d)) n q) t r
  Says d map_of indefinite q t r = Made start (λ x p. tree.dict p (pairs x)) (to_break (pair ends (item ends d)) q) t r
  Says d tagged (known w n) q t r = Made start (λ x p. tree.tag p n x) (item ends d q) t r
  Says d tagged indefinite q t r = ⊥
  Says d special (known w n) q t r = (t ≡ cond (leb w 1) (tree.simple (ends start r) n) (tree.float (ends start r) w n)) × (q ≡ r) × (reserved w n ≡ false)
  Says d special indefinite q t r = ⊥

  pub says : (d : ℕ) (m : Major) (a : Argument) (q : List ℕ) (t : Node Ends) (r : List ℕ) → content ends (item ends d) start m a q ≡ got t r → Says d m a q t r
  unfolding content
  says d unsigned (known w n) q t r e = ended (λ p. tree.uint p n) q t r e
  says d unsigned indefinite q t r e = never-got e
  says d negative (known w n) q t r e = ended (λ p. tree.nint p n) q t r e
  says d negative indefinite q t r e = never-got e
  says d byte_string (known w n) q t r e = made (run n q) (λ x p. tree.bytes p x) t r e
  says d byte_string indefinite q t r e = made (to_break (read.chunk 2) q) (λ x p. tree.chunked_bytes p (read.joined x)) t r e
  says d text_string (known w n) q t r e = made (run n q) (λ x p. tree.text p x) t r e
  says d text_string indefinite q t r e = made (to_break (read.chunk 3) q) (λ x p. tree.chunked_text p (read.joined x)) t r e
  says d array_of (known w n) q t r e = made (times (item ends d) n q) (λ x p. tree.array p (nodes x)) t r e
  says d array_of indefinite q t r e = made (to_break (item ends d) q) (λ x p. tree.array p (nodes x)) t r e
  says d map_of (known w n) q t r e = made (times (pair ends (item ends d)) n q) (λ x p. tree.dict p (pairs x)) t r e
  says d map_of indefinite q t r e = made (to_break (pair ends (item ends d)) q) (λ x p. tree.dict p (pairs x)) t r e
  says d tagged (known w n) q t r e = made (item ends d q) (λ x p. tree.tag p n x) t r e
  says d tagged indefinite q t r e = never-got e
  says d special (known w n) q t r e = free (reserved w n) (λ p. cond (leb w 1) (tree.simple p n) (tree.float p w n)) q t r refl e
  says d special indefinite q t r e = never-got e

-- ---------------------------------------------------------------- its kind

-- what a major type and an argument say of the kind, but for what arrays and maps hold
abbrev pub KindSays : Major → Argument → Kind Ends → Type 0
KindSays unsigned (known w n) k = k ≡ kinds.number n
KindSays unsigned indefinite k = ⊥
KindSays negative (known w n) k = k ≡ kinds.another
KindSays negative indefinite k = ⊥
KindSays byte_string a k = k ≡ kinds.another
KindSays text_string (known w n) k = (letters : List ℕ) × (note : Ends) × (k ≡ kinds.words (record { note = note; letters = letters }))
KindSays text_string indefinite k = k ≡ kinds.another
KindSays array_of a k = (xs : List (Node Ends)) × (k ≡ kinds.list xs)
KindSays map_of a k = (ps : List (Pair Ends)) × (k ≡ kinds.mapping ps)
KindSays tagged (known w n) k = k ≡ kinds.another
KindSays tagged indefinite k = ⊥
KindSays special (known w n) k = k ≡ cond (leb w 1) (cond (eqb n 22) kinds.null kinds.another) kinds.another
KindSays special indefinite k = ⊥

module _ (start : List ℕ) (d : ℕ) (q : List ℕ) (t : Node Ends) (r : List ℕ) where
  pub kind-says : (m : Major) (a : Argument) → Says start d m a q t r → KindSays m a (kind t)
  unfolding kind
  kind-says unsigned (known w n) h = ap kind h.0
  kind-says unsigned indefinite h = h
  kind-says negative (known w n) h = ap kind h.0
  kind-says negative indefinite h = h
  kind-says byte_string (known w n) h = ap kind h.node
  kind-says byte_string indefinite h = ap kind h.node
  kind-says text_string (known w n) h = (h.value, ends start r, ap kind h.node)
  kind-says text_string indefinite h = ap kind h.node
  kind-says array_of (known w n) h = (h.value, ap kind h.node ∙ ap kinds.list (node_list-nodes h.value))
  kind-says array_of indefinite h = (h.value, ap kind h.node ∙ ap kinds.list (node_list-nodes h.value))
  kind-says map_of (known w n) h = (h.value, ap kind h.node ∙ ap kinds.mapping (pair_list-pairs h.value))
  kind-says map_of indefinite h = (h.value, ap kind h.node ∙ ap kinds.mapping (pair_list-pairs h.value))
  kind-says tagged (known w n) h = ap kind h.node
  kind-says tagged indefinite h = h
  kind-says special (known w n) h = ap kind h.0 ∙ two (leb w 1)
    where
      two : (b : Bool) → kind (cond b (tree.simple (ends start r) n) (tree.float (ends start r) w n)) ≡ cond b (cond (eqb n 22) kinds.null kinds.another) kinds.another
      two true = refl
      two false = refl
  kind-says special indefinite h = h

  note-says : (m : Major) (a : Argument) → Says start d m a q t r → note_of t ≡ ends start r
  note-says unsigned (known w n) h = ap note_of h.0
  note-says unsigned indefinite h = absurd h
  note-says negative (known w n) h = ap note_of h.0
  note-says negative indefinite h = absurd h
  note-says byte_string (known w n) h = ap note_of h.node
  note-says byte_string indefinite h = ap note_of h.node
  note-says text_string (known w n) h = ap note_of h.node
  note-says text_string indefinite h = ap note_of h.node
  note-says array_of (known w n) h = ap note_of h.node
  note-says array_of indefinite h = ap note_of h.node
  note-says map_of (known w n) h = ap note_of h.node
  note-says map_of indefinite h = ap note_of h.node
  note-says tagged (known w n) h = ap note_of h.node
  note-says tagged indefinite h = absurd h
  note-says special (known w n) h = ap note_of h.0 ∙ two (leb w 1)
    where
      two : (b : Bool) → note_of (cond b (tree.simple (ends start r) n) (tree.float (ends start r) w n)) ≡ ends start r
      two true = refl
      two false = refl
  note-says special indefinite h = absurd h

-- ---------------------------------------------------------------- by the first byte

pub data Stood (d b : ℕ) (t : List ℕ) (x : Node Ends) (r : List ℕ) : Type 0 where
  sized : (w n : ℕ) → w ≤ length t → head_of (b ∷ t) ≡ argued n (w + 1) → b % 32 < 28 → Says (b ∷ t) d (major_of b) (known w n) (drop w t) x r → Stood d b t x r
  loose : b % 32 ≡ 31 → head_of (b ∷ t) ≡ argued endless 1 → Says (b ∷ t) d (major_of b) indefinite t x r → Stood d b t x r

module _ (d b : ℕ) (t : List ℕ) (x : Node Ends) (r : List ℕ) where
  opens : item ends (suc d) (b ∷ t) ≡ after (argument (b ∷ t) (b % 32) t) (content ends (item ends d) (b ∷ t) (major_of b))
  unfolding item read.here read.byte read.info_of
  opens = refl

  pub stood : Reads (suc d) (b ∷ t) x r → Stood d b t x r
  stood e = go (heads.look (b % 32) t)
    where
      after-it : (o : Outcome Argument) → argument (b ∷ t) (b % 32) t ≡ o → after o (content ends (item ends d) (b ∷ t) (major_of b)) ≡ got x r
      after-it o h = ap (λ o. after o (content ends (item ends d) (b ∷ t) (major_of b))) (sym h) ∙ sym opens ∙ e

      go : heads.Look (b % 32) t → Stood d b t x r
      go (heads.sized w n l h k one) = sized w n l (heading.head-sized b t w n h) k (says (b ∷ t) d (major_of b) (known w n) (drop w t) x r (after-it (got (known w n) (drop w t)) (h (b ∷ t))))
      go (heads.loose k h) = loose k (heading.head-loose b t h) (says (b ∷ t) d (major_of b) indefinite t x r (after-it (got indefinite t) (h (b ∷ t))))
      go (heads.wrong k h) = absurd (never-got (after-it (refused 6 (h (b ∷ t)).at) (h (b ∷ t)).is))

pub nothing_read : (d : ℕ) (s : List ℕ) (t : Node Ends) (r : List ℕ) → length s ≡ 0 → Reads (suc d) s t r → ⊥
unfolding item read.here read.byte
nothing_read d [] t r l e = never-got e
nothing_read d (b ∷ s) t r l e = absurd (omega arith)

pub note-of : (d : ℕ) (s : List ℕ) (t : Node Ends) (r : List ℕ) → Reads d s t r → note_of t ≡ ends s r
unfolding item
note-of zero s t r e = absurd (never-beyond s t r e)
note-of (suc d) [] t r e = absurd (nothing_read d [] t r refl e)
note-of (suc d) (b ∷ s) t r e = go (stood d b s t r e)
  where
    go : Stood d b s t r → note_of t ≡ ends (b ∷ s) r
    go (sized w n l h k x) = note-says (b ∷ s) d (drop w s) t r (major_of b) (known w n) x
    go (loose k h x) = note-says (b ∷ s) d s t r (major_of b) indefinite x
