-- Every node that a manifest reads as is placed: one pass over the reading, which also finds that it refuses with CBOR or DEEP.
use Prim.Native.Nat.{ℕ, zero, suc, ◌+◌, ◌-◌, ◌*◌, ◌/◌, ◌≤◌}
use mathlib.Core.List.{List, [], ◌∷◌, ◌++◌}
use mathlib.Core.Bool.{Bool, true, false, cond}
use mathlib.Core.Path.{◌≡◌, refl, sym}
use lib.ListN.{length, get_or, take-append-drop}
use lib.Dec.{eqb, leb, ltb}
use Rattle.meaning.specs.Refusal.{CBOR, DEEP}
use Rattle.meaning.specs.Limit.{depth_limit}
use Rattle.meaning.specs.Tree.{Node, uint, nint, bytes, text, tag, simple, float, Pair, note_of, nodes, pairs}
use Rattle.meaning.specs.Read.{Outcome, got, refused, Reader, after, ◌>>=◌, pure, malformed, here, byte, run, number, stop, times, until_break, to_break}
use Rattle.meaning.specs.Read.{Argument, known, indefinite, wide, long_arguments, argument, major_of, info_of, definite, chunk, closed, reserved, close, pair, content, beyond, item, manifest, Span, span_to}
use Rattle.meaning.specs.Read.{Major, unsigned, negative, byte_string, text_string, array_of, map_of, tagged, special}
use Rattle.meaning.specs.Layouts.{Layout}
use Rattle.meaning.specs.Every.{Every}
use Rattle.shown.specs.Placed.{Placed, Within, PlacedNodes, PlacedPairs, PlacedPair}
use Rattle.shown.proofs.Judged.{Between, Any}
use Rattle.shown.proofs.Spans.{Later, at_once, later-on, Left, left-later, word_stands, node-stands}

-- what is got is so, and a refusal's number is CBOR or DEEP
module _ {A : Type 0} where
  abbrev Cases : (A → List ℕ → Type 0) → Outcome A → Type 0
  Cases Q (got a r) = Q a r
  Cases Q (refused n r) = Between CBOR DEEP n

  pub record So (Q : A → List ℕ → Type 0) (o : Outcome A) : Type 0 where
    pub is : Cases Q o

  so-with : {Q R : A → List ℕ → Type 0} (o : Outcome A) → So Q o → ((a : A) (r : List ℕ) → o ≡ got a r → Q a r → R a r) → So R o
  so-with (got a r) h f = record { is = f a r refl h.is }
  so-with (refused n r) h f = record { is = h.is }

  ended : {Q : A → List ℕ → Type 0} (r : List ℕ) → So Q (refused CBOR r)
  ended r = record { is = tt }

  so-cond : {Q : A → List ℕ → Type 0} (b : Bool) (x y : Outcome A) → So Q x → So Q y → So Q (cond b x y)
  so-cond true x y h k = h
  so-cond false x y h k = k

so-after : {A B : Type 0} {Q : A → List ℕ → Type 0} {R : B → List ℕ → Type 0} (o : Outcome A) (k : A → Reader B)
    → So Q o → ((a : A) (r : List ℕ) → Q a r → So R (k a r)) → So R (after o k)
so-after (got a r) k h f = f a r h.is
so-after (refused n r) k h f = record { is = h.is }

module _ (file back : List ℕ) (start end : ℕ) where
  -- ---- readers that go on in the bytes left of the manifest, what they give being so

  module _ {A : Type 0} where
    abbrev Keeps : (A → Type 0) → Reader A → Type 0
    Keeps Q m = (s : List ℕ) → Left file back start end s → So (λ (a : A) (r : List ℕ). Q a × Later s r) (m s)

    pure-keeps : {Q : A → Type 0} (a : A) → Q a → Keeps Q (pure a)
    pure-keeps a q s l = record { is = (q, at_once s) }

    malformed-keeps : {Q : A → Type 0} (o : List ℕ) → Keeps Q (malformed o)
    malformed-keeps o s l = ended o

    cond-keeps : {Q : A → Type 0} (b : Bool) (m n : Reader A) → Keeps Q m → Keeps Q n → Keeps Q (cond b m n)
    cond-keeps true m n hm hn = hm
    cond-keeps false m n hm hn = hn

    get_d-keeps : {Q : A → Type 0} (ms : List (List ℕ → Reader A)) (d : List ℕ → Reader A) → Every (λ (m : List ℕ → Reader A). (o : List ℕ) → Keeps Q (m o)) ms
        → ((o : List ℕ) → Keeps Q (d o)) → (i : ℕ) (o : List ℕ) → Keeps Q (get_or ms i d o)
    get_d-keeps [] d hs hd i = hd
    get_d-keeps (m ∷ ms) d hs hd zero = hs.0
    get_d-keeps (m ∷ ms) d hs hd (suc i) = get_d-keeps ms d hs.1 hd i

  module _ {A B : Type 0} {Q : A → Type 0} {R : B → Type 0} where
    bind-keeps : (m : Reader A) (k : A → Reader B) → Keeps Q m → ((a : A) → Q a → Keeps R (k a)) → Keeps R (m >>= k)
    bind-keeps m k hm hk s l =
        so-after (m s) k (hm s l) λ a r h.
        so-with (k a r) (hk a h.0 r (left-later file back start end l h.1)) λ b q e g. (g.0, later-on h.1 g.1)

  byte-keeps : Keeps Any byte
  unfolding byte
  byte-keeps [] l = ended []
  byte-keeps (b ∷ s) l = record { is = (tt, record { eaten = b ∷ []; split = refl }) }

  -- the bytes that are run over
  run-gets : (n : ℕ) (s : List ℕ) → So (λ (bs r : List ℕ). s ≡ bs ++ r) (run n s)
  unfolding run
  run-gets n s = so-cond (leb n (length s)) _ _ (record { is = sym (take-append-drop n s) }) (ended [])

  run-keeps : (n : ℕ) → Keeps Any (run n)
  run-keeps n s l = so-with (run n s) (run-gets n s) λ bs r g e. (tt, record { eaten = bs; split = e })

  number-keeps : (k acc : ℕ) → Keeps Any (number k acc)
  unfolding number
  number-keeps zero acc = pure-keeps acc tt
  number-keeps (suc k) acc = bind-keeps byte _ byte-keeps λ b q. number-keeps k (256 * acc + b)

  stop-keeps : Keeps Any stop
  unfolding stop
  stop-keeps [] l = ended []
  stop-keeps (b ∷ s) l = so-cond (eqb b 255) _ _ (record { is = (tt, record { eaten = b ∷ []; split = refl }) }) (record { is = (tt, at_once (b ∷ s)) })

  module _ {A : Type 0} {Q : A → Type 0} (m : Reader A) (hm : Keeps Q m) where
    times-keeps : (n : ℕ) → Keeps (Every Q) (times m n)
    unfolding times
    times-keeps zero = pure-keeps [] tt
    times-keeps (suc n) = bind-keeps m _ hm λ x q. bind-keeps (times m n) _ (times-keeps n) λ xs qs. pure-keeps (x ∷ xs) (q, qs)

    until-keeps : (f : ℕ) → Keeps (Every Q) (until_break m f)
    unfolding until_break
    until-keeps zero = λ s l. ended []
    until-keeps (suc f) =
        bind-keeps stop _ stop-keeps λ b u. cond-keeps b _ _ (pure-keeps [] tt)
        (bind-keeps m _ hm λ x q. bind-keeps (until_break m f) _ (until-keeps f) λ xs qs. pure-keeps (x ∷ xs) (q, qs))

    to_break-keeps : Keeps (Every Q) (to_break m)
    unfolding to_break
    to_break-keeps s = until-keeps (length s) s

  wide-keeps : (w : ℕ) (o : List ℕ) → Keeps Any (wide w)
  unfolding wide
  wide-keeps w o = bind-keeps (number w 0) _ (number-keeps w 0) λ n q. pure-keeps (known w n) tt

  argument-keeps : (o : List ℕ) (i : ℕ) → Keeps Any (argument o i)
  unfolding argument long_arguments
  argument-keeps o i =
      cond-keeps (ltb i 24) _ _ (pure-keeps (known 0 i) tt)
      (get_d-keeps long_arguments malformed
      (wide-keeps 1, (wide-keeps 2, (wide-keeps 4, (wide-keeps 8, (malformed-keeps, (malformed-keeps, (malformed-keeps, ((λ o. pure-keeps indefinite tt), tt))))))))
      malformed-keeps (i - 24) o)

  definite-keeps : (o : List ℕ) (a : Argument) → Keeps Any (definite o a)
  unfolding definite
  definite-keeps o (known w n) = run-keeps n
  definite-keeps o indefinite = malformed-keeps o

  chunk-keeps : (m : ℕ) → Keeps Any (chunk m)
  unfolding chunk here
  chunk-keeps m s =
      bind-keeps byte (λ h. cond (eqb (h / 32) m) (argument s (info_of h) >>= definite s) (malformed s)) byte-keeps
      (λ h u. cond-keeps (eqb (h / 32) m) _ _ (bind-keeps (argument s (info_of h)) _ (argument-keeps s (info_of h)) λ a v. definite-keeps s a) (malformed-keeps s)) s

  -- ---- the nodes

  module _ (L : Layout) where
    nodes-placed : (d : ℕ) (xs : List (Node Span)) → Every (Placed L file start d) xs → PlacedNodes L file start d (nodes xs)
    nodes-placed d [] h = tt
    nodes-placed d (x ∷ xs) h = (h.0, nodes-placed d xs h.1)

    pairs-placed : (d : ℕ) (ps : List (Pair Span)) → Every (PlacedPair L file start d) ps → PlacedPairs L file start d (pairs ps)
    pairs-placed d [] h = tt
    pairs-placed d (p ∷ ps) h = (h.0, pairs-placed d ps h.1)

  module _ (L : Layout) (whole : end + length back ≡ length file) (sized : L.size_back ≤ length back) where
    -- an item that has parts where d levels are left
    module _ (d : ℕ) (it : Reader (Node Span)) (hi : Keeps (Placed L file start d) it) where
      pair_keeps : Keeps (PlacedPair L file start d) (pair (span_to end) it)
      unfolding pair
      pair_keeps = bind-keeps it _ hi λ k q. bind-keeps it _ hi λ v p. pure-keeps (record { key = k; value = v }) (q, p)

      -- it began at o
      module _ (o : List ℕ) (l : Left file back start end o) where
        abbrev Ends : Outcome (Node Span) → Type 0
        Ends = So (λ (t : Node Span) (r : List ℕ). Within L file start (suc d) t × (note_of t ≡ span_to end o r) × Later o r)

        ending : (make : Span → Node Span) → ((p : Span) → Within L file start (suc d) (make p) × (note_of (make p) ≡ p)) → (s : List ℕ) → Later o s → Ends (close (span_to end) o make s)
        unfolding close
        ending make within s k = let w = within (span_to end o s) in record { is = (w.0, w.1, k) }

        -- a part of it is read, then it ends
        closing : {A : Type 0} {Q : A → Type 0} (m : Reader A) (make : A → Span → Node Span) → Keeps Q m
            → ((a : A) (p : Span) → Q a → Within L file start (suc d) (make a p) × (note_of (make a p) ≡ p))
            → (s : List ℕ) → Later o s → Ends ((m >>= λ a. close (span_to end) o (make a)) s)
        closing m make hm within s k =
            so-after (m s) _ (hm s (left-later file back start end l k)) λ a r h. ending (make a) (λ p. within a p h.0) r (later-on k h.1)

        spelling : (n : ℕ) (s : List ℕ) → Later o s → Ends ((run n >>= λ bs. close (span_to end) o (λ p. text p bs)) s)
        unfolding close
        spelling n s k =
            so-after (run n s) _ (run-gets n s) λ bs r e.
            record { is = (word_stands file back start end L whole sized bs r l k e, refl, later-on k (record { eaten = bs; split = e })) }

        unreserved : (b : Bool) (make : Span → Node Span) → ((p : Span) → Within L file start (suc d) (make p) × (note_of (make p) ≡ p))
            → (s : List ℕ) → Later o s → Ends (cond b (malformed o) (close (span_to end) o make) s)
        unreserved true make within s k = ended o
        unreserved false make within s k = ending make within s k

        simply : (b : Bool) (p : Span) (n w : ℕ) → Within L file start (suc d) (cond b (simple p n) (float p w n)) × (note_of (cond b (simple p n) (float p w n)) ≡ p)
        simply true p n w = (tt, refl)
        simply false p n w = (tt, refl)

        content-ends : (m : Major) (a : Argument) (s : List ℕ) → Later o s → Ends (content (span_to end) it o m a s)
        unfolding content
        content-ends unsigned (known w n) = ending (λ p. uint p n) λ p. (tt, refl)
        content-ends unsigned indefinite = λ s k. ended o
        content-ends negative (known w n) = ending (λ p. nint p n) λ p. (tt, refl)
        content-ends negative indefinite = λ s k. ended o
        content-ends byte_string (known w n) = closing (run n) (λ bs p. bytes p bs) (run-keeps n) λ bs p q. (tt, refl)
        content-ends byte_string indefinite = closing (to_break (chunk 2)) _ (to_break-keeps (chunk 2) (chunk-keeps 2)) λ cs p q. (tt, refl)
        content-ends text_string (known w n) = spelling n
        content-ends text_string indefinite = closing (to_break (chunk 3)) _ (to_break-keeps (chunk 3) (chunk-keeps 3)) λ cs p q. (tt, refl)
        content-ends array_of (known w n) = closing (times it n) _ (times-keeps it hi n) λ xs p q. (nodes-placed L d xs q, refl)
        content-ends array_of indefinite = closing (to_break it) _ (to_break-keeps it hi) λ xs p q. (nodes-placed L d xs q, refl)
        content-ends map_of (known w n) = closing (times (pair (span_to end) it) n) _ (times-keeps (pair (span_to end) it) pair_keeps n) λ xs p q. (pairs-placed L d xs q, refl)
        content-ends map_of indefinite = closing (to_break (pair (span_to end) it)) _ (to_break-keeps (pair (span_to end) it) pair_keeps) λ xs p q. (pairs-placed L d xs q, refl)
        content-ends tagged (known w n) = closing it (λ x p. tag p n x) hi λ x p q. (q, refl)
        content-ends tagged indefinite = λ s k. ended o
        content-ends special (known w n) = unreserved (reserved w n) (λ p. cond (leb w 1) (simple p n) (float p w n)) λ p. simply (leb w 1) p n w
        content-ends special indefinite = λ s k. ended o

    none_left : {Q : Node Span → Type 0} → Keeps Q (item (span_to end) zero)
    unfolding item beyond
    none_left [] l = ended []
    none_left (b ∷ s) l = record { is = by (eqb b 255) }
      where
        by : (t : Bool) → Between CBOR DEEP (cond t CBOR DEEP)
        by true = tt
        by false = tt

    item-ends : (d : ℕ) → Keeps (Placed L file start d) (item (span_to end) d) → (s : List ℕ) (l : Left file back start end s)
        → So (λ (t : Node Span) (r : List ℕ). Within L file start (suc d) t × (note_of t ≡ span_to end s r) × Later s r) (item (span_to end) (suc d) s)
    unfolding item here
    item-ends d hi s l =
        so-after (byte s) _ (byte-keeps s l) λ h r q.
        so-after (argument s (info_of h) r) _ (argument-keeps s (info_of h) r (left-later file back start end l q.1)) λ a z p.
        content-ends d (item (span_to end) d) hi s l (major_of h) a z (later-on q.1 p.1)

    item-keeps : (d : ℕ) → Keeps (Placed L file start d) (item (span_to end) d)
    item-keeps zero s l = none_left s l
    item-keeps (suc d) s l =
        so-with (item (span_to end) (suc d) s) (item-ends d (item-keeps d) s l) λ t r e h.
        ((node-stands file back start end L whole sized (suc d) t l h.2 h.1 e, h.0), h.2)

    closed-so : {Q : Node Span → Type 0} (t : Node Span) → Q t → (s : List ℕ) → So (λ (t : Node Span) (r : List ℕ). Q t) (closed t s)
    unfolding closed
    closed-so t q [] = record { is = q }
    closed-so t q (b ∷ s) = ended (b ∷ s)

    pub manifest-placed : (s : List ℕ) → Left file back start end s → So (λ (t : Node Span) (r : List ℕ). Placed L file start depth_limit t) (manifest (span_to end) s)
    unfolding manifest
    manifest-placed s l = so-after (item (span_to end) depth_limit s) _ (item-keeps depth_limit s l) λ t r h. closed-so t h.0 r
