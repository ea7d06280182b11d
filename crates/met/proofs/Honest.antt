-- Every item of a tree that was read in some bytes stands there: it begins at a tail of them, and is passed over to where it ends.
use Prim.Native.Nat.{ℕ, zero, suc, ◌≤◌}
use native.Mathlib.Omega.{arith}
use mathlib.Core.List.{List, [], ◌∷◌, ◌++◌, map, append_assoc}
use mathlib.Core.Bool.{Bool, true, false, cond}
use mathlib.Core.Option.{Option, none, some}
use mathlib.Core.Path.{◌≡◌, refl, ap, sym, ◌∙◌, subst}
use lib.Dec.{eqb, leb}
use lib.ListN.{length}
use Rattle.meaning.specs.Tree.{Node, Pair, uint, nint, bytes, text, chunked_bytes, chunked_text, array, dict, tag, simple, float, map_p, nodes, pairs, nothing}
use Rattle.meaning.specs.Notes.{map_pair, map_option}
use Rattle.meaning.specs.Refusal.{CBOR}
use Rattle.meaning.specs.Limit.{depth_limit}
use Rattle.meaning.specs.Layouts.{Layout}
use Rattle.meaning.specs.Read.{Outcome, got, refused, Reader, after, ◌>>=◌, pure, here, byte, run, stop, times, until_break, to_break}
use Rattle.meaning.specs.Read.{Argument, known, indefinite, argument, major_of, info_of, chunk, reserved, joined, close, pair, content, item, no_note}
use Rattle.meaning.specs.Read.{Major, unsigned, negative, byte_string, text_string, array_of, map_of, tagged, special}
use Rattle.meaning.proofs.ReadNatural.{map_out, item-follows, nodes-map, pairs-map}
use Rattle.meaning.proofs.ReadPrefix.{still, Exact, alike, never-got, never-beyond, byte-exact, argument-exact, run-exact, chunk-exact, chunk-hungry, to_break-exact}
use Rattle.walk.specs.Reading.{Ends, ends, Reads}
use Rattle.explained.specs.Step.{Step, first}
use Rattle.explained.specs.Notes.{map_step}
use Rattle.explained.specs.Order.{manifest_steps}
use Rattle.explained.proofs.Natural.{first-steps-map}
use Rattle.met.specs.Met.{Tail, Passed, Met, met, StandsIn}
use Rattle.met.proofs.Deeper.{deeper}

-- in the bytes m
module _ (m : List ℕ) where
  -- what was read comes from something that stands in m, and so do the bytes left
  record Lift {A B : Type 0} (g : B → A) (a : A) (r : List ℕ) : Type 0 where
    pub it : B
    pub is : g it ≡ a
    pub tail : Tail m r

  abbrev Lifts : {A B : Type 0} → (B → A) → Reader A → Type 0
  Lifts {A} g read = (s : List ℕ) (a : A) (r : List ℕ) → Tail m s → read s ≡ got a r → Lift g a r

  further : {s : List ℕ} (c r : List ℕ) → s ≡ c ++ r → Tail m s → Tail m r
  further c r e t = record { front = t.front ++ c; split = t.split ∙ ap (λ z. t.front ++ z) e ∙ sym (append_assoc t.front c r) }

  -- a reader that takes a prefix and annotates nothing
  exact-lifts : {A : Type 0} (read : List ℕ → Reader A) → Exact read → (o : List ℕ) → Lifts (λ a. a) (read o)
  exact-lifts read h o s a r t e = let w = h o s a r e in record { it = a; is = refl; tail = further w.eaten r w.split t }

  pure-lifts : {A B : Type 0} (g : B → A) (b : B) → Lifts g (pure (g b))
  pure-lifts g b s a r t e = let k = alike e in record { it = b; is = k.value; tail = subst (Tail m) k.rest t }

  module _ {A A' B B' : Type 0} (g : A' → A) (h : B' → B) where
    bind-lifts : (read : Reader A) (k : A → Reader B) → Lifts g read → ((x : A') → Lifts h (k (g x))) → Lifts h (read >>= k)
    bind-lifts read k hr hk s b r t = go (read s) refl
      where
        go : (q : Outcome A) → read s ≡ q → after q k ≡ got b r → Lift h b r
        go (got a s') e z = let l = hr s a s' t e in hk l.it s' b r l.tail (ap (λ x. k x s') l.is ∙ z)
        go (refused n q) e z = absurd (never-got z)

  stop-lifts : Lifts (λ b. b) stop
  unfolding stop
  stop-lifts [] a r t = λ e. absurd (never-got e)
  stop-lifts (b ∷ s) a r t = go (eqb b 255)
    where
      go : (x : Bool) → cond x (got true s) (got false (b ∷ s)) ≡ got a r → Lift (λ b. b) a r
      go true e = let k = alike e in record { it = a; is = refl; tail = subst (Tail m) k.rest (further (b ∷ []) s refl t) }
      go false e = let k = alike e in record { it = a; is = refl; tail = subst (Tail m) k.rest t }

  module _ {A A' : Type 0} (g : A' → A) (read : Reader A) (hr : Lifts g read) where
    times-lifts : (n : ℕ) → Lifts (map g) (times read n)
    unfolding times
    times-lifts zero = pure-lifts (map g) []
    times-lifts (suc n) = bind-lifts g (map g) read _ hr λ x. bind-lifts (map g) (map g) (times read n) _ (times-lifts n) λ xs. pure-lifts (map g) (x ∷ xs)

    cond-lifts : (b : Bool) (u v : Reader (List A)) → Lifts (map g) u → Lifts (map g) v → Lifts (map g) (cond b u v)
    cond-lifts true u v hu hv = hu
    cond-lifts false u v hu hv = hv

    until-lifts : (f : ℕ) → Lifts (map g) (until_break read f)
    unfolding until_break
    until-lifts zero = λ s a r t e. absurd (never-got e)
    until-lifts (suc f) = bind-lifts (λ b. b) (map g) stop _ stop-lifts λ b. cond-lifts b (pure []) _ (pure-lifts (map g) [])
        (bind-lifts g (map g) read _ hr λ x. bind-lifts (map g) (map g) (until_break read f) _ (until-lifts f) λ xs. pure-lifts (map g) (x ∷ xs))

    to_break-lifts : Lifts (map g) (to_break read)
    unfolding to_break
    to_break-lifts s = until-lifts (length s) s

  -- an item that begins at `start`
  module _ (it : Reader (Node Ends)) (hi : Lifts (map_p (met m)) it) (start : List ℕ) (begins : Tail m start) where
    pair-lifts : Lifts (map_pair (met m)) (pair ends it)
    unfolding pair
    pair-lifts = bind-lifts (map_p (met m)) (map_pair (met m)) it _ hi λ k. bind-lifts (map_p (met m)) (map_pair (met m)) it _ hi λ v. pure-lifts (map_pair (met m)) (record { key = k; value = v })

    abbrev Closes : Reader (Node Ends) → Type 0
    Closes read = (s : List ℕ) (t : Node Ends) (r : List ℕ) → Tail m s → Passed start r → read s ≡ got t r → Lift (map_p (met m)) t r

    close-closes : (make : Ends → Node Ends) (make' : Met m → Node (Met m)) → ((p : Met m) → map_p (met m) (make' p) ≡ make p.at) → Closes (close ends start make)
    unfolding close
    close-closes make make' h s t r l p e =
        let k = alike e in
        let w : Met m = record { at = ends start r; tail = begins; passed = p } in
        record { it = make' w; is = h w ∙ ap (λ (q : List ℕ). make (ends start q)) (sym k.rest) ∙ k.value; tail = subst (Tail m) k.rest l }

    -- a first part, then the end of the item
    ends_close : {A A' : Type 0} (g : A' → A) (read : Reader A) (make : A → Ends → Node Ends) (make' : A' → Met m → Node (Met m)) → Lifts g read
        → ((x : A') (p : Met m) → map_p (met m) (make' x p) ≡ make (g x) p.at) → Closes (read >>= λ a. close ends start (make a))
    ends_close {A} {A'} g read make make' hr h s t r l p = go (read s) refl
      where
        go : (q : Outcome A) → read s ≡ q → after q (λ a. close ends start (make a)) ≡ got t r → Lift (map_p (met m)) t r
        go (got a s') e z =
            let x = hr s a s' l e in
            close-closes (make (g x.it)) (make' x.it) (h x.it) s' t r x.tail p (ap (λ b. close ends start (make b) s') x.is ∙ z)
        go (refused n q) e z = absurd (never-got z)

    cond-node : (b : Bool) (p : Met m) (n i : ℕ) → map_p (met m) (cond b (simple p n) (float p i n)) ≡ cond b (simple p.at n) (float p.at i n)
    cond-node true p n i = refl
    cond-node false p n i = refl

    special-closes : (b : Bool) (w n : ℕ) (s : List ℕ) (t : Node Ends) (r : List ℕ) → Tail m s → Passed start r
        → cond {A = Reader (Node Ends)} b (λ q. refused CBOR start) (close ends start (λ p. cond (leb w 1) (simple p n) (float p w n))) s ≡ got t r → Lift (map_p (met m)) t r
    special-closes true w n s t r l p e = absurd (never-got e)
    special-closes false w n s t r l p e =
        close-closes (λ p. cond (leb w 1) (simple p n) (float p w n)) (λ p. cond (leb w 1) (simple p n) (float p w n)) (λ p. cond-node (leb w 1) p n w) s t r l p e

    strings : (k : ℕ) → Lifts (λ a. a) (to_break (chunk k))
    strings k = exact-lifts (still (to_break (chunk k))) (to_break-exact (chunk k) (chunk-exact k) (chunk-hungry k)) []

    arrays : (xs : List (Node (Met m))) (p : Met m) → map_p (met m) (array p (nodes xs)) ≡ array p.at (nodes (map (map_p (met m)) xs))
    arrays xs p = ap (array p.at) (sym (nodes-map (met m) xs))

    dicts : (xs : List (Pair (Met m))) (p : Met m) → map_p (met m) (dict p (pairs xs)) ≡ dict p.at (pairs (map (map_pair (met m)) xs))
    dicts xs p = ap (dict p.at) (sym (pairs-map (met m) xs))

    content-closes : (h : Major) (a : Argument) → Closes (content ends it start h a)
    unfolding content
    content-closes unsigned (known w n) = close-closes (λ p. uint p n) (λ p. uint p n) (λ p. refl)
    content-closes unsigned indefinite = λ s t r l p e. absurd (never-got e)
    content-closes negative (known w n) = close-closes (λ p. nint p n) (λ p. nint p n) (λ p. refl)
    content-closes negative indefinite = λ s t r l p e. absurd (never-got e)
    content-closes byte_string (known w n) =
        ends_close (λ a. a) (run n) (λ bs p. bytes p bs) (λ bs p. bytes p bs) (exact-lifts (still (run n)) (run-exact n) []) (λ x p. refl)
    content-closes byte_string indefinite =
        ends_close (λ a. a) (to_break (chunk 2)) (λ cs p. chunked_bytes p (joined cs)) (λ cs p. chunked_bytes p (joined cs)) (strings 2) (λ x p. refl)
    content-closes text_string (known w n) =
        ends_close (λ a. a) (run n) (λ bs p. text p bs) (λ bs p. text p bs) (exact-lifts (still (run n)) (run-exact n) []) (λ x p. refl)
    content-closes text_string indefinite =
        ends_close (λ a. a) (to_break (chunk 3)) (λ cs p. chunked_text p (joined cs)) (λ cs p. chunked_text p (joined cs)) (strings 3) (λ x p. refl)
    content-closes array_of (known w n) =
        ends_close (map (map_p (met m))) (times it n) (λ xs p. array p (nodes xs)) (λ xs p. array p (nodes xs)) (times-lifts (map_p (met m)) it hi n) arrays
    content-closes array_of indefinite =
        ends_close (map (map_p (met m))) (to_break it) (λ xs p. array p (nodes xs)) (λ xs p. array p (nodes xs)) (to_break-lifts (map_p (met m)) it hi) arrays
    content-closes map_of (known w n) =
        ends_close (map (map_pair (met m))) (times (pair ends it) n) (λ xs p. dict p (pairs xs)) (λ xs p. dict p (pairs xs)) (times-lifts (map_pair (met m)) (pair ends it) pair-lifts n) dicts
    content-closes map_of indefinite =
        ends_close (map (map_pair (met m))) (to_break (pair ends it)) (λ xs p. dict p (pairs xs)) (λ xs p. dict p (pairs xs)) (to_break-lifts (map_pair (met m)) (pair ends it) pair-lifts) dicts
    content-closes tagged (known w n) = ends_close (map_p (met m)) it (λ x p. tag p n x) (λ x p. tag p n x) hi (λ x p. refl)
    content-closes tagged indefinite = λ s t r l p e. absurd (never-got e)
    content-closes special (known w n) = special-closes (reserved w n) w n
    content-closes special indefinite = λ s t r l p e. absurd (never-got e)

  passed-from : (d : ℕ) → d ≤ depth_limit → (s : List ℕ) (t : Node Ends) (r : List ℕ) → Reads d s t r → Passed s r
  unfolding no_note
  passed-from d l s t r e = record { tree = map_p nothing t; is = deeper d depth_limit l s (map_p nothing t) r (item-follows nothing ends d s ∙ ap (map_out (map_p nothing)) e) }

  item-lifts : (d : ℕ) → d ≤ depth_limit → Lifts (map_p (met m)) (item ends d)
  unfolding item here
  item-lifts zero l s t r k e = absurd (never-beyond s t r e)
  item-lifts (suc d) l s t r k e = go (byte s) refl e (item-lifts d (omega arith))
    where
      go₂ : (h : ℕ) (s' : List ℕ) → Tail m s' → (q : Outcome Argument) → argument s (info_of h) s' ≡ q → after q (content ends (item ends d) s (major_of h)) ≡ got t r
          → Lifts (map_p (met m)) (item ends d) → Lift (map_p (met m)) t r
      go₂ h s' u (got a s'') f z ih =
          let x = exact-lifts (λ o. argument o (info_of h)) (argument-exact (info_of h)) s s' a s'' u f in
          content-closes (item ends d) ih s k (major_of h) a s'' t r x.tail (passed-from (suc d) l s t r e) z
      go₂ h s' u (refused n q) f z ih = absurd (never-got z)

      go : (q : Outcome ℕ) → byte s ≡ q → after q (λ h. argument s (info_of h) >>= content ends (item ends d) s (major_of h)) ≡ got t r
          → Lifts (map_p (met m)) (item ends d) → Lift (map_p (met m)) t r
      go (got h s') f z ih = let x = exact-lifts (still byte) byte-exact [] s h s' k f in go₂ h s' x.tail (argument s (info_of h) s') refl z ih
      go (refused n q) f z ih = absurd (never-got z)

  -- a check of the tree is one of a tree whose items all stand in m
  pub first-stands : (L : Layout) (start : ℕ) (t : Node Ends) (r : List ℕ) → Reads depth_limit m t r → (s : Step Ends) → first (manifest_steps L start t) ≡ some s → StandsIn m s
  first-stands L start t r e s h =
      let l = item-lifts depth_limit (omega arith) m t r (record { front = []; split = refl }) e in
      go (first (manifest_steps L start l.it)) (sym (first-steps-map (met m) L start l.it) ∙ ap (λ u. first (manifest_steps L start u)) l.is ∙ h)
    where
      go : (o : Option (Step (Met m))) → map_option (map_step (met m)) o ≡ some s → StandsIn m s
      go none e = absurd (let z : ◌≡◌ {A = ℕ} 0 1 = cc in omega arith)
      go (some u) e = record { it = u; is = cc }
