-- Items that are still due: what an item passed, an item at fault, a break or the end of the bytes makes of them.
use Prim.Native.Nat.{ℕ, zero, suc, ◌+◌, ◌-◌, ◌%◌, ◌≤◌, ◌<◌}
use native.Mathlib.Omega.{arith}
use mathlib.Core.List.{List, [], ◌∷◌}
use mathlib.Core.Bool.{Bool, true, false, cond}
use mathlib.Core.Logic.{◌⊎◌, ⊎_elim}
use mathlib.Core.Path.{◌≡◌, refl, ap, sym, ◌∙◌}
use lib.ListN.{length, get_or, drop, length-drop}
use lib.Seq.{drop-drop}
use lib.Dec.{eqb}
use borrow.Author.Tests.{eq-eqb, ne_eqb, eqb-true, eqb-false}
use Rattle.meaning.specs.Tree.{Node, Pair}
use Rattle.meaning.specs.Read.{Outcome, got, refused, Reader, after, ◌>>=◌, pure, here, byte, argument, long_arguments, info_of, major_of, content, beyond, times, to_break, pair, item, no_note}
use Rattle.meaning.proofs.ReadPrefix.{still, Exact, bind-exact, pure-exact, times-exact, to_break-exact, pair-exact, pair-hungry, item-exact, item-hungry}
use Rattle.meaning.proofs.ReadTurns.{one_turn}
use Rattle.cbor.specs.Ending.{Ending, took, fault, ending, shift, item_end, rest, broken}
use Rattle.cbor.proofs.Ends.{Fine, fine-ending, shift-shift, got-what, ending-map, bind_stops, bind-goes-on, turn-begins, break-goes-on, break-stops, break-here, break-missing}

-- what no level more or less changes: no item begins with the break byte, or where no byte is left
pub never-break : (d : ℕ) (s : List ℕ) → 1 ≤ length s → get_or s 0 0 ≡ 255 → item_end d s ≡ fault 6
unfolding item beyond here byte argument info_of long_arguments content major_of
never-break d [] l e = absurd (omega arith)
never-break zero (b ∷ s) l e = rw e refl
never-break (suc d) (b ∷ s) l e = rw e refl

pub never-empty : (d : ℕ) (s : List ℕ) → length s ≡ 0 → item_end d s ≡ fault 6
unfolding item beyond here byte
never-empty zero [] e = refl
never-empty (suc d) [] e = refl
never-empty d (b ∷ s) e = absurd (omega arith)

pub never-deep : (s : List ℕ) → 1 ≤ length s → (get_or s 0 0 ≡ 255 → ⊥) → item_end 0 s ≡ fault 7
unfolding item beyond
never-deep [] l n = absurd (omega arith)
never-deep (b ∷ s) l n = rw (ne_eqb b 255 n) refl

module _ (d : ℕ) where
  exact : Exact (still (item no_note d))
  exact = item-exact d

  pub pairs-exact : Exact (still (to_break (pair no_note (item no_note d))))
  pairs-exact = to_break-exact (pair no_note (item no_note d)) (pair-exact (item no_note d) exact (item-hungry d)) (pair-hungry (item no_note d) exact (item-hungry d))

  pub items-exact : Exact (still (to_break (item no_note d)))
  items-exact = to_break-exact (item no_note d) exact (item-hungry d)

  -- a value, and then pairs up to the break
  abbrev after_key : Reader (List (Pair (Unit {0})))
  after_key = item no_note d >>= λ v. to_break (pair no_note (item no_note d))

  after_key-exact : Exact (still after_key)
  after_key-exact = bind-exact (still (item no_note d)) (λ o v. to_break (pair no_note (item no_note d))) exact (λ v. pairs-exact)

  -- a turn of pairs is a key, and then what is due after it
  pair_turn : (s : List ℕ) → ending s (one_turn (pair no_note (item no_note d)) s) ≡ ending s ((item no_note d >>= λ k. after_key) s)
  unfolding pair
  pair_turn s = go (item no_note d s)
    where
      go₂ : (k : Node (Unit {0})) (o : Outcome (Node (Unit {0})))
          → ending s (after (after o (λ v. pure (record { key = k; value = v }))) (λ x. to_break (pair no_note (item no_note d)) >>= λ xs. pure (x ∷ xs)))
          ≡ ending s (after o (λ v. to_break (pair no_note (item no_note d))))
      go₂ k (got v r) = ending-map s (to_break (pair no_note (item no_note d)) r) (λ xs q. record { key = k; value = v } ∷ xs)
      go₂ k (refused n q) = refl

      go : (o : Outcome (Node (Unit {0})))
          → ending s (after (after o (λ k. item no_note d >>= λ v. pure (record { key = k; value = v }))) (λ x. to_break (pair no_note (item no_note d)) >>= λ xs. pure (x ∷ xs)))
          ≡ ending s (after o (λ k. after_key))
      go (got k r) = go₂ k (item no_note d r)
      go (refused n q) = refl

  pairs-begin : (s : List ℕ) → 1 ≤ length s → (get_or s 0 0 ≡ 255 → ⊥) → ending s (to_break (pair no_note (item no_note d)) s) ≡ ending s ((item no_note d >>= λ k. after_key) s)
  pairs-begin s l n =
      ap (ending s) (turn-begins (pair no_note (item no_note d)) (pair-exact (item no_note d) exact (item-hungry d)) (pair-hungry (item no_note d) exact (item-hungry d)) pairs-exact s l n) ∙ pair_turn s

  -- ---------------------------------------------------------------- an item passed

  count-goes-on : (n : ℕ) (s : List ℕ) (k : ℕ) → item_end d s ≡ took k → ending s (times (item no_note d) (suc n) s) ≡ shift k (ending (drop k s) (times (item no_note d) n (drop k s)))
  unfolding times
  count-goes-on n s k e =
      bind-goes-on (item no_note d) (λ x. times (item no_note d) n >>= λ xs. pure (x ∷ xs)) exact
      (λ x. bind-exact (still (times (item no_note d) n)) (λ o xs. pure (x ∷ xs)) (times-exact (item no_note d) exact n) (λ xs. pure-exact (x ∷ xs)))
      s k _ e (λ x. ending-map (drop k s) (times (item no_note d) n (drop k s)) (λ xs r. x ∷ xs))

  pub rest-goes-on : (mode n : ℕ) (s : List ℕ) (k : ℕ) → 0 < n → 1 ≤ length s → (get_or s 0 0 ≡ 255 → ⊥) → item_end d s ≡ took k
      → rest mode n d s ≡ shift k (rest mode (n - 1) d (drop k s))
  unfolding rest
  rest-goes-on mode zero s k p l b e = absurd (omega arith)
  rest-goes-on zero (suc n) s k p l b e = let z : suc n - 1 ≡ n = omega arith in rw z (count-goes-on n s k e)
  rest-goes-on (suc zero) (suc n) s k p l b e = break-goes-on (item no_note d) exact (item-hungry d) items-exact s k l b e
  rest-goes-on (suc (suc m)) (suc n) s k p l b e = go (eqb (suc n % 2) 0) refl
    where
      z : suc n - 1 ≡ n
      z = omega arith

      go : (t : Bool) → eqb (suc n % 2) 0 ≡ t
          → cond t (ending s (after_key s)) (ending s (to_break (pair no_note (item no_note d)) s))
          ≡ shift k (cond (eqb ((suc n - 1) % 2) 0) (ending (drop k s) (after_key (drop k s))) (ending (drop k s) (to_break (pair no_note (item no_note d)) (drop k s))))
      go true h =
          let y : suc n % 2 ≡ 0 = eqb-true _ _ h in
          rw (z, ne_eqb (n % 2) 0 (λ q. omega arith)) (bind-goes-on (item no_note d) (λ v. to_break (pair no_note (item no_note d))) exact (λ v. pairs-exact) s k _ e (λ v. refl))
      go false h =
          let y : suc n % 2 ≡ 0 → ⊥ = eqb-false _ _ h in
          let w : n % 2 ≡ 0 = omega arith in
          rw (z, eq-eqb (n % 2) 0 w) (pairs-begin s l b ∙ bind-goes-on (item no_note d) (λ v. after_key) exact (λ v. after_key-exact) s k _ e (λ v. refl))

  -- ---------------------------------------------------------------- an item at fault

  pub rest-stops : (mode n : ℕ) (s : List ℕ) (c : ℕ) → 0 < n → 1 ≤ length s → (get_or s 0 0 ≡ 255 → ⊥) → item_end d s ≡ fault c → rest mode n d s ≡ fault c
  unfolding rest times
  rest-stops mode zero s c p l b e = absurd (omega arith)
  rest-stops zero (suc n) s c p l b e = bind_stops (item no_note d) (λ x. times (item no_note d) n >>= λ xs. pure (x ∷ xs)) exact s c e
  rest-stops (suc zero) (suc n) s c p l b e = break-stops (item no_note d) exact (item-hungry d) items-exact s c l b e
  rest-stops (suc (suc m)) (suc n) s c p l b e = go (eqb (suc n % 2) 0)
    where
      go : (t : Bool) → cond t (ending s (after_key s)) (ending s (to_break (pair no_note (item no_note d)) s)) ≡ fault c
      go true = bind_stops (item no_note d) (λ v. to_break (pair no_note (item no_note d))) exact s c e
      go false = pairs-begin s l b ∙ bind_stops (item no_note d) (λ v. after_key) exact s c e

  -- ---------------------------------------------------------------- a break, or no byte

  pub rest-breaks : (mode n : ℕ) (s : List ℕ) → 0 < n → 1 ≤ length s → get_or s 0 0 ≡ 255 → rest mode n d s ≡ broken mode n
  unfolding rest times broken
  rest-breaks mode zero s p l e = absurd (omega arith)
  rest-breaks zero (suc n) s p l e = bind_stops (item no_note d) (λ x. times (item no_note d) n >>= λ xs. pure (x ∷ xs)) exact s 6 (never-break d s l e)
  rest-breaks (suc zero) (suc n) s p l e = break-here (item no_note d) exact (item-hungry d) items-exact s l e
  rest-breaks (suc (suc m)) (suc n) s p l e =
      rw (
        bind_stops (item no_note d) (λ v. to_break (pair no_note (item no_note d))) exact s 6 (never-break d s l e),
        break-here (pair no_note (item no_note d)) (pair-exact (item no_note d) exact (item-hungry d)) (pair-hungry (item no_note d) exact (item-hungry d)) pairs-exact s l e,
      )

  pub rest-ends-early : (mode n : ℕ) (s : List ℕ) → 0 < n → length s ≡ 0 → rest mode n d s ≡ fault 6
  unfolding rest times
  rest-ends-early mode zero s p e = absurd (omega arith)
  rest-ends-early zero (suc n) s p e = bind_stops (item no_note d) (λ x. times (item no_note d) n >>= λ xs. pure (x ∷ xs)) exact s 6 (never-empty d s e)
  rest-ends-early (suc zero) (suc n) s p e = break-missing (item no_note d) exact (item-hungry d) items-exact s e
  rest-ends-early (suc (suc m)) (suc n) s p e =
      rw (
        bind_stops (item no_note d) (λ v. to_break (pair no_note (item no_note d))) exact s 6 (never-empty d s e),
        break-missing (pair no_note (item no_note d)) (pair-exact (item no_note d) exact (item-hungry d)) (pair-hungry (item no_note d) exact (item-hungry d)) pairs-exact s e,
      )
      (either (eqb (suc n % 2) 0))
    where
      either : (t : Bool) → cond t (fault 6) (fault 6) ≡ fault 6
      either true = refl
      either false = refl

  pub none-due : (s : List ℕ) → rest 0 0 d s ≡ took 0
  unfolding rest times
  none-due s = ap took (omega arith)

  pub rest-fine : (mode n : ℕ) (s : List ℕ) → Fine s (rest mode n d s)
  unfolding rest
  rest-fine zero n s = fine-ending s (times (item no_note d) n s)
  rest-fine (suc zero) n s = fine-ending s (to_break (item no_note d) s)
  rest-fine (suc (suc m)) n s = go (eqb (n % 2) 0)
    where
      go : (t : Bool) → Fine s (cond t (ending s (after_key s)) (ending s (to_break (pair no_note (item no_note d)) s)))
      go true = fine-ending s (after_key s)
      go false = fine-ending s (to_break (pair no_note (item no_note d)) s)

  -- ---------------------------------------------------------------- counts

  pub one-due : (s : List ℕ) → rest 0 1 d s ≡ item_end d s
  unfolding rest times
  one-due s = ending-map s (item no_note d s) (λ x r. x ∷ [])

  -- counts above the number of bytes are never met, and end alike
  pub never_met : (n m : ℕ) (s : List ℕ) → length s < n → length s < m → rest 0 n d s ≡ rest 0 m d s
  unfolding rest times
  never_met zero m s l k = absurd (omega arith)
  never_met (suc n) zero s l k = absurd (omega arith)
  never_met (suc n) (suc m) s l k = go (item_end d s) refl (λ r. never_met n m r)
    where
      hungry : (j : ℕ) → item_end d s ≡ took j → length (drop j s) < length s
      hungry j e = let p = got-what (item no_note d) exact s j e in item-hungry d [] s p.value (drop j s) p.is

      go : (e : Ending) → item_end d s ≡ e → ((r : List ℕ) → length r < n → length r < m → rest 0 n d r ≡ rest 0 m d r) → rest 0 (suc n) d s ≡ rest 0 (suc m) d s
      go (took j) e ih = let h = hungry j e in count-goes-on n s j e ∙ ap (shift j) (ih (drop j s) (omega arith) (omega arith)) ∙ sym (count-goes-on m s j e)
      go (fault c) e ih =
          bind_stops (item no_note d) (λ x. times (item no_note d) n >>= λ xs. pure (x ∷ xs)) exact s c e
          ∙ sym (bind_stops (item no_note d) (λ x. times (item no_note d) m >>= λ xs. pure (x ∷ xs)) exact s c e)

  -- a pair is two items
  pair_end : (s : List ℕ) (k : ℕ) → item_end d s ≡ took k → ending s (pair no_note (item no_note d) s) ≡ shift k (item_end d (drop k s))
  unfolding pair
  pair_end s k e =
      bind-goes-on (item no_note d) (λ x. item no_note d >>= λ v. pure (record { key = x; value = v })) exact
      (λ x. bind-exact (still (item no_note d)) (λ o v. pure (record { key = x; value = v })) exact (λ v. pure-exact (record { key = x; value = v })))
      s k _ e (λ x. ending-map (drop k s) (item no_note d (drop k s)) (λ v r. record { key = x; value = v }))

  pair-stops : (s : List ℕ) (c : ℕ) → item_end d s ≡ fault c → ending s (pair no_note (item no_note d) s) ≡ fault c
  unfolding pair
  pair-stops s c e = bind_stops (item no_note d) (λ x. item no_note d >>= λ v. pure (record { key = x; value = v })) exact s c e

  abbrev paired : ℕ → List ℕ → Ending
  paired n s = ending s (times (pair no_note (item no_note d)) n s)

  abbrev exact-pair : Exact (still (pair no_note (item no_note d)))
  exact-pair = pair-exact (item no_note d) exact (item-hungry d)

  pairs-go-on : (n : ℕ) (s : List ℕ) (k : ℕ) → ending s (pair no_note (item no_note d) s) ≡ took k → paired (suc n) s ≡ shift k (paired n (drop k s))
  unfolding times
  pairs-go-on n s k e =
      bind-goes-on (pair no_note (item no_note d)) (λ x. times (pair no_note (item no_note d)) n >>= λ xs. pure (x ∷ xs)) exact-pair
      (λ x. bind-exact (still (times (pair no_note (item no_note d)) n)) (λ o xs. pure (x ∷ xs)) (times-exact (pair no_note (item no_note d)) exact-pair n) (λ xs. pure-exact (x ∷ xs)))
      s k _ e (λ x. ending-map (drop k s) (times (pair no_note (item no_note d)) n (drop k s)) (λ xs r. x ∷ xs))

  pairs-stop : (n : ℕ) (s : List ℕ) (c : ℕ) → ending s (pair no_note (item no_note d) s) ≡ fault c → paired (suc n) s ≡ fault c
  unfolding times
  pairs-stop n s c e = bind_stops (pair no_note (item no_note d)) (λ x. times (pair no_note (item no_note d)) n >>= λ xs. pure (x ∷ xs)) exact-pair s c e

  items-stop : (n : ℕ) (s : List ℕ) (c : ℕ) → item_end d s ≡ fault c → rest 0 (suc n) d s ≡ fault c
  unfolding rest times
  items-stop n s c e = bind_stops (item no_note d) (λ x. times (item no_note d) n >>= λ xs. pure (x ∷ xs)) exact s c e

  items-go-on : (n : ℕ) (s : List ℕ) (k : ℕ) → item_end d s ≡ took k → rest 0 (suc n) d s ≡ shift k (rest 0 n d (drop k s))
  unfolding rest
  items-go-on n s k e = count-goes-on n s k e

  pub pairs-are-items : (n : ℕ) (s : List ℕ) → paired n s ≡ rest 0 (n + n) d s
  unfolding rest times
  pairs-are-items zero s = refl
  pairs-are-items (suc n) s = let z : suc n + suc n ≡ suc (suc (n + n)) = omega arith in rw z (go (item_end d s) refl (λ r. pairs-are-items n r))
    where
      go₂ : (k : ℕ) → item_end d s ≡ took k → (e : Ending) → item_end d (drop k s) ≡ e → ((r : List ℕ) → paired n r ≡ rest 0 (n + n) d r) → paired (suc n) s ≡ rest 0 (suc (suc (n + n))) d s
      go₂ k h (took j) e ih =
          pairs-go-on n s (k + j) (pair_end s k h ∙ ap (shift k) e) ∙ ap (shift (k + j)) (ih (drop (k + j) s))
          ∙ sym (items-go-on (suc (n + n)) s k h ∙ ap (shift k) (items-go-on (n + n) (drop k s) j e ∙ ap (λ r. shift j (rest 0 (n + n) d r)) (drop-drop j k s)) ∙ shift-shift k j (rest 0 (n + n) d (drop (k + j) s)))
      go₂ k h (fault c) e ih = pairs-stop n s c (pair_end s k h ∙ ap (shift k) e) ∙ sym (items-go-on (suc (n + n)) s k h ∙ ap (shift k) (items-stop (n + n) (drop k s) c e))

      go : (e : Ending) → item_end d s ≡ e → ((r : List ℕ) → paired n r ≡ rest 0 (n + n) d r) → paired (suc n) s ≡ rest 0 (suc (suc (n + n))) d s
      go (took k) e ih = go₂ k e (item_end d (drop k s)) refl ih
      go (fault c) e ih = pairs-stop n s c (pair-stops s c e) ∙ sym (items-stop (suc (n + n)) s c e)

  -- ---------------------------------------------------------------- after a key, where a break is a fault like any other

  abbrev ValueDue : ℕ → ℕ → Type 0
  ValueDue mode n = (mode ≡ 0) ⊎ ((2 ≤ mode) × (n % 2 ≡ 0))

  pub value-stops : (mode n : ℕ) (s : List ℕ) (c : ℕ) → 0 < n → ValueDue mode n → item_end d s ≡ fault c → rest mode n d s ≡ fault c
  unfolding rest
  value-stops mode zero s c p v e = absurd (omega arith)
  value-stops zero (suc n) s c p v e = items-stop n s c e
  value-stops (suc zero) (suc n) s c p v e = absurd (⊎_elim (λ h. omega arith) (λ h. let y = h.0 in omega arith) v)
  value-stops (suc (suc m)) (suc n) s c p v e =
      rw (eq-eqb (suc n % 2) 0 (⊎_elim (λ h. absurd (omega arith)) (λ h. h.1) v)) (bind_stops (item no_note d) (λ v. to_break (pair no_note (item no_note d))) exact s c e)

  pub value-goes-on : (mode n : ℕ) (s : List ℕ) (k : ℕ) → 0 < n → ValueDue mode n → item_end d s ≡ took k → rest mode n d s ≡ shift k (rest mode (n - 1) d (drop k s))
  unfolding rest
  value-goes-on mode zero s k p v e = absurd (omega arith)
  value-goes-on zero (suc n) s k p v e = let z : suc n - 1 ≡ n = omega arith in rw z (count-goes-on n s k e)
  value-goes-on (suc zero) (suc n) s k p v e = absurd (⊎_elim (λ h. omega arith) (λ h. let y = h.0 in omega arith) v)
  value-goes-on (suc (suc m)) (suc n) s k p v e =
      let z : suc n - 1 ≡ n = omega arith in
      let y : suc n % 2 ≡ 0 = ⊎_elim (λ h. absurd (omega arith)) (λ h. h.1) v in
      rw (z, eq-eqb (suc n % 2) 0 y, ne_eqb (n % 2) 0 (λ q. omega arith)) (bind-goes-on (item no_note d) (λ v. to_break (pair no_note (item no_note d))) exact (λ v. pairs-exact) s k _ e (λ v. refl))

  pub takes-a-byte : (s : List ℕ) (k : ℕ) → item_end d s ≡ took k → 1 ≤ k
  takes-a-byte s k e =
      let p = got-what (item no_note d) exact s k e in
      omega (arith, item-hungry d [] s p.value (drop k s) p.is, length-drop k s)
