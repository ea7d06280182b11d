-- A loop over a map's entries: what was passed up to `at`, what is still due, and a state that is a fold over the pairs. One invariant for every map walker.
use Prim.Native.Nat.{ℕ, zero, suc, ◌+◌, ◌-◌, ◌%◌, ◌≤◌, ◌<◌}
use native.Mathlib.Omega.{arith}
use mathlib.Core.List.{List, [], ◌∷◌}
use mathlib.Core.Logic.{◌⊎◌, inl, inr, ⊎_elim}
use mathlib.Core.Path.{◌≡◌, refl, ap, sym, ◌∙◌, subst}
use lib.ListN.{length, get_or, drop, length-drop}
use lib.Seq.{drop-drop}
use Rattle.meaning.specs.Tree.{Node, Pair}
use Rattle.cbor.specs.Ending.{took, fault, FAULT, code, shift, item_end, rest, broken, endless}
use Rattle.meaning.specs.Read.{item, no_note}
use Rattle.cbor.proofs.Rest as due
use Rattle.cbor.proofs.Ends.{Faulty, fine-ending, shift-shift, shift_zero, is-took, is-fault}
use Rattle.walk.specs.Reading.{Ends, Reads, Chain, Due, foldl}
use Rattle.walk.specs.Places.{EntryIs, Modes}
use Rattle.walk.specs.declared.Entry.TheVariants.{End, Value}
use Rattle.endian.proofs.Which.{eq-or}
use Rattle.walk.proofs.Chains.{ate}

-- where no key is read, no pair stands
no_key : (d c : ℕ) (s : List ℕ) (ps : List (Pair Ends)) (r : List ℕ) → item_end d s ≡ fault c → Chain d s ps r → ps ≡ []
no_key d c s [] r e h = refl
no_key d c s (p ∷ ps) r e h =
    let k = ate d s p.key h.0 h.2 in
    let z : took k.size ≡ fault c = sym k.ends_so ∙ e in
    absurd (let y : ◌≡◌ {A = ℕ} 0 1 = cc in omega arith)

no_pairs : (ps : List (Pair Ends)) → 0 ≡ length ps + length ps → ps ≡ []
no_pairs [] e = refl
no_pairs (p ∷ ps) e = absurd (omega arith)

-- ---------------------------------------------------------------- one turn, as `past_key` answers it

pub end_none : (d mode n : ℕ) (s : List ℕ) → (1 ≤ mode → 0 < n) → n ≡ 0 → EntryIs d mode n s (End 0)
end_none d zero n s c e = (rw e (ap code (sym (due.none-due d s))), λ ps r h. no_pairs ps (sym e ∙ h.counted refl))
end_none d (suc m) n s c e = absurd (let z = c (omega arith) in omega arith)

pub end-missing : (d mode n : ℕ) (s : List ℕ) → 0 < n → length s ≡ 0 → EntryIs d mode n s (End (FAULT + 6))
end-missing d mode n s l e = (ap code (sym (due.rest-ends-early d mode n s l e)), λ ps r h. no_key d 6 s ps r (due.never-empty d s e) h.chain)

pub end-breaks : (d mode n : ℕ) (s : List ℕ) (r : ℕ) → 0 < n → 1 ≤ length s → get_or s 0 0 ≡ 255 → r ≡ code (shift 0 (broken mode n)) → EntryIs d mode n s (End r)
end-breaks d mode n s r l k e h =
    (h ∙ ap code (shift_zero (broken mode n) ∙ sym (due.rest-breaks d mode n s l k e)), λ ps q x. no_key d 6 s ps q (due.never-break d s k e) x.chain)

module _ (d mode n : ℕ) (s : List ℕ) (room : length s < FAULT) (some : 0 < n) (here : 1 ≤ length s) (no : get_or s 0 0 ≡ 255 → ⊥) (r : ℕ) (is : r ≡ code (item_end d s)) where
  pub end-faulty : length s < r → EntryIs d mode n s (End r)
  end-faulty l =
      let f = is-fault s room r (item_end d s) (fine-ending s (item no_note d s)) is l in
      (f.coded ∙ ap code (sym (due.rest-stops d mode n s f.number some here no f.is)), λ ps q x. no_key d f.number s ps q f.is x.chain)

  pub a-value : r ≤ length s → EntryIs d mode n s (Value r)
  a-value l = (some, here, no, is-took s room r (item_end d s) (fine-ending s (item no_note d s)) is l, l)

-- ---------------------------------------------------------------- the invariant

-- pairs that are left, and what the whole fold comes to
pub record Left {S : Type 0} (f : S → Pair Ends → S) (d mode n : ℕ) (s : List ℕ) (st goal : S) (r : List ℕ) : Type 0 where
  pub pairs : List (Pair Ends)
  pub due : Due d mode n s pairs r
  pub same : foldl f st pairs ≡ goal

pub record Walking {S : Type 0} (f : S → Pair Ends → S) (d mode count : ℕ) (s : List ℕ) (z : S) (at n : ℕ) (st : S) : Type 0 where
  pub within : at ≤ length s
  pub parity : n % 2 ≡ count % 2
  pub endless-still : 1 ≤ mode → endless ≤ n + at
  pub passed : rest mode count d s ≡ shift at (rest mode n d (drop at s))
  pub trees : (ps : List (Pair Ends)) (r : List ℕ) → Due d mode count s ps r → Left f d mode n (drop at s) st (foldl f z ps) r

module _ {S : Type 0} (f : S → Pair Ends → S) (d mode count : ℕ) (s : List ℕ) (z : S) where
  pub walk-starts : (1 ≤ mode → count ≡ endless) → Walking f d mode count s z 0 count z
  walk-starts c = record {
    within = omega arith;
    parity = refl;
    endless-still = λ h. let y = c h in omega arith;
    passed = sym (shift_zero (rest mode count d s));
    trees = λ ps r h. record { pairs = ps; due = h; same = refl };
  }

  module _ (room : length s < FAULT) (at n : ℕ) (st : S) (w : Walking f d mode count s z at n st) where
    short : length (drop at s) < FAULT
    short = omega (arith, length-drop at s)

    -- the entries end here
    module _ (e : ℕ) (h : EntryIs d mode n (drop at s) (End e)) where
      pub walk_ends : (ps : List (Pair Ends)) (r : List ℕ) → Due d mode count s ps r → st ≡ foldl f z ps
      walk_ends ps r x = let l = w.trees ps r x in ap (foldl f st) (sym (h.1 l.pairs r l.due)) ∙ l.same

      pub end-within : e ≤ length s - at → at + e ≡ code (rest mode count d s)
      end-within k =
          let y = is-took (drop at s) short e (rest mode n d (drop at s)) (due.rest-fine d mode n (drop at s)) h.0 (omega (arith, length-drop at s)) in
          ap code (sym (w.passed ∙ ap (shift at) y))

      pub end-fault : length s - at < e → e ≡ code (rest mode count d s)
      end-fault k =
          let y = is-fault (drop at s) short e (rest mode n d (drop at s)) (due.rest-fine d mode n (drop at s)) h.0 (omega (arith, length-drop at s)) in
          y.coded ∙ ap code (sym (w.passed ∙ ap (shift at) y.is))

    -- a value stands k bytes further on
    module _ (k : ℕ) (h : EntryIs d mode n (drop at s) (Value k)) where
      pub value-within : at + k ≤ length s
      value-within = let y = h.4 in let l = w.within in omega (arith, length-drop at s)

      after-key : rest mode count d s ≡ shift (at + k) (rest mode (n - 1) d (drop (at + k) s))
      after-key =
          w.passed ∙ ap (shift at) (due.rest-goes-on d mode n (drop at s) k h.0 h.1 h.2 h.3)
          ∙ shift-shift at k (rest mode (n - 1) d (drop k (drop at s)))
          ∙ ap (λ x. shift (at + k) (rest mode (n - 1) d x)) (drop-drop k at s)

module _ {S : Type 0} (f : S → Pair Ends → S) (d mode count : ℕ) (s : List ℕ) (z : S) (modes : Modes mode count) (room : length s < FAULT)
    (at n : ℕ) (st : S) (w : Walking f d mode count s z at n st) (k : ℕ) (h : EntryIs d mode n (drop at s) (Value k))
    (e : ℕ) (is : e ≡ code (item_end d (drop (at + k) s))) where
  in_bytes : at + k ≤ length s
  in_bytes = value-within f d mode count s z room at n st w k h

  -- a value is due
  pub value-due : (0 < n - 1) × ((mode ≡ 0) ⊎ ((2 ≤ mode) × ((n - 1) % 2 ≡ 0)))
  value-due = ⊎_elim counting breaking (eq-or mode 0)
    where
      counting : mode ≡ 0 → (0 < n - 1) × ((mode ≡ 0) ⊎ ((2 ≤ mode) × ((n - 1) % 2 ≡ 0)))
      counting m = let y = modes.even m in let p = w.parity in let g = h.0 in (omega arith, inl m)

      breaking : (mode ≡ 0 → ⊥) → (0 < n - 1) × ((mode ≡ 0) ⊎ ((2 ≤ mode) × ((n - 1) % 2 ≡ 0)))
      breaking m =
          let l : 1 ≤ mode = omega arith in
          let y = modes.loose l in let u = y.0 in let v = y.1 in
          let p = w.parity in let q = w.endless-still l in let b = w.within in
          (omega arith, inr (omega arith, omega arith))

  short-value : length (drop (at + k) s) < FAULT
  short-value = omega (arith, length-drop (at + k) s)

  key-passed : rest mode count d s ≡ shift (at + k) (rest mode (n - 1) d (drop (at + k) s))
  key-passed = after-key f d mode count s z room at n st w k h

  faulty : length s - (at + k) < e → Faulty (drop (at + k) s) short-value e (item_end d (drop (at + k) s))
  faulty l = is-fault (drop (at + k) s) short-value e (item_end d (drop (at + k) s)) (fine-ending (drop (at + k) s) (item no_note d (drop (at + k) s))) is (omega (arith, length-drop (at + k) s))

  pub value-fails : length s - (at + k) < e → e ≡ code (rest mode count d s)
  value-fails l =
      let y = faulty l in
      y.coded ∙ ap code (sym (key-passed ∙ ap (shift (at + k)) (due.value-stops d mode (n - 1) (drop (at + k) s) y.number value-due.0 value-due.1 y.is)))

  sized-alike : (u : List ℕ) (t : Node Ends) (r : List ℕ) (j : ℕ) → item_end d u ≡ took j → Reads d u t r → r ≡ drop j u
  sized-alike u t r j q x =
      let a = ate d u t r x in
      let y : a.size ≡ j = let v : took a.size ≡ took j = sym a.ends_so ∙ q in cc in
      a.is ∙ ap (λ i. drop i u) y

  no_more : (r : List ℕ) → Due d mode n (drop at s) [] r → ⊥
  no_more r y = ⊎_elim (λ m. let c = y.counted m in let g = h.0 in omega arith) (λ m. h.2 (ap (λ u. get_or u 0 0) y.chain ∙ y.closed (omega arith))) (eq-or mode 0)

  value-at : (p : Pair Ends) (m q : List ℕ) → Reads d (drop at s) p.key m → Reads d m p.value q → (m ≡ drop (at + k) s) × Reads d (drop (at + k) s) p.value q
  value-at p m q x y = let a : m ≡ drop (at + k) s = sized-alike (drop at s) p.key m k h.3 x ∙ drop-drop k at s in (a, subst (λ u. Reads d u p.value q) a y)

  -- where the value isn't read, no pairs are due
  pub fails-unread : length s - (at + k) < e → (ps : List (Pair Ends)) (r : List ℕ) → Due d mode count s ps r → ⊥
  fails-unread l ps r x = go (w.trees ps r x).pairs (w.trees ps r x).due
    where
      go : (rs : List (Pair Ends)) → Due d mode n (drop at s) rs r → ⊥
      go [] y = no_more r y
      go (p ∷ rs) y =
          let c = y.chain in
          let b = ate d (drop (at + k) s) p.value c.1 (value-at p c.0 c.1 c.2 c.3).1 in
          let f = faulty l in
          let z : took b.size ≡ fault f.number = sym b.ends_so ∙ f.is in
          let i : ◌≡◌ {A = ℕ} 0 1 = cc in omega arith

  -- the pair that is read here
  pub record Entered (p : Pair Ends) : Type 0 where
    pub key : Reads d (drop at s) p.key (drop (at + k) s)
    pub value : Reads d (drop (at + k) s) p.value (drop (at + k + e) s)

  module _ (l : e ≤ length s - (at + k)) where
    pub value-ends : item_end d (drop (at + k) s) ≡ took e
    value-ends = is-took (drop (at + k) s) short-value e (item_end d (drop (at + k) s)) (fine-ending (drop (at + k) s) (item no_note d (drop (at + k) s))) is (omega (arith, length-drop (at + k) s))

    pub further-on : at < at + k + e
    further-on = let a = due.takes-a-byte d (drop at s) k h.3 in let b = due.takes-a-byte d (drop (at + k) s) e value-ends in omega arith

    turn-trees : (q : S) → ((p : Pair Ends) → Entered p → q ≡ f st p) → (ps : List (Pair Ends)) (r : List ℕ) → Due d mode count s ps r → Left f d mode (n - 2) (drop (at + k + e) s) q (foldl f z ps) r
    turn-trees q step ps r x = go (w.trees ps r x).pairs (w.trees ps r x).due (w.trees ps r x).same
      where
        go : (rs : List (Pair Ends)) → Due d mode n (drop at s) rs r → foldl f st rs ≡ foldl f z ps → Left f d mode (n - 2) (drop (at + k + e) s) q (foldl f z ps) r
        go [] y same = absurd (no_more r y)
        go (p ∷ rs) y same =
            let c = y.chain in
            let a : c.0 ≡ drop (at + k) s = (value-at p c.0 c.1 c.2 c.3).0 in
            let v : Reads d (drop (at + k) s) p.value c.1 = (value-at p c.0 c.1 c.2 c.3).1 in
            let b : c.1 ≡ drop (at + k + e) s = sized-alike (drop (at + k) s) p.value c.1 e value-ends v ∙ drop-drop e (at + k) s in
            let t : q ≡ f st p = step p (record { key = subst (λ u. Reads d (drop at s) p.key u) a c.2; value = subst (λ u. Reads d (drop (at + k) s) p.value u) b v }) in
            record {
              pairs = rs;
              due = record { chain = subst (λ u. Chain d u rs r) b c.4; counted = λ m. let i = y.counted m in omega arith; closed = y.closed };
              same = ap (λ u. foldl f u rs) t ∙ same;
            }

    pub walk-turns : (q : S) → ((p : Pair Ends) → Entered p → q ≡ f st p) → Walking f d mode count s z (at + k + e) (n - 2) q
    walk-turns q step = record {
      within = let i = in_bytes in omega arith;
      parity = let p = w.parity in let g = value-due.0 in omega arith;
      endless-still = λ m. let i = w.endless-still m in let o = due.takes-a-byte d (drop at s) k h.3 in let b = due.takes-a-byte d (drop (at + k) s) e value-ends in omega arith;
      passed =
          key-passed ∙ ap (shift (at + k)) (due.value-goes-on d mode (n - 1) (drop (at + k) s) e value-due.0 value-due.1 value-ends)
          ∙ shift-shift (at + k) e (rest mode (n - 1 - 1) d (drop e (drop (at + k) s)))
          ∙ ap (λ x. shift (at + k + e) (rest mode (n - 1 - 1) d x)) (drop-drop e (at + k) s)
          ∙ ap (λ i. shift (at + k + e) (rest mode i d (drop (at + k + e) s))) (omega arith);
      trees = turn-trees q step;
    }
