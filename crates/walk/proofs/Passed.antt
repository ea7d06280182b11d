-- A loop over a map's entries, in the code's terms: what `past_key` answered at `at`, and then the end of the value there. The invariant knows the list of the pairs
-- passed, and P is whatever else a walker says of that list: in the end it holds of all the map's pairs.
use Prim.Native.Nat.{ℕ, ◌+◌, ◌-◌, ◌≤◌, ◌<◌}
use native.Mathlib.Omega.{arith}
use mathlib.Core.List.{List, [], ◌∷◌, ◌++◌, append_assoc, append-nil}
use mathlib.Core.Path.{◌≡◌, refl, ap, ap₂, sym, ◌∙◌, subst}
use lib.ListN.{length, take, drop, length-append}
use lib.Seq.{drop-drop}
use borrow.Author.Rules.{part_to_end}
use Rattle.meaning.specs.Tree.{Node, Pair}
use Rattle.meaning.specs.Read.{Outcome, got, refused, item}
use Rattle.cbor.specs.Ending.{FAULT, code, took, fault, ending, item_end, rest}
use Rattle.cbor.proofs.Agree.{annotations-change-no-ending, rest-follows}
use Rattle.walk.specs.Reading.{Ends, ends, Reads, foldl}
use Rattle.walk.specs.Places.{EntryIs, Modes, AllPassed}
use Rattle.walk.specs.declared.Entry.{Entry}
use Rattle.walk.specs.declared.Entry.TheVariants.{End, Value}
use Rattle.walk.proofs.Turns as turns
use Rattle.walk.proofs.Turns.{Walking}

-- the part of s from `at` on, as it is lent
abbrev pub Here : List ℕ → ℕ → List ℕ
Here s at = take (length s - at) (drop at s)

abbrev snoc : List (Pair Ends) → Pair Ends → List (Pair Ends)
snoc done p = done ++ p ∷ []

fold-snoc : (done ps : List (Pair Ends)) → foldl snoc done ps ≡ done ++ ps
fold-snoc done [] = sym (append-nil done)
fold-snoc done (p ∷ ps) = fold-snoc (snoc done p) ps ∙ append_assoc done (p ∷ []) ps

-- ---------------------------------------------------------------- an item that was passed over is read

pub record Tree (d k : ℕ) (s : List ℕ) : Type 0 where
  pub tree : Node Ends
  pub reads : Reads d s tree (drop k s)

pub a-tree : (d k : ℕ) (s : List ℕ) → item_end d s ≡ took k → Tree d k s
a-tree d k s h = go (item ends d s) refl
  where
    go : (o : Outcome (Node Ends)) → item ends d s ≡ o → Tree d k s
    go (got t r) e = record { tree = t; reads = e ∙ ap (got t) (rest-follows ends d s t r k e h) }
    go (refused n q) e = absurd (let z : fault n ≡ took k = sym (ap (ending s) e) ∙ annotations-change-no-ending ends d s ∙ h in let y : ◌≡◌ {A = ℕ} 0 1 = cc in omega arith)

one-tree : (d : ℕ) (s : List ℕ) (t u : Node Ends) (q r : List ℕ) → Reads d s t q → Reads d s u r → t ≡ u
one-tree d s t u q r a b = let z : got t q ≡ got u r = sym a ∙ b in cc

abbrev pair_of : Node Ends → Node Ends → Pair Ends
pair_of k v = record { key = k; value = v }

-- ---------------------------------------------------------------- the invariant

pub record Passed (d mode count : ℕ) (s : List ℕ) (at n : ℕ) (P : List (Pair Ends) → Type 0) : Type 0 where
  pub modes : Modes mode count
  pub short : length s < FAULT
  pub done : List (Pair Ends)
  pub walking : Walking snoc d mode count s [] at n done
  pub few : length done ≤ at
  pub holds : P done

module _ {d mode count : ℕ} {s : List ℕ} where
  pub passed-starts : {P : List (Pair Ends) → Type 0} → Modes mode count → length s < FAULT → P [] → Passed d mode count s 0 count P
  passed-starts modes short h = record { modes = modes; short = short; done = []; walking = turns.walk-starts snoc d mode count s [] (λ h. (modes.loose h).1); few = omega arith; holds = h }

  module _ {at n : ℕ} {P : List (Pair Ends) → Type 0} (w : Passed d mode count s at n P) where
    pub still-due : 1 ≤ mode → 0 < n
    still-due h = let x = w.walking.endless-still h in let y = w.walking.within in let z = w.short in omega arith

    module _ {x : Entry} (h : EntryIs d mode n (Here s at) x) where
      turned : (y : Entry) → x ≡ y → EntryIs d mode n (drop at s) y
      turned y e = subst (λ u. EntryIs d mode n u y) (part_to_end s at) (rw e at h)

      module _ {e : ℕ} (is : x ≡ End e) where
        pub holds-of-all : AllPassed d mode count s P
        holds-of-all ps r y = subst P (turns.walk_ends snoc d mode count s [] w.short at n w.done w.walking e (turned (End e) is) ps r y ∙ fold-snoc [] ps) w.holds

        pub ends-inside : e ≤ length s - at → (at + e ≡ code (rest mode count d s)) × AllPassed d mode count s P
        ends-inside l = (turns.end-within snoc d mode count s [] w.short at n w.done w.walking e (turned (End e) is) l, holds-of-all)

        pub ends-faulty : length s - at < e → (e ≡ code (rest mode count d s)) × AllPassed d mode count s P
        ends-faulty l = (turns.end-fault snoc d mode count s [] w.short at n w.done w.walking e (turned (End e) is) l, holds-of-all)

      module _ {k : ℕ} (is : x ≡ Value k) where
        pub value-inside : at + k ≤ length s
        value-inside = turns.value-within snoc d mode count s [] w.short at n w.done w.walking k (turned (Value k) is)

        module _ {e : ℕ} (skipped : e ≡ code (item_end d (Here s (at + k)))) where
          ended : e ≡ code (item_end d (drop (at + k) s))
          ended = skipped ∙ ap (λ u. code (item_end d u)) (part_to_end s (at + k))

          pub two-due : 2 ≤ n
          two-due = let y = (turns.value-due snoc d mode count s [] w.modes w.short at n w.done w.walking k (turned (Value k) is) e ended).0 in omega arith

          module _ (l : length s - (at + k) < e) where
            pub value-fails : e ≡ code (rest mode count d s)
            value-fails = turns.value-fails snoc d mode count s [] w.modes w.short at n w.done w.walking k (turned (Value k) is) e ended l

            -- where a value is faulty there are no pairs, so anything holds of them
            pub no_pairs : (Q : List (Pair Ends) → Type 0) → AllPassed d mode count s Q
            no_pairs Q ps r y = absurd (turns.fails-unread snoc d mode count s [] w.modes w.short at n w.done w.walking k (turned (Value k) is) e ended l ps r y)

          module _ (l : e ≤ length s - (at + k)) where
            pub goes_on : at < at + k + e
            goes_on = turns.further-on snoc d mode count s [] w.modes w.short at n w.done w.walking k (turned (Value k) is) e ended l

            pub next-inside : at + k + e ≤ length s
            next-inside = let y = value-inside in omega arith

            -- fewer bytes are left
            pub nearer : length s - (at + k + e) < length s - at
            nearer = let y = next-inside in let z = goes_on in omega arith

            pub one_more : {Q : List (Pair Ends) → Type 0}
                → ((done : List (Pair Ends)) (p : Pair Ends) → length done ≤ at → Reads d (drop at s) p.key (drop (at + k) s) → Reads d (drop (at + k) s) p.value (drop (at + k + e) s) → P done → Q (done ++ p ∷ []))
                → Passed d mode count s (at + k + e) (n - 2) Q
            one_more step =
                let key = a-tree d k (drop at s) (turned (Value k) is).3 in
                let keyed : Reads d (drop at s) key.tree (drop (at + k) s) = key.reads ∙ ap (got key.tree) (drop-drop k at s) in
                let value = a-tree d e (drop (at + k) s) (turns.value-ends snoc d mode count s [] w.modes w.short at n w.done w.walking k (turned (Value k) is) e ended l) in
                let valued : Reads d (drop (at + k) s) value.tree (drop (at + k + e) s) = value.reads ∙ ap (got value.tree) (drop-drop e (at + k) s) in
                record {
                  modes = w.modes;
                  short = w.short;
                  done = snoc w.done (pair_of key.tree value.tree);
                  walking =
                      turns.walk-turns snoc d mode count s [] w.modes w.short at n w.done w.walking k (turned (Value k) is) e ended l (snoc w.done (pair_of key.tree value.tree))
                      (λ p y. ap (snoc w.done) (ap₂ pair_of (one-tree d (drop at s) key.tree p.key _ _ keyed y.key) (one-tree d (drop (at + k) s) value.tree p.value _ _ valued y.value)));
                  few = let f = w.few in let g = goes_on in omega (arith, length-append w.done (pair_of key.tree value.tree ∷ []));
                  holds = step w.done (pair_of key.tree value.tree) w.few keyed valued w.holds;
                }

            -- the same, where the step speaks of the parts that begin at the key and at the value as they are lent
            pub one-more-lent : {Q : List (Pair Ends) → Type 0}
                → ((done : List (Pair Ends)) (p : Pair Ends) → Reads d (Here s at) p.key (drop (at + k) s) → Reads d (Here s (at + k)) p.value (drop (at + k + e) s) → P done → Q (done ++ p ∷ []))
                → Passed d mode count s (at + k + e) (n - 2) Q
            one-more-lent step = one_more (λ done p few key value.
                step done p
                (subst (λ u. Reads d u p.key (drop (at + k) s)) (sym (part_to_end s at)) key)
                (subst (λ u. Reads d u p.value (drop (at + k + e) s)) (sym (part_to_end s (at + k))) value))

-- ---------------------------------------------------------------- where what is kept is a fold over the pairs passed

pub foldl-snoc : {A S : Type 0} (f : S → A → S) (z : S) (xs : List A) (x : A) → foldl f z (xs ++ x ∷ []) ≡ f (foldl f z xs) x
foldl-snoc f z [] x = refl
foldl-snoc f z (y ∷ xs) x = foldl-snoc f (f z y) xs x

pub record Folds {S : Type 0} (f : S → Pair Ends → S) (z st : S) (done : List (Pair Ends)) : Type 0 where
  pub is : st ≡ foldl f z done

module _ {S : Type 0} {f : S → Pair Ends → S} {z : S} {d mode count : ℕ} {s : List ℕ} where
  pub folds-on : {at n : ℕ} {st : S} (w : Passed d mode count s at n (Folds f z st)) {x : Entry} → EntryIs d mode n (Here s at) x → {k : ℕ} → x ≡ Value k
      → {e : ℕ} → e ≡ code (item_end d (Here s (at + k))) → e ≤ length s - (at + k) → {q : S}
      → ((p : Pair Ends) → Reads d (drop at s) p.key (drop (at + k) s) → Reads d (drop (at + k) s) p.value (drop (at + k + e) s) → q ≡ f st p)
      → Passed d mode count s (at + k + e) (n - 2) (Folds f z q)
  folds-on w h is skipped l step = one_more w h is skipped l (λ done p few key value so. record { is = step p key value ∙ ap (λ (u : S). f u p) so.is ∙ sym (foldl-snoc f z done p) })
