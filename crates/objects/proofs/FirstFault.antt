-- The first fault is kept: one more object, sound or not; and what the whole map comes to.
use Prim.Native.Nat.{ℕ, ◌+◌, ◌≤◌, ◌<◌}
use native.Mathlib.Omega.{arith}
use mathlib.Core.List.{List, [], ◌∷◌, ◌++◌, map}
use mathlib.Core.Bool.{Bool}
use mathlib.Core.Path.{◌≡◌, refl, ap, sym, ◌∙◌, subst}
use lib.ListN.{length, length-append, length-map}
use borrow.Author.Tests.{le-leb, lt-leb}
use Rattle.meaning.specs.Tree.{Node, Pair}
use Rattle.meaning.specs.Check.{Check, pass, refuse, ◌>>=◌, in_object}
use Rattle.meaning.specs.Limit.{object_limit}
use Rattle.meaning.specs.Model.{Object}
use Rattle.meaning.specs.Field.{names}
use Rattle.meaning.specs.Rows.{component_count}
use Rattle.meaning.specs.Layouts.{Layout}
use Rattle.meaning.proofs.Lengths.{count-snoc}
use Rattle.meaning.proofs.Checks.{each-length}
use Rattle.walk.specs.Reading.{Ends}
use Rattle.naming.specs.NotedNames.{named_anyway, told}
use Rattle.naming.proofs.NamesJudged.{few-names}
use Rattle.naming.proofs.Entries as named-entries
use Rattle.object.specs.Verdict as objects
use Rattle.objects.specs.Found.{judging, objects_by, judged}
use Rattle.objects.specs.Firsts.{plus, entry, entries, FirstIs, Keeps}
use Rattle.objects.proofs.Few.{few-in-judging}
use Rattle.std.specs.Prelude.{Ok, Err, Result}
use Rattle.numbers.specs.declared.fault.ObjectFault.{ObjectFault}
use Rattle.numbers.specs.declared.fault.FileFault.{FileFault}
use Rattle.numbers.specs.Answered as answers
use Rattle.numbers.specs.Numbered.{number_of}
use Rattle.numbers.specs.declared.refusal.Refusal.{Refusal}

module _ (deep : Bool) (L : Layout) (start : ℕ) (done : List (Pair Ends)) (p : Pair Ends) where
  one_more : entries deep L start (done ++ p ∷ []) ≡ (entries deep L start done >>= λ os. entry deep L start (length done) (named_anyway p) >>= λ o. pass (os ++ o ∷ []))
  unfolding entries
  one_more = named-entries.one_more (entry deep L start) done p

  fault-stays : (f : FileFault) → FirstIs deep L start done (Err f) → FirstIs deep L start (done ++ p ∷ []) (Err f)
  fault-stays f h = one_more ∙ (rw h refl)

  first-fault : (total : ℕ) (n : Refusal) (o c : ℕ) → FirstIs deep L start done (Ok total) → judging deep L start (named_anyway p) ≡ refuse (number_of n) o c → FirstIs deep L start (done ++ p ∷ []) (Err (record { refusal = n; object = length done; component = c }))
  unfolding entry
  first-fault total n o c h e = let z = h.passed in one_more ∙ (rw (z, e) refl)

  still-fine : (total : ℕ) (o : Object Ends) → FirstIs deep L start done (Ok total) → judging deep L start (named_anyway p) ≡ pass o → FirstIs deep L start (done ++ p ∷ []) (Ok (plus total (length o.components)))
  unfolding entry
  still-fine total o h e =
      let z = h.passed in
      let m = few-in-judging deep L start (named_anyway p) o e in
      let f = h.few in
      let l : length (h.found ++ o ∷ []) ≡ length h.found + 1 = length-append h.found (o ∷ []) in
      let c = count-snoc h.found o in
      record {
        found = h.found ++ o ∷ [];
        passed = one_more ∙ (rw (z, e) refl);
        few = omega arith;
        totals = λ b. let t = h.totals (omega arith) in let i : total ≤ 16368 = omega arith in (rw (le-leb (length o.components) 16 m, le-leb total 16368 i) (omega arith));
      }

module _ (v : Result ℕ ObjectFault) (j : ℕ) (first : Result ℕ FileFault) where
  pub stays : (f : FileFault) → first ≡ Err f → (q : Result ℕ FileFault) → q ≡ Err f → Keeps v j first q
  stays f e q is-q deep L start done p b r x is at h = rw is-q (fault-stays deep L start done p f (rw e at h))

  module _ (total : ℕ) (e : first ≡ Ok total) where
    pub begins : (f : ObjectFault) → v ≡ Err f → Keeps v j first (Err (record { refusal = f.refusal; object = j; component = f.component }))
    begins f a deep L start done p b q x is at h = go (judging deep L start (named_anyway p)) refl (sym (ap answers.in_object a) ∙ is p.value q x (named_anyway p).name)
      where
        go : (k : Check (Object Ends)) → judging deep L start (named_anyway p) ≡ k → answers.in_object (Err f) ≡ objects.judged k → FirstIs deep L start (done ++ p ∷ []) (Err (record { refusal = f.refusal; object = j; component = f.component }))
        go (pass o) z w = absurd (let y : ◌≡◌ {A = ℕ} 0 1 = cc in omega arith)
        go (refuse m o l) z w =
            let a : number_of f.refusal ≡ m = cc in let b : f.component ≡ l = cc in
            let w : FirstIs deep L start (done ++ p ∷ []) (Err (record { refusal = f.refusal; object = length done; component = f.component })) =
            first-fault deep L start done p total f.refusal o f.component (rw e at h) (z ∙ (rw (← a, ← b) refl)) in
            rw at w

    pub goes_on : (m r : ℕ) → v ≡ Ok m → r ≡ plus total m → Keeps v j first (Ok r)
    goes_on m r a is-r deep L start done p b q x is at h = go (judging deep L start (named_anyway p)) refl (sym (ap answers.in_object a) ∙ is p.value q x (named_anyway p).name)
      where
        go : (k : Check (Object Ends)) → judging deep L start (named_anyway p) ≡ k → answers.in_object (Ok m) ≡ objects.judged k → FirstIs deep L start (done ++ p ∷ []) (Ok r)
        go (pass o) z w = let y : length o.components ≡ m = cc in subst (λ r. FirstIs deep L start (done ++ p ∷ []) (Ok r)) (ap (plus total) y ∙ sym is-r) (still-fine deep L start done p total o (rw e at h) z)
        go (refuse n o i) z w = absurd (let y : ◌≡◌ {A = ℕ} 0 1 = cc in omega arith)

-- the whole map: its names, and then its entries
module _ (deep : Bool) (L : Layout) (start : ℕ) (done : List (Pair Ends)) (x : Node Ends) where
  pub names-fault : (n : Refusal) → names object_limit x ≡ told done (Err n) → answers.in_file (Err (record { refusal = n; object = 0; component = 0 })) ≡ judged (objects_by deep L start x)
  unfolding objects_by
  names-fault n h = rw h refl

  module _ (h : names object_limit x ≡ told done (Ok tt)) where
    named : objects_by deep L start x ≡ entries deep L start done
    unfolding objects_by entries entry
    named = named-entries.names-pass (λ i o. in_object i (judging deep L start o)) done object_limit x h

    pub entry-fault : (k : FileFault) → FirstIs deep L start done (Err k) → answers.in_file (Err k) ≡ judged (objects_by deep L start x)
    entry-fault k f = sym (ap judged (named ∙ f))

    pub all-fine : (m total : ℕ) → m ≡ length done → FirstIs deep L start done (Ok total) → answers.in_file (Ok (record { objects = m; components = total })) ≡ judged (objects_by deep L start x)
    unfolding entries
    all-fine m total is f =
        let same = each-length (λ i p. entry deep L start i (named_anyway p)) 0 done f.found f.passed in
        let few = few-names object_limit x (map named_anyway done) h in
        let all = length-map done named_anyway in
        let a : m ≡ length f.found = is ∙ sym same in
        let b : total ≡ component_count f.found = f.totals (omega arith) in
        (rw (a, b) refl) ∙ sym (ap judged (named ∙ f.passed))

-- ---------------------------------------------------------------- the total, a branch each

module _ (total m : ℕ) where
  pub added : m ≤ 16 → total ≤ 16368 → total + m ≡ plus total m
  added h k = rw (le-leb m 16 h, le-leb total 16368 k) refl

  pub total-past : m ≤ 16 → 16368 < total → total ≡ plus total m
  total-past h k = rw (le-leb m 16 h, lt-leb total 16368 k) refl

  pub more-past : 16 < m → total ≡ plus total m
  more-past h = rw (lt-leb m 16 h) refl
