-- The names of a map judged: what the tally says of each of meaning's checks, in their order.
use Prim.Native.Nat.{ℕ, zero, suc, ◌≤◌, ◌<◌, min}
use native.Mathlib.Omega.{arith}
use mathlib.Core.List.{List, [], ◌∷◌, map}
use mathlib.Core.Bool.{Bool, true, false, cond}
use mathlib.Core.Path.{◌≡◌, refl, ap, sym, ◌∙◌, subst}
use lib.ListN.{length, length-map}
use lib.Seq.{take_all}
use lib.Dec.{leb}
use borrow.Author.Tests.{le-leb, lt-leb, leb-true}
use Rattle.meaning.specs.Tree.{Node, Pair, note_of}
use Rattle.meaning.specs.Check.{Check, pass, refuse, ◌>>=◌, ◌>>◌, ◌unless◌, fault, each}
use Rattle.meaning.specs.Model.{Named}
use Rattle.meaning.specs.Text.{all, utf8, distinct}
use Rattle.meaning.specs.Refusal.{KEY, TEXT, COUNT, TWICE}
use Rattle.meaning.specs.Kind as kinds
use Rattle.meaning.specs.Kind.{Kind, kind, a_mapping}
use Rattle.meaning.specs.Field.{is_some, key_of, key_kind, name_kind, name_of, names}
use Rattle.meaning.proofs.JudgeNatural.{all_map, map-map}
use Rattle.meaning.proofs.Tests.{opposite}
use Rattle.names.specs.Names.{name, listed}
use Rattle.names.proofs.NamedParts.{from-wholes}
use borrow.Author.Rules.{part_to_end}
use Rattle.walk.specs.Reading.{Ends}
use Rattle.walk.proofs.Passed.{Here}
use Rattle.naming.specs.declared.Tally.{Tally}
use Rattle.naming.specs.NotedNames.{letters_or, letters_of, Tallied, word_or, named_anyway, told, Judged}
use Rattle.std.specs.Prelude.{Ok, Err, Result}
use Rattle.numbers.specs.declared.refusal.Refusal.{Refusal}
use Rattle.numbers.specs.declared.refusal.Refusal.TheVariants as refusals

name-kind : (e : Ends) (v : Node Ends) (k : Kind Ends) (b : Bool) → is_some (key_kind k) ≡ b → name_kind v k ≡ cond b (pass (record { name = word_or e k; value = v })) (fault KEY)
unfolding name_kind key_kind is_some
name-kind e v (kinds.number n) b h = rw (← h) refl
name-kind e v (kinds.words w) b h = rw (← h) refl
name-kind e v (kinds.list l) b h = rw (← h) refl
name-kind e v (kinds.mapping l) b h = rw (← h) refl
name-kind e v kinds.null b h = rw (← h) refl
name-kind e v kinds.another b h = rw (← h) refl

name-of : (p : Pair Ends) (b : Bool) → is_some (key_of p) ≡ b → name_of p ≡ cond b (pass (named_anyway p)) (fault KEY)
unfolding name_of key_of
name-of p b h = name-kind (note_of p.key) p.value (kind p.key) b h

letters-kind : (e : Ends) (k : Kind Ends) → (word_or e k).letters ≡ letters_or (key_kind k)
unfolding key_kind
letters-kind e (kinds.number n) = refl
letters-kind e (kinds.words w) = refl
letters-kind e (kinds.list l) = refl
letters-kind e (kinds.mapping l) = refl
letters-kind e kinds.null = refl
letters-kind e kinds.another = refl

pub letters-of : (p : Pair Ends) → (named_anyway p).name.letters ≡ letters_of p
unfolding letters_of key_of
letters-of p = letters-kind (note_of p.key) (kind p.key)

each-name : (i : ℕ) (ps : List (Pair Ends)) (b : Bool) → all (λ p. is_some (key_of p)) ps ≡ b → each (λ i. name_of) i ps ≡ cond b (pass (map named_anyway ps)) (fault KEY)
each-name i [] b h = rw (← h) refl
each-name i (p ∷ ps) b h = go (is_some (key_of p)) refl (each-name (suc i) ps)
  where
    two : (t : Bool) → ((b : Bool) → all (λ p. is_some (key_of p)) ps ≡ b → each (λ i. name_of) (suc i) ps ≡ cond b (pass (map named_anyway ps)) (fault KEY)) → all (λ p. is_some (key_of p)) ps ≡ t
        → (pass (named_anyway p) >>= λ x. each (λ i. name_of) (suc i) ps >>= λ xs. pass (x ∷ xs)) ≡ cond t (pass (named_anyway p ∷ map named_anyway ps)) (fault KEY)
    two true ih e = rw (ih true e) refl
    two false ih e = rw (ih false e) refl

    go : (t : Bool) → is_some (key_of p) ≡ t → ((b : Bool) → all (λ p. is_some (key_of p)) ps ≡ b → each (λ i. name_of) (suc i) ps ≡ cond b (pass (map named_anyway ps)) (fault KEY))
        → each (λ i. name_of) i (p ∷ ps) ≡ cond b (pass (map named_anyway (p ∷ ps))) (fault KEY)
    go true e ih = rw (name-of p true e, ← h, e) (two (all (λ p. is_some (key_of p)) ps) ih refl)
    go false e ih = rw (name-of p false e, ← h, e) refl

module _ (limit : ℕ) (x : Node Ends) (ps : List (Pair Ends)) (is : kind x ≡ kinds.mapping ps) where
  pub odd-names : all (λ p. is_some (key_of p)) ps ≡ false → names limit x ≡ fault KEY
  unfolding names kinds.a_mapping kinds.as_mapping
  odd-names e = rw (is, each-name 0 ps false e) refl

  pub text-names : all (λ p. is_some (key_of p)) ps ≡ true
      → names limit x ≡ (TEXT unless all (λ p. utf8 (letters_of p)) ps >> (COUNT unless leb (length ps) limit >> (TWICE unless distinct (map letters_of ps) >> pass (map named_anyway ps))))
  unfolding names kinds.a_mapping kinds.as_mapping
  text-names e =
      rw (is, each-name 0 ps true e)
      (simp (all_map, map-map, length-map, letters-of))

-- a name alone stands once
once : (f : ℕ → List ℕ) (n : ℕ) → n < 2 → distinct (listed f 0 n) ≡ true
unfolding listed
once f zero l = refl
once f (suc zero) l = refl
once f (suc (suc n)) l = absurd (omega arith)

-- ---------------------------------------------------------------- by the tally

module _ (m : List ℕ) (t : Tally) (left size : List ℕ) (done : List (Pair Ends)) (h : Tallied m done t left size) (x : Node Ends) (is : kind x ≡ kinds.mapping done) where
  pub judge-odd : t.odd ≡ true → names (length left) x ≡ told done (Err refusals.Key)
  judge-odd e = odd-names (length left) x done is (opposite h.oddly true e)

  module _ (fine : t.odd ≡ false) where
    all-text : names (length left) x ≡ (TEXT unless all (λ p. utf8 (letters_of p)) done >> (COUNT unless leb (length done) (length left) >> (TWICE unless distinct (map letters_of done) >> pass (map named_anyway done))))
    all-text = text-names (length left) x done is (opposite h.oddly false fine)

    pub judge-bad : t.bad ≡ true → names (length left) x ≡ told done (Err refusals.Text)
    judge-bad e = let z : all (λ p. utf8 (letters_of p)) done ≡ false = opposite h.badly true e in rw (all-text, z) refl

    module _ (good : t.bad ≡ false) where
      pub judge-many : length left < t.count → names (length left) x ≡ told done (Err refusals.Count)
      judge-many l = let c = h.counted in let z : all (λ p. utf8 (letters_of p)) done ≡ true = opposite h.badly false good in rw (all-text, z, lt-leb (length done) (length left) (omega arith)) refl

      module _ (few : t.count ≤ length left) (r : Bool) (by : r ≡ distinct (listed (name m left size) 0 t.count)) where
        names-are : distinct (map letters_of done) ≡ r
        names-are =
            let c = h.counted in
            let z : min (length done) (length left) ≡ t.count = omega arith in
            let l : listed (name m left size) 0 t.count ≡ map letters_of done = rw z at h.listed-are ∙ take_all (length left) (map letters_of done) (omega (arith, length-map done letters_of)) in
            sym (by ∙ ap distinct l)

        judge-last : names (length left) x ≡ told done (cond r (Ok tt) (Err refusals.Twice))
        judge-last = let c = h.counted in let z : all (λ p. utf8 (letters_of p)) done ≡ true = opposite h.badly false good in rw (all-text, z, le-leb (length done) (length left) (omega arith), names-are) (two r)
          where
            two : (b : Bool) → (TWICE unless b >> pass (map named_anyway done)) ≡ told done (cond b (Ok tt) (Err refusals.Twice))
            two true = refl
            two false = refl

      module _ (few : t.count ≤ length left) where
        pub judge-once : t.count < 2 → names (length left) x ≡ told done (Ok tt)
        judge-once l = judge-last few true (sym (once _ _ l))

        module _ (r : Bool) (by : r ≡ distinct (listed (name (Here m 0) (Here left 0) (Here size 0)) 0 t.count)) where
          wholes : r ≡ distinct (listed (name m left size) 0 t.count)
          wholes = by ∙ ap (λ f. distinct (listed f 0 t.count)) (from-wholes m left size)

          pub judge-apart : r ≡ true → names (length left) x ≡ told done (Ok tt)
          judge-apart e = judge-last few true (sym e ∙ wholes)

          pub judge-twice : r ≡ false → names (length left) x ≡ told done (Err refusals.Twice)
          judge-twice e = judge-last few false (sym e ∙ wholes)

-- names that pass are within the limit
pub few-names : (limit : ℕ) (x : Node Ends) (ns : List (Named Ends)) → names limit x ≡ pass ns → length ns ≤ limit
unfolding names
few-names limit x ns e = mapped (a_mapping x) e
  where
    judged : (ms : List (Named Ends)) (a b c : Bool) → leb (length ms) limit ≡ b → ((TEXT unless a) >> ((COUNT unless b) >> ((TWICE unless c) >> pass ms))) ≡ pass ns → length ns ≤ limit
    judged ms false b c l h = absurd (let z : ◌≡◌ {A = ℕ} 0 1 = cc in omega arith)
    judged ms true false c l h = absurd (let z : ◌≡◌ {A = ℕ} 0 1 = cc in omega arith)
    judged ms true true false l h = absurd (let z : ◌≡◌ {A = ℕ} 0 1 = cc in omega arith)
    judged ms true true true l h = let z : ms ≡ ns = cc in subst (λ u. length u ≤ limit) z (leb-true (length ms) limit l)

    named : (c : Check (List (Named Ends)))
        → (c >>= λ ms. (TEXT unless all (λ n. utf8 n.name.letters) ms) >> ((COUNT unless leb (length ms) limit) >> ((TWICE unless distinct (map (λ n. n.name.letters) ms)) >> pass ms))) ≡ pass ns → length ns ≤ limit
    named (refuse n o c) h = absurd (let z : ◌≡◌ {A = ℕ} 0 1 = cc in omega arith)
    named (pass ms) h = judged ms (all (λ n. utf8 n.name.letters) ms) (leb (length ms) limit) (distinct (map (λ n. n.name.letters) ms)) refl h

    mapped : (c : Check (List (Pair Ends)))
        → (c >>= λ ps. each (λ i. name_of) 0 ps >>= λ ms. (TEXT unless all (λ n. utf8 n.name.letters) ms) >> ((COUNT unless leb (length ms) limit) >> ((TWICE unless distinct (map (λ n. n.name.letters) ms)) >> pass ms))) ≡ pass ns
        → length ns ≤ limit
    mapped (refuse n o c) h = absurd (let z : ◌≡◌ {A = ℕ} 0 1 = cc in omega arith)
    mapped (pass ps) h = named (each (λ i. name_of) 0 ps) h

-- what `judge` answered of a tally whose arrays were lent whole
pub names-told : (limit : ℕ) (m : List ℕ) (t : Tally) (left size : List ℕ) → length left ≡ limit → (x : Result (Unit {0}) Refusal) → Judged (Here m 0) t (Here left 0) (Here size 0) x → (y : Result (Unit {0}) Refusal) → x ≡ y
    → (done : List (Pair Ends)) → Tallied m done t left size → (u : Node Ends) → kind u ≡ kinds.mapping done → names limit u ≡ told done y
names-told limit m t left size room x h y e done tl u ku =
    let a : Judged m t left size y = rw (part_to_end m 0, part_to_end left 0, part_to_end size 0) at (rw e at h) in
    ap (λ i. names i u) (sym room) ∙ a done tl u ku
