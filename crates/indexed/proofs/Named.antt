-- The entry of an index in a map of names, as `entry` finds it.
use Prim.Native.Nat.{ℕ, zero, suc, ◌+◌}
use native.Mathlib.Omega.{arith}
use mathlib.Core.List.{List, [], ◌∷◌, map}
use mathlib.Core.Bool.{Bool, true, false}
use mathlib.Core.Option.{some}
use mathlib.Core.Path.{◌≡◌, refl, sym, ap, ◌∙◌, subst}
use lib.ListN.{length}
use lib.Dec.{leb}
use Rattle.meaning.specs.Tree.{Node, Pair, note_of}
use Rattle.meaning.specs.Check.{Check, pass, refuse, ◌>>=◌, ◌>>◌, ◌unless◌, each}
use Rattle.meaning.specs.Text.{all, distinct, utf8}
use Rattle.meaning.specs.Refusal.{TEXT, COUNT, TWICE}
use Rattle.meaning.specs.Model.{Word, Named}
use Rattle.meaning.specs.Kind.{Kind, kind, number, words, list, mapping, null, another, a_word, as_word, a_mapping}
use Rattle.meaning.specs.Field.{name_kind, name_of, names}
use Rattle.walk.specs.Reading.{Ends, Reads}
use Rattle.fields.specs.Slots.{Stands}
use Rattle.explained.specs.Breaks.{At, first as top, later}
use Rattle.entry.specs.declared.Places.{Places}
use Rattle.entry.specs.Nth.{nth, left_both, in_table, EntryIs}
use Rattle.indexed.specs.Entry.{EntryAt}
use Rattle.indexed.proofs.Chained.{chained, nth-stands}

impossible : {A : Type 0} {a : A} {n o c : ℕ} → ◌≡◌ {A = Check A} (refuse n o c) (pass a) → ⊥
impossible e = let z : ◌≡◌ {A = ℕ} 0 1 = cc in omega arith

-- elements that are counted from b on
at-nth : {A : Type 0} {j : ℕ} {a : A} {b : ℕ} {l : List A} → At j a b l → (k : ℕ) × (j ≡ b + k) × (nth k l ≡ some a)
unfolding nth
at-nth top = (0, omega arith, refl)
at-nth {j = j} {b = b} (later x) = let h = at-nth x in (suc h.0, (let z : j ≡ suc b + h.0 = h.1 in omega arith), h.2)

pub the-nth : {A : Type 0} {j : ℕ} {a : A} {l : List A} → At j a 0 l → nth j l ≡ some a
the-nth {A} {j} {a} {l} x = let h = at-nth x in let z : h.0 ≡ j = (let y : j ≡ 0 + h.0 = h.1 in omega arith) in subst (λ (i : ℕ). nth i l ≡ some a) z h.2

-- the pair that a name comes from
named-nth : (ps : List (Pair Ends)) (ns : List (Named Ends)) (b : ℕ) → each (λ j. name_of) b ps ≡ pass ns → (k : ℕ) (n : Named Ends) → nth k ns ≡ some n
    → (p : Pair Ends) × (nth k ps ≡ some p) × (name_of p ≡ pass n)
unfolding nth
named-nth [] ns b e k n h = absurd (let z : ns ≡ [] = cc in let y : nth k [] ≡ some n = subst (λ l. nth k l ≡ some n) z h in none_of k y)
  where
    none_of : (k : ℕ) → nth {A = Named Ends} k [] ≡ some n → ⊥
    none_of k e = let z : ◌≡◌ {A = ℕ} 0 1 = cc in omega arith
named-nth (p ∷ ps) ns b e k n h = go (name_of p) refl (each (λ j. name_of) (suc b) ps) refl e k h (named-nth ps)
  where
    one : (x : Named Ends) (xs : List (Named Ends)) → name_of p ≡ pass x → each (λ j. name_of) (suc b) ps ≡ pass xs → x ∷ xs ≡ ns → (k : ℕ) → nth k (x ∷ xs) ≡ some n
        → ((ns : List (Named Ends)) (b : ℕ) → each (λ j. name_of) b ps ≡ pass ns → (k : ℕ) (n : Named Ends) → nth k ns ≡ some n → (p : Pair Ends) × (nth k ps ≡ some p) × (name_of p ≡ pass n))
        → (q : Pair Ends) × (nth k (p ∷ ps) ≡ some q) × (name_of q ≡ pass n)
    one x xs u v z zero h ih = (p, refl, u ∙ (let y : x ≡ n = cc in ap {B = Check (Named Ends)} pass y))
    one x xs u v z (suc k) h ih = ih xs (suc b) v k n h

    go : (m : Check (Named Ends)) → name_of p ≡ m → (r : Check (List (Named Ends))) → each (λ j. name_of) (suc b) ps ≡ r → (m >>= λ x. r >>= λ xs. pass (x ∷ xs)) ≡ pass ns
        → (k : ℕ) → nth k ns ≡ some n
        → ((ns : List (Named Ends)) (b : ℕ) → each (λ j. name_of) b ps ≡ pass ns → (k : ℕ) (n : Named Ends) → nth k ns ≡ some n → (p : Pair Ends) × (nth k ps ≡ some p) × (name_of p ≡ pass n))
        → (q : Pair Ends) × (nth k (p ∷ ps) ≡ some q) × (name_of q ≡ pass n)
    go (refuse x y z) u r v e k h ih = absurd (impossible e)
    go (pass x) u (refuse y z w) v e k h ih = absurd (impossible e)
    go (pass x) u (pass xs) v e k h ih = let z : x ∷ xs ≡ ns = cc in one x xs u v z k (subst (λ l. nth k l ≡ some n) (sym z) h) ih

-- the pairs of a map of names
named_table : (limit : ℕ) (t : Node Ends) (ns : List (Named Ends)) → names limit t ≡ pass ns → (ps : List (Pair Ends)) × (a_mapping t ≡ pass ps) × (each (λ i. name_of) 0 ps ≡ pass ns)
unfolding names
named_table limit t ns e = go (a_mapping t) refl e
  where
    last : (b c d : Bool) (xs : List (Named Ends)) → ((TEXT unless b) >> ((COUNT unless c) >> ((TWICE unless d) >> pass xs))) ≡ pass ns → xs ≡ ns
    last false c d xs e = absurd (impossible e)
    last true false d xs e = absurd (impossible e)
    last true true false xs e = absurd (impossible e)
    last true true true xs e = cc

    go₂ : (ps : List (Pair Ends)) → a_mapping t ≡ pass ps → (r : Check (List (Named Ends))) → each (λ i. name_of) 0 ps ≡ r
        → (r >>= λ ns. (TEXT unless all (λ n. utf8 n.name.letters) ns) >> ((COUNT unless leb (length ns) limit) >> ((TWICE unless distinct (map (λ n. n.name.letters) ns)) >> pass ns))) ≡ pass ns
        → (ps : List (Pair Ends)) × (a_mapping t ≡ pass ps) × (each (λ i. name_of) 0 ps ≡ pass ns)
    go₂ ps h (refuse x y z) k e = absurd (impossible e)
    go₂ ps h (pass xs) k e = (ps, h, k ∙ ap pass (last (all (λ n. utf8 n.name.letters) xs) (leb (length xs) limit) (distinct (map (λ n. n.name.letters) xs)) xs e))

    go : (m : Check (List (Pair Ends))) → a_mapping t ≡ m
        → (m >>= λ ps. each (λ i. name_of) 0 ps >>= λ ns. (TEXT unless all (λ n. utf8 n.name.letters) ns) >> ((COUNT unless leb (length ns) limit) >> ((TWICE unless distinct (map (λ n. n.name.letters) ns)) >> pass ns))) ≡ pass ns
        → (ps : List (Pair Ends)) × (a_mapping t ≡ pass ps) × (each (λ i. name_of) 0 ps ≡ pass ns)
    go (refuse x y z) h e = absurd (impossible e)
    go (pass ps) h e = go₂ ps h (each (λ i. name_of) 0 ps) refl e

-- a name's key and value
record IsNamed (p : Pair Ends) (n : Named Ends) : Type 0 where
  pub key : a_word p.key ≡ pass n.name
  pub value : p.value ≡ n.value

is-named : (p : Pair Ends) (n : Named Ends) → name_of p ≡ pass n → IsNamed p n
unfolding name_of name_kind a_word as_word
is-named p n e = go (kind p.key) refl e
  where
    go : (k : Kind Ends) → kind p.key ≡ k → name_kind p.value k ≡ pass n → IsNamed p n
    go (number x) h e = absurd (impossible e)
    go (words w) h e = let x : w ≡ n.name = cc in let y : p.value ≡ n.value = cc in record { key = ap as_word h ∙ ap {B = Check (Word Ends)} pass x; value = y }
    go (list x) h e = absurd (impossible e)
    go (mapping x) h e = absurd (impossible e)
    go null h e = absurd (impossible e)
    go another h e = absurd (impossible e)

-- the entry of the index j in the map that is read at s
pub named-entry : (d : ℕ) (s : List ℕ) (t : Node Ends) (q : List ℕ) → Reads (suc d) s t q → (limit : ℕ) (ns : List (Named Ends)) → names limit t ≡ pass ns
    → (j : ℕ) (n : Named Ends) → At j n 0 ns → (r : Places) → EntryIs d s j r → EntryAt d s n r
unfolding in_table left_both
named-entry d s t q e limit ns h j n at r told =
    let m = named_table limit t ns h in
    let p = named-nth m.0 ns 0 m.2 j n (the-nth at) in
    let w = is-named p.0 n p.2 in
    let c = chained d s t q e m.0 m.1 in
    let a = nth-stands d s m.0 c.at c.within c.rest c.chain j p.0 p.1 in
    let z : r ≡ left_both (some p.0) = told t q e ∙ ap (in_table j) m.1 ∙ ap left_both p.1 in
    record {
      key = p.0.key;
      spells = w.key;
      key-stands = subst (λ (i : ℕ). Stands d s i p.0.key) (sym (ap (λ x. x.key) z)) a.key;
      value-stands = subst (λ (i : ℕ). Stands d s i n.value) (sym (ap (λ x. x.value) z)) (subst (λ (v : Node Ends). Stands d s (length (note_of p.0.value).start) v) w.value a.value);
    }
