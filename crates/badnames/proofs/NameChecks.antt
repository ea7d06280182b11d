-- The checks of a map of names, for its pairs: as they stand in order, and the second copy of a name.
use Prim.Native.Nat.{ℕ, zero, suc, ◌≤◌, ◌<◌}
use native.Mathlib.Omega.{arith}
use mathlib.Core.List.{List, [], ◌∷◌, ◌++◌, map}
use mathlib.Core.Bool.{Bool, true, false, cond, not}
use mathlib.Core.Option.{Option, none, some}
use mathlib.Core.Path.{◌≡◌, refl, ap, ap₂, sym, ◌∙◌}
use lib.ListN.{length, take, length-map}
use lib.Dec.{eqb, leb}
use Rattle.meaning.specs.Tree.{Node, uint, nint, bytes, text, chunked_bytes, chunked_text, array, dict, tag, simple, float, Pair, note_of}
use Rattle.meaning.specs.Check.{pass, ◌unless◌, each}
use Rattle.meaning.specs.Text.{all, utf8, distinct, one_of}
use Rattle.meaning.specs.Refusal.{KEY, TEXT, COUNT, TWICE}
use Rattle.meaning.specs.Model.{Word, Named}
use Rattle.meaning.specs.Kind.{Kind, number, words, list, mapping, null, another, kind, a_mapping, as_mapping}
use Rattle.meaning.specs.Field.{is_some, key_kind, key_of, name_kind, name_of}
use Rattle.meaning.proofs.Tests.{both_true}
use Rattle.walk.specs.Reading.{Ends}
use Rattle.naming.specs.NotedNames.{letters_of, word_or, named_anyway}
use Rattle.naming.proofs.NamesJudged.{letters-of}
use Rattle.explained.specs.Step
use Rattle.explained.specs.Step.{Step, ◌at◌unless◌, first, every, given}
use Rattle.explained.specs.Order.{mapping_steps, key_steps, same_name_steps, name_steps}
use Rattle.explained.proofs.Repeat.{agree-same-names}
use Rattle.explained.proofs.Why.{or_else, first-++, first_passes}
use Rattle.names.specs.Names.{listed, Leading}
use Rattle.names.proofs.ListedNames.{differ-once, copy-twice}
use Rattle.entry.specs.Nth.{nth, left_both}
use Rattle.spot.specs.Shown.{spot, shown}
use Rattle.badnames.specs.Keys.{utf8_steps}
use Rattle.badnames.proofs.Firsts.{step_of, every-right, every_map}

-- ---------------------------------------------------------------- a pair as a name

noted-alike : (e : Ends) (k : Kind Ends) → ((w : Word Ends) → k ≡ words w → w.note ≡ e) → (word_or e k).note ≡ e
noted-alike e (number n) h = refl
noted-alike e (words w) h = h w refl
noted-alike e (list l) h = refl
noted-alike e (mapping l) h = refl
noted-alike e null h = refl
noted-alike e another h = refl

not-words : {C : Type 0} (b : Bool) {w : Word Ends} → cond {A = Kind Ends} b null another ≡ words w → C
not-words true e = absurd (let z : ◌≡◌ {A = ℕ} 0 1 = cc in omega arith)
not-words false e = absurd (let z : ◌≡◌ {A = ℕ} 0 1 = cc in omega arith)

pub word-noted : (t : Node Ends) (w : Word Ends) → kind t ≡ words w → w.note ≡ note_of t
unfolding kind
word-noted (uint p n) w e = absurd (let z : ◌≡◌ {A = ℕ} 0 1 = cc in omega arith)
word-noted (nint p n) w e = absurd (let z : ◌≡◌ {A = ℕ} 0 1 = cc in omega arith)
word-noted (bytes p b) w e = absurd (let z : ◌≡◌ {A = ℕ} 0 1 = cc in omega arith)
word-noted (text p b) w e = let z : record { note = p; letters = b } ≡ w = cc in ap (λ (x : Word Ends). x.note) (sym z)
word-noted (chunked_bytes p b) w e = absurd (let z : ◌≡◌ {A = ℕ} 0 1 = cc in omega arith)
word-noted (chunked_text p b) w e = absurd (let z : ◌≡◌ {A = ℕ} 0 1 = cc in omega arith)
word-noted (array p l) w e = absurd (let z : ◌≡◌ {A = ℕ} 0 1 = cc in omega arith)
word-noted (dict p l) w e = absurd (let z : ◌≡◌ {A = ℕ} 0 1 = cc in omega arith)
word-noted (tag p n t) w e = absurd (let z : ◌≡◌ {A = ℕ} 0 1 = cc in omega arith)
word-noted (simple p n) w e = not-words (eqb n 22) e
word-noted (float p n b) w e = absurd (let z : ◌≡◌ {A = ℕ} 0 1 = cc in omega arith)

-- a name stands where its key does
pub name-noted : (p : Pair Ends) → (named_anyway p).name.note ≡ note_of p.key
name-noted p = noted-alike (note_of p.key) (kind p.key) (word-noted p.key)

name-kind : (e : Ends) (v : Node Ends) (k : Kind Ends) → is_some (key_kind k) ≡ true → name_kind v k ≡ pass (record { name = word_or e k; value = v })
unfolding name_kind key_kind is_some
name-kind e v (number n) h = absurd (let z : ◌≡◌ {A = ℕ} 0 1 = cc in omega arith)
name-kind e v (words w) h = refl
name-kind e v (list l) h = absurd (let z : ◌≡◌ {A = ℕ} 0 1 = cc in omega arith)
name-kind e v (mapping l) h = absurd (let z : ◌≡◌ {A = ℕ} 0 1 = cc in omega arith)
name-kind e v null h = absurd (let z : ◌≡◌ {A = ℕ} 0 1 = cc in omega arith)
name-kind e v another h = absurd (let z : ◌≡◌ {A = ℕ} 0 1 = cc in omega arith)

name-is : (p : Pair Ends) → is_some (key_of p) ≡ true → name_of p ≡ pass (named_anyway p)
unfolding name_of key_of
name-is p h = name-kind (note_of p.key) p.value (kind p.key) h

names-are : (i : ℕ) (ps : List (Pair Ends)) → all (λ p. is_some (key_of p)) ps ≡ true → each (λ i. name_of) i ps ≡ pass (map named_anyway ps)
names-are i [] h = refl
names-are i (p ∷ ps) h = let k = both_true (is_some (key_of p)) (all (λ p. is_some (key_of p)) ps) h in rw (name-is p k.0, names-are (suc i) ps k.1) refl

-- ---------------------------------------------------------------- the order

module _ (limit : ℕ) (t : Node Ends) (ps : List (Pair Ends)) (is : kind t ≡ mapping ps) where
  abbrev after_texts : List (Named Ends) → List (Step Ends)
  after_texts ns = (COUNT at note_of t unless leb (length ns) limit) ++ same_name_steps [] ns

  abbrev after_keys : List (Named Ends) → List (Step Ends)
  after_keys ns = every TEXT (λ n. n.name.note) (λ n. utf8 n.name.letters) ns ++ after_texts ns

  pub keys-first : first (name_steps limit t) ≡ or_else (first (key_steps ps)) (first (Step.◌>>=◌ (given (each (λ i. name_of) 0 ps)) after_keys))
  unfolding name_steps mapping_steps a_mapping as_mapping
  keys-first = rw is (first-++ (key_steps ps) (Step.◌>>=◌ (given (each (λ i. name_of) 0 ps)) after_keys))

  module _ (texts : all (λ p. is_some (key_of p)) ps ≡ true) where
    pub utf8-first : first (name_steps limit t) ≡ or_else (first (utf8_steps ps)) (first (after_texts (map named_anyway ps)))
    unfolding key_steps utf8_steps or_else
    utf8-first =
        let a : first (name_steps limit t) ≡ first (after_keys (map named_anyway ps)) =
        keys-first ∙ (rw (every-right KEY (λ (p : Pair Ends). note_of p.key) (λ p. is_some (key_of p)) ps texts, names-are 0 ps texts) refl) in
        a ∙ first-++ (every TEXT (λ n. n.name.note) (λ n. utf8 n.name.letters) (map named_anyway ps)) (after_texts (map named_anyway ps))
        ∙ ap (λ s. or_else (first s) (first (after_texts (map named_anyway ps))))
        (every_map TEXT named_anyway (λ n. n.name.note) (λ n. utf8 n.name.letters) (λ p. note_of p.key) (λ p. utf8 (letters_of p)) name-noted (λ p. ap utf8 (letters-of p)) ps)

    pub count-first : all (λ p. utf8 (letters_of p)) ps ≡ true → (b : Bool) → leb (length ps) limit ≡ b
        → first (name_steps limit t) ≡ cond b (first (same_name_steps [] (map named_anyway ps))) (some (step_of COUNT (note_of t) b))
    unfolding utf8_steps or_else
    count-first utf b e =
        utf8-first
        ∙ (rw (every-right TEXT (λ (p : Pair Ends). note_of p.key) (λ p. utf8 (letters_of p)) ps utf, length-map ps named_anyway, e) refl)

-- ---------------------------------------------------------------- repeats

-- names that differ up to one, and with it no more: it is the leftmost second copy
copy-from : (before : List (List ℕ)) (r : ℕ) (ps : List (Pair Ends)) → first (same_name_steps before (take r (map named_anyway ps))) ≡ none
    → (first (same_name_steps before (take (suc r) (map named_anyway ps))) ≡ none → ⊥) → shown (first (same_name_steps before (map named_anyway ps))) ≡ spot TWICE (left_both (nth r ps)).key
unfolding same_name_steps shown nth left_both
copy-from before zero [] e f = absurd (f refl)
copy-from before (suc r) [] e f = absurd (f refl)
copy-from before zero (p ∷ ps) e f = go (not (one_of before (named_anyway p).name.letters)) f
  where
    go : (b : Bool) → (cond b none (some (step_of TWICE (named_anyway p).name.note b)) ≡ none → ⊥)
        → shown (cond b (first (same_name_steps ((named_anyway p).name.letters ∷ before) (map named_anyway ps))) (some (step_of TWICE (named_anyway p).name.note b))) ≡ spot TWICE (length (note_of p.key).start)
    go true f = absurd (f refl)
    go false f = ap (λ (w : Ends). spot TWICE (length w.start)) (name-noted p)
copy-from before (suc r) (p ∷ ps) e f = go (not (one_of before (named_anyway p).name.letters)) e f (copy-from ((named_anyway p).name.letters ∷ before) r ps)
  where
    rest : List (Named Ends) → Option (Step Ends)
    rest ns = first (same_name_steps ((named_anyway p).name.letters ∷ before) ns)

    go : (b : Bool) → cond b (rest (take r (map named_anyway ps))) (some (step_of TWICE (named_anyway p).name.note b)) ≡ none
        → (cond b (rest (take (suc r) (map named_anyway ps))) (some (step_of TWICE (named_anyway p).name.note b)) ≡ none → ⊥)
        → (rest (take r (map named_anyway ps)) ≡ none → (rest (take (suc r) (map named_anyway ps)) ≡ none → ⊥) → shown (rest (map named_anyway ps)) ≡ spot TWICE (left_both (nth r ps)).key)
        → shown (cond b (rest (map named_anyway ps)) (some (step_of TWICE (named_anyway p).name.note b))) ≡ spot TWICE (left_both (nth r ps)).key
    go true e f ih = ih e f
    go false e f ih = absurd (let z : ◌≡◌ {A = ℕ} 0 1 = cc in omega arith)

module _ (ns : List (Named Ends)) where
  pub none-twice : distinct (map (λ n. n.name.letters) ns) ≡ true → first (same_name_steps [] ns) ≡ none
  none-twice e = first_passes (same_name_steps [] ns) (TWICE unless distinct (map (λ n. n.name.letters) ns)) (agree-same-names ns) tt (rw e refl)

  some-twice : distinct (map (λ n. n.name.letters) ns) ≡ false → first (same_name_steps [] ns) ≡ none → ⊥
  some-twice e n =
      let a : Step.refusal (first (same_name_steps [] ns)) ≡ _ = (agree-same-names ns).same in
      let b = rw (n, e) at a in
      let z : ◌≡◌ {A = ℕ} 0 1 = cc in omega arith

letters-take : (r : ℕ) (ps : List (Pair Ends)) → map (λ (n : Named Ends). n.name.letters) (take r (map named_anyway ps)) ≡ take r (map letters_of ps)
letters-take zero ps = refl
letters-take (suc r) [] = refl
letters-take (suc r) (p ∷ ps) = ap₂ {C = List (List ℕ)} (λ x l. x ∷ l) (letters-of p) (letters-take r ps)

letters-map : (ps : List (Pair Ends)) → map (λ (n : Named Ends). n.name.letters) (map named_anyway ps) ≡ map letters_of ps
letters-map [] = refl
letters-map (p ∷ ps) = ap₂ {C = List (List ℕ)} (λ x l. x ∷ l) (letters-of p) (letters-map ps)

listed-take : (f : ℕ → List ℕ) (i r n : ℕ) → r ≤ n → listed f i r ≡ take r (listed f i n)
unfolding listed
listed-take f i zero n l = refl
listed-take f i (suc r) zero l = absurd (omega (arith, l))
listed-take f i (suc r) (suc n) l = ap {B = List (List ℕ)} (λ x. f i ∷ x) (listed-take f (suc i) r n (omega (arith, l)))

module _ (f : ℕ → List ℕ) (n : ℕ) (ps : List (Pair Ends)) (names : listed f 0 n ≡ map letters_of ps) where
  pub no_copy : Leading f n n → spot 0 0 ≡ shown (first (same_name_steps [] (map named_anyway ps)))
  unfolding shown
  no_copy h = sym (ap shown (none-twice (map named_anyway ps) (ap distinct (letters-map ps ∙ sym names) ∙ differ-once f h.differ)))

  prefix : (r : ℕ) → r ≤ n → distinct (map (λ (n : Named Ends). n.name.letters) (take r (map named_anyway ps))) ≡ distinct (listed f 0 r)
  prefix r l = ap distinct (letters-take r ps ∙ ap (take r) (sym names) ∙ sym (listed-take f 0 r n l))

  pub a_copy : (r : ℕ) → Leading f n r → r < n → shown (first (same_name_steps [] (map named_anyway ps))) ≡ spot TWICE (left_both (nth r ps)).key
  a_copy r h l =
      copy-from [] r ps (none-twice (take r (map named_anyway ps)) (prefix r h.most ∙ differ-once f h.differ))
      (some-twice (take (suc r) (map named_anyway ps)) (prefix (suc r) (omega (arith, l)) ∙ copy-twice f (h.copied l) (omega arith)))
