-- The walk over a map of names: one key more; and what is noted of them all, judged.
use Rattle.meaning.specs.Check.{◌unless◌}
use Prim.Native.Nat.{ℕ, zero, suc, ◌+◌, ◌-◌, ◌*◌, ◌^◌, ◌≤◌, ◌<◌, min}
use native.Mathlib.Omega.{arith}
use mathlib.Core.List.{List, [], ◌∷◌, ◌++◌, map}
use mathlib.Core.Bool.{Bool, true, false, cond, not, ◌&&◌}
use mathlib.Core.Option.{some}
use mathlib.Core.Path.{◌≡◌, refl, ap, sym, ◌∙◌, subst}
use lib.ListN.{length, drop, length-drop, length-map}
use lib.Seq.{take_all}
use lib.Dec.{leb, eqb}
use borrow.Author.Tests.{le-leb, lt-leb, eq-eqb}
use borrow.Author.Rules.{part_to_end}
use Rattle.meaning.specs.Tree.{Node, Pair, note_of}
use Rattle.meaning.specs.Text.{all, utf8, distinct}
use Rattle.meaning.specs.Refusal.{KIND, KEY, TEXT, COUNT, TWICE}
use Rattle.meaning.specs.Kind.{kind, mapping, a_mapping, as_mapping}
use Rattle.meaning.specs.Field.{is_some, key_of}
use Rattle.meaning.proofs.Tests.{opposite}
use Rattle.cbor.specs.Ending.{FAULT, code, item_end}
use Rattle.walk.specs.Reading.{Ends, Reads}
use Rattle.walk.specs.Places.{MapIs, Modes, EntryIs as TurnIs}
use Rattle.walk.specs.declared.Entry.{Entry}
use Rattle.walk.specs.declared.Entry.TheVariants.{End, Value}
use Rattle.walk.specs.declared.Opening.{Opening}
use Rattle.walk.proofs.ReadSays.{note-of}
use Rattle.walk.proofs.Passed as walked
use Rattle.walk.proofs.Passed.{Here, Passed}
use Rattle.walk.proofs.Opens as opens
use Rattle.walk.proofs.Found.{no-levels}
use Rattle.names.specs.Names.{name, listed, Leading}
use Rattle.naming.specs.NotedNames.{tally, letters_of, named_anyway}
use Rattle.naming.specs.declared.Tally.{Tally}
use Rattle.naming.proofs.NameNoted.{none-noted}
use Rattle.explained.specs.Step.{first}
use Rattle.explained.specs.Order.{mapping_steps, key_steps, same_name_steps, name_steps}
use Rattle.explained.proofs.Agree.{agree-every}
use Rattle.explained.proofs.Repeat.{agree-same-names}
use Rattle.explained.proofs.Why.{refused}
use Rattle.entry.specs.Nth.{nth, left_both, in_table, EntryIs}
use Rattle.entry.specs.declared.Places.{Places}
use Rattle.spot.specs.Shown.{spot, shown}
use Rattle.spot.specs.Shown.{Spot}
use Rattle.badnames.specs.declared.Keys.{Keys}
use Rattle.badnames.specs.Keys.{ByNumber, Tells, utf8_steps, legible, NotedIf, Kept, Walked, Repeated, Judged, NamesAt}
use Rattle.badnames.proofs.Firsts.{shown-here, broken-first, step_of, found_first}
use Rattle.badnames.proofs.NameChecks.{keys-first, utf8-first, count-first, none-twice, no_copy, a_copy}
use Rattle.badnames.proofs.Untested.{none-known}
use Rattle.std.specs.Prelude.{Some, None, Option}

abbrev pub keys_of : Tally → ℕ → ℕ → Keys
keys_of t k x = record { tally = t; key = k; text = x }

-- ---------------------------------------------------------------- the loop

-- up to `at`, with `due` items due
pub record Inv (tested : Bool) (levels mode count : ℕ) (s left₀ : List ℕ) (at due : ℕ) (left size : List ℕ) (t : Tally) (key text : ℕ) : Type 0 where
  pub passed : Passed levels mode count s at due (Kept tested s left size (keys_of t key text))
  pub room : length left ≡ length left₀

none_kept : (tested : Bool) (s left size : List ℕ) → length size ≡ length left → {key text : ℕ} → Kept tested s left size (keys_of (tally 0 false false) key text) []
none_kept tested s left size e = record { known = none-known tested (none-noted s left size e); odd-key = λ h. absurd (let z : ◌≡◌ {A = ℕ} 0 1 = cc in omega arith); bad-text = λ h. absurd (let z : ◌≡◌ {A = ℕ} 0 1 = cc in omega arith) }

pub begins : {tested : Bool} {levels mode count key text : ℕ} {s left size : List ℕ} → length size ≡ length left → Modes mode count → length s * 1 < 2 ^ 63
    → Inv tested levels mode count s left 0 count left size (tally 0 false false) key text
begins {tested} {s = s} {left = left} {size = size} same modes lent = record { passed = walked.passed-starts modes (omega arith) (none_kept tested s left size same); room = refl }

-- the first that isn't UTF-8, of one key more
text-found : (tested : Bool) (done : List (Pair Ends)) (p : Pair Ends) (bad bad' : Bool) (held left : ℕ) → bad ≡ (tested && not (legible done)) → bad' ≡ (tested && not (legible (done ++ p ∷ [])))
    → length (note_of p.key).start ≡ left → (bad ≡ true → shown (first (utf8_steps done)) ≡ spot TEXT held) → bad' ≡ true → shown (first (utf8_steps (done ++ p ∷ []))) ≡ spot TEXT (cond bad held left)
unfolding utf8_steps
text-found true done p bad bad' held left e e' l h b = found_first TEXT (λ p. note_of p.key) (λ p. utf8 (letters_of p)) done p bad bad' held left e e' l h b
text-found false done p bad bad' held left e e' l h b = absurd (let z : ◌≡◌ {A = ℕ} 0 1 = cc in omega arith)

-- one key more
module _ (tested : Bool) (s : List ℕ) (at : ℕ) (inside : at ≤ length s) (t t' : Tally) (left left' size size' : List ℕ) (key text key' text' : ℕ)
    (noted : NotedIf tested (Here s at) t left size t' left' size') (keyed : key' ≡ cond t.odd key (length s - at)) (texted : text' ≡ cond t.bad text (length s - at)) where
  pub one_more : (levels : ℕ) (done : List (Pair Ends)) (p : Pair Ends) (q : List ℕ) → Reads levels (drop at s) p.key q → Kept tested s left size (keys_of t key text) done
      → Kept tested s left' size' (keys_of t' key' text') (done ++ p ∷ [])
  unfolding key_steps
  one_more zero done p q r h = absurd (no-levels (drop at s) p.key q r)
  one_more (suc d) done p q r h =
      let a : Reads (suc d) (Here s at) p.key q = subst (λ u. Reads (suc d) u p.key q) (sym (part_to_end s at)) r in
      let l : length (note_of p.key).start ≡ length s - at = ap (λ (x : Ends). length x.start) (note-of (suc d) (drop at s) p.key q r) ∙ length-drop at s in
      let k = noted.1 s at inside (part_to_end s at) done d p q a h.known in
      record {
        known = k;
        odd-key = λ o. found_first KEY (λ p. note_of p.key) (λ p. is_some (key_of p)) done p t.odd t'.odd key (length s - at) h.known.tallied.oddly k.tallied.oddly l h.odd-key o ∙ ap (spot KEY) (sym keyed);
        bad-text = λ b. text-found tested done p t.bad t'.bad text (length s - at) h.known.badly k.badly l h.bad-text b ∙ ap (spot TEXT) (sym texted);
      }

-- a turn, in the code's terms
module _ {tested : Bool} {levels mode count at due key text : ℕ} {s left₀ left size : List ℕ} {t : Tally} (w : Inv tested levels mode count s left₀ at due left size t key text) where
  pub same-sizes : {n : ℕ} → n ≡ length left₀ → length size ≡ n
  same-sizes e = w.passed.holds.known.tallied.same-room ∙ w.room ∙ sym e

  pub few-noted : t.count < FAULT
  few-noted = let a = w.passed.holds.known.tallied.counted in let b = w.passed.few in let d = w.passed.walking.within in let g = w.passed.short in omega (arith, a, b, d, g)

  module _ {x : Entry} (h : TurnIs levels mode due (Here s at) x) where
    pub ends : {e : ℕ} → x ≡ End e → Walked tested levels mode count s left size (keys_of t key text)
    ends is = walked.holds-of-all w.passed h is

    module _ {k : ℕ} (is : x ≡ Value k) {e : ℕ} (skipped : e ≡ code (item_end levels (Here s (at + k)))) where
      pub unread : length s - (at + k) < e → Walked tested levels mode count s left size (keys_of t key text)
      unread l = walked.no_pairs w.passed h is skipped l _

      pub goes_on : e ≤ length s - (at + k) → {t' : Tally} {left' size' : List ℕ} {key' text' : ℕ} → NotedIf tested (Here s at) t left size t' left' size'
          → key' ≡ cond t.odd key (length s - at) → text' ≡ cond t.bad text (length s - at)
          → Inv tested levels mode count s left₀ (at + k + e) (due - 2) left' size' t' key' text'
      goes_on l {t'} {left'} {size'} {key'} {text'} noted keyed texted =
          let v = walked.value-inside w.passed h is in
          record {
            passed = walked.one_more w.passed h is skipped l
                (λ done p few reads value kept. one_more tested s at (omega (arith, v)) t t' left left' size size' key text key' text' noted keyed texted levels done p (drop (at + k) s) reads kept);
            room = noted.0 ∙ w.room;
          }

-- ---------------------------------------------------------------- repeats

module _ (s : List ℕ) (from levels n : ℕ) (left size : List ℕ) where
  -- the names as they are lent
  abbrev pub lent : ℕ → List ℕ
  lent = name (Here s from) left size

  lent-are : lent ≡ name (drop from s) left size
  lent-are = rw (part_to_end s from) refl

  module _ {k : ℕ} (c : Leading lent n k) where
    leading : Leading (name (drop from s) left size) n k
    leading = subst (λ f. Leading f n k) lent-are c

    pub all-differ : k ≡ n → {r : Spot} → r ≡ spot 0 0 → Repeated s from levels n left size r
    all-differ e is ps names t q reads kt = is ∙ no_copy (name (drop from s) left size) n ps names (subst (Leading (name (drop from s) left size) n) e leading)

    pub a_second : (k ≡ n → ⊥) → (e : Places) → EntryIs levels s k e → {r : Spot} → r ≡ spot TWICE e.key → Repeated s from levels n left size r
    unfolding in_table a_mapping as_mapping
    a_second o e h is ps names t q reads kt =
        let f : e ≡ in_table k (a_mapping t) = h t q reads in
        let g : e ≡ left_both (nth k ps) = f ∙ (rw kt refl) in
        is ∙ ap (λ (x : Places). spot TWICE x.key) g ∙ sym (a_copy (name (drop from s) left size) n ps names k leading (let l = leading.most in omega (arith, l, o)))

-- ---------------------------------------------------------------- judged

module _ (s : List ℕ) (from levels n : ℕ) (keys : Keys) (left size : List ℕ) where
  abbrev KeptOf : List (Pair Ends) → Type 0
  KeptOf = Kept (eqb n TEXT) (drop from s) left size keys

  pub odd-judged : {r : Spot} → keys.tally.odd ≡ true → r ≡ spot KEY keys.key → Judged s from levels n keys left size r
  odd-judged e is ps h t q reads kt by = is ∙ sym (ap shown (keys-first (length left) t ps kt) ∙ shown-here _ _ (omega arith) (h.odd-key e))

  module _ (whole : keys.tally.odd ≡ false) where
    texts : (ps : List (Pair Ends)) → KeptOf ps → all (λ p. is_some (key_of p)) ps ≡ true
    texts ps h = opposite h.known.tallied.oddly false whole

    pub bad-judged : {r : Spot} → keys.tally.bad ≡ true → r ≡ spot TEXT keys.text → Judged s from levels n keys left size r
    bad-judged e is ps h t q reads kt by = is ∙ sym (ap shown (utf8-first (length left) t ps kt (texts ps h)) ∙ shown-here _ _ (omega arith) (h.bad-text e))

    module _ (good : keys.tally.bad ≡ false) (t : Node Ends) (ps : List (Pair Ends)) (kt : kind t ≡ mapping ps) (h : KeptOf ps) (by : ByNumber n (first (name_steps (length left) t))) where
      -- a key that isn't UTF-8 would be to blame, and so was looked for
      all-legible : legible ps ≡ true
      unfolding utf8_steps
      all-legible = go (legible ps) refl
        where
          go : (b : Bool) → legible ps ≡ b → legible ps ≡ true
          go true e = e
          go false e =
              let x = refused (utf8_steps ps) (TEXT unless legible ps) (agree-every TEXT (λ p. note_of p.key) (λ p. utf8 (letters_of p)) ps) TEXT 0 0 (rw e refl) in
              let f : first (name_steps (length left) t) ≡ some x.this = utf8-first (length left) t ps kt (texts ps h) ∙ broken-first _ _ x.shown in
              let asked : eqb n TEXT ≡ true = eq-eqb n TEXT (sym (by x.this f) ∙ x.number) in
              let found : keys.tally.bad ≡ true = h.known.badly ∙ (rw (asked, e) refl) in
              absurd (let z : ◌≡◌ {A = ℕ} 0 1 = cc in omega arith)

      counted : (b : Bool) → leb (length ps) (length left) ≡ b
          → first (name_steps (length left) t) ≡ cond b (first (same_name_steps [] (map named_anyway ps))) (some (step_of COUNT (note_of t) b))
      counted = count-first (length left) t ps kt (texts ps h) all-legible

      few-counted : keys.tally.count ≤ length left → first (name_steps (length left) t) ≡ first (same_name_steps [] (map named_anyway ps))
      few-counted l = let c = h.known.tallied.counted in counted true (le-leb (length ps) (length left) (omega (arith, c, l)))

    module _ (good : keys.tally.bad ≡ false) where
      pub many-judged : {r : Spot} → length left < keys.tally.count → r ≡ spot COUNT (length s) → Judged s from levels n keys left size r
      unfolding shown
      many-judged l is ps h t q reads kt by =
          let c = h.known.tallied.counted in
          is ∙ sym (ap shown (counted good t ps kt h by false (lt-leb (length ps) (length left) (omega (arith, c, l)))) ∙ ap (λ (e : Ends). spot COUNT (length e.start)) (note-of (suc levels) s t q reads))

      -- a repeat would be to blame
      pub once-judged : {r : Spot} → keys.tally.count ≤ length left → (n ≡ TWICE → ⊥) → r ≡ spot 0 0 → Judged s from levels n keys left size r
      unfolding shown
      once-judged {r} l other is ps h t q reads kt by = go (distinct (map (λ m. m.name.letters) (map named_anyway ps))) refl
        where
          f : first (name_steps (length left) t) ≡ first (same_name_steps [] (map named_anyway ps))
          f = few-counted good t ps kt h by l

          go : (b : Bool) → distinct (map (λ m. m.name.letters) (map named_anyway ps)) ≡ b → r ≡ shown (first (name_steps (length left) t))
          go true e = is ∙ sym (ap shown (f ∙ none-twice (map named_anyway ps) e))
          go false e =
              let x = refused (same_name_steps [] (map named_anyway ps)) (TWICE unless distinct (map (λ m. m.name.letters) (map named_anyway ps))) (agree-same-names (map named_anyway ps)) TWICE 0 0 (rw e refl) in
              absurd (other (sym (by x.this (f ∙ x.shown)) ∙ x.number))

      pub few-judged : {r : Spot} → keys.tally.count ≤ length left → Repeated s from levels keys.tally.count left size r → Judged s from levels n keys left size r
      few-judged {r} l repeated ps h t q reads kt by =
          let c = h.known.tallied.counted in
          let z : min (length ps) (length left) ≡ keys.tally.count = omega (arith, c, l) in
          let m = length-map ps letters_of in
          let names : listed (name (drop from s) left size) 0 keys.tally.count ≡ map letters_of ps =
          (rw z at h.known.tallied.listed-are) ∙ take_all (length left) (map letters_of ps) (omega (arith, c, l, m)) in
          repeated ps names t q reads kt ∙ sym (ap shown (few-counted good t ps kt h by l))

-- ---------------------------------------------------------------- the whole

module _ (s : List ℕ) (x : Option Opening) (h : MapIs (Here s 0) x) (levels limit n : ℕ) {r : Spot} where
  pub no-map : x ≡ None → r ≡ spot KIND (length s) → NamesAt levels s limit n r
  unfolding name_steps mapping_steps shown
  no-map e is t q reads by =
      is ∙ sym ((rw (opens.opening s x h None e levels t q reads) refl) ∙ ap (λ (e : Ends). spot KIND (length e.start)) (note-of (suc levels) s t q reads))

  pub of_map : (op : Opening) → x ≡ Some op → {tested : Bool} → tested ≡ eqb n TEXT → (keys : Keys) (left size : List ℕ) → length left ≡ limit
      → Walked tested levels op.mode op.count (Here s op.size) left size keys → Judged s op.size levels n keys left size r → NamesAt levels s limit n r
  of_map op is {tested} asked keys left size room walked judged t q reads =
      let m = (opens.opened s x h op is).trees levels t q reads in
      let w : Kept (eqb n TEXT) (drop op.size s) left size keys m.pairs =
      subst (λ b. Kept b (drop op.size s) left size keys m.pairs) asked (subst (λ u. Walked tested levels op.mode op.count u left size keys) (part_to_end s op.size) walked m.pairs m.last m.due) in
      subst (λ i. Tells n (first (name_steps i t)) r) room (judged m.pairs w t q reads m.kind-is)
