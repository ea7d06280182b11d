-- The entry of an index, kept while the entries are passed over.
use mathlib.Core.Path.{◌≡◌, refl, ap, sym, ◌∙◌, subst}
use mathlib.Core.List.{List, [], ◌∷◌}
use mathlib.Core.Bool.{Bool, cond}
use Prim.Native.Nat.{ℕ, zero, suc, ◌+◌, ◌-◌, ◌*◌, ◌^◌, ◌≤◌, ◌<◌}
use native.Mathlib.Omega.{arith}
use lib.ListN.{length, drop, length-drop}
use borrow.Author.Tests.{eq-eqb, ne_eqb}
use borrow.Author.Rules.{part_to_end}
use Rattle.meaning.specs.Tree.{Pair, note_of}
use Rattle.meaning.specs.Kind.{a_mapping, as_mapping}
use Rattle.cbor.specs.Ending.{code, item_end}
use Rattle.walk.specs.Reading.{Ends, Reads, foldl}
use Rattle.walk.specs.Places.{MapIs, Modes, EntryIs as TurnIs}
use Rattle.walk.specs.declared.Entry.{Entry}
use Rattle.walk.specs.declared.Entry.TheVariants.{End, Value}
use Rattle.walk.specs.declared.Opening.{Opening}
use Rattle.walk.proofs.Passed.{Here, Passed, Folds}
use Rattle.walk.proofs.ReadSays.{note-of}
use Rattle.walk.proofs.Opens as opens
use Rattle.walk.proofs.Passed as walked
use Rattle.entry.specs.Nth.{places, chosen, nth, left_both, Held, in_table, EntryIs}
use Rattle.entry.specs.declared.Places.{Places}
use Rattle.std.specs.Prelude.{Some, None, Option}

pub record State : Type 0 where
  pub count : ℕ
  pub held : Places

abbrev pub seen : ℕ → State → Pair Ends → State
seen index st p = record { count = st.count + 1; held = chosen index st.count (length (note_of p.key).start) (length (note_of p.value).start) st.held }

abbrev pub none_seen : State
none_seen = record { count = 0; held = places 0 0 }

abbrev after : Pair Ends → ℕ → Places → Bool → State
after p i h b = record { count = i + 1; held = cond b (places (length (note_of p.key).start) (length (note_of p.value).start)) h }

past : (index i : ℕ) (h : Places) (ps : List (Pair Ends)) → index < i → (foldl (seen index) (record { count = i; held = h }) ps).held ≡ h
unfolding chosen
past index i h [] l = refl
past index i h (p ∷ ps) l =
    ap (λ (b : Bool). (foldl (seen index) (after p i h b) ps).held) (ne_eqb i index (λ z. omega (arith, z, l))) ∙ past index (i + 1) h ps (omega (arith, l))

found : (index i j : ℕ) (ps : List (Pair Ends)) → index ≡ i + j → (foldl (seen index) (record { count = i; held = places 0 0 }) ps).held ≡ left_both (nth j ps)
unfolding nth left_both chosen
found index i zero [] e = refl
found index i (suc j) [] e = refl
found index i zero (p ∷ ps) e = ap (λ (b : Bool). (foldl (seen index) (after p i (places 0 0) b) ps).held) (eq-eqb i index (omega (arith, e))) ∙ past index (i + 1) _ ps (omega (arith, e))
found index i (suc j) (p ∷ ps) e =
    ap (λ (b : Bool). (foldl (seen index) (after p i (places 0 0) b) ps).held) (ne_eqb i index (λ y. omega (arith, e, y))) ∙ found index (i + 1) j ps (omega (arith, e))

-- up to `at`, with `due` items due: the entries passed are n, and what is held of them
pub record Inv (left mode count : ℕ) (s : List ℕ) (index at due n : ℕ) (h : Places) : Type 0 where
  pub walking : Passed left mode count s at due (Folds (seen index) none_seen (record { count = n; held = h }))
  pub few : n ≤ at

pub begins : {left mode count : ℕ} {s : List ℕ} {index : ℕ} → Modes mode count → length s * 1 < 2 ^ 63 → {h : Places} → h ≡ places 0 0 → Inv left mode count s index 0 count 0 h
begins modes lent e = record {
  walking = walked.passed-starts modes (omega arith) (record { is = ap (λ (x : Places). record { count = 0; held = x }) e });
  few = omega arith;
}

-- one entry more
one_more : (left index : ℕ) (s : List ℕ) (at v n : ℕ) (h q : Places) → q ≡ chosen index n (length s - at) (length s - v) h
    → (p : Pair Ends) (r₁ r₂ : List ℕ) → Reads left (drop at s) p.key r₁ → Reads left (drop v s) p.value r₂
    → ◌≡◌ {A = State} (record { count = n + 1; held = q }) (seen index (record { count = n; held = h }) p)
one_more left index s at v n h q is p r₁ r₂ key value =
    let a : length (note_of p.key).start ≡ length s - at = ap (λ x. length x.start) (note-of left (drop at s) p.key r₁ key) ∙ length-drop at s in
    let b : length (note_of p.value).start ≡ length s - v = ap (λ x. length x.start) (note-of left (drop v s) p.value r₂ value) ∙ length-drop v s in
    rw (a, b) (ap (λ (x : Places). record { count = n + 1; held = x }) is)

-- a turn, in the code's terms
module _ {left mode count index at due n : ℕ} {s : List ℕ} {held : Places} (w : Inv left mode count s index at due n held) {x : Entry} (h : TurnIs left mode due (Here s at) x) where
  pub ends : {e : ℕ} → x ≡ End e → Held left mode count s index held
  ends is ps r d = ap (λ (y : State). y.held) (walked.holds-of-all w.walking h is ps r d).is ∙ found index 0 index ps (omega arith)

  module _ {k : ℕ} (is : x ≡ Value k) {e : ℕ} (skipped : e ≡ code (item_end left (Here s (at + k)))) where
    pub unread : length s - (at + k) < e → Held left mode count s index held
    unread l = walked.no_pairs w.walking h is skipped l _

    module _ (l : e ≤ length s - (at + k)) where
      pub goes_on : {q : Places} → q ≡ chosen index n (length s - at) (length s - (at + k)) held → Inv left mode count s index (at + k + e) (due - 2) (n + 1) q
      goes_on {q} is-chosen = record {
        walking = walked.folds-on w.walking h is skipped l (λ p key value. one_more left index s at (at + k) n held q is-chosen p _ _ key value);
        few = let f = w.few in let z = walked.goes_on w.walking h is skipped l in omega arith;
      }

-- ---------------------------------------------------------------- the whole

module _ (s : List ℕ) (x : Option Opening) (h : MapIs (Here s 0) x) (left index : ℕ) where
  pub no-entry : x ≡ None → {r : Places} → r ≡ places 0 0 → EntryIs left s index r
  unfolding in_table
  no-entry e is t q r = is ∙ (rw (opens.opening s x h None e left t q r) refl)

  pub of_map : (op : Opening) → x ≡ Some op → (r : Places) → Held left op.mode op.count (Here s op.size) index r → EntryIs left s index r
  unfolding in_table a_mapping as_mapping
  of_map op is r held t q reads =
      let m = (opens.opened s x h op is).trees left t q reads in
      let k = subst (λ u. Held left op.mode op.count u index r) (part_to_end s op.size) held in
      rw m.kind-is (k m.pairs m.last m.due)

module _ (index n key value : ℕ) (h : Places) where
  pub is-chosen : {q : Places} → n ≡ index → q ≡ places key value → q ≡ chosen index n key value h
  unfolding chosen
  is-chosen e f = f ∙ ap (λ (b : Bool). cond b (places key value) h) (sym (eq-eqb n index e))

  pub not_chosen : (n ≡ index → ⊥) → h ≡ chosen index n key value h
  unfolding chosen
  not_chosen e = ap (λ (b : Bool). cond b (places key value) h) (sym (ne_eqb n index e))
