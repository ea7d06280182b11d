-- A branch of the small functions each, and one turn of the walk.
use Prim.Native.Nat.{ℕ, zero, suc, ◌+◌, ◌-◌, ◌*◌, ◌^◌, ◌≤◌, ◌<◌}
use native.Mathlib.Omega.{arith}
use mathlib.Core.List.{List, [], ◌∷◌}
use mathlib.Core.Bool.{Bool, cond}
use mathlib.Core.Path.{◌≡◌, refl, ap, sym, ◌∙◌, subst}
use lib.ListN.{length, get_or, take, drop, replicate, length-drop, length-replicate}
use borrow.Author.Tests.{eq-eqb, ne_eqb, lt-ltb, le-ltb}
use borrow.Author.Rules.{part_to_end}
use Rattle.types.specs.Known.{field_at}
use Rattle.meaning.specs.Tree.{Pair, note_of}
use Rattle.meaning.specs.Field.{key_of}
use Rattle.meaning.specs.Layouts.{Slots, layout_of}
use Rattle.cbor.specs.Ending.{code, item_end}
use Rattle.walk.specs.Reading.{Ends, Reads, Chain, Due, foldl}
use Rattle.walk.proofs.ReadSays.{note-of}
use Rattle.walk.proofs.Passed as walked
use Rattle.walk.proofs.Passed.{Here, Passed, Folds}
use Rattle.walk.specs.Places.{Modes, TextIs, EntryIs as TurnIs}
use Rattle.walk.specs.declared.Entry.{Entry}
use Rattle.walk.specs.declared.Entry.TheVariants.{End, Value}
use Rattle.walk.specs.declared.Letters.{Letters}
use Rattle.walk.proofs.Found.{no-levels}
use Rattle.fields.specs.Slots.{slot_of, marked, marks, SlotIs}
use Rattle.fields.proofs.Marks.{AllSome}
use Rattle.fields.proofs.MarkedSlots.{marks-step, marked-length}
use Rattle.fields.proofs.Texts as texts
use Rattle.fields.proofs.Stands.{some_left}
use Rattle.explained.proofs.Repeat.{keys_after}
use Rattle.keys.specs.Odd.{slots_at, odd, first_or, after_key, after_copy, Noted}
use Rattle.keys.proofs.Leftmost.{State, step, KeysSome, slots-are, key-is, copy_is}
use Rattle.std.specs.Prelude.{Some, None, Option}

module _ (seen left : ℕ) where
  pub none_seen : seen ≡ 0 → left ≡ first_or seen left
  unfolding first_or
  none_seen e = rw (eq-eqb seen 0 e)

  pub one_seen : (seen ≡ 0 → ⊥) → seen ≡ first_or seen left
  unfolding first_or
  one_seen e = rw (ne_eqb seen 0 e)

module _ (known slot left seen : ℕ) where
  pub is_odd : {r : ℕ} → slot ≡ known + 1 → r ≡ first_or seen left → r ≡ after_key known slot left seen
  unfolding after_key
  is_odd e f = f ∙ ap (λ (b : Bool). cond b (first_or seen left) seen) (sym (eq-eqb slot (known + 1) e))

  pub not-odd : (slot ≡ known + 1 → ⊥) → seen ≡ after_key known slot left seen
  unfolding after_key
  not-odd e = ap (λ (b : Bool). cond b (first_or seen left) seen) (sym (ne_eqb slot (known + 1) e))

module _ (known slot held left seen : ℕ) where
  pub first-copy : slot < known → held ≡ 0 → seen ≡ after_copy known slot held left seen
  unfolding after_copy
  first-copy l e = rw (lt-ltb slot known l, eq-eqb held 0 e)

  pub a_copy : {r : ℕ} → slot < known → (held ≡ 0 → ⊥) → r ≡ first_or seen left → r ≡ after_copy known slot held left seen
  unfolding after_copy
  a_copy l e f = f ∙ (rw (lt-ltb slot known l, ne_eqb held 0 e) refl)

  pub unknown : known ≤ slot → seen ≡ after_copy known slot held left seen
  unfolding after_copy
  unknown l = rw (le-ltb slot known l)

module _ (level : ℕ) where
  pub of-root : level ≡ 0 → (l : ℕ) → slots_at l level ≡ (layout_of l).root
  unfolding slots_at
  of-root e l = rw (eq-eqb level 0 e)

  pub of-object : (level ≡ 0 → ⊥) → level ≡ 1 → (l : ℕ) → slots_at l level ≡ (layout_of l).object
  unfolding slots_at
  of-object e f l = rw (ne_eqb level 0 e, eq-eqb level 1 f)

  pub of-component : (level ≡ 0 → ⊥) → (level ≡ 1 → ⊥) → (l : ℕ) → slots_at l level ≡ (layout_of l).component
  unfolding slots_at
  of-component e f l = rw (ne_eqb level 0 e, ne_eqb level 1 f)

-- how many fields a level has, whatever the layout
abbrev pub HowMany : ℕ → ℕ → Type 0
HowMany level m = (l : ℕ) → length (slots_at l level) ≡ m

pub three-known : (level : ℕ) → level ≡ 0 → HowMany level 3
three-known level e l = ap length (of-root level e l) ∙ (layout_of l).root_places

pub five-known : (level : ℕ) → (level ≡ 0 → ⊥) → level ≡ 1 → HowMany level 5
five-known level e f l = ap length (of-object level e f l) ∙ (layout_of l).object_places

pub seven-known : (level : ℕ) → (level ≡ 0 → ⊥) → (level ≡ 1 → ⊥) → HowMany level 7
seven-known level e f l = ap length (of-component level e f l) ∙ (layout_of l).component_places

module _ (layout level : ℕ) (k : List ℕ) {r : ℕ} where
  pub root-named : level ≡ 0 → r ≡ field_at (layout_of layout).root k → r ≡ field_at (slots_at layout level) k
  root-named e is = is ∙ ap (λ (n : Slots). field_at n k) (sym (of-root level e layout))

  pub object-named : (level ≡ 0 → ⊥) → level ≡ 1 → r ≡ field_at (layout_of layout).object k → r ≡ field_at (slots_at layout level) k
  object-named e f is = is ∙ ap (λ (n : Slots). field_at n k) (sym (of-object level e f layout))

  pub component-named : (level ≡ 0 → ⊥) → (level ≡ 1 → ⊥) → r ≡ field_at (layout_of layout).component k → r ≡ field_at (slots_at layout level) k
  component-named e f is = is ∙ ap (λ (n : Slots). field_at n k) (sym (of-component level e f layout))

-- ---------------------------------------------------------------- the slot of a key that is lent whole to `walk::text`, which answered v

module _ (layout level : ℕ) (s : List ℕ) (v : Option Letters) (h : TextIs (Here s 0) v) where
  module _ (e : v ≡ None) (m : ℕ) (many : HowMany level m) where
    pub odd-within : m + 1 ≤ length (slots_at layout level) + 1
    odd-within = let k = many layout in omega arith

    pub slot-odd : SlotIs (slots_at layout level) s (m + 1)
    slot-odd = let z : suc m ≡ m + 1 = omega arith in subst (SlotIs (slots_at layout level) s) z (texts.slot-odd s v h e (slots_at layout level) m (many layout))

  module _ (at n : ℕ) (e : v ≡ Some (record { at = at; size = n })) {k : ℕ} (is : k ≡ field_at (slots_at layout level) (take (at + n - at) (drop at s))) where
    found : (k ≤ suc (length (slots_at layout level))) × SlotIs (slots_at layout level) s k
    found = texts.slot-known s v h at n e (slots_at layout level) (length (slots_at layout level)) refl k is

    pub known-within : k ≤ length (slots_at layout level) + 1
    known-within = let l = found.0 in omega arith

    pub slot-known : SlotIs (slots_at layout level) s k
    slot-known = found.1

-- ---------------------------------------------------------------- the walk

pub chain-some : (d : ℕ) (s : List ℕ) (ps : List (Pair Ends)) (r : List ℕ) → Chain d s ps r → AllSome ps × KeysSome ps
chain-some d s [] r h = (tt, tt)
chain-some d s (p ∷ ps) r h =
    let k = chain-some d h.1 ps r h.4 in
    ((some_left d h.0 p.value h.1 h.3, k.0), (some_left d s p.key h.0 h.2, k.1))

zeros : (n j : ℕ) → ◌≡◌ {A = ℕ} (get_or {A = ℕ} (replicate n 0) j 0) 0
zeros zero j = refl
zeros (suc n) zero = refl
zeros (suc n) (suc j) = zeros n j

abbrev pub begun : Slots → State
begun ns = record { slots = replicate (length ns + 3) 0; key = 0; again = 0 }

noted : (ns : Slots) (d mode count : ℕ) (s p : List ℕ) (key again : ℕ)
    → ((ps : List (Pair Ends)) (r : List ℕ) → Due d mode count s ps r → ◌≡◌ {A = State} (record { slots = p; key = key; again = again }) (foldl (step ns) (begun ns) ps))
    → Noted ns d mode count s p (odd key again)
unfolding first_or keys_after
noted ns d mode count s p key again f ps r h =
    let e = f ps r h in
    let a = chain-some d s ps r h.chain in (
      ap (λ (x : State). x.slots) e ∙ slots-are ns (begun ns) ps,
      ap (λ (x : State). x.key) e ∙ key-is ns (begun ns) ps a.1,
      ap (λ (x : State). x.again) e ∙ copy_is ns (replicate (length ns + 3) 0) (zeros (length ns + 3)) (length-replicate (length ns + 3) 0) [] tt (begun ns) refl ps a.1 a.0,
    )

-- one key more
turned-at : (ns : Slots) (m d : ℕ) → length ns ≡ m → (s : List ℕ) (at v : ℕ) (st : State) (j : ℕ) → SlotIs ns (drop at s) j → (p : List ℕ) (key again : ℕ)
    → p ≡ marked m st.slots j (length s - v) → key ≡ after_key m j (length s - at) st.key → again ≡ after_copy m j (get_or st.slots j 0) (length s - at) st.again
    → (q : Pair Ends) (r₁ r₂ : List ℕ) → Reads (suc d) (drop at s) q.key r₁ → Reads (suc d) (drop v s) q.value r₂
    → ◌≡◌ {A = State} (record { slots = p; key = key; again = again }) (step ns st q)
unfolding key_of
turned-at ns m d places s at v st j slot p key again ep ek ea q r₁ r₂ k w =
    let left : length (note_of q.key).start ≡ length s - at = ap (λ (x : Ends). length x.start) (note-of (suc d) (drop at s) q.key r₁ k) ∙ length-drop at s in
    let same : j ≡ slot_of ns (key_of q) = slot d q.key r₁ k in
    let a : p ≡ marks ns st.slots q = marks-step ns m places d s at v st.slots p j slot ep q r₁ r₂ k w in
    rw (left, ← same, places, ← a, ← ek, ← ea) refl

turned : (ns : Slots) (m left : ℕ) → length ns ≡ m → (s : List ℕ) (at v : ℕ) (st : State) (j : ℕ) → SlotIs ns (drop at s) j → (p : List ℕ) (key again : ℕ)
    → p ≡ marked m st.slots j (length s - v) → key ≡ after_key m j (length s - at) st.key → again ≡ after_copy m j (get_or st.slots j 0) (length s - at) st.again
    → (q : Pair Ends) (r₁ r₂ : List ℕ) → Reads left (drop at s) q.key r₁ → Reads left (drop v s) q.value r₂
    → ◌≡◌ {A = State} (record { slots = p; key = key; again = again }) (step ns st q)
turned ns m zero places s at v st j slot p key again ep ek ea q r₁ r₂ k w = absurd (no-levels (drop at s) q.key r₁ k)
turned ns m (suc d) places s at v st j slot p key again ep ek ea q r₁ r₂ k w = turned-at ns m d places s at v st j slot p key again ep ek ea q r₁ r₂ k w

-- ---------------------------------------------------------------- the loop

-- up to `at`, with `due` items due
pub record Inv (ns : Slots) (left mode count : ℕ) (s : List ℕ) (at due : ℕ) (p : List ℕ) (key again : ℕ) : Type 0 where
  pub walking : Passed left mode count s at due (Folds (step ns) (begun ns) (record { slots = p; key = key; again = again }))
  pub room : length p ≡ length ns + 3

pub begins : {ns : Slots} {left mode count : ℕ} {s p : List ℕ} → length s * 1 < 2 ^ 63 → p ≡ replicate (length ns + 3) 0 → Modes mode count → Inv ns left mode count s 0 count p 0 0
begins {ns} lent e modes = record {
  walking = walked.passed-starts modes (omega arith) (record { is = ap (λ (x : List ℕ). record { slots = x; key = 0; again = 0 }) e });
  room = ap length e ∙ length-replicate (length ns + 3) 0;
}

pub slot-low : (layout level m : ℕ) → HowMany level m → {j : ℕ} → j ≤ length (slots_at layout level) + 1 → j ≤ m + 1
slot-low layout level m many l = let k = many layout in omega arith

-- a turn, in the code's terms
module _ (layout level : ℕ) {left mode count at due key again : ℕ} {s p : List ℕ} (w : Inv (slots_at layout level) left mode count s at due p key again) where
  pub as_long : {p₀ : List ℕ} → p₀ ≡ replicate (length (slots_at layout level) + 3) 0 → length p ≡ length p₀
  as_long e = w.room ∙ sym (ap length e ∙ length-replicate (length (slots_at layout level) + 3) 0)

  pub slot-inside : {j : ℕ} → j ≤ length (slots_at layout level) + 1 → j < length p
  slot-inside l = let r = w.room in omega arith

  -- what `mark` asks
  pub all_placed : (m : ℕ) → HowMany level m → m + 3 ≤ length p
  all_placed m many = let r = w.room in let k = many layout in omega arith

  module _ {x : Entry} (h : TurnIs left mode due (Here s at) x) where
    pub ends : {e : ℕ} → x ≡ End e → Noted (slots_at layout level) left mode count s p (odd key again)
    ends is = noted (slots_at layout level) left mode count s p key again (λ ps r d. (walked.holds-of-all w.walking h is ps r d).is)

    module _ {k : ℕ} (is : x ≡ Value k) {e : ℕ} (skipped : e ≡ code (item_end left (Here s (at + k)))) where
      pub unread : length s - (at + k) < e → Noted (slots_at layout level) left mode count s p (odd key again)
      unread l = walked.no_pairs w.walking h is skipped l _

      module _ (l : e ≤ length s - (at + k)) where
        pub goes_on : (m : ℕ) → HowMany level m → (j : ℕ) → SlotIs (slots_at layout level) (Here s at) j → {p' : List ℕ} {key' again' : ℕ} → p' ≡ marked m p j (length s - (at + k))
            → key' ≡ after_key m j (length s - at) key → again' ≡ after_copy m j (get_or p j 0) (length s - at) again
            → Inv (slots_at layout level) left mode count s (at + k + e) (due - 2) p' key' again'
        goes_on m many j slot {p'} {key'} {again'} marks-it keyed copied = record {
          walking = walked.folds-on w.walking h is skipped l (λ q a b.
              turned (slots_at layout level) m left (many layout) s at (at + k) (record { slots = p; key = key; again = again }) j
              (subst (λ u. SlotIs (slots_at layout level) u j) (part_to_end s at) slot) p' key' again' marks-it keyed copied q _ _ a b);
          room = ap length marks-it ∙ marked-length m p j (length s - (at + k)) ∙ w.room;
        }
