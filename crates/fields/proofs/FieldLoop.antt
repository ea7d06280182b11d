-- A turn of the loop over the entries of a map that keeps what it finds in one field: what was noted of the pairs passed, and of one more. For every such walker.
use Prim.Native.Nat.{ℕ, suc, ◌+◌, ◌-◌, ◌≤◌, ◌<◌}
use native.Mathlib.Omega.{arith}
use mathlib.Core.List.{List, [], ◌∷◌, ◌++◌}
use mathlib.Core.Logic.{⊎_elim}
use mathlib.Core.Bool.{true}
use mathlib.Core.Option.{Option, none, some}
use mathlib.Core.Path.{◌≡◌, refl, sym, ap, ◌∙◌, subst}
use lib.ListN.{length, get_or, drop, replicate, length-replicate}
use borrow.Author.Rules.{part_to_end}
use Rattle.endian.proofs.Which.{eq-or}
use Rattle.meaning.specs.Tree.{Node, Pair}
use Rattle.meaning.specs.Text.{distinct}
use Rattle.meaning.specs.Layouts.{Slots, slot, somes}
use Rattle.meaning.specs.Field.{key_of, get, field}
use Rattle.cbor.specs.Ending.{FAULT, code, item_end, rest}
use Rattle.walk.specs.Reading.{Ends, Reads, Chain, foldl}
use Rattle.walk.specs.Places.{EntryIs, Modes}
use Rattle.walk.specs.declared.Entry.{Entry}
use Rattle.walk.specs.declared.Entry.TheVariants.{End, Value}
use Rattle.walk.proofs.Passed as passed
use Rattle.walk.proofs.Passed.{Passed, foldl-snoc}
use Rattle.fields.specs.Slots.{slot_of, marked, marks, SlotIs}
use Rattle.fields.specs.FieldWalk.{Held, Noted, Walked, ValueIs}
use Rattle.fields.proofs.Texts.{Here}
use Rattle.fields.proofs.MarkedSlots.{marks-step, marked-length}
use Rattle.fields.proofs.Snoc.{first-is, as_before}

chain_snoc : (d : ℕ) (s : List ℕ) (done : List (Pair Ends)) (m : List ℕ) (p : Pair Ends) (k q : List ℕ) → Chain d s done m → Reads d m p.key k → Reads d k p.value q → Chain d s (done ++ p ∷ []) q
chain_snoc d s [] m p k q e key value = (k, q, subst (λ u. Reads d u p.key k) (sym e) key, value, refl)
chain_snoc d s (x ∷ done) m p k q h key value = (h.0, h.1, h.2, h.3, chain_snoc d h.1 done m p k q h.4 key value)

-- ---------------------------------------------------------------- the invariant

module _ {S : Type 0} (ns : Slots) (width i : ℕ) (Says : Node Ends → S → Type 0) (d : ℕ) where
  -- the pairs `done` of a map in s stand before `at`, and this is noted of them
  pub record Noting (s : List ℕ) (at : ℕ) (p : List ℕ) (kept : S) (done : List (Pair Ends)) : Type 0 where
    pub chain : Chain (suc d) s done (drop at s)
    pub noted : Noted ns width i Says p kept done

  -- up to `at`, with n items due
  pub record Looping (mode count : ℕ) (s : List ℕ) (at n : ℕ) (p : List ℕ) (kept : S) : Type 0 where
    pub places : length ns ≡ width
    pub known : i < width
    pub apart : distinct (somes ns) ≡ true
    pub walking : Passed (suc d) mode count s at n (Noting s at p kept)
    pub slots : length p ≡ width + 3

-- slots that are no more and no fewer than at the start
pub slots-stay : (n : ℕ) (p before : List ℕ) → length p ≡ n → before ≡ replicate n 0 → length p ≡ length before
slots-stay n p before l e = l ∙ sym (ap length e ∙ length-replicate n 0)

no_field : (o : Option (List ℕ)) (t : Node Ends) → field o [] ≡ some t → ⊥
unfolding get field
no_field none t g = let z : ◌≡◌ {A = ℕ} 0 1 = cc in omega arith
no_field (some n) t g = let z : ◌≡◌ {A = ℕ} 0 1 = cc in omega arith

module _ {S : Type 0} {ns : Slots} {width i : ℕ} {Says : Node Ends → S → Type 0} {d : ℕ} where
  -- ---------------------------------------------------------------- one more pair

  module _ (places : length ns ≡ width) (known : i < width) (apart : distinct (somes ns) ≡ true)
      (s : List ℕ) (at k e : ℕ) (p q : List ℕ) (kept kept' : S) (j : ℕ) (slotted : SlotIs ns (Here s at) j)
      (valued : ValueIs ns width i Says (suc d) j (get_or p i 0) (Here s (at + k)) kept kept') (m : q ≡ marked width p j (length s - (at + k)))
      (done : List (Pair Ends)) (x : Pair Ends) (key : Reads (suc d) (drop at s) x.key (drop (at + k) s)) (value : Reads (suc d) (drop (at + k) s) x.value (drop (at + k + e) s))
      (n : Noting ns width i Says d s at p kept done) where
    slot-there : SlotIs ns (drop at s) j
    slot-there = subst (λ u. SlotIs ns u j) (part_to_end s at) slotted

    slot_is : j ≡ slot_of ns (key_of x)
    unfolding key_of
    slot_is = slot-there d x.key (drop (at + k) s) key

    slots-are : q ≡ foldl (marks ns) (replicate (width + 3) 0) (done ++ x ∷ [])
    slots-are =
        marks-step ns width places d s at (at + k) p q j slot-there m x _ _ key value
        ∙ ap (λ (l : List ℕ). marks ns l x) n.noted.0
        ∙ sym (foldl-snoc (marks ns) (replicate (width + 3) 0) done x)

    is-first : j ≡ i → get_or p i 0 ≡ 0 → Held ns width i Says (done ++ x ∷ []) kept'
    is-first a b y g =
        let z : x.value ≡ y = first-is ns width places i known apart (suc d) s done (drop at s) n.chain p n.noted.0 x b y g in
        let here : Reads (suc d) (Here s (at + k)) x.value (drop (at + k + e) s) = subst (λ u. Reads (suc d) u x.value (drop (at + k + e) s)) (sym (part_to_end s (at + k))) value in
        subst (λ (u : Node Ends). Says u kept') z (valued.first a b x.value (drop (at + k + e) s) here)

    is-other : (j ≡ i → get_or p i 0 ≡ 0 → ⊥) → Held ns width i Says (done ++ x ∷ []) kept'
    is-other h y g =
        let before : field (slot i ns) done ≡ some y = as_before ns width places i known apart (suc d) s done (drop at s) n.chain p n.noted.0 x (λ a. h (slot_is ∙ a)) y g in
        subst (Says y) (sym (valued.other h)) (n.noted.1 y before)

    still-held : Held ns width i Says (done ++ x ∷ []) kept'
    still-held =
        ⊎_elim (λ a. ⊎_elim (λ b. is-first a b) (λ b. is-other (λ a. b)) (eq-or (get_or p i 0) 0)) (λ a. is-other (λ z. absurd (a z))) (eq-or j (i))

    one-more-noted : Noting ns width i Says d s (at + k + e) q kept' (done ++ x ∷ [])
    one-more-noted = record { chain = chain_snoc (suc d) s done (drop at s) x (drop (at + k) s) (drop (at + k + e) s) n.chain key value; noted = (slots-are, still-held) }

  -- ---------------------------------------------------------------- the loop

  module _ {mode count : ℕ} {s : List ℕ} where
    pub loop-starts : {p : List ℕ} {kept : S} → length ns ≡ width → i < width → distinct (somes ns) ≡ true → Modes mode count → length s < FAULT → p ≡ replicate (width + 3) 0
        → Looping ns width i Says d mode count s 0 count p kept
    loop-starts places known apart modes short e = record {
      places = places;
      known = known;
      apart = apart;
      walking = passed.passed-starts modes short (record { chain = refl; noted = (e, λ x g. absurd (no_field (slot i ns) x g)) });
      slots = ap length e ∙ length-replicate (width + 3) 0;
    }

    module _ {at n : ℕ} {p : List ℕ} {kept : S} (w : Looping ns width i Says d mode count s at n p kept) where
      pub still-due : 1 ≤ mode → 0 < n
      still-due = passed.still-due w.walking

      module _ {x : Entry} (h : EntryIs (suc d) mode n (Here s at) x) where
        module _ {e : ℕ} (is : x ≡ End e) where
          pub ends-inside : e ≤ length s - at → (at + e ≡ code (rest mode count (suc d) s)) × Walked ns width i Says (suc d) mode count s p kept
          ends-inside l = let y = passed.ends-inside w.walking h is l in (y.0, λ ps r d. (y.1 ps r d).noted)

          pub ends-faulty : length s - at < e → (e ≡ code (rest mode count (suc d) s)) × Walked ns width i Says (suc d) mode count s p kept
          ends-faulty l = let y = passed.ends-faulty w.walking h is l in (y.0, λ ps r d. (y.1 ps r d).noted)

        module _ {k : ℕ} (is : x ≡ Value k) where
          pub value-inside : at + k ≤ length s
          value-inside = passed.value-inside w.walking h is

          module _ {e : ℕ} (ended : e ≡ code (item_end (suc d) (Here s (at + k)))) where
            pub two-due : 2 ≤ n
            two-due = passed.two-due w.walking h is ended

            pub value-faulty : {kept' : S} → length s - (at + k) < e → (e ≡ code (rest mode count (suc d) s)) × Walked ns width i Says (suc d) mode count s p kept'
            value-faulty l = (passed.value-fails w.walking h is ended l, passed.no_pairs w.walking h is ended l _)

            module _ (l : e ≤ length s - (at + k)) where
              pub goes_on : at < at + k + e
              goes_on = passed.goes_on w.walking h is ended l

              pub next-inside : at + k + e ≤ length s
              next-inside = passed.next-inside w.walking h is ended l

              pub nearer : length s - (at + k + e) < length s - at
              nearer = passed.nearer w.walking h is ended l

              pub loops-on : {j : ℕ} {kept' : S} {q : List ℕ} → SlotIs ns (Here s at) j → ValueIs ns width i Says (suc d) j (get_or p i 0) (Here s (at + k)) kept kept'
                  → q ≡ marked width p j (length s - (at + k)) → Looping ns width i Says d mode count s (at + k + e) (n - 2) q kept'
              loops-on {j} {kept'} {q} slotted valued m = record {
                places = w.places;
                known = w.known;
                apart = w.apart;
                walking = passed.one_more w.walking h is ended l (λ done y few key value noted. one-more-noted w.places w.known w.apart s at _ _ p q kept kept' j slotted valued m done y key value noted);
                slots = ap length m ∙ marked-length width p j (length s - (at + k)) ∙ w.slots;
              }
