-- A component's judgement from the slots of its pairs: keys, repeats, missing fields, and then the fields themselves.
use mathlib.Core.Path.{◌≡◌, refl, sym, ap, ◌∙◌, subst}
use mathlib.Core.List.{List}
use mathlib.Core.Bool.{Bool, true, false, cond, not, ◌&&◌}
use mathlib.Core.Option.{Option, none, some}
use Prim.Native.Nat.{ℕ, suc, ◌+◌, ◌%◌, ◌<◌}
use native.Mathlib.Omega.{arith}
use lib.ListN.{get_or, replicate}
use lib.Dec.{eqb, leb}
use borrow.Author.Tests.{eq-eqb, ne_eqb, eqb-true, eqb-false}
use borrow.Author.Rules.{part_to_end}
use Rattle.meaning.specs.Tree.{Node, Pair, note_of}
use Rattle.meaning.specs.Check.{Check, pass, refuse, ◌>>=◌, ◌>>◌, ◌unless◌, required, required_in, optional}
use Rattle.meaning.specs.Text.{all}
use Rattle.meaning.specs.Refusal.{ALIGN, BOUNDS}
use Rattle.meaning.specs.Limit.{alignment}
use Rattle.meaning.specs.Model.{Word, Component}
use Rattle.meaning.specs.Kind.{kind, mapping, a_number, a_text, a_mapping, as_mapping, present}
use Rattle.meaning.specs.Field as field
use Rattle.meaning.specs.Layouts.{slot, somes, Layout, dtype_at, current, old, layout_of}
use Rattle.meaning.specs.Judge as judge
use Rattle.meaning.proofs.CurrentIsBase.{bind_assoc}
use Rattle.meaning.proofs.Tests.{not-both, both_left, both_right}
use Rattle.lengths.specs.Place.{place_rule}
use Rattle.walk.specs.Reading.{Ends, Chain, foldl}
use Rattle.fields.specs.Slots.{marks, Holds}
use Rattle.fields.proofs.Stands.{hold-none, Item, hold-some, keys-are-text, none-twice, field-stands}
use Rattle.fields.proofs.Texts.{Here}
use Rattle.component.specs.declared.Judged.{Judged}
use Rattle.component.specs.Value.{code_of}
use Rattle.component.specs.Verdict.{lacks_dtype, known, Kept, storage, Reach, extent, extras, judged, Fields, Found, sound, SoundIs, VerdictIs}
use Rattle.std.specs.Prelude.{Ok, Err, Result}
use Rattle.numbers.specs.declared.refusal.Refusal.{Refusal}
use Rattle.numbers.specs.declared.refusal.Refusal.TheVariants as refusals
use Rattle.numbers.specs.Answered.{answered}

-- ---------------------------------------------------------------- what the slots say, a branch each

module _ (layout : ℕ) (p : List ℕ) where
  pub odd-key : (get_or p 8 0 ≡ 0 → ⊥) → Err refusals.Key ≡ known layout p
  unfolding known
  odd-key e = rw (ne_eqb _ _ e)

  module _ (a : get_or p 8 0 ≡ 0) where
    pub repeated : (get_or p 9 0 ≡ 0 → ⊥) → Err refusals.Twice ≡ known layout p
    unfolding known
    repeated e = rw (eq-eqb _ _ a, ne_eqb _ _ e)

    module _ (b : get_or p 9 0 ≡ 0) where
      module _ (lacks : Bool) (so : lacks ≡ lacks_dtype layout (get_or p 0 0)) where
        pub no-dtype : lacks ≡ true → Err refusals.Missing ≡ known layout p
        unfolding known
        no-dtype e = rw (eq-eqb _ _ a, eq-eqb _ _ b, ← so, e)

        module _ (c : lacks ≡ false) where
          pub no-offset : get_or p 2 0 ≡ 0 → Err refusals.Missing ≡ known layout p
          unfolding known
          no-offset e = rw (eq-eqb _ _ a, eq-eqb _ _ b, ← so, c, eq-eqb _ _ e)

          module _ (d : get_or p 2 0 ≡ 0 → ⊥) where
            pub no_length : get_or p 3 0 ≡ 0 → Err refusals.Missing ≡ known layout p
            unfolding known
            no_length e = rw (eq-eqb _ _ a, eq-eqb _ _ b, ← so, c, ne_eqb _ _ d, eq-eqb _ _ e)

            pub all_known : (get_or p 3 0 ≡ 0 → ⊥) → (Ok tt) ≡ known layout p
            unfolding known
            all_known e = rw (eq-eqb _ _ a, eq-eqb _ _ b, ← so, c, ne_eqb _ _ d, ne_eqb _ _ e)

pub lacks-none : (layout left : ℕ) → layout ≡ 1 → false ≡ lacks_dtype layout left
unfolding lacks_dtype
lacks-none layout left e = rw (eq-eqb layout 1 e) refl

pub lacks-if : (layout left : ℕ) → (layout ≡ 1 → ⊥) → eqb left 0 ≡ lacks_dtype layout left
unfolding lacks_dtype
lacks-if layout left e = rw (ne_eqb layout 1 e) refl

-- ---------------------------------------------------------------- a field that a layout may lack

module _ {A : Type 0} where
  pub asked-for : (name : Option (List ℕ)) (o : Option A) → (field.is_some name ≡ true → o ≡ none → ⊥) → required_in name o ≡ pass o
  unfolding field.is_some
  asked-for none o h = refl
  asked-for (some n) none h = absurd (h refl refl)
  asked-for (some n) (some a) h = refl

  pub asked-in-vain : (name : Option (List ℕ)) (o : Option A) → field.is_some name ≡ true → o ≡ none → required_in name o ≡ refuse 12 0 0
  unfolding field.is_some
  asked-in-vain none o h e = absurd (let z : ◌≡◌ {A = ℕ} 0 1 = cc in omega arith)
  asked-in-vain (some n) o h e = rw e refl

-- a component has its dtype in every layout but 1.0
pub own-dtype : (layout : ℕ) → field.is_some (slot dtype_at (layout_of layout).component) ≡ not (eqb layout 1)
unfolding layout_of current old field.is_some
own-dtype layout = go (eqb layout 1)
  where
    go : (b : Bool) → field.is_some (slot dtype_at (cond b old current).component) ≡ not b
    go true = refl
    go false = refl

pub none_left : (d : ℕ) (s : List ℕ) (l : ℕ) (o : Option (Node Ends)) → Holds d s l o → o ≡ none → l ≡ 0
none_left d s l none h e = h
none_left d s l (some t) h e = absurd (let z : ◌≡◌ {A = ℕ} 0 1 = cc in omega arith)

-- ---------------------------------------------------------------- the order of checks, in pieces

module _ (mk : ℕ → Option (Word Ends) → ℕ → ℕ → Option (Word Ends) → Component Ends) (x : ℕ → Check (Unit {0})) (y : ℕ → ℕ → Check (Unit {0})) where
  blob-regroup : (c : Component Ends) (p q : Check (Unit {0})) → (p >> (q >> pass c)) ≡ ((p >> q) >> pass c)
  blob-regroup c (refuse n i j) q = refl
  blob-regroup c (pass v) q = refl

  extras-regroup : (m : ℕ) (t : Option (Word Ends)) (o l : ℕ) (u : Check (Option ℕ)) (e : Check (Option (Unit {0}))) (g : Check (Option (Word Ends)))
      → (u >> (e >> (g >>= λ w. x o >> (y o l >> pass (mk m t o l w))))) ≡ ((u >> (e >> g)) >>= λ w. (x o >> y o l) >> pass (mk m t o l w))
  extras-regroup m t o l (refuse n i j) e g = refl
  extras-regroup m t o l (pass v) (refuse n i j) g = refl
  extras-regroup m t o l (pass v) (pass z) (refuse n i j) = refl
  extras-regroup m t o l (pass v) (pass z) (pass w) = blob-regroup (mk m t o l w) (x o) (y o l)

  module _ (u : Check (Option ℕ)) (e : Check (Option (Unit {0}))) (g : Check (Option (Word Ends))) where
    abbrev tail_of : ℕ → Option (Word Ends) → ℕ → ℕ → Check (Component Ends)
    tail_of m t o l = u >> (e >> (g >>= λ w. x o >> (y o l >> pass (mk m t o l w))))

    abbrev pieced : Kept → Check Reach → Check (Component Ends)
    pieced k r = r >>= λ a. (u >> (e >> g)) >>= λ w. (x a.offset >> y a.offset a.length) >> pass (mk k.dtype k.type a.offset a.length w)

    abbrev reach : Check ℕ → Check ℕ → Check Reach
    reach c d = c >>= λ o. d >>= λ l. pass (record { offset = o; length = l })

    numbers-regroup : (m : ℕ) (t : Option (Word Ends)) (c d : Check ℕ) → (c >>= λ o. d >>= λ l. tail_of m t o l) ≡ pieced (record { dtype = m; type = t }) (reach c d)
    numbers-regroup m t (refuse n i j) d = refl
    numbers-regroup m t (pass o) (refuse n i j) = refl
    numbers-regroup m t (pass o) (pass l) = extras-regroup m t o l u e g

    types-regroup : (m : ℕ) (b : Check (Option (Word Ends))) (c d : Check ℕ)
        → (b >>= λ t. c >>= λ o. d >>= λ l. tail_of m t o l) ≡ ((b >>= λ t. pass (record { dtype = m; type = t })) >>= λ k. pieced k (reach c d))
    types-regroup m (refuse n i j) c d = refl
    types-regroup m (pass t) c d = numbers-regroup m t c d

    regroup : (a : Check ℕ) (b : ℕ → Check (Option (Word Ends))) (c d : Check ℕ)
        → (a >>= λ m. b m >>= λ t. c >>= λ o. d >>= λ l. tail_of m t o l) ≡ ((a >>= λ m. b m >>= λ t. pass (record { dtype = m; type = t })) >>= λ k. pieced k (reach c d))
    regroup (refuse n i j) b c d = refl
    regroup (pass m) b c d = types-regroup m (b m) c d

-- ---------------------------------------------------------------- the judgement of a map of these pairs

module _ (L : Layout) (above : Option ℕ) (start : ℕ) (t : Node Ends) (ps : List (Pair Ends)) (kt : kind t ≡ mapping ps) (n : Word Ends) where
  abbrev the : Check (Component Ends)
  the = judge.component L start above (record { name = n; value = t })

  -- the field at the place i
  abbrev at : ℕ → Option (Node Ends)
  at i = field.field (slot i L.component) ps

  judged-odd : all (λ q. field.is_some (field.key_of q)) ps ≡ false → answered (Err refusals.Key) ≡ judged the
  unfolding judge.component field.component_fields field.fields a_mapping as_mapping
  judged-odd e = rw kt (rw e refl)

  module _ (a : all (λ q. field.is_some (field.key_of q)) ps ≡ true) where
    judged-twice : all (λ m. leb (field.count m ps) 1) (somes L.component) ≡ false → answered (Err refusals.Twice) ≡ judged the
    unfolding judge.component field.component_fields field.fields a_mapping as_mapping
    judged-twice e = rw kt (rw (a, e) refl)

    module _ (b : all (λ m. leb (field.count m ps) 1) (somes L.component) ≡ true) where
      judged-no-dtype : required_in (slot dtype_at L.component) (at 0) ≡ refuse 12 0 0 → answered (Err refusals.Missing) ≡ judged the
      unfolding judge.component field.component_fields field.fields a_mapping as_mapping
      judged-no-dtype e = rw kt (rw (a, b) (rw e refl))

      module _ (g₁ : required_in (slot dtype_at L.component) (at 0) ≡ pass (at 0)) where
        judged-no-offset : at 2 ≡ none → answered (Err refusals.Missing) ≡ judged the
        unfolding judge.component field.component_fields field.fields a_mapping as_mapping
        judged-no-offset e = rw kt (rw (a, b) (rw (g₁, e) refl))

        module _ (offset : Node Ends) (g₂ : at 2 ≡ some offset) where
          judged-no-length : at 3 ≡ none → answered (Err refusals.Missing) ≡ judged the
          unfolding judge.component field.component_fields field.fields a_mapping as_mapping
          judged-no-length e = rw kt (rw (a, b) (rw (g₁, g₂, e) refl))

          module _ (size : Node Ends) (g₃ : at 3 ≡ some size) where
            abbrev found : Fields
            found = record { dtype = at 0; type = at 1; offset = offset; length = size; unpacked = at 4; encoding = at 5; digest = at 6 }

            judged-sound : the ≡ sound L above start n (note_of t) found
            unfolding judge.component field.component_fields field.fields a_mapping as_mapping sound storage code_of extent extras place_rule
            judged-sound = rw kt (rw (a, b) (rw (g₁, g₂, g₃)
                (sym (bind_assoc (optional (judge.a_dtype L) (at 0)) (λ own. required (judge.or_else own above)) _)
                ∙ regroup (λ d u o l g. record { name = n; dtype = d; type = u; offset = o; length = l; digest = g; entry = note_of t })
                (λ o. ALIGN unless eqb (o % alignment) 0) (λ o l. BOUNDS unless (leb alignment o && leb (o + l) start))
                (optional a_number (present (at 4))) (optional judge.raw (at 5)) (optional a_text (present (at 6)))
                (code_of L above (at 0)) (λ d. optional (judge.a_type d) (present (at 1))) (a_number offset) (a_number size))))

-- ---------------------------------------------------------------- from the slots

module _ (layout : ℕ) (above : Option ℕ) (s : List ℕ) (start : ℕ) (p : List ℕ) where
  module _ (d : ℕ) (ps : List (Pair Ends)) (q : List ℕ) (chain : Chain (suc d) s ps q) (is : p ≡ foldl (marks (layout_of layout).component) (replicate 10 0) ps)
      (t : Node Ends) (kt : kind t ≡ mapping ps) (n : Word Ends) where
    keys : eqb (get_or p 8 0) 0 ≡ all (λ q. field.is_some (field.key_of q)) ps
    keys = keys-are-text (layout_of layout).component 7 (layout_of layout).component_places (suc d) s ps q chain p is

    twice : eqb (get_or p 9 0) 0 ≡ all (λ m. leb (field.count m ps) 1) (somes (layout_of layout).component)
    twice = none-twice (layout_of layout).component 7 (layout_of layout).component_places (suc d) s ps q chain p is

    abbrev value : ℕ → Option (Node Ends)
    value i = field.field (slot i (layout_of layout).component) ps

    stands : (i : ℕ) → i < 7 → Holds (suc d) s (get_or p i 0) (value i)
    stands = field-stands (layout_of layout).component 7 (layout_of layout).component_places (suc d) s ps q chain p is (layout_of layout).component_apart

    there : (i : ℕ) → i < 7 → eqb (get_or p i 0) 0 ≡ false → Item (suc d) s (get_or p i 0) (value i)
    there i l e = hold-some (suc d) s (get_or p i 0) (value i) (stands i l) (eqb-false (get_or p i 0) 0 e)

    nowhere : (i : ℕ) → i < 7 → eqb (get_or p i 0) 0 ≡ true → value i ≡ none
    nowhere i l e = hold-none (suc d) s (get_or p i 0) (value i) (stands i l) (eqb-true (get_or p i 0) 0 e)

    dtype-asked : lacks_dtype layout (get_or p 0 0) ≡ false → required_in (slot dtype_at (layout_of layout).component) (value 0) ≡ pass (value 0)
    unfolding lacks_dtype
    dtype-asked e = asked-for (slot dtype_at (layout_of layout).component) (value 0) (λ has gone. not-both (both (sym (own-dtype layout) ∙ has) (eq-eqb _ _ (none_left (suc d) s _ (value 0) (stands 0 (omega arith)) gone))) e)
      where
        both : {x y : Bool} → x ≡ true → y ≡ true → (x && y) ≡ true
        both a b = rw (a, b) refl

    dtype-missing : lacks_dtype layout (get_or p 0 0) ≡ true → required_in (slot dtype_at (layout_of layout).component) (value 0) ≡ refuse 12 0 0
    unfolding lacks_dtype
    dtype-missing e =
        asked-in-vain (slot dtype_at (layout_of layout).component) (value 0) (own-dtype layout ∙ both_left (not (eqb layout 1)) (eqb (get_or p 0 0) 0) e)
        (nowhere 0 (omega arith) (both_right (not (eqb layout 1)) (eqb (get_or p 0 0) 0) e))

    abbrev verdict : Check (Component Ends)
    verdict = the (layout_of layout) above start t ps kt n

    record Ready : Type 0 where
      pub fields : Fields
      pub found : Found d s p fields
      pub judged-so : verdict ≡ sound (layout_of layout) above start n (note_of t) fields

    abbrev Told : Result (Unit {0}) Refusal → Type 0
    Told (Err m) = answered (Err m) ≡ judged verdict
    Told (Ok tt) = Ready

    told : Told (known layout p)
    unfolding known
    told = go (eqb (get_or p 8 0) 0) refl (eqb (get_or p 9 0) 0) refl (lacks_dtype layout (get_or p 0 0)) refl (eqb (get_or p 2 0) 0) refl (eqb (get_or p 3 0) 0) refl
      where
        go : (x₁ : Bool) → eqb (get_or p 8 0) 0 ≡ x₁ → (x₂ : Bool) → eqb (get_or p 9 0) 0 ≡ x₂ → (x₃ : Bool) → lacks_dtype layout (get_or p 0 0) ≡ x₃
            → (x₄ : Bool) → eqb (get_or p 2 0) 0 ≡ x₄ → (x₅ : Bool) → eqb (get_or p 3 0) 0 ≡ x₅
            → Told (cond x₁ (cond x₂ (cond x₃ (Err refusals.Missing) (cond x₄ (Err refusals.Missing) (cond x₅ (Err refusals.Missing) (Ok tt)))) (Err refusals.Twice)) (Err refusals.Key))
        go false a x₂ b x₃ c x₄ e x₅ f = judged-odd (layout_of layout) above start t ps kt n (sym keys ∙ a)
        go true a false b x₃ c x₄ e x₅ f = judged-twice (layout_of layout) above start t ps kt n (sym keys ∙ a) (sym twice ∙ b)
        go true a true b true c x₄ e x₅ f = judged-no-dtype (layout_of layout) above start t ps kt n (sym keys ∙ a) (sym twice ∙ b) (dtype-missing c)
        go true a true b false c true e x₅ f = judged-no-offset (layout_of layout) above start t ps kt n (sym keys ∙ a) (sym twice ∙ b) (dtype-asked c) (nowhere 2 (omega arith) e)
        go true a true b false c false e true f =
            let y = there 2 (omega arith) e in
            judged-no-length (layout_of layout) above start t ps kt n (sym keys ∙ a) (sym twice ∙ b) (dtype-asked c) y.item y.is (nowhere 3 (omega arith) f)
        go true a true b false c false e false f =
            let y = there 2 (omega arith) e in let z = there 3 (omega arith) f in
            record {
              fields = found (layout_of layout) above start t ps kt n (sym keys ∙ a) (sym twice ∙ b) (dtype-asked c) y.item y.is z.item z.is;
              found = record {
                dtype = stands 0 (omega arith);
                type = stands 1 (omega arith);
                offset = y.stands;
                length = z.stands;
                unpacked = stands 4 (omega arith);
                encoding = stands 5 (omega arith);
                digest = stands 6 (omega arith);
              };
              judged-so = judged-sound (layout_of layout) above start t ps kt n (sym keys ∙ a) (sym twice ∙ b) (dtype-asked c) y.item y.is z.item z.is;
            }

  module _ (f : Result (Unit {0}) Refusal) (is : f ≡ known layout (Here p 0)) where
    slots-say : f ≡ known layout p
    slots-say = is ∙ ap (known layout) (part_to_end p 0)

    pub refused : (m : Refusal) → f ≡ Err m → (r : Result Judged Refusal) → r ≡ Err m → VerdictIs (layout_of layout) above s start p r
    refused m e r is-r d ps q chain is t kt n = rw is-r (subst (Told d ps q chain is t kt n) (sym slots-say ∙ e) (told d ps q chain is t kt n))

    pub as-sound : f ≡ (Ok tt) → (r : Result Judged Refusal) → SoundIs (layout_of layout) above (Here s 0) start (Here p 0) r → VerdictIs (layout_of layout) above s start p r
    as-sound e r h d ps q chain is t kt n =
        let x : Ready d ps q chain is t kt n = subst (Told d ps q chain is t kt n) (sym slots-say ∙ e) (told d ps q chain is t kt n) in
        let y : SoundIs (layout_of layout) above s start p r = subst (λ u. SoundIs (layout_of layout) above s start u r) (part_to_end p 0) (subst (λ u. SoundIs (layout_of layout) above u start (Here p 0) r) (part_to_end s 0) h) in
        y d x.fields x.found n (note_of t) ∙ ap judged (sym x.judged-so)
