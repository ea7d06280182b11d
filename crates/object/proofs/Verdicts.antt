-- An object's judgement from the slots of its pairs: keys, repeats, missing fields, and then the fields themselves.
use mathlib.Core.Path.{◌≡◌, refl, sym, ap, ◌∙◌, subst}
use mathlib.Core.List.{List, map}
use mathlib.Core.Bool.{Bool, true, false, cond, ◌&&◌}
use mathlib.Core.Option.{Option, none, some}
use Prim.Native.Nat.{ℕ, ◌<◌}
use native.Mathlib.Omega.{arith}
use lib.ListN.{get_or, replicate}
use lib.Dec.{eqb, leb}
use borrow.Author.Tests.{eq-eqb, ne_eqb, eqb-true, eqb-false}
use borrow.Author.Rules.{part_to_end}
use Rattle.meaning.specs.Tree.{Node, Pair}
use Rattle.meaning.specs.Check.{Check, pass, refuse, ◌>>=◌, ◌>>◌, required_in, optional}
use Rattle.meaning.specs.Text.{all}
use Rattle.meaning.specs.Model.{Word, Object}
use Rattle.meaning.specs.Kind.{kind, mapping, a_text, a_mapping, as_mapping}
use Rattle.meaning.specs.Field as field
use Rattle.meaning.specs.Layouts.{slot, somes, Layout, dtype_at, current, old, layout_of}
use Rattle.meaning.specs.Format.{format_rules}
use Rattle.meaning.specs.Judge as judge
use Rattle.meaning.proofs.Tests.{not-both, both_left, both_right}
use Rattle.component.proofs.Verdicts.{asked-for, asked-in-vain, none_left}
use Rattle.walk.specs.Reading.{Ends, Chain, foldl}
use Rattle.fields.specs.Slots.{marks, Holds}
use Rattle.fields.proofs.Stands.{hold-none, Item, hold-some, keys-are-text, none-twice, field-stands}
use Rattle.fields.proofs.Texts.{Here}
use Rattle.object.specs.declared.judge.Measured.{Measured}
use Rattle.object.specs.Verdict.{lacks_dtype, shaped, known, Description, described, measured, Fields, Standing, sound, SoundIs, VerdictIs}
use Rattle.std.specs.Prelude.{Ok, Err, Result}
use Rattle.numbers.specs.declared.refusal.Refusal.{Refusal}
use Rattle.numbers.specs.declared.fault.ObjectFault.{ObjectFault}
use Rattle.numbers.specs.declared.refusal.Refusal.TheVariants as refusals
use Rattle.numbers.specs.Answered.{in_object}

-- ---------------------------------------------------------------- what the slots say, a branch each

module _ (layout : ℕ) (p : List ℕ) where
  pub odd-key : (get_or p 6 0 ≡ 0 → ⊥) → Err refusals.Key ≡ known layout p
  unfolding known
  odd-key e = rw (ne_eqb _ _ e)

  module _ (a : get_or p 6 0 ≡ 0) where
    pub repeated : (get_or p 7 0 ≡ 0 → ⊥) → Err refusals.Twice ≡ known layout p
    unfolding known
    repeated e = rw (eq-eqb _ _ a, ne_eqb _ _ e)

    module _ (b : get_or p 7 0 ≡ 0) (lacks : Bool) (so : lacks ≡ lacks_dtype layout (get_or p 0 0)) where
      pub no-dtype : lacks ≡ true → Err refusals.Missing ≡ known layout p
      unfolding known
      no-dtype e = rw (eq-eqb _ _ a, eq-eqb _ _ b, ← so, e)

      module _ (c : lacks ≡ false) where
        pub no-shape : get_or p 1 0 ≡ 0 → Err refusals.Missing ≡ known layout p
        unfolding known
        no-shape e = rw (eq-eqb _ _ a, eq-eqb _ _ b, ← so, c, eq-eqb _ _ e)

        module _ (d : get_or p 1 0 ≡ 0 → ⊥) where
          pub no-format : get_or p 2 0 ≡ 0 → Err refusals.Missing ≡ known layout p
          unfolding known
          no-format e = rw (eq-eqb _ _ a, eq-eqb _ _ b, ← so, c, ne_eqb _ _ d, eq-eqb _ _ e)

          module _ (f : get_or p 2 0 ≡ 0 → ⊥) where
            pub no-components : get_or p 4 0 ≡ 0 → Err refusals.Missing ≡ known layout p
            unfolding known
            no-components e = rw (eq-eqb _ _ a, eq-eqb _ _ b, ← so, c, ne_eqb _ _ d, ne_eqb _ _ f, eq-eqb _ _ e)

            pub all_known : (get_or p 4 0 ≡ 0 → ⊥) → (Ok tt) ≡ known layout p
            unfolding known
            all_known e = rw (eq-eqb _ _ a, eq-eqb _ _ b, ← so, c, ne_eqb _ _ d, ne_eqb _ _ f, ne_eqb _ _ e)

pub lacks-if : (layout left : ℕ) → layout ≡ 1 → eqb left 0 ≡ lacks_dtype layout left
unfolding lacks_dtype
lacks-if layout left e = rw (eq-eqb layout 1 e) refl

pub lacks-none : (layout left : ℕ) → (layout ≡ 1 → ⊥) → false ≡ lacks_dtype layout left
unfolding lacks_dtype
lacks-none layout left e = rw (ne_eqb layout 1 e) refl

-- an object has a dtype in layout 1.0 only
pub tensor-dtype : (layout : ℕ) → field.is_some (slot dtype_at (layout_of layout).object) ≡ eqb layout 1
unfolding layout_of current old field.is_some
tensor-dtype layout = go (eqb layout 1)
  where
    go : (b : Bool) → field.is_some (slot dtype_at (cond b old current).object) ≡ b
    go true = refl
    go false = refl

-- a field that a list lacks isn't found
pub lacked : (name : Option (List ℕ)) (ps : List (Pair Ends)) → field.is_some name ≡ false → field.field name ps ≡ none
unfolding field.is_some field.field
lacked none ps e = refl
lacked (some n) ps e = absurd (let z : ◌≡◌ {A = ℕ} 0 1 = cc in omega arith)

-- ---------------------------------------------------------------- the order of checks, in pieces

module _ (next : List ℕ → Word Ends → Option (Node Ends) → Check (Object Ends)) where
  texts-regroup : (s : List ℕ) (b : Check (Word Ends)) (c : Check (Option (Node Ends)))
      → (b >>= λ f. c >>= λ a. next s f a) ≡ ((b >>= λ f. c >>= λ a. pass (record { format = f; attributes = a })) >>= λ (d : Description). next s d.format d.attributes)
  texts-regroup s (refuse n i j) c = refl
  texts-regroup s (pass f) (refuse n i j) = refl
  texts-regroup s (pass f) (pass a) = refl

  regroup : (a : Check (List ℕ)) (b : Check (Word Ends)) (c : Check (Option (Node Ends)))
      → (a >>= λ s. b >>= λ f. c >>= λ a. next s f a) ≡ (a >>= λ s. (b >>= λ f. c >>= λ a. pass (record { format = f; attributes = a })) >>= λ (d : Description). next s d.format d.attributes)
  regroup (refuse n i j) b c = refl
  regroup (pass s) b c = texts-regroup s b c

-- ---------------------------------------------------------------- the judgement of a map of these pairs

module _ (L : Layout) (start : ℕ) (t : Node Ends) (ps : List (Pair Ends)) (kt : kind t ≡ mapping ps) (n : Word Ends) where
  abbrev the : Check (Object Ends)
  the = judge.object L start (record { name = n; value = t })

  -- the field at the place i
  abbrev at : ℕ → Option (Node Ends)
  at i = field.field (slot i L.object) ps

  judged-odd : all (λ q. field.is_some (field.key_of q)) ps ≡ false → in_object (Err (record { refusal = refusals.Key; component = 0 })) ≡ measured the
  unfolding judge.object field.object_fields field.fields a_mapping as_mapping
  judged-odd e = rw kt (rw e refl)

  module _ (a : all (λ q. field.is_some (field.key_of q)) ps ≡ true) where
    judged-twice : all (λ m. leb (field.count m ps) 1) (somes L.object) ≡ false → in_object (Err (record { refusal = refusals.Twice; component = 0 })) ≡ measured the
    unfolding judge.object field.object_fields field.fields a_mapping as_mapping
    judged-twice e = rw kt (rw (a, e) refl)

    module _ (b : all (λ m. leb (field.count m ps) 1) (somes L.object) ≡ true) where
      judged-no-dtype : required_in (slot dtype_at L.object) (at 0) ≡ refuse 12 0 0 → in_object (Err (record { refusal = refusals.Missing; component = 0 })) ≡ measured the
      unfolding judge.object field.object_fields field.fields a_mapping as_mapping
      judged-no-dtype e = rw kt (rw (a, b) (rw e refl))

      module _ (g₀ : required_in (slot dtype_at L.object) (at 0) ≡ pass (at 0)) where
        judged-no-shape : at 1 ≡ none → in_object (Err (record { refusal = refusals.Missing; component = 0 })) ≡ measured the
        unfolding judge.object field.object_fields field.fields a_mapping as_mapping
        judged-no-shape e = rw kt (rw (a, b) (rw (g₀, e) refl))

        module _ (shape : Node Ends) (g₁ : at 1 ≡ some shape) where
          judged-no-format : at 2 ≡ none → in_object (Err (record { refusal = refusals.Missing; component = 0 })) ≡ measured the
          unfolding judge.object field.object_fields field.fields a_mapping as_mapping
          judged-no-format e = rw kt (rw (a, b) (rw (g₀, g₁, e) refl))

          module _ (format : Node Ends) (g₂ : at 2 ≡ some format) where
            judged-no-components : at 4 ≡ none → in_object (Err (record { refusal = refusals.Missing; component = 0 })) ≡ measured the
            unfolding judge.object field.object_fields field.fields a_mapping as_mapping
            judged-no-components e = rw kt (rw (a, b) (rw (g₀, g₁, g₂, e) refl))

            module _ (components : Node Ends) (g₃ : at 4 ≡ some components) where
              abbrev found : Fields
              found = record { dtype = at 0; shape = shape; format = format; attributes = at 3; components = components }

              judged-sound : the ≡ sound L start n found
              unfolding judge.object field.object_fields field.fields a_mapping as_mapping sound shaped described
              judged-sound = rw kt (rw (a, b) (rw (g₀, g₁, g₂, g₃) (after (optional (judge.a_dtype L) (at 0)))))
                where
                  next : Option ℕ → List ℕ → Word Ends → Option (Node Ends) → Check (Object Ends)
                  next d s f a = judge.components_of L start (judge.inherited f.letters d) components
                      >>= λ cs. format_rules f.letters s (map judge.part cs) >> pass (record { name = n; shape = s; format = f; attributes = a; components = cs })

                  after : (k : Check (Option ℕ))
                      → (k >>= λ d. judge.shape_of shape >>= λ s. a_text format >>= λ f. optional judge.attributes_of (at 3) >>= λ a. next d s f a)
                      ≡ (k >>= λ d. judge.shape_of shape >>= λ s. (a_text format >>= λ f. optional judge.attributes_of (at 3) >>= λ a. pass (record { format = f; attributes = a }))
                      >>= λ (e : Description). next d s e.format e.attributes)
                  after (pass d) = regroup (next d) (judge.shape_of shape) (a_text format) (optional judge.attributes_of (at 3))
                  after (refuse m i j) = refl

-- ---------------------------------------------------------------- from the slots

module _ (layout : ℕ) (s : List ℕ) (start : ℕ) (p : List ℕ) (found-there : Result ℕ ObjectFault) (rows : List ℕ) where
  module _ (ps : List (Pair Ends)) (q : List ℕ) (chain : Chain 29 s ps q) (is : p ≡ foldl (marks (layout_of layout).object) (replicate 8 0) ps)
      (t : Node Ends) (kt : kind t ≡ mapping ps) (n : Word Ends) where
    keys : eqb (get_or p 6 0) 0 ≡ all (λ q. field.is_some (field.key_of q)) ps
    keys = keys-are-text (layout_of layout).object 5 (layout_of layout).object_places 29 s ps q chain p is

    twice : eqb (get_or p 7 0) 0 ≡ all (λ m. leb (field.count m ps) 1) (somes (layout_of layout).object)
    twice = none-twice (layout_of layout).object 5 (layout_of layout).object_places 29 s ps q chain p is

    abbrev value : ℕ → Option (Node Ends)
    value i = field.field (slot i (layout_of layout).object) ps

    stands : (i : ℕ) → i < 5 → Holds 29 s (get_or p i 0) (value i)
    stands = field-stands (layout_of layout).object 5 (layout_of layout).object_places 29 s ps q chain p is (layout_of layout).object_apart

    there : (i : ℕ) → i < 5 → eqb (get_or p i 0) 0 ≡ false → Item 29 s (get_or p i 0) (value i)
    there i l e = hold-some 29 s (get_or p i 0) (value i) (stands i l) (eqb-false (get_or p i 0) 0 e)

    nowhere : (i : ℕ) → i < 5 → eqb (get_or p i 0) 0 ≡ true → value i ≡ none
    nowhere i l e = hold-none 29 s (get_or p i 0) (value i) (stands i l) (eqb-true (get_or p i 0) 0 e)

    both : {x y : Bool} → x ≡ true → y ≡ true → (x && y) ≡ true
    both a b = rw (a, b) refl

    -- a tensor's dtype is there
    has-dtype : lacks_dtype layout (get_or p 0 0) ≡ false → layout ≡ 1 → value 0 ≡ none → ⊥
    unfolding lacks_dtype
    has-dtype e o gone = not-both (both (eq-eqb layout 1 o) (eq-eqb _ _ (none_left 29 s _ (value 0) (stands 0 (omega arith)) gone))) e

    dtype-asked : lacks_dtype layout (get_or p 0 0) ≡ false → required_in (slot dtype_at (layout_of layout).object) (value 0) ≡ pass (value 0)
    dtype-asked e = asked-for (slot dtype_at (layout_of layout).object) (value 0) (λ has gone. has-dtype e (eqb-true layout 1 (sym (tensor-dtype layout) ∙ has)) gone)

    dtype-missing : lacks_dtype layout (get_or p 0 0) ≡ true → required_in (slot dtype_at (layout_of layout).object) (value 0) ≡ refuse 12 0 0
    unfolding lacks_dtype
    dtype-missing e =
        asked-in-vain (slot dtype_at (layout_of layout).object) (value 0) (tensor-dtype layout ∙ both_left (eqb layout 1) (eqb (get_or p 0 0) 0) e)
        (nowhere 0 (omega arith) (both_right (eqb layout 1) (eqb (get_or p 0 0) 0) e))

    no-dtype-there : (layout ≡ 1 → ⊥) → value 0 ≡ none
    no-dtype-there o = lacked (slot dtype_at (layout_of layout).object) ps (tensor-dtype layout ∙ ne_eqb layout 1 o)

    abbrev verdict : Check (Object Ends)
    verdict = the (layout_of layout) start t ps kt n

    record Ready : Type 0 where
      pub fields : Fields
      pub standing : Standing layout s p fields
      pub components-are : value 4 ≡ some fields.components
      pub judged-so : verdict ≡ sound (layout_of layout) start n fields

    abbrev Told : Result (Unit {0}) Refusal → Type 0
    Told (Err m) = in_object (Err (record { refusal = m; component = 0 })) ≡ measured verdict
    Told (Ok tt) = Ready

    told : Told (known layout p)
    unfolding known
    told = go (eqb (get_or p 6 0) 0) refl (eqb (get_or p 7 0) 0) refl (lacks_dtype layout (get_or p 0 0)) refl (eqb (get_or p 1 0) 0) refl (eqb (get_or p 2 0) 0) refl (eqb (get_or p 4 0) 0) refl
      where
        go : (x₁ : Bool) → eqb (get_or p 6 0) 0 ≡ x₁ → (x₂ : Bool) → eqb (get_or p 7 0) 0 ≡ x₂ → (x₃ : Bool) → lacks_dtype layout (get_or p 0 0) ≡ x₃
            → (x₄ : Bool) → eqb (get_or p 1 0) 0 ≡ x₄ → (x₅ : Bool) → eqb (get_or p 2 0) 0 ≡ x₅ → (x₆ : Bool) → eqb (get_or p 4 0) 0 ≡ x₆
            → Told (cond x₁ (cond x₂ (cond x₃ (Err refusals.Missing) (cond x₄ (Err refusals.Missing) (cond x₅ (Err refusals.Missing) (cond x₆ (Err refusals.Missing) (Ok tt))))) (Err refusals.Twice)) (Err refusals.Key))
        go false a x₂ b x₃ c x₄ d x₅ e x₆ f = judged-odd (layout_of layout) start t ps kt n (sym keys ∙ a)
        go true a false b x₃ c x₄ d x₅ e x₆ f = judged-twice (layout_of layout) start t ps kt n (sym keys ∙ a) (sym twice ∙ b)
        go true a true b true c x₄ d x₅ e x₆ f = judged-no-dtype (layout_of layout) start t ps kt n (sym keys ∙ a) (sym twice ∙ b) (dtype-missing c)
        go true a true b false c true d x₅ e x₆ f = judged-no-shape (layout_of layout) start t ps kt n (sym keys ∙ a) (sym twice ∙ b) (dtype-asked c) (nowhere 1 (omega arith) d)
        go true a true b false c false d true e x₆ f =
            let x = there 1 (omega arith) d in
            judged-no-format (layout_of layout) start t ps kt n (sym keys ∙ a) (sym twice ∙ b) (dtype-asked c) x.item x.is (nowhere 2 (omega arith) e)
        go true a true b false c false d false e true f =
            let x = there 1 (omega arith) d in let y = there 2 (omega arith) e in
            judged-no-components (layout_of layout) start t ps kt n (sym keys ∙ a) (sym twice ∙ b) (dtype-asked c) x.item x.is y.item y.is (nowhere 4 (omega arith) f)
        go true a true b false c false d false e false f =
            let x = there 1 (omega arith) d in let y = there 2 (omega arith) e in let z = there 4 (omega arith) f in
            record {
              fields = found (layout_of layout) start t ps kt n (sym keys ∙ a) (sym twice ∙ b) (dtype-asked c) x.item x.is y.item y.is z.item z.is;
              standing = record {
                dtype = stands 0 (omega arith);
                shape = x.stands;
                format = y.stands;
                attributes = stands 3 (omega arith);
                components = z.stands;
                tensor = has-dtype c;
                plain = no-dtype-there;
              };
              components-are = z.is;
              judged-so = judged-sound (layout_of layout) start t ps kt n (sym keys ∙ a) (sym twice ∙ b) (dtype-asked c) x.item x.is y.item y.is z.item z.is;
            }

  module _ (f : Result (Unit {0}) Refusal) (is : f ≡ known layout (Here p 0)) where
    slots-say : f ≡ known layout p
    slots-say = is ∙ ap (known layout) (part_to_end p 0)

    pub refused : (m : Refusal) → f ≡ Err m → (r : Result Measured ObjectFault) → r ≡ Err (record { refusal = m; component = 0 }) → VerdictIs layout s start p found-there rows r
    refused m e r is-r ps q chain noted t kt n = rw is-r (subst (Told ps q chain noted.0 t kt n) (sym slots-say ∙ e) (told ps q chain noted.0 t kt n))

    pub as-sound : f ≡ (Ok tt) → (r : Result Measured ObjectFault) → SoundIs layout (Here s 0) start (Here p 0) found-there rows r → VerdictIs layout s start p found-there rows r
    as-sound e r h ps q chain noted t kt n =
        let x : Ready ps q chain noted.0 t kt n = subst (Told ps q chain noted.0 t kt n) (sym slots-say ∙ e) (told ps q chain noted.0 t kt n) in
        let y : SoundIs layout s start p found-there rows r =
        subst (λ u. SoundIs layout s start u found-there rows r) (part_to_end p 0) (subst (λ u. SoundIs layout u start (Here p 0) found-there rows r) (part_to_end s 0) h) in
        y x.fields x.standing (noted.1 x.fields.components x.components-are) n ∙ ap measured (sym x.judged-so)
