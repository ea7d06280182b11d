-- An object's values, a branch each. Slices are lent whole.
use Prim.Native.Nat.{ℕ, ◌-◌}
use mathlib.Core.List.{List, ◌++◌}
use mathlib.Core.Bool.{Bool, true, false, cond}
use mathlib.Core.Option.{Option}
use mathlib.Core.Path.{◌≡◌, refl, ap, sym, ◌∙◌, subst}
use lib.ListN.{length, get_or, drop}
use borrow.Author.Rules.{part_to_end}
use Rattle.meaning.specs.Tree.{Node}
use Rattle.meaning.specs.Check.{pass, fault, optional}
use Rattle.meaning.specs.Kind.{a_text}
use Rattle.meaning.specs.Layouts.{layout_of}
use Rattle.meaning.specs.Judge.{a_dtype, attributes_of, shape_of}
use Rattle.meaning.specs.Model.{Word}
use Rattle.walk.specs.Reading.{Ends, Reads}
use Rattle.walk.proofs.Passed.{Here}
use Rattle.fields.specs.Slots.{Stands}
use Rattle.fields.specs.Attributes.{AttributesAt}
use Rattle.component.specs.Value as value
use Rattle.component.proofs.Pieces.{refused-so, passed-so}
use Rattle.object.specs.Place.{format_code, FormatAt, TensorAt}
use Rattle.object.specs.Verdict.{Fields, Standing}
use Rattle.explained.specs.Step as steps
use Rattle.explained.specs.Step.{Step, first, given}
use Rattle.explained.specs.Order.{mapping_steps, shape_steps}
use Rattle.explained.proofs.Parts.{agree-text, agree-attributes, agree-dtype, agree-shape_of}
use Rattle.spot.specs.Shown.{spot, shown, looks}
use Rattle.spot.specs.declared.Spot as own
use Rattle.spot.specs.Shown.{Spot}
use Rattle.badfields.proofs.Firsts.{none_first, shown-none}
use Rattle.badfields.proofs.Values.{one-text, one_table, one-dtype, held-left, value_passes, option-passes}
use Rattle.badshape.specs.Steps.{ShapeIs}
use Rattle.badvalues.specs.Steps.{Alone, described_steps, value_steps, Known, Described, DescribedIs, Answered, ValuesAre}
use Rattle.badvalues.specs.declared.Valued.{Valued}
use Rattle.badvalues.proofs.Alone.{numbered, spot-alone, passes-so, value-alone, option-alone, shape-plain}
use Rattle.std.specs.Prelude.{Ok, Err, Result}
use Rattle.numbers.specs.declared.refusal.Refusal.{Refusal}
use Rattle.numbers.specs.Numbered.{number_of}

-- what is said of a spot, of one that looks so
shows-alone : (z : own.Spot) {x : Spot} → looks z ≡ x → {f : Option (Step Ends)} → Alone x.number x.left f → Alone (looks z).number (looks z).left f
shows-alone z is {f} a = subst (λ (u : Spot). Alone u.number u.left f) (sym is) a

-- ---------------------------------------------------------------- format and attributes

module _ (s : List ℕ) (a b code : ℕ) (r₁ : Result ℕ Refusal) (h₁ : FormatAt s a r₁) where
  format-is : (q : Result ℕ Refusal) → r₁ ≡ q → FormatAt s a q
  format-is q e = rw e at h₁

  pub no-format : (n : Refusal) → r₁ ≡ Err n → (z : own.Spot) → looks z ≡ spot (number_of n) (a) → DescribedIs s a b code (Err z)
  unfolding described_steps
  no-format n e z is x y hx hy next = shows-alone z is (value-alone one-text agree-text _ a x hx.left_is (number_of n) 0 0 (refused-so format_code (a_text x) (number_of n) (format-is (Err n) e 28 x hx)))

  module _ (m : ℕ) (e₁ : r₁ ≡ Ok m) (ok : Bool) (h₂ : AttributesAt s b ok) where
    attributes-are : AttributesAt s b ok
    attributes-are = h₂

    past-format : (x : Node Ends) (y : Option (Node Ends)) (hx : Stands 29 s a x) (next : Word Ends → List (Step Ends))
        → (w : Word Ends) × (a_text x ≡ pass w) × (m ≡ format_code w) × (first (described_steps x y next) ≡ first (steps.◌>>=◌ y mapping_steps ++ next w))
    unfolding described_steps
    past-format x y hx next =
        let k = passed-so format_code (a_text x) m (format-is (Ok m) e₁ 28 x hx) in
        (k.value, k.is, sym k.shown, value_passes one-text agree-text _ x k.value k.is ∙ ap (λ c. first (steps.◌>>=◌ (given c) (λ f. steps.◌>>=◌ y mapping_steps ++ next f))) k.is)

    pub no-attributes : ok ≡ false → (z : own.Spot) → looks z ≡ spot 8 b → DescribedIs s a b code (Err z)
    no-attributes e u is x y hx hy next =
        let w = past-format x y hx next in
        let k : optional attributes_of y ≡ fault 8 = attributes-are 28 y hy ∙ ap (λ (i : Bool). cond i (pass y) (fault 8)) e in
        let z = option-alone one_table agree-attributes (next w.0) b y (held-left 29 s b y hy) 8 0 0 k in
        shows-alone u is (record { this = z.this; is = w.3 ∙ z.is; number = z.number; place = z.place; owner = z.owner })

    pub all-described : ok ≡ true → DescribedIs s a b code (Ok (record { code = code; format = m }))
    all-described e x y hx hy next =
        let w = past-format x y hx next in
        let k : optional attributes_of y ≡ pass y = attributes-are 28 y hy ∙ ap (λ (i : Bool). cond i (pass y) (fault 8)) e in
        (refl, (w.0, w.1, w.2, w.3 ∙ option-passes one_table agree-attributes (next w.0) y y k))

-- ---------------------------------------------------------------- dtype and shape

module _ (layout : ℕ) (s p : List ℕ) (r₁ : Result ℕ Refusal) (h₁ : TensorAt (layout_of layout) s (get_or p 0 0) r₁) where
  tensor-is : (q : Result ℕ Refusal) → r₁ ≡ q → TensorAt (layout_of layout) s (get_or p 0 0) q
  tensor-is q e = rw e at h₁

  pub no-dtype : (n : Refusal) → r₁ ≡ Err n → (z : own.Spot) → looks z ≡ spot (number_of n) (get_or p 0 0) → ValuesAre layout s p (Err z)
  unfolding value_steps
  no-dtype n e z is f st next =
      shows-alone z is (option-alone (λ t. one-dtype t (layout_of layout)) (agree-dtype (layout_of layout)) _ (get_or p 0 0) f.dtype (held-left 29 s _ f.dtype st.dtype) (number_of n) 0 0 (tensor-is (Err n) e 28 f.dtype st.dtype))

  module _ (code : ℕ) (e₁ : r₁ ≡ Ok code) (from : ℕ) (is-from : from ≡ length s - get_or p 1 0) (z : Spot) (h₂ : ShapeIs (Here s from) z) where
    shape-shown : (f : Fields) → Standing layout s p f → z ≡ shown (first (shape_steps f.shape))
    shape-shown f st =
        let x = st.shape in
        h₂ f.shape x.rest (subst (λ u. Reads 29 u f.shape x.rest) (sym (part_to_end s from ∙ ap (λ (i : ℕ). drop i s) is-from)) x.reads)

    abbrev shape_then : Fields → (Option ℕ → List ℕ → Word Ends → List (Step Ends)) → Option ℕ → List (Step Ends)
    shape_then f next d = shape_steps f.shape ++ steps.◌>>=◌ (given (shape_of f.shape)) (λ s. described_steps f.format f.attributes (next d s))

    past-dtype : (f : Fields) (st : Standing layout s p f) (next : Option ℕ → List ℕ → Word Ends → List (Step Ends)) → (d : Option ℕ) → optional (a_dtype (layout_of layout)) f.dtype ≡ pass d
        → first (value_steps (layout_of layout) f next) ≡ first (shape_then f next d)
    unfolding value_steps
    past-dtype f st next d e =
        option-passes (λ t. one-dtype t (layout_of layout)) (agree-dtype (layout_of layout)) _ f.dtype d e ∙ ap (λ c. first (steps.◌>>=◌ (given c) (shape_then f next))) e

    pub odd_shape : (z.number ≡ 0 → ⊥) → (y : own.Spot) → looks y ≡ z → (q : Result Valued own.Spot) → q ≡ Err y → ValuesAre layout s p q
    odd_shape n u same q is-q f st next = rw is-q
        let y = spot-alone (shape_steps f.shape) (shape-plain f.shape) z (shape-shown f st) n (steps.◌>>=◌ (given (shape_of f.shape)) (λ s. described_steps f.format f.attributes (next _ s))) in
        shows-alone u same (record { this = y.this; is = past-dtype f st next _ (tensor-is (Ok code) e₁ 28 f.dtype st.dtype) ∙ y.is; number = y.number; place = y.place; owner = y.owner })

    module _ (n : z.number ≡ 0) (r : Result Valued own.Spot) (h₃ : DescribedIs s (get_or p 2 0) (get_or p 3 0) code r) where
      described-is : DescribedIs s (get_or p 2 0) (get_or p 3 0) code r
      described-is = h₃

      -- the shape passes
      dims : (f : Fields) → Standing layout s p f → (l : List ℕ) × (shape_of f.shape ≡ pass l)
      dims f st = passes-so (shape_steps f.shape) (shape_of f.shape) (agree-shape_of f.shape) (shown-none (shape_steps f.shape) z (shape-shown f st) (numbered (shape-plain f.shape)) n)

      past-shape : (f : Fields) (st : Standing layout s p f) (next : Option ℕ → List ℕ → Word Ends → List (Step Ends))
          → first (value_steps (layout_of layout) f next) ≡ first (described_steps f.format f.attributes (next (value.given code) (dims f st).0))
      past-shape f st next =
          past-dtype f st next (value.given code) (tensor-is (Ok code) e₁ 28 f.dtype st.dtype)
          ∙ none_first (shape_steps f.shape) _ (shown-none (shape_steps f.shape) z (shape-shown f st) (numbered (shape-plain f.shape)) n)
          ∙ ap (λ c. first (steps.◌>>=◌ (given c) (λ l. described_steps f.format f.attributes (next (value.given code) l)))) (dims f st).1

      pub then-described : ValuesAre layout s p r
      then-described f st next = go r (described-is f.format f.attributes st.format st.attributes (next (value.given code) (dims f st).0))
        where
          here : Option (Step Ends)
          here = first (described_steps f.format f.attributes (next (value.given code) (dims f st).0))

          go : (r : Result Valued own.Spot) → Described code f.format (next (value.given code) (dims f st).0) here r → Answered (layout_of layout) f next r
          go (Err f1) y = record { this = y.this; is = past-shape f st next ∙ y.is; number = y.number; place = y.place; owner = y.owner }
          go (Ok v) y = let w = y.1 in subst (λ i. Known (layout_of layout) f i v.format next) (sym y.0) (record {
            code_is = tensor-is (Ok code) e₁ 28 f.dtype st.dtype;
            shape = (dims f st).0;
            shape_is = (dims f st).1;
            word = w.0;
            word-is = w.1;
            format-is = w.2;
            goes_on = past-shape f st next ∙ w.3;
          })
