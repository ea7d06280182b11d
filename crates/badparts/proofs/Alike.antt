-- In layout 1.0 a component has no type, so that it is the same which code its object gives it.
use Prim.Native.Nat.{ℕ}
use mathlib.Core.List.{List, ◌++◌}
use mathlib.Core.Bool.{Bool, true, false}
use mathlib.Core.Option.{Option, none, some}
use mathlib.Core.Path.{◌≡◌, refl, ap, sym, ◌∙◌}
use native.Mathlib.Omega.{arith}
use lib.Dec.{eqb}
use borrow.Author.Tests.{eq-eqb, eqb-true, eqb-false}
use Rattle.meaning.specs.Tree.{Node, Pair}
use Rattle.meaning.specs.Check.{optional}
use Rattle.meaning.specs.Kind.{a_mapping, present}
use Rattle.meaning.specs.Model.{Named}
use Rattle.meaning.specs.Layouts.{Layout, current, old, layout_of}
use Rattle.meaning.specs.Field.{field, is_some}
use Rattle.meaning.specs.Judge.{or_else, inherited, a_dtype}
use Rattle.walk.specs.Reading.{Ends}
use Rattle.component.specs.Value as value
use Rattle.component.specs.Verdict.{Fields}
use Rattle.explained.specs.Fields as at
use Rattle.explained.specs.Step as steps
use Rattle.explained.specs.Step.{Step, given}
use Rattle.explained.specs.Order.{dtype_steps, type_steps, field_steps, missing, missing_in, component_steps}
use Rattle.badcomponent.specs.Steps.{blob_steps, extra_steps, extent_steps, value_steps}
use Rattle.badparts.specs.Parts.{Fits}

bind-alike : {A : Type 0} (v : Option A) (f g : A → List (Step Ends)) → ((a : A) → f a ≡ g a) → steps.◌>>=◌ v f ≡ steps.◌>>=◌ v g
bind-alike none f g h = refl
bind-alike (some a) f g h = h a

module _ (L : Layout) (start : ℕ) (typeless : at.type_of L ≡ none) (a b : ℕ) where
  values-alike : (t : Node Ends) (f : Fields) → f.type ≡ none → value_steps L (some a) start t f ≡ value_steps L (some b) start t f
  unfolding value_steps missing is_some or_else present
  values-alike t f e = ap (λ l. steps.◌>>=◌ f.dtype (dtype_steps L) ++ l) (bind-alike (given (optional (a_dtype L) f.dtype)) _ _ go)
    where
      go : (own : Option ℕ) → (missing t (or_else own (some a)) ++ steps.◌>>=◌ (or_else own (some a)) (λ d. steps.◌>>=◌ (present f.type) (type_steps d) ++ extent_steps start f))
          ≡ (missing t (or_else own (some b)) ++ steps.◌>>=◌ (or_else own (some b)) (λ d. steps.◌>>=◌ (present f.type) (type_steps d) ++ extent_steps start f))
      go none = rw e refl
      go (some c) = refl

  no-type : (ps : List (Pair Ends)) → field (at.type_of L) ps ≡ none
  unfolding field
  no-type ps = rw typeless refl

  component-alike : (n : Named Ends) → component_steps L start (some a) n ≡ component_steps L start (some b) n
  unfolding component_steps value_steps extent_steps extra_steps blob_steps
  component-alike n = ap (λ l. field_steps L.component n.value ++ l) (bind-alike (given (a_mapping n.value)) _ _ λ ps.
      ap (λ l. missing_in (at.dtype_on L at.component) n.value (field (at.dtype_on L at.component) ps) ++ (missing n.value (field (at.offset_of L) ps) ++ (missing n.value (field (at.length_of L) ps) ++ l)))
      (bind-alike (field (at.offset_of L) ps) _ _ λ offset. bind-alike (field (at.length_of L) ps) _ _ λ length.
      values-alike n.value (record {
        dtype = field (at.dtype_on L at.component) ps;
        type = field (at.type_of L) ps;
        offset = offset;
        length = length;
        unpacked = field (at.unpacked_of L) ps;
        encoding = field (at.encoding_of L) ps;
        digest = field (at.digest_of L) ps;
      }) (no-type ps)))

old-typeless : (layout : ℕ) → layout ≡ 1 → at.type_of (layout_of layout) ≡ none
unfolding layout_of current old
old-typeless layout e = rw (eq-eqb layout 1 e) refl

-- with what its object gives to its role, or to any
pub given-alike : (layout code : ℕ) → Fits layout code → (start : ℕ) (f : List ℕ) (n : Named Ends)
    → component_steps (layout_of layout) start (inherited f (value.given code) n.name.letters) n ≡ component_steps (layout_of layout) start (value.given code) n
unfolding inherited
given-alike layout code fits start f n = go (value.given code) refl
  where
    never : (c : ℕ) → none ≡ some c → ⊥
    never c e = let z : ◌≡◌ {A = ℕ} 0 1 = cc in omega arith

    old-one : (c : ℕ) → value.given code ≡ some c → (b : Bool) → eqb layout 1 ≡ b → layout ≡ 1
    old-one c e true k = eqb-true layout 1 k
    old-one c e false k = absurd (never c (sym (fits.plain (eqb-false layout 1 k)) ∙ e))

    go : (o : Option ℕ) → value.given code ≡ o → component_steps (layout_of layout) start (inherited f o n.name.letters) n ≡ component_steps (layout_of layout) start o n
    go none e = refl
    go (some c) e = component-alike (layout_of layout) start (old-typeless layout (old-one c e (eqb layout 1) refl)) _ c n
