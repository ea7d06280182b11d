-- The components' rows that are put when an object's map has been passed over, a branch each.
use Prim.Native.Nat.{ℕ, ◌-◌, ◌<◌}
use native.Mathlib.Omega.{arith}
use mathlib.Core.List.{List}
use mathlib.Core.Bool.{Bool, true, false}
use mathlib.Core.Option.{none}
use mathlib.Core.Path.{◌≡◌, refl, ap, sym, ◌∙◌, subst}
use lib.ListN.{length, get_or, drop}
use lib.Dec.{ltb}
use borrow.Author.Tests.{ltb-true}
use borrow.Author.Rules.{part_to_end}
use Rattle.meaning.specs.Check.{optional}
use Rattle.meaning.specs.Notes.{map_check}
use Rattle.meaning.specs.Model.{Object}
use Rattle.meaning.specs.Kind.{a_text}
use Rattle.meaning.specs.Judge.{inherited, a_dtype, attributes_of, components_of}
use Rattle.meaning.specs.Layouts.{layout_of}
use Rattle.walk.specs.Reading.{Ends}
use Rattle.fields.proofs.Texts.{Here}
use Rattle.component.specs.Value.{given}
use Rattle.component.proofs.Pieces.{passed-so}
use Rattle.table.specs.Given.{offered}
use Rattle.table.specs.Rows.{RowsPut}
use Rattle.table.specs.Late.{Gives, LatePut}
use Rattle.table.specs.declared.Place.{Place}
use Rattle.meaning.proofs.Checks.{passed, pass_same}
use Rattle.object.specs.declared.judge.Measured.{Measured}
use Rattle.object.specs.Place.{tensored, format_code, TensorAt}
use Rattle.object.specs.Verdict.{described, code_of, DescribedAt}
use Rattle.object.specs.Laying.{WaitedPut, ShapedPut, Once}
use Rattle.std.specs.Prelude.{Ok, Err, Result}
use Rattle.numbers.specs.declared.refusal.Refusal.{Refusal}
use Rattle.numbers.specs.declared.fault.ObjectFault.{ObjectFault}
use Rattle.numbers.specs.Answered.{answered}

-- an object that is refused doesn't pass
pub refused-put : {P : Type 0} (f : ObjectFault) (v : Result Measured ObjectFault) → v ≡ Err f → Once v P
refused-put f v is m e = absurd (let z : Err f ≡ Ok m = sym is ∙ e in let y : ◌≡◌ {A = ℕ} 0 1 = cc in omega arith)

module _ (layout format code : ℕ) (s : List ℕ) (start left : ℕ) (to : Place) (before : List ℕ) where
  pub waited-now : layout ≡ 1 → (at : ℕ) → at ≡ length s - left → (after : List ℕ) → RowsPut (offered layout format code) (Here s at) start to.end to.owner to.from before after
      → WaitedPut layout format code s start left to before after
  waited-now e at is after h = record {
    late = λ x. subst (λ u. RowsPut (offered layout format code) u start to.end to.owner to.from before after) (part_to_end s at ∙ ap (λ (i : ℕ). drop i s) is) h;
    other = λ x. absurd (x e);
  }

  pub waited-not : (layout ≡ 1 → ⊥) → WaitedPut layout format code s start left to before before
  waited-not e = record { late = λ x. absurd (e x); other = λ x. refl }

below : (d : ℕ) → (given d ≡ none → ⊥) → d < 13
unfolding given
below d n = go (ltb d 13) refl
  where
    go : (b : Bool) → ltb d 13 ≡ b → d < 13
    go true e = ltb-true d 13 e
    go false e = absurd (n (rw e refl))

-- ---------------------------------------------------------------- from the shape on

module _ (layout d : ℕ) (s : List ℕ) (start : ℕ) (p : List ℕ) (to : Place) (before after : List ℕ) (r : Result ℕ Refusal) (h : DescribedAt (Here s 0) (get_or p 2 0) (get_or p 3 0) r) (code : ℕ) (e : r ≡ Ok code)
    (waited : WaitedPut layout code d (Here s 0) start (get_or p 4 0) to before after) where
  format-code : (o : Object Ends) → Gives (layout_of layout) start s p o → code ≡ format_code o.format
  unfolding described
  format-code o g =
      let there : map_check code_of (described g.format g.attributes) ≡ answered (Ok code) =
      subst (λ u. DescribedAt u (get_or p 2 0) (get_or p 3 0) (Ok code)) (part_to_end s 0) (rw e at h) 28 g.format g.attributes g.format-stands g.attributes-held in
      let y = passed-so code_of (described g.format g.attributes) code there in
      let x = passed (a_text g.format) _ y.value y.is in
      let z = passed (optional attributes_of g.attributes) _ y.value x.then in
      sym y.shown ∙ ap code_of (sym (pass_same z.then)) ∙ ap format_code (pass_same (sym x.is ∙ g.format-is))

  pub shaped-put : ShapedPut layout d s start p to before after
  shaped-put = record {
    late = λ x o g same.
        let few : d < 13 = below d (λ z. g.some-code (same ∙ z)) in
        let stands = g.components-stand in
        let w = subst (λ u. WaitedPut layout code d u start (get_or p 4 0) to before after) (part_to_end s 0) waited in
        w.late x g.components stands.rest stands.reads o.format.letters (format-code o g) (λ x. few) o.components
        (ap (λ c. components_of (layout_of layout) start (inherited o.format.letters c) g.components) (sym same) ∙ g.components-are);
    other = waited.other;
  }

-- ---------------------------------------------------------------- from the dtype on

module _ (layout : ℕ) (s : List ℕ) (start : ℕ) (p : List ℕ) (to : Place) (before after : List ℕ) where
  pub sound-put : (r : Result ℕ Refusal) → TensorAt (layout_of layout) (Here s 0) (get_or p 0 0) r → (d : ℕ) → r ≡ Ok d → (v : Result Measured ObjectFault) → Once v (ShapedPut layout d (Here s 0) start (Here p 0) to before after)
      → Once v (LatePut layout s p start to.end to.owner to.from before after)
  sound-put r h d e v put m is =
      let w = subst (λ u. ShapedPut layout d s start u to before after) (part_to_end p 0) (subst (λ u. ShapedPut layout d u start (Here p 0) to before after) (part_to_end s 0) (put m is)) in
      let tensor : (o : Object Ends) (g : Gives (layout_of layout) start s p o) → optional (a_dtype (layout_of layout)) g.dtype ≡ tensored (Ok d) =
      λ o g. subst (λ u. TensorAt (layout_of layout) u (get_or p 0 0) (Ok d)) (part_to_end s 0) (rw e at h) 28 g.dtype g.dtype-held in
      record { late = λ x o g. w.late x o g (pass_same (sym g.code_is ∙ tensor o g)); other = w.other }

  -- lent whole
  pub whole-put : (v : Result Measured ObjectFault) → Once v (LatePut layout (Here s 0) (Here p 0) start to.end to.owner to.from before after)
      → Once v (LatePut layout s p start to.end to.owner to.from before after)
  whole-put v put m is =
      subst (λ u. LatePut layout s u start to.end to.owner to.from before after) (part_to_end p 0)
      (subst (λ u. LatePut layout u (Here p 0) start to.end to.owner to.from before after) (part_to_end s 0) (put m is))
