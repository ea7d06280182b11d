-- Values that pass, then components and rules. s and p are lent whole.
use Prim.Native.Nat.{ℕ, ◌<◌}
use mathlib.Core.List.{List}
use mathlib.Core.Bool.{Bool, true, false, cond}
use mathlib.Core.Option.{Option, none, some}
use mathlib.Core.Path.{◌≡◌, refl, ap, sym, ◌∙◌, subst}
use native.Mathlib.Omega.{arith}
use lib.ListN.{get_or}
use lib.Dec.{ltb}
use borrow.Author.Tests.{ltb-true}
use Rattle.meaning.specs.Tree.{Node}
use Rattle.meaning.specs.Check.{Check, pass, refuse, optional}
use Rattle.meaning.specs.Model.{Word}
use Rattle.meaning.specs.Layouts.{layout_of}
use Rattle.meaning.specs.Judge.{a_dtype}
use Rattle.walk.specs.Reading.{Ends}
use Rattle.component.specs.Value as value
use Rattle.object.specs.Verdict.{Fields, Standing}
use Rattle.explained.specs.Step.{Step, first}
use Rattle.spot.specs.Shown.{looks}
use Rattle.spot.specs.declared.Spot as own
use Rattle.badvalues.specs.Steps as values
use Rattle.badvalues.specs.Steps.{Alone, Known}
use Rattle.badvalues.specs.declared.Valued.{Valued}
use Rattle.badparts.specs.Parts.{Owned}
use Rattle.badparts.specs.Parts.{owned, part_steps, Fits, WithinIs}
use Rattle.badobject.specs.Owner.{owned_of, rest_steps, ValuesAre}
use Rattle.badobject.proofs.Missing.{alone-owned}
use Rattle.std.specs.Prelude.{Ok, Err, Result}

-- a code that is given is below 13
given-low : (code a : ℕ) → value.given code ≡ some a → code < 13
unfolding value.given
given-low code a e = go (ltb code 13) refl e
  where
    go : (b : Bool) → ltb code 13 ≡ b → cond b (some code) none ≡ some a → code < 13
    go true h e = ltb-true code 13 h
    go false h e = absurd (let z : ◌≡◌ {A = ℕ} 0 1 = cc in omega arith)

optional-some : {A B : Type 0} (k : A → Check B) (a : A) (o : Option B) → optional k (some a) ≡ pass o → (b : B) × (o ≡ some b)
optional-some {A} {B} k a o e = go (k a) e
  where
    go : (m : Check B) → optional (λ (u : A). m) (some a) ≡ pass o → (b : B) × (o ≡ some b)
    go (pass b) e = let z : some b ≡ o = cc in (b, sym z)
    go (refuse x y z) e = absurd (let w : ◌≡◌ {A = ℕ} 0 1 = cc in omega arith)

fits-so : (layout : ℕ) (s p : List ℕ) (f : Fields) (code : ℕ) → Standing layout s p f → optional (a_dtype (layout_of layout)) f.dtype ≡ pass (value.given code) → Fits layout code
fits-so layout s p f code st e = record {
  tensor = λ l. low f.dtype (st.tensor l) e;
  plain = λ l. none_so f.dtype (st.plain l) e;
}
  where
    low : (v : Option (Node Ends)) → (v ≡ none → ⊥) → optional (a_dtype (layout_of layout)) v ≡ pass (value.given code) → code < 13
    low none h e = absurd (h refl)
    low (some d) h e = let k = optional-some (a_dtype (layout_of layout)) d (value.given code) e in given-low code k.0 k.1

    none_so : (v : Option (Node Ends)) → v ≡ none → optional (a_dtype (layout_of layout)) v ≡ pass (value.given code) → value.given code ≡ none
    none_so none h e = let z : none ≡ value.given code = cc in sym z
    none_so (some d) h e = absurd (let z : ◌≡◌ {A = ℕ} 0 1 = cc in omega arith)

module _ (layout : ℕ) (s : List ℕ) (start : ℕ) (p : List ℕ) (n c : ℕ) (v : Result Valued own.Spot) (h : values.ValuesAre layout s p v) (r : Owned) where
  abbrev next : Fields → Option ℕ → List ℕ → Word Ends → List (Step Ends)
  next f d l m = part_steps (layout_of layout) start f.shape f.components d l m

  pub odd : (z : own.Spot) → v ≡ Err z → r ≡ owned (looks z) 0 → ValuesAre layout s start p n c r
  unfolding owned_of
  odd z e j f st x b nn cc' =
      let a : Alone (looks z).number (looks z).left (first (rest_steps layout start f)) = subst (λ u. values.Answered (layout_of layout) f (next f) u) e (h f st (next f)) in
      j ∙ alone-owned (looks z).number (looks z).left (first (rest_steps layout start f)) a ∙ ap owned_of b

  pub sound : (code format : ℕ) → v ≡ Ok (record { code = code; format = format }) → WithinIs layout format code s start (get_or p 1 0) (get_or p 4 0) n c r → ValuesAre layout s start p n c r
  sound code format e w f st x b i j =
      let k : Known (layout_of layout) f code format (next f) = subst (λ u. values.Answered (layout_of layout) f (next f) u) e (h f st (next f)) in
      w f.shape f.components k.word k.shape st.shape.left_is st.components k.format-is (fits-so layout s p f code st k.code_is) x (sym k.goes_on ∙ b) i j
