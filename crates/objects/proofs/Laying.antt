-- The rows of one object, lent whole, and where those of the next begin.
use Prim.Native.Nat.{ℕ, ◌+◌, ◌*◌, ◌≤◌, ◌<◌}
use native.Mathlib.Omega.{arith}
use mathlib.Core.List.{List}
use mathlib.Core.Bool.{Bool, true, false}
use mathlib.Core.Path.{◌≡◌, ap, sym, ◌∙◌, subst}
use borrow.Author.Rules.{part_to_end}
use Rattle.meaning.specs.Columns.{component_width}
use Rattle.meaning.specs.Model.{Named}
use Rattle.meaning.specs.Layouts.{layout_of}
use Rattle.walk.specs.Reading.{Ends}
use Rattle.walk.proofs.Passed.{Here}
use Rattle.table.specs.Objects.{WholePut, Onward}
use Rattle.object.specs.Verdict as object
use Rattle.objects.specs.Found.{judging}
use Rattle.objects.specs.Firsts.{OneIs, Beyond}
use Rattle.objects.proofs.Few.{few-in-judging}
use Rattle.std.specs.Prelude.{Ok, Err, Result}
use Rattle.numbers.specs.declared.fault.ObjectFault.{ObjectFault}
use Rattle.numbers.proofs.Passes.{object-passes}

module _ (layout : ℕ) (s c : List ℕ) (start end owner row from : ℕ) (before after : List ℕ) where
  pub lent-whole : WholePut layout (Here s 0) (Here c 0) start end owner row from before after → WholePut layout s c start end owner row from before after
  lent-whole h =
      subst (λ u. WholePut layout u c start end owner row from before after) (part_to_end s 0) (subst (λ u. WholePut layout (Here s 0) u start end owner row from before after) (part_to_end c 0) h)

  -- an object that is passed over has no rows
  pub not-deep : (deep : Bool) → deep ≡ false → deep ≡ true → WholePut layout s c start end owner row from before after
  not-deep deep e f = absurd (let y : true ≡ false = sym f ∙ e in let z : ◌≡◌ {A = ℕ} 0 1 = cc in omega arith)

same_number : {i j : ℕ} → ◌≡◌ {A = Result ℕ ObjectFault} (Ok i) (Ok j) → i ≡ j
same_number h = cc

module _ (v : Result ℕ ObjectFault) (from room : ℕ) where
  pub beyond-none : (n : ObjectFault) → v ≡ Err n → Beyond v from room from
  beyond-none n e k f few fits = absurd (let y : Err n ≡ Ok k = sym e ∙ f in let z : ◌≡◌ {A = ℕ} 0 1 = cc in omega arith)

  pub beyond-many : (n : ℕ) → v ≡ Ok n → 16 < n → Beyond v from room from
  beyond-many n e many k f few fits = absurd (let same : n ≡ k = same_number (sym e ∙ f) in omega (arith, same, many, few))

  pub beyond-these : (n : ℕ) → v ≡ Ok n → (r : ℕ) → (from + component_width * n ≤ room → r ≡ from + component_width * n) → Beyond v from room r
  beyond-these n e r h k f few fits =
      let same : n ≡ k = same_number (sym e ∙ f) in
      subst (λ i. from + component_width * i ≤ room → r ≡ from + component_width * i) same h fits

-- the verdict on an object says how many rows its components have
pub onward : (layout start : ℕ) (c : List ℕ) (next : ℕ) {deep : Bool} → deep ≡ true → (v : Result ℕ ObjectFault) → OneIs deep (layout_of layout) c start v → {room next' : ℕ} → Beyond v next room next'
    → Onward layout start c next room next'
unfolding judging
onward layout start c next {deep = true} d v one beyond t q r w o passes fits =
    let n : Named Ends = record { name = w; value = t } in
    beyond _ (object-passes v _ (one t q r w ∙ ap object.judged passes)) (few-in-judging true (layout_of layout) start n o passes) fits
onward layout start c next {deep = false} d v one beyond t q r w o passes fits = absurd (let z : ◌≡◌ {A = ℕ} 0 1 = cc in omega arith)
