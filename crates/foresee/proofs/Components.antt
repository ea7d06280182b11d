-- Components judged one after the other, by their rows.
use Prim.Native.Nat.{ℕ, suc, ◌+◌, ◌-◌, ◌*◌, ◌≤◌, ◌<◌}
use native.Mathlib.Omega.{arith}
use mathlib.Core.List.{List, ◌∷◌, map}
use mathlib.Core.Path.{◌≡◌, refl, sym, ap, ◌∙◌}
use lib.ListN.{length, take, drop}
use borrow.Author.Rules.{part_to_end}
use Rattle.meaning.specs.Columns.{component_width}
use Rattle.meaning.specs.Check.{Check, pass, refuse, ◌>>=◌, ◌>>◌, in_component, each}
use Rattle.meaning.specs.Asked.{each_row, asked_component}
use Rattle.meaning.specs.Described.{DescribedComponent, described_component}
use Rattle.readback.specs.Judged.{judged_component}
use Rattle.rows.specs.Placed.{components_at}
use Rattle.rows.proofs.EachRow.{no_row, next-row-at}
use Rattle.foresee.specs.Foretold.{each_component}
use Rattle.std.specs.Prelude.{Ok, Err, Result}
use Rattle.numbers.specs.declared.refusal.Refusal.{Refusal}
use Rattle.numbers.specs.Answered as answers
use Rattle.numbers.specs.Answered.{answered}
use Rattle.numbers.specs.Numbered.{number_of}

-- a check of each, with what passes forgotten
module _ {A : Type 0} (f : ℕ → A → Check (Unit {0})) (i : ℕ) (a : A) (l : List A) where
  abbrev all_pass : ℕ → List A → Check (Unit {0})
  all_pass i l = each f i l >> pass tt

  pub goes_on : f i a ≡ pass tt → all_pass i (a ∷ l) ≡ all_pass (suc i) l
  goes_on e = rw e (by (each f (suc i) l))
    where
      by : (c : Check (List (Unit {0}))) → ((c >>= λ bs. pass (tt ∷ bs)) >> pass tt) ≡ (◌>>◌ {B = Unit {0}} c (pass tt))
      by (pass bs) = refl
      by (refuse n o c) = refl

  pub stops : (n o c : ℕ) → f i a ≡ refuse n o c → all_pass i (a ∷ l) ≡ refuse n o c
  stops n o c e = rw e refl

-- the loop over n components' rows: from component j on, whose row stands at `at`
abbrev from : List ℕ → List ℕ → ℕ → ℕ → ℕ → Check (Unit {0})
from buffer rows j left at = each_component j (map (described_component buffer) (components_at left at rows))

abbrev of_all : List ℕ → List ℕ → ℕ → Check (Unit {0})
of_all buffer rows n = each_component 0 (map (described_component buffer) (each_row asked_component component_width n rows))

pub record Judging (buffer rows : List ℕ) (n at j : ℕ) : Type 0 where
  pub lie : at + component_width * (n - j) ≤ length rows
  pub so_far : of_all buffer rows n ≡ from buffer rows j (n - j) at

module _ {buffer rows : List ℕ} {n : ℕ} where
  pub components-begin : component_width * n ≤ length rows → Judging buffer rows n 0 0
  components-begin h = record {
    lie = omega (arith, h);
    so_far = let z : n ≡ n - 0 = omega arith in ap (of_all buffer rows) z;
  }

  module _ {at j : ℕ} (w : Judging buffer rows n at j) where
    pub components-end : n ≤ j → of_all buffer rows n ≡ answers.in_object (Ok tt)
    unfolding each_component
    components-end h = w.so_far ∙ rw (no_row asked_component component_width (n - j) (drop at rows) (omega (arith, h))) refl

    abbrev this : DescribedComponent
    this = described_component buffer (asked_component (drop at rows))

    abbrev others : List DescribedComponent
    others = map (described_component buffer) (components_at (n - j - 1) (at + component_width) rows)

    abbrev one : ℕ → DescribedComponent → Check (Unit {0})
    one j c = in_component j (judged_component c)

    -- `component` said r of it, and was lent its row to the end of all rows
    module _ (more : j < n) (r : Result (Unit {0}) Refusal) (judged : judged_component (described_component buffer (asked_component (take (length rows - at) (drop at rows)))) ≡ answered r) where
      this-judged : judged_component this ≡ answered r
      this-judged = sym (ap (λ (s : List ℕ). judged_component (described_component buffer (asked_component s))) (part_to_end rows at)) ∙ judged

      first-and-others : components_at (n - j) at rows ≡ asked_component (drop at rows) ∷ components_at (n - j - 1) (at + component_width) rows
      first-and-others = next-row-at asked_component component_width (n - j) at rows (omega (arith, more))

      pub component-faulty : {k : Refusal} → r ≡ Err k → of_all buffer rows n ≡ answers.in_object (Err (record { refusal = k; component = j }))
      unfolding each_component
      component-faulty {k} e = w.so_far ∙ rw first-and-others (stops one j this others (number_of k) 0 j (ap (in_component j) (this-judged ∙ ap answered e)))

      pub component-passes : r ≡ (Ok tt) → Judging buffer rows n (at + component_width) (j + 1)
      unfolding each_component
      component-passes e = record {
        lie = (let l = w.lie in omega (arith, more, l));
        so_far =
            let y : suc j ≡ j + 1 = omega arith in
            let z : n - j - 1 ≡ n - (j + 1) = omega (arith, more) in
            w.so_far
            ∙ rw first-and-others (goes_on one j this others (ap (in_component j) (this-judged ∙ ap answered e)))
            ∙ ap (λ (k : ℕ). from buffer rows k (n - j - 1) (at + component_width)) y
            ∙ ap (λ (k : ℕ). from buffer rows (j + 1) k (at + component_width)) z;
      }
