-- One turn of the loop over rows: which are still to be judged, and how far the blobs before them reach.
use Prim.Native.Nat.{ℕ, suc, ◌+◌, ◌-◌, ◌*◌, ◌≤◌, ◌<◌, max}
use native.Mathlib.Omega.{arith}
use native.Mathlib.Numerals.{add-one}
use mathlib.Core.List.{List, [], ◌∷◌}
use mathlib.Core.Bool.{Bool, true, false, ◌&&◌}
use mathlib.Core.Path.{◌≡◌, refl, sym, ap, ◌∙◌, subst}
use mir.Syntax.{w64}
use mir.Val.{Fits}
use lib.ListN.{length, drop, get_or, drop_of_length-le}
use lib.Seq.{drop-cons, get_or-drop}
use borrow.Author.Tests.{le-leb, lt-leb}
use Rattle.meaning.specs.Refusal.{PLAN}
use Rattle.meaning.specs.Limit.{end_limit}
use Rattle.meaning.specs.Columns.{component_width, length_column}
use Rattle.meaning.specs.Text.{all}
use Rattle.meaning.specs.Check.{Check, pass, refuse, ◌>>◌, ◌unless◌, in_object}
use Rattle.meaning.specs.Layouts.{magic}
use Rattle.meaning.specs.Asked.{each_row, asked_component}
use Rattle.meaning.specs.Placement.{end_from, last_end}
use Rattle.meaning.specs.Plan.{ranged, apart, allowed, planned_from, planned}
use Rattle.meaning.proofs.Tests.{both_left}
use Rattle.rows.specs.Placed.{components_at}
use Rattle.rows.specs.Turns.{blob_sizes}
use Rattle.rows.proofs.EachRow.{no_row, next-row-at}
use Rattle.readback.specs.Follows.{Before}
use Rattle.readback.proofs.Planned.{before_more}
use Rattle.plan.specs.Earlier.{earlier, Earlier, Next, sizes}
use Rattle.plan.proofs.Tests.{ends_low}
use Rattle.numbers.specs.Numbered.{number_of}
use Rattle.numbers.specs.declared.fault.FileFault.{FileFault}
use Rattle.numbers.specs.declared.refusal.Refusal.TheVariants as refusals

-- PLAN at a row, as the code answers it
pub at_row : {k : Check (Unit {0})} (i : ℕ) → k ≡ refuse PLAN i 0 → (f : FileFault) → f ≡ record { refusal = refusals.Plan; object = i; component = 0 }
    → k ≡ refuse (number_of f.refusal) f.object f.component
at_row i e f is = e ∙ ap (λ (g : FileFault). refuse (number_of g.refusal) g.object g.component) (sym is)

pub too-high : (plan rows : List ℕ) (n ceiling : ℕ) → end_limit < ceiling → planned ceiling plan (sizes plan rows n) ≡ refuse PLAN 0 0
unfolding planned
too-high plan rows n ceiling h = rw (lt-leb ceiling end_limit h) refl

-- the lengths of the rows from the i-th on
abbrev rest : List ℕ → ℕ → ℕ → List ℕ
rest rows n i = blob_sizes (components_at (n - i) (component_width * i) rows)

pub record Going (plan rows : List ℕ) (n ceiling i end : ℕ) : Type 0 where
  pub low : ceiling ≤ end_limit
  pub lie : component_width * n ≤ length rows
  pub upto : i ≤ n
  pub there : Earlier plan rows i
  pub before : Before end (earlier plan rows i)
  pub last : end ≤ end_limit
  pub verdict : planned ceiling plan (sizes plan rows n) ≡ planned_from ceiling i (earlier plan rows i) (drop i plan) (rest rows n i)
  pub ends : last_end plan (sizes plan rows n) ≡ end_from end (drop i plan) (rest rows n i)

pub begin : {plan rows : List ℕ} {n ceiling : ℕ} → ceiling ≤ end_limit → component_width * n ≤ length rows → Going plan rows n ceiling 0 8
unfolding planned last_end magic earlier
begin {plan} {rows} {n} {ceiling} h l =
    let z : n ≡ n - 0 = omega arith in
    record {
      low = h;
      lie = l;
      upto = omega arith;
      there = record { offsets = omega arith; rows-there = omega arith; low = tt };
      before = tt;
      last = omega arith;
      verdict = rw (le-leb ceiling end_limit h) (ap (λ (k : ℕ). planned_from ceiling 0 [] plan (blob_sizes (each_row asked_component component_width k rows))) z);
      ends = ap (λ (k : ℕ). end_from 8 plan (blob_sizes (each_row asked_component component_width k rows))) z;
    }

module _ {plan rows : List ℕ} {n ceiling i end : ℕ} (g : Going plan rows n ceiling i end) where
  -- ---- no row is left

  module _ (none : n ≤ i) where
    no-rest : rest rows n i ≡ []
    no-rest = ap blob_sizes (no_row asked_component component_width (n - i) (drop (component_width * i) rows) (omega (arith, none)))

    at_end : i ≡ n
    at_end = omega (arith, none, g.upto)

    pub left_over : n < length plan → planned ceiling plan (sizes plan rows n) ≡ refuse PLAN n 0
    unfolding planned_from
    left_over h = g.verdict ∙ rw (no-rest, drop-cons plan i 0 (omega (arith, h, at_end))) (ap (λ (k : ℕ). refuse PLAN k 0) at_end)

    module _ (h : length plan ≤ n) where
      pub accepted : planned ceiling plan (sizes plan rows n) ≡ pass tt
      unfolding planned_from
      accepted = g.verdict ∙ rw (no-rest, drop_of_length-le plan {i = i} (omega (arith, h, at_end))) refl

      pub ends_last : end ≡ last_end plan (sizes plan rows n)
      unfolding end_from
      ends_last = sym (g.ends ∙ rw (no-rest, drop_of_length-le plan {i = i} (omega (arith, h, at_end))) refl)

  -- ---- one more row

  module _ (some : i < n) where
    abbrev size : ℕ
    size = get_or rows (component_width * i + length_column) 0

    one-row : rest rows n i ≡ size ∷ rest rows n (suc i)
    unfolding asked_component
    one-row =
        let a : n - i - 1 ≡ n - suc i = omega (arith, some) in
        let b : component_width * i + component_width ≡ component_width * suc i = omega arith in
        ap blob_sizes (next-row-at asked_component component_width (n - i) (component_width * i) rows (omega (arith, some)))
        ∙ ap (λ (k : ℕ). k ∷ blob_sizes (components_at (n - i - 1) (component_width * i + component_width) rows)) (get_or-drop (component_width * i) rows length_column 0)
        ∙ ap (λ (k : ℕ). size ∷ blob_sizes (components_at k (component_width * i + component_width) rows)) a
        ∙ ap (λ (k : ℕ). size ∷ blob_sizes (components_at (n - suc i) k rows)) b

    row-long : component_width * suc i ≤ length rows
    row-long = omega (arith, g.lie, some)

    pub too_short : length plan ≤ i → planned ceiling plan (sizes plan rows n) ≡ refuse PLAN i 0
    unfolding planned_from
    too_short h = g.verdict ∙ rw (one-row, drop_of_length-le plan h) refl

    module _ (has : i < length plan) where
      abbrev offset : ℕ
      offset = get_or plan i 0

      abbrev test : Bool
      test = allowed ceiling (ranged offset size) && all (apart (ranged offset size)) (earlier plan rows i)

      pub next : Next plan rows i end ceiling
      next = record { before = g.there; ends = g.before; offset = has; row-there = row-long; ceiling-low = g.low }

      opened : planned ceiling plan (sizes plan rows n)
          ≡ (in_object i (PLAN unless test) >> planned_from ceiling (suc i) (ranged offset size ∷ earlier plan rows i) (drop (suc i) plan) (rest rows n (suc i)))
      unfolding planned_from
      opened = g.verdict ∙ rw (one-row, drop-cons plan i 0 has) refl

      pub breaks : (b : Bool) → b ≡ test → b ≡ false → planned ceiling plan (sizes plan rows n) ≡ refuse PLAN i 0
      breaks b is e =
          opened
          ∙ ap (λ (t : Bool). in_object i (PLAN unless t) >> planned_from ceiling (suc i) (ranged offset size ∷ earlier plan rows i) (drop (suc i) plan) (rest rows n (suc i))) (sym is ∙ e)

      module _ (b : Bool) (is : b ≡ test) (held : b ≡ true) where
        e : true ≡ test
        e = sym held ∙ is

        sum_low : offset + size ≤ end_limit
        sum_low = ends_low offset size ceiling g.low (both_left (allowed ceiling (ranged offset size)) (all (apart (ranged offset size)) (earlier plan rows i)) (sym e))

        pub sum_fits : Fits w64 (get_or plan i 0 + get_or rows (component_width * i + length_column) 0)
        sum_fits = record { fits = omega (arith, sum_low) }

        stepped : {far : ℕ} → far ≡ max end (offset + size) → Going plan rows n ceiling (suc i) far
        unfolding earlier end_from
        stepped {far} f = record {
          low = g.low;
          lie = g.lie;
          upto = omega (arith, some);
          there = record { offsets = omega (arith, has); rows-there = row-long; low = (sum_low, g.there.low) };
          before = (omega (arith, f), before_more end far (earlier plan rows i) (omega (arith, f)) g.before);
          last = omega (arith, f, g.last, sum_low);
          verdict =
              opened
              ∙ ap (λ (t : Bool). in_object i (PLAN unless t) >> planned_from ceiling (suc i) (ranged offset size ∷ earlier plan rows i) (drop (suc i) plan) (rest rows n (suc i))) (sym e);
          ends =
              g.ends ∙ rw (one-row, drop-cons plan i 0 has) refl
              ∙ ap (λ (k : ℕ). end_from k (drop (suc i) plan) (rest rows n (suc i))) (sym f);
        }

        pub turn : {far : ℕ} → far ≡ max end (offset + size) → Going plan rows n ceiling (i + 1) far
        turn {far} f = subst (λ (k : ℕ). Going plan rows n ceiling k far) (sym (add-one i)) (stepped f)
