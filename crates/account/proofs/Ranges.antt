-- The components' ranges, gathered row by row. A range is put before the rows that are still to be read.
use Prim.Native.Nat.{ℕ, suc, ◌+◌, ◌-◌, ◌*◌, ◌^◌, ◌≤◌, ◌<◌}
use native.Mathlib.Omega.{arith}
use mathlib.Core.List.{List, [], ◌∷◌, ◌++◌, append_assoc, append-nil}
use mathlib.Core.Path.{◌≡◌, refl, sym, ap, ◌∙◌, subst}
use lib.ListN.{length, take, get_or, set, length-set}
use lib.Seq.{take-suc-set, get_or-set_other}
use mir.Syntax.{w64}
use mir.Val.{Fits}
use Rattle.meaning.specs.Columns.{component_width, offset_column, length_column}
use Rattle.covering.specs.Order.{End}
use Rattle.account.specs.Ranges.{ranges, Rows, Gathered}

pub record Gathering (table : List ℕ) (first n most : ℕ) (b : List ℕ) (i : ℕ) : Type 0 where
  pub met : i ≤ n
  pub long : length b ≡ length table
  pub front : take (2 * i) b ++ ranges table (first + component_width * i) (n - i) ≡ ranges table first n
  pub same : (k : ℕ) → first + component_width * i ≤ k → get_or b k 0 ≡ get_or table k 0
  pub end : End most (ranges table (first + component_width * i) (n - i))

pub gathering-first : (table : List ℕ) (first n most : ℕ) → Rows table first n most → Gathering table first n most table 0
gathering-first table first n most w =
    let z : first + component_width * 0 ≡ first = omega arith in
    let y : n - 0 ≡ n = omega arith in
    record { met = omega arith; long = refl; front = rw (z, y) refl; same = λ k h. refl; end = rw (z, y) w.end }

module _ {table : List ℕ} {first n most : ℕ} {b : List ℕ} {i : ℕ} (r : Rows table first n most) (w : Gathering table first n most b i) (h : i < n) where
  abbrev row : ℕ
  row = first + component_width * i

  row_lies : row + component_width ≤ length b
  row_lies = let a = r.lie in let c = w.long in omega (arith, a, c, h)

  pub offset-lies : row + offset_column < length b
  offset-lies = omega (arith, row_lies)

  pub length-lies : row + length_column < length b
  length-lies = omega (arith, row_lies)

  pub range-lies : 2 * i + 2 ≤ length b
  range-lies = omega (arith, row_lies)

  -- the places are numbers of 64 bits, scaled too
  module _ (room : length table * 8 < 2 ^ 63) where
    pub rows_fit : Fits w64 (component_width * i)
    rows_fit = record { fits = omega (arith, row_lies, w.long, room) }

    pub row_fits : Fits w64 (first + component_width * i)
    row_fits = record { fits = omega (arith, row_lies, w.long, room) }

    pub offset-fits : Fits w64 (first + component_width * i + offset_column)
    offset-fits = record { fits = omega (arith, row_lies, w.long, room) }

    pub offset-scaled : Fits w64 ((first + component_width * i + offset_column) * 8)
    offset-scaled = record { fits = omega (arith, row_lies, w.long, room) }

    pub length-fits : Fits w64 (first + component_width * i + length_column)
    length-fits = record { fits = omega (arith, row_lies, w.long, room) }

    pub length-scaled : Fits w64 ((first + component_width * i + length_column) * 8)
    length-scaled = record { fits = omega (arith, row_lies, w.long, room) }

    pub range-fits : Fits w64 (2 * i)
    range-fits = record { fits = omega (arith, row_lies, w.long, room) }

  abbrev begins : ℕ
  begins = get_or b (row + offset_column) 0

  abbrev past : ℕ
  past = begins + get_or b (row + length_column) 0

  begins-is : begins ≡ get_or table (row + offset_column) 0
  begins-is = w.same (row + offset_column) (omega arith)

  size_is : get_or b (row + length_column) 0 ≡ get_or table (row + length_column) 0
  size_is = w.same (row + length_column) (omega arith)

  next_row : row + component_width ≡ first + component_width * (i + 1)
  next_row = omega arith

  -- the ranges that are left begin with this one
  left : ranges table row (n - i) ≡ begins ∷ past ∷ ranges table (first + component_width * (i + 1)) (n - (i + 1))
  unfolding ranges
  left =
      let z : n - i ≡ suc (n - (i + 1)) = omega (arith, h) in
      rw (z, begins-is, size_is, next_row) refl

  past-most : past ≤ most
  past-most = (subst (End most) left w.end).0

  pub past_fits : Fits w64 (get_or b (first + component_width * i + offset_column) 0 + get_or b (first + component_width * i + length_column) 0)
  past_fits = record { fits = omega (arith, past-most, r.small) }

  abbrev rest : List ℕ
  rest = ranges table (first + component_width * (i + 1)) (n - (i + 1))

  module _ {c : List ℕ} (e : c ≡ set (set b (2 * i) begins) (2 * i + 1) past) where
    fits : suc (2 * i) < length b
    fits = let a = row_lies in omega (arith, a)

    front-next : take (2 * (i + 1)) c ≡ (take (2 * i) b ++ (begins ∷ [])) ++ (past ∷ [])
    front-next =
        let z : 2 * (i + 1) ≡ suc (suc (2 * i)) = omega arith in
        let y : 2 * i + 1 ≡ suc (2 * i) = omega arith in
        let l : length (set b (2 * i) begins) ≡ length b = length-set b (2 * i) begins in
        rw (e, z, y)
        (take-suc-set (set b (2 * i) begins) (suc (2 * i)) past (let a = fits in omega (arith, a, l))
        ∙ ap (λ (x : List ℕ). x ++ (past ∷ [])) (take-suc-set b (2 * i) begins (let a = fits in omega (arith, a))))

    pub gathering-next : Gathering table first n most c (i + 1)
    gathering-next = record {
      met = omega (arith, h);
      long = ap length e ∙ length-set (set b (2 * i) begins) (2 * i + 1) past ∙ length-set b (2 * i) begins ∙ w.long;
      front =
          ap (λ (x : List ℕ). x ++ rest) front-next ∙ append_assoc (take (2 * i) b ++ (begins ∷ [])) (past ∷ []) rest
          ∙ append_assoc (take (2 * i) b) (begins ∷ []) (past ∷ rest) ∙ ap (λ (x : List ℕ). take (2 * i) b ++ x) (sym left) ∙ w.front;
      same = λ k g.
          ap (λ (x : List ℕ). get_or x k 0) e ∙ get_or-set_other (set b (2 * i) begins) (2 * i + 1) k past 0 (λ z. omega (arith, z, g))
          ∙ get_or-set_other b (2 * i) k begins 0 (λ z. omega (arith, z, g)) ∙ w.same k (omega (arith, g));
      end = (subst (End most) left w.end).1;
    }

pub gathering-done : {table : List ℕ} {first n most : ℕ} {b : List ℕ} {i : ℕ} → Gathering table first n most b i → n ≤ i → Gathered table first n b
unfolding ranges
gathering-done {table} {first} {n} {most} {b} {i} w h =
    let m = w.met in
    let z : n - i ≡ 0 = omega (arith, h) in
    let y : i ≡ n = omega (arith, h, m) in
    let f : take (2 * i) b ++ ranges table (first + component_width * i) 0 ≡ ranges table first n =
    ap (λ (k : ℕ). take (2 * i) b ++ ranges table (first + component_width * i) k) (sym z) ∙ w.front in
    record { long = w.long; front = ap (λ (k : ℕ). take (2 * k) b) (sym y) ∙ sym (append-nil (take (2 * i) b)) ∙ f }
