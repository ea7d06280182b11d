-- The ranges of a table that begins with a model's rows are those of the model's components.
use Prim.Native.Nat.{ℕ, zero, suc, ◌+◌, ◌-◌, ◌*◌, ◌≤◌, ◌<◌}
use native.Mathlib.Nat.{zero-add, suc-add}
use native.Mathlib.Omega.{arith}
use mathlib.Core.List.{List, [], ◌∷◌, ◌++◌, append_assoc}
use mathlib.Core.Bool.{Bool, true, false, cond, ◌&&◌, ◌||◌, not}
use mathlib.Core.Path.{◌≡◌, refl, sym, ap, ◌∙◌, subst}
use lib.ListN.{length, drop}
use lib.Dec.{leb, ltb}
use borrow.Author.Tests.{lt-ltb, le-ltb, lt-leb}
use Rattle.meaning.specs.Columns.{object_width, component_width}
use Rattle.meaning.specs.Read.{Span}
use Rattle.meaning.specs.Model.{Component, Object, Model}
use Rattle.meaning.specs.Layouts.{Layout}
use Rattle.meaning.specs.Frame.{Reading}
use Rattle.meaning.specs.Rows.{component_row, rows_of, component_rows, rows, component_count}
use Rattle.meaning.specs.Every.{Every}
use Rattle.view.specs.All.{all_components}
use Rattle.view.proofs.Columns.{offset-is, length-is, component-past, components-at, rows_lie, components-past}
use Rattle.shown.specs.Accepted.{BlobLies}
use Rattle.covering.specs.Ranges.{count, times, covered, inside}
use Rattle.covering.specs.Order.{Begin, End}
use Rattle.covering.proofs.Counts.{count-split, count_same, count_none}
use Rattle.account.specs.Ranges.{ranges, Rows}
use Rattle.account.specs.Account as is
use Rattle.account.specs.Placed.{Placed}

-- a component's range, two numbers
unfoldable pub flat : List (Component Span) → List ℕ
flat [] = []
flat (c ∷ cs) = c.offset ∷ (c.offset + c.length) ∷ flat cs

flat_append : (cs ds : List (Component Span)) → flat (cs ++ ds) ≡ flat cs ++ flat ds
unfolding flat
flat_append [] ds = refl
flat_append (c ∷ cs) ds = ap (λ (l : List ℕ). c.offset ∷ (c.offset + c.length) ∷ l) (flat_append cs ds)

module _ (T : List ℕ) where
  of_one : (i : ℕ) (cs : List (Component Span)) (q n : ℕ) (Y : List ℕ) → drop q T ≡ rows_of i cs ++ Y
      → ranges T q (length cs + n) ≡ flat cs ++ ranges T (q + component_width * length cs) n
  unfolding rows_of flat ranges
  of_one i [] q n Y e = let z : q + component_width * 0 ≡ q = omega arith in rw (zero-add n, z) refl
  of_one i (c ∷ cs) q n Y e =
      let f = e ∙ append_assoc (component_row i c) (rows_of i cs) Y in
      let z : q + component_width + component_width * length cs ≡ q + component_width * suc (length cs) = omega arith in
      let h = of_one i cs (q + component_width) n Y (component-past T q i c (rows_of i cs ++ Y) f) in
      rw (suc-add (length cs) n, offset-is T q i c (rows_of i cs ++ Y) f, length-is T q i c (rows_of i cs ++ Y) f)
      (ap (λ (l : List ℕ). c.offset ∷ (c.offset + c.length) ∷ l) (h ∙ ap (λ (k : ℕ). flat cs ++ ranges T k n) z))

  of-all : (i : ℕ) (os : List (Object Span)) (q : ℕ) (Y : List ℕ) → drop q T ≡ component_rows i os ++ Y → ranges T q (component_count os) ≡ flat (all_components os)
  unfolding component_rows component_count all_components flat ranges
  of-all i [] q Y e = refl
  of-all i (o ∷ os) q Y e =
      let f = e ∙ append_assoc (rows_of i o.components) (component_rows (suc i) os) Y in
      of_one i o.components q (component_count os) (component_rows (suc i) os ++ Y) f
      ∙ ap (λ (l : List ℕ). flat o.components ++ l)
      (of-all (suc i) os (q + component_width * length o.components) Y (components-past T i o.components q (component_rows (suc i) os ++ Y) f))
      ∙ sym (flat_append o.components (all_components os))

pub ranges-are : (m : Model Span) (rest : List ℕ)
    → ranges (rows m ++ rest) (object_width * length m.objects) (component_count m.objects) ≡ flat (all_components m.objects)
ranges-are m rest = of-all (rows m ++ rest) 0 m.objects (object_width * length m.objects) rest (components-at m rest)

-- ---- where they lie

module _ (start : ℕ) where
  begin-flat : (cs : List (Component Span)) → Every (BlobLies start) cs → Begin 0 (start + 1) (flat cs)
  unfolding flat
  begin-flat [] h = tt
  begin-flat (c ∷ cs) h = let b = h.0.before-manifest in (omega arith, (omega (arith, b), begin-flat cs h.1))

  end-flat : (cs : List (Component Span)) → Every (BlobLies start) cs → End start (flat cs)
  unfolding flat
  end-flat [] h = tt
  end-flat (c ∷ cs) h = (h.0.before-manifest, end-flat cs h.1)

  pub rows-of : (m : Model Span) (rest : List ℕ) → Every (BlobLies start) (all_components m.objects) → start + 1 < 18446744073709551616
      → Rows (rows m ++ rest) (object_width * length m.objects) (component_count m.objects) start
  rows-of m rest h s = record {
    lie = rows_lie m rest;
    begin = subst (Begin 0 (start + 1)) (sym (ranges-are m rest)) (begin-flat (all_components m.objects) h);
    end = subst (End start) (sym (ranges-are m rest)) (end-flat (all_components m.objects) h);
    small = s;
  }

  -- ---- in how many components a position lies

  pub covered-is : (cs : List (Component Span)) (p : ℕ) → covered (flat cs) p ≡ is.in_any cs p
  unfolding covered times flat is.in_any
  covered-is [] p = refl
  covered-is (c ∷ cs) p = by (is.lies p c) (covered-is cs p)
    where
      by : (b : Bool) → ltb 0 (times p (flat cs)) ≡ is.in_any cs p → ltb 0 (cond b 1 0 + times p (flat cs)) ≡ b || is.in_any cs p
      by true h = lt-ltb 0 (1 + times p (flat cs)) (omega arith)
      by false h = ap (ltb 0) (let z : 0 + times p (flat cs) ≡ times p (flat cs) = omega arith in z) ∙ h

  -- none before 64, none from the manifest's start on
  before : (cs : List (Component Span)) → Every (BlobLies start) cs → (p : ℕ) → p < 64 → is.in_any cs p ≡ false
  unfolding is.in_any
  before [] h p l = refl
  before (c ∷ cs) h p l = let a = h.0.past-header in rw (lt-leb c.offset p (omega (arith, a, l)), before cs h.1 p l) refl

  after : (cs : List (Component Span)) → Every (BlobLies start) cs → (p : ℕ) → start ≤ p → is.in_any cs p ≡ false
  unfolding is.in_any
  after [] h p l = refl
  after (c ∷ cs) h p l = by (leb c.offset p) (let a = h.0.before-manifest in le-ltb p (c.offset + c.length) (omega (arith, a, l))) (after cs h.1 p l)
    where
      by : (b : Bool) → ltb p (c.offset + c.length) ≡ false → is.in_any cs p ≡ false → b && ltb p (c.offset + c.length) || is.in_any cs p ≡ false
      by true e f = rw (e, f) refl
      by false e f = f

-- one or the other
count-not : (f : ℕ → Bool) (n at : ℕ) → count f n at + count (λ p. not (f p)) n at ≡ n
unfolding count
count-not f zero at = refl
count-not f (suc n) at = by (f at) (count-not f n (suc at))
  where
    by : (b : Bool) → count f n (suc at) + count (λ p. not (f p)) n (suc at) ≡ n
        → cond b 1 0 + count f n (suc at) + (cond (not b) 1 0 + count (λ p. not (f p)) n (suc at)) ≡ suc n
    by true h = omega (arith, h)
    by false h = omega (arith, h)

module _ (L : Layout) (file : List ℕ) (r : Reading) (w : Placed L file r) where
  abbrev cs : List (Component Span)
  cs = all_components r.model.objects

  pub inside_is : inside (flat cs) r.start ≡ is.inside_bytes L file r
  unfolding inside is.inside_bytes
  inside_is =
      let s = w.size in
      let z : r.start + (length file - r.start) ≡ length file = omega (arith, s) in
      let e : count (is.in_any cs) (r.start + (length file - r.start)) 0 ≡ count (is.in_any cs) r.start 0 + count (is.in_any cs) (length file - r.start) (0 + r.start) =
      count-split (is.in_any cs) r.start (length file - r.start) 0 in
      let f : count (is.in_any cs) (length file - r.start) (0 + r.start) ≡ 0 =
      count_none (is.in_any cs) (length file - r.start) (0 + r.start) (λ p a b. after r.start cs w.blobs p (omega (arith, a))) in
      let g : count (covered (flat cs)) r.start 0 ≡ count (is.in_any cs) r.start 0 = count_same (covered (flat cs)) (is.in_any cs) r.start 0 (λ p a b. covered-is r.start cs p) in
      let h : count (is.in_any cs) (length file) 0 ≡ count (is.in_any cs) (r.start + (length file - r.start)) 0 = ap (λ (k : ℕ). count (is.in_any cs) k 0) (sym z) in
      omega (arith, e, f, g, h)

  -- positions from 8 to the manifest's start are in a component or in none
  pub both : is.inside_bytes L file r + is.between_bytes L file r ≡ r.start - 8
  unfolding inside is.inside_bytes is.between_bytes
  both =
      let s = w.size in
      let t = w.header in
      let a : count (is.in_any cs) (8 + (r.start - 8)) 0 ≡ count (is.in_any cs) 8 0 + count (is.in_any cs) (r.start - 8) (0 + 8) = count-split (is.in_any cs) 8 (r.start - 8) 0 in
      let b : count (is.in_any cs) 8 0 ≡ 0 = count_none (is.in_any cs) 8 0 (λ p x y. before r.start cs w.blobs p (omega (arith, y))) in
      let z : 8 + (r.start - 8) ≡ r.start = omega (arith, t) in
      let c : count (is.in_any cs) (8 + (r.start - 8)) 0 ≡ count (is.in_any cs) r.start 0 = ap (λ (k : ℕ). count (is.in_any cs) k 0) z in
      let d = inside_is in
      let g : count (covered (flat cs)) r.start 0 ≡ count (is.in_any cs) r.start 0 = count_same (covered (flat cs)) (is.in_any cs) r.start 0 (λ p x y. covered-is r.start cs p) in
      let n : count (is.in_any cs) (r.start - 8) 8 + count (λ p. not (is.in_any cs p)) (r.start - 8) 8 ≡ r.start - 8 = count-not (is.in_any cs) (r.start - 8) 8 in
      omega (arith, a, b, c, d, g, n)

  -- the four are the whole file
  pub adds-up : is.frame_bytes L file r + is.manifest_bytes L file r + is.inside_bytes L file r + is.between_bytes L file r ≡ length file
  unfolding is.frame_bytes is.manifest_bytes
  adds-up = let a = both in let s = w.size in let t = w.header in omega (arith, a, s, t)
