-- A listing's lines, one after the other.
use Prim.Native.Nat.{ℕ, zero, suc, ◌+◌, ◌-◌, ◌*◌, ◌≤◌, ◌<◌}
use native.Mathlib.Omega.{arith}
use mathlib.Core.List.{List, [], ◌∷◌, ◌++◌, append_assoc}
use mathlib.Core.Bool.{Bool}
use mathlib.Core.Path.{◌≡◌, refl, ap, ◌∙◌}
use lib.ListN.{length, take, drop, get_or}
use Rattle.meaning.specs.Columns.{object_width, component_width, format_column, format_length_column, dtype_column, offset_column, length_column}
use Rattle.meaning.specs.Text.{ascii}
use Rattle.meaning.specs.Types.{storage_of}
use Rattle.meaning.specs.Listing.{line, blanked, shown_text, decimal}
use Rattle.put.specs.Wrote.{capped, Wrote}
use Rattle.put.proofs.PiecesInTurn.{then, as_bytes, same_length, Rest, rest-less, rest-none}
use Rattle.panel.specs.Lines.{count_at, counted, text_at, blob_words, blob_line, blob_lines, object_line, object_lines}
use Rattle.panel.specs.Summary.{more}
use Rattle.panel.proofs.Sound.{counted_next}

module _ (file table : List ℕ) where
  -- the words up to the size, and what follows it
  together : (w n s o z l : List ℕ) → (w ++ ((32 ∷ n) ++ ((32 ∷ s) ++ ((32 ∷ o) ++ (32 ∷ z))))) ++ l ≡ w ++ (32 ∷ (n ++ (32 ∷ (s ++ (32 ∷ (o ++ (32 ∷ (z ++ l))))))))
  together w n s o z l =
      let a : ((32 ∷ o) ++ (32 ∷ z)) ++ l ≡ 32 ∷ (o ++ (32 ∷ (z ++ l))) = append_assoc (32 ∷ o) (32 ∷ z) l in
      let b : ((32 ∷ s) ++ ((32 ∷ o) ++ (32 ∷ z))) ++ l ≡ 32 ∷ (s ++ (32 ∷ (o ++ (32 ∷ (z ++ l))))) =
      append_assoc (32 ∷ s) ((32 ∷ o) ++ (32 ∷ z)) l ∙ ap (λ (k : List ℕ). 32 ∷ (s ++ k)) a in
      let c : ((32 ∷ n) ++ ((32 ∷ s) ++ ((32 ∷ o) ++ (32 ∷ z)))) ++ l ≡ 32 ∷ (n ++ (32 ∷ (s ++ (32 ∷ (o ++ (32 ∷ (z ++ l))))))) =
      append_assoc (32 ∷ n) ((32 ∷ s) ++ ((32 ∷ o) ++ (32 ∷ z))) l ∙ ap (λ (k : List ℕ). 32 ∷ (n ++ k)) b in
      append_assoc w ((32 ∷ n) ++ ((32 ∷ s) ++ ((32 ∷ o) ++ (32 ∷ z)))) l ∙ ap (λ (k : List ℕ). w ++ k) c

  blob-is : (more : ℕ → List (List ℕ)) (row : ℕ) (name : List ℕ) → name ≡ take (get_or table (row + 1) 0) (drop (get_or table row 0) file)
      → blob_words (shown_text name) (storage_of (get_or table (row + dtype_column) 0)).called (decimal (get_or table (row + offset_column) 0)) (decimal (get_or table (row + length_column) 0)) ++ blanked (more row)
      ≡ blob_line file table more row
  unfolding blob_line blob_words line blanked text_at
  blob-is more row name e =
      together (ascii "blob") (shown_text name) (storage_of (get_or table (row + dtype_column) 0)).called (decimal (get_or table (row + offset_column) 0)) (decimal (get_or table (row + length_column) 0)) (blanked (more row))
      ∙ ap (λ (s : List ℕ). line (ascii "blob") (shown_text s ∷ (storage_of (get_or table (row + dtype_column) 0)).called ∷ decimal (get_or table (row + offset_column) 0) ∷ decimal (get_or table (row + length_column) 0) ∷ more row))
      e

  object-is : (row : ℕ) (name format : List ℕ) → name ≡ take (get_or table (row + 1) 0) (drop (get_or table row 0) file)
      → format ≡ take (get_or table (row + format_length_column) 0) (drop (get_or table (row + format_column) 0) file)
      → line (ascii "object") (shown_text name ∷ shown_text format ∷ []) ≡ object_line file table row
  unfolding object_line text_at
  object-is row name format e f =
      ap (λ (s : List ℕ). line (ascii "object") (shown_text s ∷ shown_text format ∷ [])) e
      ∙ ap (λ (s : List ℕ). line (ascii "object") (shown_text (text_at file table row) ∷ shown_text s ∷ []))
      (f ∙ (let z : row + format_length_column ≡ row + format_column + 1 = omega arith in
      ap (λ (k : ℕ). take (get_or table k 0) (drop (get_or table (row + format_column) 0) file)) z))

  pub blob-written : (summary : Bool) (row : ℕ) {name : List ℕ} → name ≡ take (get_or table (row + 1) 0) (drop (get_or table row 0) file)
      → {at : ℕ} {xs ys zs : List ℕ} {q r : ℕ}
      → Wrote (blob_words (shown_text name) (storage_of (get_or table (row + dtype_column) 0)).called (decimal (get_or table (row + offset_column) 0)) (decimal (get_or table (row + length_column) 0))) at xs ys q
      → Wrote (blanked (more summary file table row)) q ys zs r → Wrote (blob_line file table (more summary file table) row) at xs zs r
  blob-written summary row {name} e w v = as_bytes (blob-is (more summary file table) row name e) (then w v)

  pub object-written : (row : ℕ) {name format : List ℕ} → name ≡ take (get_or table (row + 1) 0) (drop (get_or table row 0) file)
      → format ≡ take (get_or table (row + format_length_column) 0) (drop (get_or table (row + format_column) 0) file)
      → {at : ℕ} {xs ys : List ℕ} {r : ℕ} → Wrote (line (ascii "object") (shown_text name ∷ shown_text format ∷ [])) at xs ys r → Wrote (object_line file table row) at xs ys r
  object-written row {name} {format} e f w = as_bytes (object-is row name format e f) w

  module _ (more : ℕ → List (List ℕ)) where
    blobs-next : (n row : ℕ) → 0 < n → blob_lines file table more n row ≡ blob_line file table more row ++ blob_lines file table more (n - 1) (row + component_width)
    unfolding blob_lines
    blobs-next zero row h = absurd (omega (arith, h))
    blobs-next (suc m) row h = let e : m ≡ suc m - 1 = omega arith in ap (λ (k : ℕ). blob_line file table more row ++ blob_lines file table more k (row + component_width)) e

    blobs-none : (n row : ℕ) → n ≤ 0 → blob_lines file table more n row ≡ []
    unfolding blob_lines
    blobs-none zero row h = refl
    blobs-none (suc m) row h = absurd (omega (arith, h))

    objects-next : (n row from : ℕ) → 0 < n → object_lines file table more n row from
        ≡ object_line file table row ++ blob_lines file table more (count_at table row) from ++ object_lines file table more (n - 1) (row + object_width) (from + component_width * count_at table row)
    unfolding object_lines
    objects-next zero row from h = absurd (omega (arith, h))
    objects-next (suc m) row from h = let e : m ≡ suc m - 1 = omega arith in
        ap (λ (k : ℕ). object_line file table row ++ blob_lines file table more (count_at table row) from ++ object_lines file table more k (row + object_width) (from + component_width * count_at table row)) e

    objects-none : (n row from : ℕ) → n ≤ 0 → object_lines file table more n row from ≡ []
    unfolding object_lines
    objects-none zero row from h = refl
    objects-none (suc m) row from h = absurd (omega (arith, h))

-- ---- the loops, into `out` from the place `at`; `xs` is what `out` held

-- over the lines of n components, the first at `first`: from component i on
pub record Blobs (file table : List ℕ) (summary : Bool) (n first : ℕ) (xs : List ℕ) (at : ℕ) (out : List ℕ) (past i : ℕ) : Type 0 where
  pub rest : Rest (blob_lines file table (more summary file table) n first) at xs (blob_lines file table (more summary file table) (n - i) (first + component_width * i)) past out

module _ {file table : List ℕ} {summary : Bool} {n first : ℕ} {xs : List ℕ} {at : ℕ} {out : List ℕ} {past i : ℕ} (w : Blobs file table summary n first xs at out past i) where
  pub one-more-blob : i < n → {ys : List ℕ} {r : ℕ} → Wrote (blob_line file table (more summary file table) (first + component_width * i)) past out ys r
      → Blobs file table summary n first xs at ys r (i + 1)
  one-more-blob m b =
      let z : n - i - 1 ≡ n - (i + 1) = omega (arith, m) in
      let y : first + component_width * i + component_width ≡ first + component_width * (i + 1) = omega arith in
      record { rest = rest-less w.rest (rw (z, y) at (blobs-next file table (more summary file table) (n - i) (first + component_width * i) (omega (arith, m)))) b }

  module _ (end : n ≤ i) where
    pub all-blobs : {q : ℕ} → q ≡ capped past → Wrote (blob_lines file table (more summary file table) n first) at xs out q
    all-blobs e = rest-none _ w.rest (blobs-none file table (more summary file table) (n - i) (first + component_width * i) (omega (arith, end))) e

    pub blobs-length : length out ≡ length xs
    blobs-length = same_length (all-blobs refl)

-- over the lines of n objects and their components, which begin at `first`: from object i on, its components from `from` on
pub record Objects (file table : List ℕ) (summary : Bool) (n first : ℕ) (xs : List ℕ) (at : ℕ) (out : List ℕ) (past i from : ℕ) : Type 0 where
  pub blobs-lie : from + component_width * counted table (n - i) (object_width * i) ≤ length table
  pub rest : Rest (object_lines file table (more summary file table) n 0 first) at xs (object_lines file table (more summary file table) (n - i) (object_width * i) from) past out

module _ {file table : List ℕ} {summary : Bool} {n first : ℕ} {xs : List ℕ} {at : ℕ} {out : List ℕ} {past i from : ℕ}
    (w : Objects file table summary n first xs at out past i from) where
  module _ (m : i < n) where
    next-row : object_width * i + object_width ≡ object_width * (i + 1)
    next-row = omega arith

    one-less : n - i - 1 ≡ n - (i + 1)
    one-less = omega (arith, m)

    counts : counted table (n - i) (object_width * i) ≡ count_at table (object_width * i) + counted table (n - (i + 1)) (object_width * (i + 1))
    counts = rw (one-less, next-row) at (counted_next table (n - i) (object_width * i) (omega (arith, m)))

    pub its-blobs-lie : from + component_width * count_at table (object_width * i) ≤ length table
    its-blobs-lie = let l = w.blobs-lie in omega (arith, l, counts)

    pub one-more-object : {ys zs : List ℕ} {q r : ℕ} → Wrote (object_line file table (object_width * i)) past out ys q
        → Wrote (blob_lines file table (more summary file table) (count_at table (object_width * i)) from) q ys zs r
        → Objects file table summary n first xs at zs r (i + 1) (from + component_width * count_at table (object_width * i))
    one-more-object o b = record {
      blobs-lie = (let l = w.blobs-lie in omega (arith, l, counts));
      rest = rest-less w.rest (rw (one-less, next-row) at (objects-next file table (more summary file table) (n - i) (object_width * i) from (omega (arith, m)))) (then o b);
    }

  module _ (end : n ≤ i) where
    pub all-objects : {q : ℕ} → q ≡ capped past → Wrote (object_lines file table (more summary file table) n 0 first) at xs out q
    all-objects e = rest-none _ w.rest (objects-none file table (more summary file table) (n - i) (object_width * i) from (omega (arith, end))) e

    pub objects-length : length out ≡ length xs
    objects-length = same_length (all-objects refl)
