-- The frame's checks, one after the other, in any layout.
use Prim.Native.Nat.{ℕ, ◌+◌, ◌-◌, ◌≤◌, ◌<◌}
use native.Mathlib.Omega.{arith}
use mathlib.Core.List.{List, []}
use mathlib.Core.Bool.{Bool, true, false, not, ◌&&◌}
use mathlib.Core.Path.{◌≡◌, refl, sym, ap, ◌∙◌}
use lib.ListN.{length, take, drop, drop_of_length-le}
use borrow.Author.Tests.{le-leb, lt-leb, not-true, not-false}
use borrow.Author.Rules.{part_to_end}
use Rattle.meaning.specs.Check.{pass, fault, ◌>>=◌, ◌>>◌}
use Rattle.meaning.specs.Text.{same}
use Rattle.meaning.specs.Refusal.{SHORT, HEADER, FOOTER, BIG, FIT}
use Rattle.meaning.specs.Limit.{manifest_limit}
use Rattle.meaning.specs.Layouts.{Layout, magic, current, old, layout_of}
use Rattle.meaning.specs.Frame.{frame, little}
use Rattle.meaning.proofs.WhichLayout.{is-old, is-current, by_layout}

-- ---------------------------------------------------------------- what the layouts' numbers are

-- how far before the end the size begins, and the least length
abbrev pub Back : ℕ → ℕ → Type 0
Back layout r = (r ≡ (layout_of layout).size_back) × (r + 8 ≡ (layout_of layout).least) × (r ≤ 16) × (8 ≤ r)

pub old-back : (layout : ℕ) → layout ≡ 1 → Back layout 8
unfolding old
old-back layout e = (ap (λ L. L.size_back) (sym (is-old layout e)), ap (λ L. L.least) (sym (is-old layout e)), omega arith, omega arith)

pub current-back : (layout : ℕ) → (layout ≡ 1 → ⊥) → Back layout 16
unfolding current
current-back layout e = (ap (λ L. L.size_back) (sym (is-current layout e)), ap (λ L. L.least) (sym (is-current layout e)), omega arith, omega arith)

-- in both, eight bytes of header stand before what follows the blobs
pub size_back_lem : (layout : ℕ) → (layout_of layout).size_back + 8 ≡ (layout_of layout).least
unfolding old current
size_back_lem layout = by_layout (λ n L. L.size_back + 8 ≡ L.least) layout (λ e. refl) (λ e. refl)

-- ---------------------------------------------------------------- the footer

-- a file that ends with the layout's footer
abbrev Footed : Layout → List ℕ → Bool
Footed L file = same L.footer (drop (length file - length L.footer) file)

pub old-footed : (layout : ℕ) → layout ≡ 1 → (file : List ℕ) → true ≡ same (layout_of layout).footer (drop (length file - length (layout_of layout).footer) file)
unfolding old
old-footed layout e file = ap (same []) (sym (drop_of_length-le file {i = length file - 0} (omega arith))) ∙ ap (λ L. Footed L file) (sym (is-old layout e))

pub current-footed : (layout : ℕ) (file : List ℕ) (r : Bool) → (layout ≡ 1 → ⊥) → r ≡ same magic (take (length file - (length file - 8)) (drop (length file - 8) file)) → r ≡ Footed (layout_of layout) file
unfolding current magic
current-footed layout file r e is = is ∙ ap (same magic) (part_to_end file (length file - 8)) ∙ ap (λ L. Footed L file) (sym (is-current layout e))

-- ---------------------------------------------------------------- the checks

-- the size begins b bytes before the end
module _ (L : Layout) (b : ℕ) (back : b ≡ L.size_back) (least : b + 8 ≡ L.least) (file : List ℕ) where
  pub too_short : length file < b + 8 → frame L file ≡ fault SHORT
  unfolding frame
  too_short l = rw (← least, lt-leb (b + 8) (length file) l) refl

  -- m: the magic begins the file
  module _ (long : b + 8 ≤ length file) (m : Bool) (begins : m ≡ same magic (take 8 file)) where
    pub no_header : not m ≡ true → frame L file ≡ fault HEADER
    unfolding frame
    no_header h = rw (← least, le-leb (b + 8) (length file) long, ← begins, not-true m h) refl

    -- f: the file, lent whole, ends with the footer
    module _ (header : not m ≡ false) (f : Bool) (ends : f ≡ Footed L (take (length file - 0) (drop 0 file))) where
      footed : f ≡ Footed L file
      footed = ends ∙ ap (Footed L) (part_to_end file 0)

      pub no-footer : not f ≡ true → frame L file ≡ fault FOOTER
      unfolding frame
      no-footer h = rw (← least, le-leb (b + 8) (length file) long, ← begins, not-false m header, ← footed, not-true f h) refl

      module _ (footer : not f ≡ false) (size : ℕ) (said : size ≡ little (take (length file - b + 8 - (length file - b)) (drop (length file - b) file))) where
        is : size ≡ little (take 8 (drop (length file - b) file))
        is = let eight : length file - b + 8 - (length file - b) ≡ 8 = omega arith in said ∙ ap (λ k. little (take k (drop (length file - b) file))) eight

        pub too-big : manifest_limit < size → frame L file ≡ fault BIG
        unfolding frame
        too-big big = rw (← least, le-leb (b + 8) (length file) long, ← begins, not-false m header, ← footed, not-false f footer, ← back, ← is, lt-leb size manifest_limit big) refl

        module _ (small : size ≤ manifest_limit) where
          pub no_size : size ≡ 0 → frame L file ≡ fault FIT
          unfolding frame
          no_size z = rw (← least, le-leb (b + 8) (length file) long, ← begins, not-false m header, ← footed, not-false f footer, ← back, ← is, le-leb size manifest_limit small, z) refl

          module _ (some : size ≡ 0 → ⊥) where
            one : 1 ≤ size
            one = omega arith

            pub no-fit : length file - b - 8 < size → frame L file ≡ fault FIT
            unfolding frame
            no-fit l =
                rw (← least, le-leb (b + 8) (length file) long, ← begins, not-false m header, ← footed, not-false f footer, ← back, ← is, le-leb size manifest_limit small, le-leb 1 size one, lt-leb size (length file - (b + 8)) (omega arith)) refl

            pub framed : size ≤ length file - b - 8 → frame L file ≡ pass (record { start = length file - b - size; size = size })
            unfolding frame
            framed l =
                rw (← least, le-leb (b + 8) (length file) long, ← begins, not-false m header, ← footed, not-false f footer, ← back, ← is, le-leb size manifest_limit small, le-leb 1 size one, le-leb size (length file - (b + 8)) (omega arith)) refl
