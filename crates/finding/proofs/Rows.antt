-- A component's row that was found lies in the table, and its finding is what its view shows.
use Prim.Native.Nat.{ℕ, ◌+◌, ◌*◌, ◌≤◌}
use native.Mathlib.Omega.{arith}
use mathlib.Core.Bool.{Bool, true, false, ◌&&◌}
use mathlib.Core.List.{List}
use mathlib.Core.Path.{◌≡◌, refl, sym, ap, ◌∙◌, subst}
use lib.ListN.{length, take, drop, get_or}
use lib.Dec.{leb, ltb}
use borrow.Author.Tests.{leb-true}
use Rattle.meaning.specs.Columns.{object_width, component_width, offset_column, length_column}
use Rattle.meaning.specs.View.{viewed}
use Rattle.meaning.proofs.Tests.{both_right}
use Rattle.view.specs.Extents as view
use Rattle.view.specs.declared.Extent.{Extent}
use Rattle.finding.specs.Finding.{finding, shown}
use Rattle.finding.specs.Table.{due, undue, at_row, told, found}
use Rattle.finding.specs.declared.Shown.{Shown}
use Rattle.finding.specs.declared.table.Found.{Found}

twenty-six : ◌≡◌ {A = ℕ} 26 0 → ⊥
twenty-six e = omega (arith, e)

-- ---- one that is due

module _ (file table : List ℕ) (row : ℕ) where
  pub not-due : {d : Bool} → d ≡ due table row → d ≡ false → undue ≡ at_row file table row
  unfolding at_row
  not-due is e = rw (sym is ∙ e) refl

  pub is-due : {d : Bool} {bytes : List ℕ} {r : Shown} → d ≡ due table row → d ≡ true
      → bytes ≡ take (get_or table (row + length_column) 0) (drop (get_or table (row + offset_column) 0) file) → r ≡ shown (finding bytes) → r ≡ at_row file table row
  unfolding at_row
  is-due is e b f = f ∙ ap (λ (s : List ℕ). shown (finding s)) b ∙ rw (sym is ∙ e) refl

-- ---- by the index

-- what a range's answer tells: no component there; or its row lies in the table, and its finding is that row's
record Told (file table : List ℕ) (objects components index : ℕ) (r : Extent) : Type 0 where
  none : (r.number ≡ 0 → ⊥) → ◌≡◌ {A = Found} (record { number = r.number; finding = 0; smallest = 0; largest = 0; nans = 0 }) (found file table objects components index)
  lies : r.number ≡ 0 → object_width * objects + component_width * index + component_width ≤ length table
  some : (f : Shown) → r.number ≡ 0 → f ≡ at_row file table (object_width * objects + component_width * index)
      → ◌≡◌ {A = Found} (record { number = 0; finding = f.finding; smallest = f.smallest; largest = f.largest; nans = f.nans }) (found file table objects components index)

module _ (file table : List ℕ) (objects components index : ℕ) where
  row : ℕ
  row = object_width * objects + component_width * index

  place : ℕ
  place = get_or table (row + offset_column) 0

  size : ℕ
  size = get_or table (row + length_column) 0

  by : (b d : Bool) → ltb index components && leb (row + component_width) (length table) ≡ b → leb (place + size) (length file) ≡ d
      → Told file table objects components index (view.told (viewed file table objects components index))
  unfolding viewed found told row place size
  by true true e f = record {
    none = λ h. absurd (h (rw (e, f) refl));
    lies = λ h. leb-true (row + component_width) (length table) (both_right (ltb index components) (leb (row + component_width) (length table)) e);
    some = λ g h i. rw (e, f, i) refl;
  }
  by true false e f = record { none = λ h. rw (e, f) refl; lies = λ h. absurd (twenty-six (rw (e, f) at h)); some = λ g h i. absurd (twenty-six (rw (e, f) at h)) }
  by false d e f = record { none = λ h. rw e refl; lies = λ h. absurd (twenty-six (rw e at h)); some = λ g h i. absurd (twenty-six (rw e at h)) }

  told_is : Told file table objects components index (view.told (viewed file table objects components index))
  told_is = by (ltb index components && leb (row + component_width) (length table)) (leb (place + size) (length file)) refl refl

-- r is a range's answer
module _ (file table : List ℕ) (objects components index : ℕ) {r : Extent} (e : r ≡ view.told (viewed file table objects components index)) where
  asked : Told file table objects components index r
  asked = subst (Told file table objects components index) (sym e) (told_is file table objects components index)

  pub row_lies : r.number ≡ 0 → object_width * objects + component_width * index + component_width ≤ length table
  row_lies h = asked.lies h

  pub none_found : (r.number ≡ 0 → ⊥) → ◌≡◌ {A = Found} (record { number = r.number; finding = 0; smallest = 0; largest = 0; nans = 0 }) (found file table objects components index)
  none_found h = asked.none h

  pub row-found : {f : Shown} → r.number ≡ 0 → f ≡ at_row file table (object_width * objects + component_width * index)
      → ◌≡◌ {A = Found} (record { number = 0; finding = f.finding; smallest = f.smallest; largest = f.largest; nans = f.nans }) (found file table objects components index)
  row-found {f} h i = asked.some f h i
