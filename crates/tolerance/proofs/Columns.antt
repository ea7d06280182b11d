-- Which columns may differ in rows that are alike, and that all others hold the same numbers.
use Prim.Native.Nat.{ℕ, zero, suc, ◌+◌}
use native.Mathlib.Omega.{arith}
use mathlib.Core.List.{List, [], ◌∷◌}
use mathlib.Core.Bool.{false}
use mathlib.Core.Path.{◌≡◌, refl, sym, subst, ◌∙◌}
use lib.ListN.{drop, get_or}
use lib.Seq.{get_or-drop}
use Rattle.meaning.specs.Columns.{object_width, component_width, name_column, format_column, attributes_column, attributes_length_column, type_column, digest_column, entry_column, entry_length_column}
use Rattle.meaning.specs.Tree.{Node}
use Rattle.meaning.specs.Text.{filter}
use Rattle.tolerance.specs.Alike.{Field, number, text_span, map_span, entry_span, object_fields, component_fields, may_differ, FieldsAlike}

-- n columns, the first of them k
abbrev pub columns_from : ℕ → ℕ → List ℕ
columns_from k zero = []
columns_from k (suc n) = k ∷ columns_from (suc k) n

-- an object's row: the places of its name and format, and the place and length of its attributes
pub object-columns : filter (may_differ object_fields) (columns_from 0 object_width) ≡ name_column ∷ format_column ∷ attributes_column ∷ attributes_length_column ∷ []
object-columns = refl

-- a component's row: the places of its name, type and digest, and the place and length of its entry
pub component-columns : filter (may_differ component_fields) (columns_from 0 component_width) ≡ name_column ∷ type_column ∷ digest_column ∷ entry_column ∷ entry_length_column ∷ []
component-columns = refl

-- what holds of a column further on
further : (l₁ l₂ : List ℕ) (n j m : ℕ) → n + j ≡ m → get_or (drop n l₁) j 0 ≡ get_or (drop n l₂) j 0 → get_or l₁ m 0 ≡ get_or l₂ m 0
further l₁ l₂ n j m e h = subst (λ (k : ℕ). get_or l₁ k 0 ≡ get_or l₂ k 0) e (sym (get_or-drop n l₁ j 0) ∙ h ∙ get_or-drop n l₂ j 0)

module _ (E : Node (Unit {0}) → Node (Unit {0}) → Type 0) (file₁ file₂ : List ℕ) where
  pub same-columns : (fs : List Field) (l₁ l₂ : List ℕ) (j : ℕ) → FieldsAlike file₁ file₂ E fs l₁ l₂ → may_differ fs j ≡ false → get_or l₁ j 0 ≡ get_or l₂ j 0
  same-columns [] l₁ l₂ j h e = cc
  same-columns (number ∷ fs) l₁ l₂ zero h e = h.0
  same-columns (number ∷ fs) l₁ l₂ (suc j) h e = further l₁ l₂ 1 j (suc j) (omega arith) (same-columns fs (drop 1 l₁) (drop 1 l₂) j h.1 e)
  same-columns (text_span ∷ fs) l₁ l₂ zero h e = cc
  same-columns (text_span ∷ fs) l₁ l₂ (suc zero) h e = h.0.size
  same-columns (text_span ∷ fs) l₁ l₂ (suc (suc j)) h e = further l₁ l₂ 2 j (suc (suc j)) (omega arith) (same-columns fs (drop 2 l₁) (drop 2 l₂) j h.1 e)
  same-columns (map_span ∷ fs) l₁ l₂ zero h e = cc
  same-columns (map_span ∷ fs) l₁ l₂ (suc zero) h e = cc
  same-columns (map_span ∷ fs) l₁ l₂ (suc (suc j)) h e = further l₁ l₂ 2 j (suc (suc j)) (omega arith) (same-columns fs (drop 2 l₁) (drop 2 l₂) j h.1 e)
  same-columns (entry_span ∷ fs) l₁ l₂ zero h e = cc
  same-columns (entry_span ∷ fs) l₁ l₂ (suc zero) h e = cc
  same-columns (entry_span ∷ fs) l₁ l₂ (suc (suc j)) h e = further l₁ l₂ 2 j (suc (suc j)) (omega arith) (same-columns fs (drop 2 l₁) (drop 2 l₂) j h.1 e)
