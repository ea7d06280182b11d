-- The row of an object: its sixteen numbers.
use Prim.Native.Nat.{ℕ, ◌+◌, ◌≤◌}
use mathlib.Core.List.{List, [], ◌∷◌, map}
use mathlib.Core.Option.{some}
use mathlib.Core.Path.{◌≡◌, ap, ap₂, sym, ◌∙◌, subst}
use lib.ListN.{length, get_or, set, length-map}
use lib.Seq.{sets}
use borrow.Author.Rules.{part_to_end}
use Rattle.meaning.specs.Tree.{map_p}
use Rattle.meaning.specs.Notes.{map_option, map_component}
use Rattle.meaning.specs.Rows.{object_row, dimensions, optional_span, attributes_span}
use Rattle.fields.proofs.Texts.{Here}
use Rattle.table.specs.declared.span.Span.{Span}
use Rattle.table.specs.Spans.{span_of, spanned, span_of_word, TextSpanIs, TextSpanAt, ItemIs}
use Rattle.table.specs.Object.{eight, sixteen, object_in, ObjectPut}
use Rattle.table.proofs.Runs as laying
use Rattle.table.proofs.ComponentRow as rows

-- ---------------------------------------------------------------- sixteen numbers

pub sixteen-put : (t t₁ t₂ t₃ t₄ : List ℕ) (i a₀ a₁ a₂ a₃ a₄ b₀ b₁ b₂ b₃ b₄ c₀ c₁ c₂ c₃ c₄ d : ℕ) → t₄ ≡ set t₃ (i + 15) d → t₃ ≡ sets t₂ (i + 10) (c₀ ∷ c₁ ∷ c₂ ∷ c₃ ∷ c₄ ∷ [])
    → t₂ ≡ sets t₁ (i + 5) (b₀ ∷ b₁ ∷ b₂ ∷ b₃ ∷ b₄ ∷ []) → t₁ ≡ sets t i (a₀ ∷ a₁ ∷ a₂ ∷ a₃ ∷ a₄ ∷ [])
    → t₄ ≡ sets t i (a₀ ∷ a₁ ∷ a₂ ∷ a₃ ∷ a₄ ∷ b₀ ∷ b₁ ∷ b₂ ∷ b₃ ∷ b₄ ∷ c₀ ∷ c₁ ∷ c₂ ∷ c₃ ∷ c₄ ∷ d ∷ [])
sixteen-put t t₁ t₂ t₃ t₄ i a₀ a₁ a₂ a₃ a₄ b₀ b₁ b₂ b₃ b₄ c₀ c₁ c₂ c₃ c₄ d w z y x =
    let two = rows.ten-put t t₁ t₂ i a₀ a₁ a₂ a₃ a₄ b₀ b₁ b₂ b₃ b₄ x y in
    let three = z ∙ ap (λ t. sets t (i + 10) (c₀ ∷ c₁ ∷ c₂ ∷ c₃ ∷ c₄ ∷ [])) two ∙ sym (laying.sets-append (a₀ ∷ a₁ ∷ a₂ ∷ a₃ ∷ a₄ ∷ b₀ ∷ b₁ ∷ b₂ ∷ b₃ ∷ b₄ ∷ []) (c₀ ∷ c₁ ∷ c₂ ∷ c₃ ∷ c₄ ∷ []) t i) in
    w ∙ ap (λ t. sets t (i + 15) (d ∷ [])) three
    ∙ sym (laying.sets-append (a₀ ∷ a₁ ∷ a₂ ∷ a₃ ∷ a₄ ∷ b₀ ∷ b₁ ∷ b₂ ∷ b₃ ∷ b₄ ∷ c₀ ∷ c₁ ∷ c₂ ∷ c₃ ∷ c₄ ∷ []) (d ∷ []) t i)

-- ---------------------------------------------------------------- the row

module _ (s m p : List ℕ) (rank : ℕ) (d : List ℕ) (count end i : ℕ) (before : List ℕ) where
  -- beyond the table's end nothing is put
  pub row-beyond : length before ≤ i → ObjectPut s m p rank d count end i before before
  row-beyond h l t q key o name des ranked dims counted = sym (laying.sets-out (object_in end o) before i h)

  pub row_put : (after : List ℕ) (x : Span) → TextSpanIs (Here s 0) end x → (y : Span) → TextSpanAt (Here m 0) (get_or p 2 0) end y → (z : Span) → ItemIs 29 (Here m 0) (get_or p 3 0) end z
      → after ≡ sets before i (sixteen (spanned x) rank (eight (Here d 0)) (spanned y) (spanned z) count) → ObjectPut s m p rank d count end i before after
  unfolding object_row optional_span
  row_put after x sx y sy z sz put l t q key o name des ranked dims counted =
      let a : spanned x ≡ span_of_word end o.name = subst (λ u. TextSpanIs u end x) (part_to_end s 0) sx l t q key o.name name in
      let b : spanned y ≡ span_of_word end o.format = subst (λ u. TextSpanAt u (get_or p 2 0) end y) (part_to_end m 0) sy (some o.format) des.format-at des.format-left in
      let c : spanned z ≡ attributes_span (map_option (map_p (span_of end)) o.attributes) = subst (λ u. ItemIs 29 u (get_or p 3 0) end z) (part_to_end m 0) sz o.attributes des.attributes-held in
      let f : eight (Here d 0) ≡ dimensions o.shape = ap eight (part_to_end d 0) ∙ dims in
      let g : count ≡ length (map (map_component (span_of end)) o.components) = counted ∙ sym (length-map o.components (map_component (span_of end))) in
      let same : sixteen (spanned x) rank (eight (Here d 0)) (spanned y) (spanned z) count ≡ object_in end o =
      ap (λ u. sixteen u rank (eight (Here d 0)) (spanned y) (spanned z) count) a
      ∙ ap₂ (λ r u. sixteen (span_of_word end o.name) r u (spanned y) (spanned z) count) ranked f
      ∙ ap (λ u. sixteen (span_of_word end o.name) (length o.shape) (dimensions o.shape) u (spanned z) count) b
      ∙ ap₂ (λ u n. sixteen (span_of_word end o.name) (length o.shape) (dimensions o.shape) (span_of_word end o.format) u n) c g in
      put ∙ ap (sets before i) same
