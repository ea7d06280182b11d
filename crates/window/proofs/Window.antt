-- One object's rows in the window ask for what the object says, and so the writer's sums over them are the object's.
use Prim.Native.Nat.{ℕ, suc, ◌+◌, ◌≤◌, ◌<◌}
use native.Mathlib.Omega.{arith}
use mathlib.Core.List.{List, [], ◌∷◌, ◌++◌, map, append-nil, append_assoc}
use mathlib.Core.Option.{none}
use mathlib.Core.Path.{◌≡◌, refl, sym, ap, ◌∙◌}
use lib.ListN.{length, drop, get_or}
use borrow.Author.Rules.{part_to_end}
use mir.Syntax.{w64}
use mir.Val.{Fits}
use Rattle.meaning.specs.Columns.{object_width, component_width, rank_column, count_column}
use Rattle.meaning.specs.Limit.{manifest_limit, end_limit}
use Rattle.meaning.specs.Read.{Span}
use Rattle.meaning.specs.Model.{Component, Object, Model}
use Rattle.meaning.specs.Rows.{word_span, attributes_span, object_rows, component_rows, rows, component_count}
use Rattle.meaning.specs.Asked.{AskedObject, AskedComponent, Asked, asked_object, asked_component, each_row, asked}
use Rattle.readback.specs.Spelled.{asked_of, asked_of_object, asked_of_all, asked_of_model}
use Rattle.readback.proofs.RowsOfModel.{rows-asked}
use Rattle.rows.specs.Turns.{turn_limit, reached, blob_sizes}
use Rattle.rows.proofs.Turns.{reached-above}
use Rattle.walk.proofs.Passed.{Here}
use Rattle.sizes.specs.Size.{capped, capped_end, head_size, components_size, object_size}
use Rattle.sizes.proofs.Heads.{head_small}
use Rattle.window.specs.Sums.{blobs_in, entry_size}
use Rattle.window.specs.Summed.{InWindow, Holds, Added}

abbrev first_of : List AskedObject → AskedObject
first_of [] = asked_object []
first_of (o ∷ os) = o

sizes-are : (cs : List (Component Span)) → blob_sizes (map (asked_of 0) cs) ≡ map (λ c. c.length) cs
unfolding asked_of
sizes-are [] = refl
sizes-are (c ∷ cs) = ap (λ (r : List ℕ). c.length ∷ r) (sizes-are cs)

module _ {t : List ℕ} {o : Object Span} (h : Holds t o) (w : InWindow o) where
  -- a model of this object alone
  abbrev alone : Model Span
  alone = record { attributes = none; objects = o ∷ [] }

  abbrev cs : List (Component Span)
  cs = o.components

  as_rows : t ≡ rows alone ++ h.rest
  unfolding rows object_rows component_rows
  as_rows = h.is ∙ sym (simp (append-nil, append_assoc))

  asks : asked t 1 (length cs) (attributes_span none) ≡ asked_of_model alone
  unfolding component_count
  asks =
      let z : length cs ≡ length cs + 0 = omega arith in
      ap (λ (k : ℕ). asked t 1 k (attributes_span none)) z ∙ ap (λ (r : List ℕ). asked r 1 (length cs + 0) (attributes_span none)) as_rows ∙ rows-asked alone h.rest (w.rank, tt)

  pub object-is : asked_object t ≡ asked_of_object o
  unfolding asked asked_of_model each_row
  object-is = ap (λ (a : Asked). first_of a.objects) asks

  pub parts_are : each_row asked_component component_width (length cs) (drop object_width t) ≡ map (asked_of 0) cs
  unfolding asked asked_of_model asked_of_all
  parts_are = ap (λ (a : Asked). a.components) asks ∙ append-nil (map (asked_of 0) cs)

  pub count-is : get_or t count_column 0 ≡ length cs
  unfolding asked_object asked_of_object
  count-is = ap (λ (a : AskedObject). a.count) object-is

  rank_is : get_or t rank_column 0 ≡ length o.shape
  unfolding asked_object asked_of_object
  rank_is = ap (λ (a : AskedObject). a.rank) object-is

  pub name-is : get_or t 0 0 ∷ get_or t 1 0 ∷ [] ≡ (word_span o.name).place ∷ (word_span o.name).size ∷ []
  unfolding asked_object asked_of_object
  name-is = ap (λ (a : AskedObject). a.name.place ∷ a.name.size ∷ []) object-is

  held-parts : each_row asked_component component_width (get_or t count_column 0) (Here t object_width) ≡ map (asked_of 0) cs
  held-parts =
      ap (λ (k : ℕ). each_row asked_component component_width k (Here t object_width)) count-is
      ∙ ap (each_row asked_component component_width (length cs)) (part_to_end t object_width) ∙ parts_are

  held-blobs : blob_sizes (each_row asked_component component_width (get_or t count_column 0) (Here t object_width)) ≡ blobs_in o
  held-blobs = ap blob_sizes held-parts ∙ sizes-are cs

-- a place and a number of bytes that a sum may hold
abbrev pub Small : ℕ → ℕ → Type 0
Small p n = (p ≤ suc end_limit) × (n ≤ suc manifest_limit)

abbrev parts_in : List ℕ → List AskedComponent
parts_in t = each_row asked_component component_width (get_or t count_column 0) (Here t object_width)

module _ (t : List ℕ) (p n : ℕ) where
  pub too_many : 16 < get_or t count_column 0 → Added t p n p n
  too_many l o h w = let a = w.count in absurd (omega (arith, l, a, count-is h w))

  pub too-ranked : 8 < get_or t rank_column 0 → Added t p n p n
  too-ranked l o h w = let a = w.rank in absurd (omega (arith, l, a, rank_is h w))

  pub past-already : end_limit < p → p ≤ suc end_limit → Added t p n p n
  past-already l m o h w = record { ends = omega (arith, l, m, reached-above [] p (blobs_in o)); adds = λ g. absurd (omega (arith, l, g)) }

  module _ (q : ℕ) (ended : q ≡ capped_end (reached [] p (blob_sizes (parts_in t)))) where
    pub passes-limit : end_limit < q → Added t p n q n
    passes-limit l o h w = record { ends = ended ∙ ap (λ (ls : List ℕ). capped_end (reached [] p ls)) (held-blobs h w); adds = λ g. absurd (omega (arith, l, g)) }

    pub added : (own head sizes k : ℕ) → own ≡ capped (object_size (asked_object (Here t 0))) → head ≡ head_size (get_or t count_column 0) → sizes ≡ capped (components_size [] p (parts_in t))
        → k ≡ capped (n + (own + head) + sizes) → Added t p n q k
    unfolding entry_size
    added own head sizes k e f g r o h w = record {
      ends = ended ∙ ap (λ (ls : List ℕ). capped_end (reached [] p ls)) (held-blobs h w);
      adds = λ l.
          omega (
            arith,
            e,
            f,
            g,
            r,
            ap (λ (a : AskedObject). object_size a) (ap asked_object (part_to_end t 0) ∙ object-is h w),
            ap head_size (count-is h w),
            ap (components_size [] p) (held-parts h w),
          );
    }

-- what the call asks
pub parts-there : (t : List ℕ) (p q : ℕ) → q ≡ capped_end (reached [] p (blob_sizes (parts_in t))) → q ≤ end_limit → reached [] p (blob_sizes (parts_in t)) ≤ turn_limit []
unfolding turn_limit
parts-there t p q e low = omega (arith, e, low)

-- the sums are numbers of 64 bits
module _ (a b own head : ℕ) (own_is : own ≡ capped a) (head-is : head ≡ head_size b) where
  pub own-fits : Fits w64 (own + head)
  own-fits = record { fits = omega (arith, own_is, head-is, head_small b) }

  module _ (n : ℕ) (few : n ≤ suc manifest_limit) where
    pub total-fits : Fits w64 (n + (own + head))
    total-fits = record { fits = omega (arith, own_is, head-is, few, head_small b) }

    pub all-fits : (d sizes : ℕ) → sizes ≡ capped d → Fits w64 (n + (own + head) + sizes)
    all-fits d sizes e = record { fits = omega (arith, own_is, head-is, few, e, head_small b) }
